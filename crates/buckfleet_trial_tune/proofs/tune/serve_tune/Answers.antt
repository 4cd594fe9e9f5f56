use Rattle.std.proofs.Common.{map, ap}
use Rattle.std.specs.Option.{option_map}
use Rattle.buckfleet_trial.specs.Inputs.{held_with}
use Rattle.buckfleet_trial_tune.specs.Tune.{AnswersTune}
use Rattle.buckfleet_trial.proofs.Ended.{not_served, served}
use Rattle.buckfleet_trial_tune.proofs.tune.serve_tune.Goals as goal

pub returns-in_err-files : goal.returns-in_err-files
returns-in_err-files g c =
    let task = c.args.task.now in
    let held = g.O.File.Read.remaining in
    not_served g.O.Open.opens
    (λ files. AnswersTune task.rule task.settings (held files.apt) (map held files.stms.items)
    (held_with held files.targets)) c.args.opener.now c.open_files.new.opener task.apt.now
    (map (λ s. s.now) c.as_slice-stms.result.now) (map (λ s. s.now) task.stms.items)
    (option_map (λ s. s.now) task.targets) (g.W.Write.contents c.args.out.now) _ c.from_residual.result
    c.from_residual.ensures.1 (ap (λ l. map (λ s. s.now) l) c.as_slice-stms.ensures.value) c.in_err-files.ensures

pub returns : goal.returns
returns g c =
    let task = c.args.task.now in
    let held = g.O.File.Read.remaining in
    served g.O.Open.opens
    (λ files. AnswersTune task.rule task.settings (held files.apt) (map held files.stms.items)
    (held_with held files.targets)) c.args.opener.now c.open_files.new.opener task.apt.now
    (map (λ s. s.now) c.as_slice-stms.result.now) (map (λ s. s.now) task.stms.items)
    (option_map (λ s. s.now) task.targets) (g.W.Write.contents c.args.out.now) _ c.in_ok-files.files
    c.run_tune.result (ap (λ l. map (λ s. s.now) l) c.as_slice-stms.ensures.value) c.in_ok-files.ensures
    c.run_tune.ensures

use Rattle.std.proofs.Common.{map, ap}
use Rattle.std.specs.Option.{option_map}
use Rattle.buckfleet_trial_owned.proofs.Opening.{own_stops, owned_opened, trial_stops}
use Rattle.buckfleet_trial_owned.proofs.owned.open_owned.Goals as goal

pub returns-in_err-files : goal.returns-in_err-files
returns-in_err-files g c =
    trial_stops g.O.Open.opens c.args.opener.now c.open_files.new.opener c.args.task.now.apt.now
    (map (λ s. s.now) c.as_slice-stms.result.now) (map (λ s. s.now) c.args.task.now.stms.items)
    (option_map (λ s. s.now) c.args.task.now.targets) c.args.own.now _ c.from_residual.result
    c.from_residual.ensures.1 (ap (λ l. map (λ s. s.now) l) c.as_slice-stms.ensures.value) c.in_err-files.ensures

pub returns-in_err-last : goal.returns-in_err-last
returns-in_err-last g c =
    own_stops g.O.Open.opens c.args.opener.now c.open_files.new.opener c.open_last.new.opener
    c.args.task.now.apt.now (map (λ s. s.now) c.as_slice-stms.result.now)
    (map (λ s. s.now) c.args.task.now.stms.items) (option_map (λ s. s.now) c.args.task.now.targets) c.args.own.now
    c.files_before.result c.in_ok-files.files _ c.from_residual-in_err-last.result
    c.from_residual-in_err-last.ensures.1 (ap (λ l. map (λ s. s.now) l) c.as_slice-stms.ensures.value)
    c.files_before.ensures c.in_ok-files.ensures c.in_err-last.ensures

pub returns : goal.returns
returns g c =
    owned_opened g.O.Open.opens c.args.opener.now c.open_files.new.opener c.open_last.new.opener
    c.args.task.now.apt.now (map (λ s. s.now) c.as_slice-stms.result.now)
    (map (λ s. s.now) c.args.task.now.stms.items) (option_map (λ s. s.now) c.args.task.now.targets) c.args.own.now
    c.files_before.result c.in_ok-files.files c.in_ok-last.last
    (ap (λ l. map (λ s. s.now) l) c.as_slice-stms.ensures.value) c.files_before.ensures c.in_ok-files.ensures
    c.in_ok-last.ensures

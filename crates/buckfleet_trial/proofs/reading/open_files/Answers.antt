use Rattle.std.proofs.Common.{◌+◌, length, map, ap, sym}
use Rattle.std.specs.Option.{option_map}
use Rattle.std.proofs.lemmas.List.{length-map}
use Rattle.buckfleet_trial.proofs.ReadLemmas.{not_opened}
use Rattle.buckfleet_trial.proofs.reading.open_files.Goals as goal

pub returns-in_err-targets : goal.returns-in_err-targets
returns-in_err-targets g c =
    not_opened g.O.Open.opens c.args.opener.now c.open_inputs.new.opener c.open_more.new.opener c.args.apt.now
    (map (λ s. s.now) c.args.stms.now) (option_map (λ s. s.now) c.args.targets) (length c.args.stms.now + 1)
    (c.in_ok-apt.apt, c.in_ok-apt.stms_opened.items) _ c.from_residual-in_err-targets.result
    c.from_residual-in_err-targets.ensures.1
    (ap (λ n. n + 1) (sym (length-map c.args.stms.now (λ s. s.now)))) c.in_ok-apt.ensures c.in_err-targets.ensures

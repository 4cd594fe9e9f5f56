use Rattle.std.proofs.Common.{◌≡◌, Err, Some, rules}
use Rattle.buckfleet_terms_files.specs.declared.fault.TermsFault.TheVariants.{Targets}
use Rattle.wrong_trial.proofs.Tables.{targets_not_told}
use Rattle.wrong_trial.proofs.trials.targets_told_before_a_stem_file.Goals as goal

pub prove-unreachable-requires : goal.prove-unreachable-requires
prove-unreachable-requires g c =
    let files = c.in-Some.ensures in
    let run = rw (files.apt, files.stms, files.targets) at c.run_trial_in_parts-outcome.ensures in
    let same : c.run_trial_in_parts-outcome.result ≡ Err (Targets c.in-Err-Targets._why) = search rules in
    targets_not_told _ _ _ _ _ (Some c.args.out.now.items) (Some c.run_trial_in_parts-outcome.new.out.items) _
    c.in-Err-Targets._why run same c.requires.refused

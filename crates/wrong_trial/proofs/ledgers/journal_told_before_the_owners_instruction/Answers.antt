use Rattle.std.proofs.Common.{◌≡◌, Some, Err, rules}
use Rattle.buckfleet_engine_files.specs.declared.fault.EngineFault.TheVariants.{Replay}
use Rattle.buckfleet_terms_files.specs.declared.fault.TermsFault.TheVariants.{Run}
use Rattle.wrong_trial.proofs.Journals.{owner_first}
use Rattle.wrong_trial.proofs.ledgers.journal_told_before_the_owners_instruction.Goals as goal

pub prove-unreachable-requires : goal.prove-unreachable-requires
prove-unreachable-requires g c =
    let files = c.in-Some.ensures in
    let run = rw files.own at c.run_appraise-outcome.ensures in
    let same : c.run_appraise-outcome.result ≡ Err (Run (Replay c.in-Err-Run-Replay._why)) = search rules in
    owner_first c.args.task.now.settings (Some c.in-Some.files.apt.now) _ c.args.own.now c.in-Some.files.own.1
    (Some c.args.out.now.items) (Some c.run_appraise-outcome.new.out.items) c.run_appraise-outcome.result
    c.in-Err-Run-Replay._why run same c.requires.refused

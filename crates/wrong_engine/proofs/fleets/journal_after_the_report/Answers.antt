-- If something of the report is written, the whole journal is.
use Rattle.std.proofs.Common.{rules, ◌≡◌, length}
use mathlib.Core.Logic.{inl, inr}
use Rattle.buckfleet_engine_files.specs.declared.fault.EngineFault.TheVariants.{Write}
use Rattle.wrong_engine.proofs.Unlike.{journal_written}
use Rattle.wrong_engine.proofs.fleets.journal_after_the_report.Goals as goal

pub prove-unreachable-requires : goal.prove-unreachable-requires
prove-unreachable-requires g c =
    let ran = rw c.in-Ok.is at c.run_fleet_files-outcome.ensures.run in
    let none : length c.run_fleet_files-outcome.new.journal.0.items ≡ 0 =
    search (rules, c.is_empty-is_unwritten.ensures, c.if-prove.true) in
    journal_written _ _ _ _ ran.run.2.journal_whole none

pub prove-unreachable-requires-in-Err-Write : goal.prove-unreachable-requires-in-Err-Write
prove-unreachable-requires-in-Err-Write g c =
    let is_write : c.in-Err-Write.field-0 ≡ Write = search rules in
    let none : length c.run_fleet_files-outcome.new.journal.0.items ≡ 0 =
    search (rules, c.is_empty-is_unwritten.ensures, c.if-prove-2.true) in
    let ran = rw (c.in-Err-Write.is, is_write) at c.run_fleet_files-outcome.ensures.run in
    elim ran.run.2.stopped [
      | inl kept ↦ search rules
      | inr whole ↦ journal_written _ _ _ _ whole.0 none
    ]

-- The statuses of faults.
use Rattle.std.proofs.Common.{◌≡◌, ◌<◌, ℕ, List, [], ◌∷◌, arith}
use Rattle.buck_apt.specs.Faults.{apt_numbers}
use Rattle.buck_stem.specs.Faults.{stm_numbers}
use Rattle.buck_book_journal.specs.Faults.{journal_numbers, replay_numbers}
use Rattle.buck_fleet_close_fault.specs.Faults.{close_numbers}
use Rattle.buckfleet_engine_files.specs.declared.fault.EngineFault.{EngineFault}
use Rattle.buckfleet_engine_files.specs.declared.fault.EngineFault.TheVariants.{Read, Write, Apt, Stm, Journal, JournalOf, Replay, ReplayOf, Check, Seats, Full, Memory, Close}
use Rattle.buckfleet_engine_files.specs.Faults.{status_of, status_or}

-- a fault never has the status of a run that went well
status_or_some : (refused : ℕ) (numbers : List ℕ) → 0 < refused → status_or refused numbers ≡ 0 → ⊥
status_or_some refused [] lt e = omega (arith, e)
status_or_some refused (n ∷ ns) lt e = omega (arith, lt, e)

pub never_0 : (fault : EngineFault) → status_of fault ≡ 0 → ⊥
never_0 (Read file) e = omega (arith, e)
never_0 Write e = omega (arith, e)
never_0 (Apt fault) e = status_or_some 1 (apt_numbers fault) (omega arith) e
never_0 (Stm file fault) e = status_or_some 1 (stm_numbers fault) (omega arith) e
never_0 (Journal fault) e = status_or_some 1 (journal_numbers fault) (omega arith) e
never_0 (JournalOf journal fault) e = status_or_some 1 (journal_numbers fault) (omega arith) e
never_0 (Replay fault) e = status_or_some 4 (replay_numbers fault) (omega arith) e
never_0 (ReplayOf journal fault) e = status_or_some 4 (replay_numbers fault) (omega arith) e
never_0 (Check fault) e = omega (arith, e)
never_0 Seats e = omega (arith, e)
never_0 Full e = omega (arith, e)
never_0 Memory e = omega (arith, e)
never_0 (Close fault) e = status_or_some 4 (close_numbers fault) (omega arith) e

-- What the program says of a fault: its line on standard error and the exit status.
use Rattle.std.specs.Prelude.{ℕ, List, [], ◌∷◌, ◌++◌, codes}
use Rattle.buck_record.specs.writing.Written.{spelled}
use Rattle.buck_record.specs.writing.Line.{line_of}
use Rattle.buck_apt.specs.Faults.{apt_numbers}
use Rattle.buck_stem.specs.Faults.{stm_numbers}
use Rattle.buck_book_journal.specs.Faults.{journal_numbers, replay_numbers}
use Rattle.buck_fleet_close_fault.specs.Faults.{close_numbers}
use Rattle.buckfleet_engine_files.specs.Told.{check_numbers}
use Rattle.buckfleet_engine_files.specs.declared.fault.EngineFault.{EngineFault}
use Rattle.buckfleet_engine_files.specs.declared.fault.EngineFault.TheVariants.{Read, Write, Apt, Stm, Journal, JournalOf, Replay, ReplayOf, Check, Seats, Full, Memory, Close}

abbrev pub memory_line : List ℕ
memory_line = codes "memory\n"

-- the line of a fault of a kind, from its number and fields: the number of the file, if there are several, stands
-- before them; memory that ran out has no number
abbrev pub numbered_line : List ℕ → List ℕ → List ℕ → List ℕ
numbered_line kind file [] = memory_line
numbered_line kind file (number ∷ fields) = kind ++ (spelled file ++ line_of (codes " fault") (number ∷ fields))

-- the line of a fault
abbrev pub fault_line : EngineFault → List ℕ
fault_line (Read file) = line_of (codes "read fault") (file ∷ [])
fault_line Write = codes "write fault\n"
fault_line (Apt fault) = numbered_line (codes "apt") [] (apt_numbers fault)
fault_line (Stm file fault) = numbered_line (codes "stm") (file ∷ []) (stm_numbers fault)
fault_line (Journal fault) = numbered_line (codes "journal") [] (journal_numbers fault)
fault_line (JournalOf journal fault) = numbered_line (codes "journal") (journal ∷ []) (journal_numbers fault)
fault_line (Replay fault) = numbered_line (codes "replay") [] (replay_numbers fault)
fault_line (ReplayOf journal fault) = numbered_line (codes "replay") (journal ∷ []) (replay_numbers fault)
fault_line (Check fault) = line_of (codes "check fault") (check_numbers fault)
fault_line Seats = codes "seats\n"
fault_line Full = codes "full\n"
fault_line Memory = memory_line
fault_line (Close fault) = numbered_line (codes "close") [] (close_numbers fault)

-- the exit status of a fault with a number, and 3 if memory ran out in its place
abbrev pub status_or : ℕ → List ℕ → ℕ
status_or refused [] = 3
status_or refused (number ∷ fields) = refused

-- the exit status after a fault: 1 after a refused file, 4 after a journal that isn't lawful or isn't tied
abbrev pub status_of : EngineFault → ℕ
status_of (Read file) = 5
status_of Write = 5
status_of (Apt fault) = status_or 1 (apt_numbers fault)
status_of (Stm file fault) = status_or 1 (stm_numbers fault)
status_of (Journal fault) = status_or 1 (journal_numbers fault)
status_of (JournalOf journal fault) = status_or 1 (journal_numbers fault)
status_of (Replay fault) = status_or 4 (replay_numbers fault)
status_of (ReplayOf journal fault) = status_or 4 (replay_numbers fault)
status_of (Check fault) = 4
status_of Seats = 2
status_of Full = 3
status_of Memory = 3
status_of (Close fault) = status_or 4 (close_numbers fault)

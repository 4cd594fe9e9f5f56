-- The line of a lawful journal, and the first fault of an instruction file with a journal.
use Rattle.std.specs.Prelude.{◌≡◌, ◌⊎◌, ℕ, List, [], ◌∷◌, length, Option, codes}
use Rattle.buck_record.specs.writing.Line.{line_of}
use Rattle.buck_apt_instruction.specs.Instruction.{InstructionParts}
use Rattle.buck_apt.specs.Apt.{apt_of}
use Rattle.buck_book_postings.specs.History.{HistoryParts}
use Rattle.buck_book_journal.specs.Journal.{JournalParts}
use Rattle.buck_book_journal.specs.Reading.{journal_of}
use Rattle.buck_book_replay.specs.Replay.{IsFirstFault}
use Rattle.buckfleet_engine_files.specs.declared.fault.EngineFault.{EngineFault}
use Rattle.buckfleet_engine_files.specs.declared.fault.EngineFault.TheVariants.{Journal, Replay, Memory}
use Rattle.buckfleet_engine_files.specs.Reading.{IsAccepted, IsAptFault, IsFileFault}

-- LAWFUL <postings>
abbrev pub lawful_line : ℕ → List ℕ
lawful_line postings = line_of (codes "LAWFUL") (postings ∷ [])

-- the journal's file, which is file 1, can't be read or is refused, or memory ran out
abbrev pub IsJournalFault : Option (List ℕ) → EngineFault → Type 0
IsJournalFault journal fault = IsFileFault 1 Journal journal_of journal fault

-- a history isn't lawful, or memory ran out
abbrev pub IsUnlawful : HistoryParts → EngineFault → Type 0
IsUnlawful h fault = (fault ≡ Memory) ⊎ ((why : _) × (fault ≡ Replay why) × IsFirstFault h why)

-- its line, with the number of its postings
abbrev pub IsLawfulLine : InstructionParts → JournalParts → List ℕ → Type 0
IsLawfulLine i journal text = text ≡ lawful_line (length journal.entries)

-- the fault of the first of the two files that has one
abbrev pub IsReadFault : Option (List ℕ) → Option (List ℕ) → EngineFault → Type 0
IsReadFault apt journal fault = IsAptFault apt fault ⊎ (IsAccepted apt_of apt × IsJournalFault journal fault)

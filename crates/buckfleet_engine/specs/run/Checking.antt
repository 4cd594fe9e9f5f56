-- What a check of a journal and a report of it answer.
use Rattle.std.specs.Prelude.{◌⊎◌, ℕ, List, Option, Result, Ok, Err}
use Rattle.buck_apt_instruction.specs.Instruction.{InstructionParts}
use Rattle.buck_apt.specs.Apt.{apt_of}
use Rattle.buck_book_postings.specs.History.{IsLawful}
use Rattle.buck_book_journal.specs.Journal.{JournalParts, history_of}
use Rattle.buck_book_journal.specs.Reading.{journal_of}
use Rattle.buckfleet_engine_files.specs.declared.fault.EngineFault.{EngineFault}
use Rattle.buckfleet_engine_files.specs.Reading.{IsAccepted, IsAptFault, ReadsApt, Says}
use Rattle.buckfleet_engine_text.specs.Report.{IsReport}
use Rattle.buckfleet_engine_files.specs.Checking.{IsJournalFault, IsUnlawful, IsLawfulLine}

-- what is written of a journal that is lawful for an instruction
abbrev pub OfLawful : Type 1
OfLawful = InstructionParts → JournalParts → List ℕ → Type 0

-- the report of its history
abbrev pub IsJournalReport : InstructionParts → JournalParts → List ℕ → Type 0
IsJournalReport i journal text = IsReport (history_of i journal) text

-- what is written of a lawful journal, or its first fault
abbrev pub AnswersReplay : OfLawful → InstructionParts → JournalParts → Result (List ℕ) EngineFault → Type 0
AnswersReplay Text i journal (Ok text) = IsLawful (history_of i journal) × Text i journal text
AnswersReplay Text i journal (Err fault) = IsUnlawful (history_of i journal) fault

-- what is answered to the instruction, which is read so, and the journal that the two files have
pub record IsReplayOf (reads : ReadsApt) (Text : OfLawful) (apt journal : Option (List ℕ))
    (answer : Result (List ℕ) EngineFault) : Type 0 where
  pub instruction : InstructionParts
  pub read : JournalParts
  pub apt_says : Says reads apt (Ok instruction)
  pub journal_says : Says journal_of journal (Ok read)
  pub answers : AnswersReplay Text instruction read answer

-- the fault of the first of the two files that has one, or what is answered to what they have
abbrev pub AnswersJournal : ReadsApt → OfLawful → Option (List ℕ) → Option (List ℕ) → Result (List ℕ) EngineFault
    → Type 0
AnswersJournal reads Text apt journal (Ok text) = IsReplayOf reads Text apt journal (Ok text)
AnswersJournal reads Text apt journal (Err fault) =
    IsAptFault apt fault
    ⊎ ((IsAccepted apt_of apt × IsJournalFault journal fault) ⊎ IsReplayOf reads Text apt journal (Err fault))

abbrev pub AnswersCheck : Option (List ℕ) → Option (List ℕ) → Result (List ℕ) EngineFault → Type 0
AnswersCheck apt journal answer = AnswersJournal apt_of IsLawfulLine apt journal answer

abbrev pub AnswersReport : Option (List ℕ) → Option (List ℕ) → Result (List ℕ) EngineFault → Type 0
AnswersReport apt journal answer = AnswersJournal apt_of IsJournalReport apt journal answer

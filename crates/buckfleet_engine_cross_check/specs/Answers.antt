-- What a check answers that ties a journal to stem files and to a price rule.
use Rattle.std.specs.Prelude.{◌≡◌, ◌⊎◌, ℕ, ◌+◌, ◌<◌, ◌≤◌, List, [], length, Option, None, Result, Ok, Err, slice_index_or}
use Rattle.buck_apt_instruction.specs.Instruction.{InstructionParts}
use Rattle.buck_apt.specs.Apt.{apt_of}
use Rattle.buck_stem_shape.specs.Stem.{StemParts}
use Rattle.buck_stem.specs.Stm.{stm_of}
use Rattle.buck_book_postings.specs.History.{IsLawful}
use Rattle.buck_book_journal.specs.Journal.{JournalParts, history_of}
use Rattle.buck_book_journal.specs.Reading.{journal_of}
use Rattle.buckfleet_engine_files.specs.declared.fault.EngineFault.{EngineFault}
use Rattle.buckfleet_engine_files.specs.declared.fault.EngineFault.TheVariants.{Seats, Check}
use Rattle.buck_rule.specs.declared.named.NamedRule.{NamedRule}
use Rattle.buckfleet_engine_files.specs.Reading.{IsAccepted, IsAptFault, IsStmFault, ReadsApt, Says}
use Rattle.buckfleet_engine_files.specs.Checking.{IsJournalFault, IsLawfulLine, IsUnlawful}
use Rattle.buckfleet_engine_files.specs.Listed.{AreAccepted}
use Rattle.buckfleet_engine_cross_check.specs.Ties.{IsTied, IsUntied}

-- the stem file at a place, which is file 2 at place 0, has a fault, and those before it are accepted
pub record IsStemsFileFault (stms : List (Option (List ℕ))) (fault : EngineFault) : Type 0 where
  pub place : ℕ
  pub exists : place < length stms
  pub accepted : AreAccepted place stms
  pub is_fault : IsStmFault (place + 2) (slice_index_or stms place None) fault

-- the instruction, which is read so, the journal, and the stems of each stem file, that the files have
pub record HaveRead (reads : ReadsApt) (apt journal : Option (List ℕ)) (stms : List (Option (List ℕ)))
    (i : InstructionParts) (j : JournalParts) (files : List (List StemParts)) : Type 0 where
  pub apt_says : Says reads apt (Ok i)
  pub journal_says : Says journal_of journal (Ok j)
  pub few : length stms ≤ 64
  pub number : length files ≡ length stms
  pub stms_say : (k : ℕ) → k < length stms → Says stm_of (slice_index_or stms k None) (Ok (slice_index_or files k []))

-- the fault of the first file that has one
abbrev pub IsInputFault : Option (List ℕ) → Option (List ℕ) → List (Option (List ℕ)) → EngineFault → Type 0
IsInputFault apt journal stms fault =
    IsAptFault apt fault
    ⊎ (IsAccepted apt_of apt
    × (IsJournalFault journal fault ⊎ (IsAccepted journal_of journal × IsStemsFileFault stms fault)))

-- what is written of a history that is lawful and tied; else its first fault, or how it isn't tied
abbrev pub AnswersTies : List (List StemParts) → Option NamedRule → InstructionParts → JournalParts
    → Result (List ℕ) EngineFault → Type 0
AnswersTies files rule i j (Ok text) =
    IsLawful (history_of i j) × IsTied files rule (history_of i j) × IsLawfulLine i j text
AnswersTies files rule i j (Err fault) =
    IsUnlawful (history_of i j) fault
    ⊎ (IsLawful (history_of i j) × ((why : _) × (fault ≡ Check why) × IsUntied files rule (history_of i j) why))

-- what is answered to what the files have
pub record IsTiesOf (reads : ReadsApt) (rule : Option NamedRule) (apt journal : Option (List ℕ))
    (stms : List (Option (List ℕ))) (answer : Result (List ℕ) EngineFault) : Type 0 where
  pub instruction : InstructionParts
  pub read : JournalParts
  pub files : List (List StemParts)
  pub have : HaveRead reads apt journal stms instruction read files
  pub answers : AnswersTies files rule instruction read answer

-- there are more stem files than seats, or the fault of the first file that has one, or what is answered to what the
-- files have
abbrev pub AnswersCheckWith : ReadsApt → Option NamedRule → Option (List ℕ) → Option (List ℕ) → List (Option (List ℕ))
    → Result (List ℕ) EngineFault → Type 0
AnswersCheckWith reads rule apt journal stms (Ok text) = IsTiesOf reads rule apt journal stms (Ok text)
AnswersCheckWith reads rule apt journal stms (Err fault) =
    ((64 < length stms) × (fault ≡ Seats))
    ⊎ ((length stms ≤ 64) × (IsInputFault apt journal stms fault ⊎ IsTiesOf reads rule apt journal stms (Err fault)))

-- Several journals as they are read and replayed.
use Rattle.std.specs.Prelude.{◌≡◌, ◌⊎◌, ◌+◌, ◌<◌, ◌≤◌, ◌==◌, ℕ, cond, List, All, length, take, slice_get, slice_index_or, Option, Some, None, Ok}
use Rattle.buck_apt_instruction.specs.Instruction.{InstructionParts}
use Rattle.buck_apt.specs.Apt.{apt_of}
use Rattle.buck_book_postings.specs.History.{IsLawful}
use Rattle.buck_book_postings.specs.declared.posting.TheConstants.{MOST_POSTINGS}
use Rattle.buck_book_journal.specs.Journal.{JournalParts, history_of}
use Rattle.buck_book_journal.specs.Reading.{journal_of}
use Rattle.buck_book_replay.specs.Replay.{IsFirstFault}
use Rattle.buck_book_journal.specs.declared.journal_fault.JournalFault.{JournalFault}
use Rattle.buck_book_journal.specs.declared.replay_fault.ReplayFault.{ReplayFault}
use Rattle.buck_book_journal.specs.Several.{postings_of}
use Rattle.buckfleet_engine_files.specs.declared.fault.EngineFault.{EngineFault}
use Rattle.buckfleet_engine_files.specs.declared.fault.EngineFault.TheVariants.{Journal, JournalOf, Replay, ReplayOf, Full}
use Rattle.buckfleet_engine_files.specs.Reading.{IsAccepted, IsAptFault, IsFileFault, ReadsApt, Says}

-- the fault of the journal at a place of so many: if there are several it has its number, from 1
abbrev pub journal_fault : ℕ → ℕ → JournalFault → EngineFault
journal_fault number place fault = cond (number == 1) (Journal fault) (JournalOf (place + 1) fault)

abbrev pub replay_fault : ℕ → ℕ → ReplayFault → EngineFault
replay_fault number place fault = cond (number == 1) (Replay fault) (ReplayOf (place + 1) fault)

-- the first so many files are accepted as journals
abbrev pub AreJournals : ℕ → List (Option (List ℕ)) → Type 0
AreJournals n files = (k : ℕ) → k < n → IsAccepted journal_of (slice_index_or files k None)

-- the files have these journals
pub record HaveJournals (files : List (Option (List ℕ))) (js : List JournalParts) : Type 0 where
  pub one_each : length js ≡ length files
  pub each : (k : ℕ) (j : JournalParts)
      → slice_get js k ≡ Some j
      → Says journal_of (slice_index_or files k None) (Ok j)

-- the file at a place, which is one further among all, has a fault, and those before it are accepted
pub record IsJournalsFault (files : List (Option (List ℕ))) (fault : EngineFault) : Type 0 where
  pub place : ℕ
  pub exists : place < length files
  pub accepted : AreJournals place files
  pub is_fault : IsFileFault (place + 1) (journal_fault (length files) place) journal_of
      (slice_index_or files place None) fault

-- the journals have too many postings together
pub record AreFull (files : List (Option (List ℕ))) (fault : EngineFault) : Type 0 where
  pub full : fault ≡ Full
  pub journals : List JournalParts
  pub have : HaveJournals files journals
  pub many : MOST_POSTINGS < length (postings_of journals)

-- the fault of the first file that has one, or that there are too many postings
abbrev pub IsSeveralFault : Option (List ℕ) → List (Option (List ℕ)) → EngineFault → Type 0
IsSeveralFault apt files fault =
    IsAptFault apt fault ⊎ (IsAccepted apt_of apt × (IsJournalsFault files fault ⊎ AreFull files fault))

-- an instruction file, which is read so, and journals' files of not too many postings have what this holds of
pub record HaveSeveral (reads : ReadsApt) (Holds : InstructionParts → List JournalParts → Type 0)
    (apt : Option (List ℕ)) (files : List (Option (List ℕ))) : Type 0 where
  pub instruction : InstructionParts
  pub read : List JournalParts
  pub apt_says : Says reads apt (Ok instruction)
  pub journals_say : HaveJournals files read
  pub few : length (postings_of read) ≤ MOST_POSTINGS
  pub holds : Holds instruction read

-- each journal is lawful by itself
abbrev pub AreLawful : InstructionParts → List JournalParts → Type 0
AreLawful i js = All (λ j. IsLawful (history_of i j)) js

-- the journals before a place are lawful, and that at the place has this first fault
pub record IsFirstUnlawful (i : InstructionParts) (js : List JournalParts) (place : ℕ) (why : ReplayFault)
    : Type 0 where
  pub journal : JournalParts
  pub there : slice_get js place ≡ Some journal
  pub before : AreLawful i (take place js)
  pub first : IsFirstFault (history_of i journal) why

-- What the calls that show a journal answer: a text and a status.
use Rattle.std.specs.Prelude.{◌≡◌, ◌<◌, ◌≤◌, ℕ, ◌⊎◌, List, [], Option, Some}
use Rattle.std.specs.Str.{IsUtf8}
use Rattle.buck_apt.specs.Apt.{apt_of}
use Rattle.buck_book_postings.specs.History.{IsLawful}
use Rattle.buck_book_replay.specs.Replay.{IsFirstFault}
use Rattle.buck_book_journal.specs.declared.replay_fault.ReplayFault.{ReplayFault}
use Rattle.buckfleet_engine_files.specs.declared.fault.EngineFault.{EngineFault}
use Rattle.buckfleet_engine_files.specs.declared.fault.EngineFault.TheVariants.{Replay}
use Rattle.buckfleet_engine_files.specs.Faults.{status_of}
use Rattle.buckfleet_engine_page.specs.Viewing.{HaveHistory}
use Rattle.buckfleet_engine_files.specs.Checking.{IsReadFault}
use Rattle.buck_c_calls.specs.Books.{misused}
use Rattle.buck_c_calls.specs.Files.{IsToldOf}

-- the bytes of the two files have a lawful history
abbrev pub IsOfLawful : List ℕ → List ℕ → Type 0
IsOfLawful apt journal = HaveHistory apt_of IsLawful (Some apt) (Some journal)

-- the two files have a history whose first fault is this
abbrev pub IsOfFault : Option (List ℕ) → Option (List ℕ) → ReplayFault → Type 0
IsOfFault apt journal why = HaveHistory apt_of (λ h. IsFirstFault h why) apt journal

-- a page, which is UTF-8, of a lawful journal, or of the first fault of another
abbrev pub IsPage : List ℕ → List ℕ → List ℕ → ℕ → Type 0
IsPage apt journal text status =
    IsUtf8 text × ((IsOfLawful apt journal × (status ≡ 0))
    ⊎ ((why : ReplayFault) × IsOfFault (Some apt) (Some journal) why × (status ≡ status_of (Replay why))))

-- a page, or the refusal of the first file that has one
abbrev pub IsViewed : List ℕ → List ℕ → List ℕ → ℕ → Type 0
IsViewed apt journal text status =
    IsPage apt journal text status ⊎ IsToldOf (IsReadFault (Some apt) (Some journal)) text status

-- why there is no table: the first file that is refused, or the journal's first fault
abbrev pub IsTableFault : Option (List ℕ) → Option (List ℕ) → EngineFault → Type 0
IsTableFault apt journal fault =
    IsReadFault apt journal fault ⊎ ((why : ReplayFault) × (fault ≡ Replay why) × IsOfFault apt journal why)

-- a table of a lawful journal, or why there is none; none if there is no table of that number
abbrev pub IsListed : ℕ → List ℕ → List ℕ → List ℕ → ℕ → Type 0
IsListed table apt journal text status =
    ((5 < table) × (text ≡ []) × (status ≡ misused))
    ⊎ ((table ≤ 5) × ((IsOfLawful apt journal × (status ≡ 0))
    ⊎ IsToldOf (IsTableFault (Some apt) (Some journal)) text status))

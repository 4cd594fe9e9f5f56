-- Two journals of one instruction, each with numbers of its own in the place of the instruction's.
use Rattle.std.specs.Prelude.{◌≡◌, ◌⊎◌, ◌≤◌, ℕ, List, [], ◌∷◌, length, Option, Ok}
use Rattle.buck_apt.specs.Apt.{apt_of}
use Rattle.buck_apt_instruction.specs.Instruction.{InstructionParts}
use Rattle.buck_apt_instruction.specs.Settings.{SettingsParts, with_settings}
use Rattle.buck_book_postings.specs.History.{IsLawful}
use Rattle.buck_book_postings.specs.declared.posting.TheConstants.{MOST_POSTINGS}
use Rattle.buck_book_journal.specs.Journal.{JournalParts, history_of}
use Rattle.buck_book_replay.specs.Replay.{IsFirstFault}
use Rattle.buck_page_figures.specs.Journals.{postings_of}
use Rattle.buckfleet_engine_files.specs.declared.fault.EngineFault.{EngineFault}
use Rattle.buckfleet_engine_files.specs.declared.fault.EngineFault.TheVariants.{Memory, ReplayOf}
use Rattle.buckfleet_engine_files.specs.Reading.{Says}
use Rattle.buckfleet_engine_files.specs.Several.{HaveJournals, IsSeveralFault}

-- the instruction and the two journals that files have, of at most 1,000,000 postings together
pub record SaysTwo (apt : Option (List ℕ)) (files : List (Option (List ℕ))) (i : InstructionParts)
    (one other : JournalParts) : Type 0 where
  pub apt_says : Says apt_of apt (Ok i)
  pub journals_say : HaveJournals files (one ∷ other ∷ [])
  pub few : length (postings_of (one ∷ other ∷ [])) ≤ MOST_POSTINGS

-- both are lawful, each for the instruction with its numbers
abbrev pub AreBothLawful : SettingsParts → SettingsParts → InstructionParts → JournalParts → JournalParts → Type 0
AreBothLawful first second i one other =
    IsLawful (history_of (with_settings first i) one) × IsLawful (history_of (with_settings second i) other)

-- why there is no comparison: the first fault of the files, or the first journal that isn't lawful, by its number
abbrev pub IsCompareFault : SettingsParts → SettingsParts → Option (List ℕ) → List (Option (List ℕ)) → EngineFault
    → Type 0
IsCompareFault first second apt files fault =
    IsSeveralFault apt files fault
    ⊎ ((fault ≡ Memory)
    ⊎ ((i : InstructionParts) × (one : JournalParts) × (other : JournalParts) × SaysTwo apt files i one other
    × (((why : _) × (fault ≡ ReplayOf 1 why) × IsFirstFault (history_of (with_settings first i) one) why)
    ⊎ (IsLawful (history_of (with_settings first i) one)
    × ((why : _) × (fault ≡ ReplayOf 2 why) × IsFirstFault (history_of (with_settings second i) other) why)))))

-- How whole runs over journals end: what is opened, and what is written.
use Rattle.std.specs.Prelude.{◌≡◌, ◌⊎◌, ◌≤◌, ℕ, ◌+◌, List, length, map, Option, Result, Ok, Err}
use Rattle.std.specs.Io.KnownBytes.{Keeps}
use Rattle.buck_apt.specs.Apt.{apt_of}
use Rattle.buck_apt_instruction.specs.Instruction.{InstructionParts}
use Rattle.buck_apt_instruction.specs.Settings.{SettingsParts}
use Rattle.buck_book_postings.specs.declared.posting.TheConstants.{MOST_POSTINGS}
use Rattle.buck_book_journal.specs.Journal.{JournalParts}
use Rattle.buck_page_figures.specs.Journals.{postings_of}
use Rattle.buckfleet_engine_files.specs.declared.fault.EngineFault.{EngineFault}
use Rattle.buckfleet_engine_files.specs.Opening.{AnswersInputs}
use Rattle.buckfleet_engine_files.specs.Reading.{Says, apt_with}
use Rattle.buckfleet_engine_files.specs.Several.{AreLawful, HaveJournals, HaveSeveral, IsFirstUnlawful, IsSeveralFault, replay_fault}
use Rattle.buckfleet_engine_files.specs.Written.{WritesText}
use Rattle.buckfleet_terms_files.specs.declared.fault.TermsFault.{TermsFault}
use Rattle.buckfleet_terms_files.specs.declared.fault.TermsFault.TheVariants.{Run}
use Rattle.buckfleet_terms_files.specs.Own.{HasShapeOf}
use Rattle.buckfleet_terms_files.specs.Reading.{AnswersLast, IsOwnFileFault}
use Rattle.buckfleet_terms_files.specs.Telling.{WritesTerms}
use Rattle.buckfleet_proceeds.specs.declared.appraisal.Appraisal.{Appraisal}
use Rattle.buckfleet_proceeds.specs.declared.opened.Opened.{Opened}
use Rattle.buckfleet_tasks.specs.declared.journals.AppraiseTask.{AppraiseTask}
use Rattle.buckfleet_tasks.specs.declared.journals.CompareTask.{CompareTask}
use Rattle.buckfleet_proceeds.specs.Appraisal.{IsAppraisal}
use Rattle.buckfleet_proceeds.specs.Text.{appraisal_text}
use Rattle.buckfleet_proceeds.specs.Comparison.{AreBothLawful, IsCompareFault, SaysTwo}

-- the text of an appraisal over files: of lawful journals of the instruction, of at most 1,000,000 postings together,
-- under an owner's instruction that may stand beside it
pub record IsAppraised (settings : SettingsParts) (apt : Option (List ℕ)) (files : List (Option (List ℕ)))
    (own : Option (List ℕ)) (text : List ℕ) : Type 0 where
  pub instruction : InstructionParts
  pub journals : List JournalParts
  pub owner : InstructionParts
  pub appraisal : Appraisal
  pub apt_says : Says (apt_with settings) apt (Ok instruction)
  pub journals_say : HaveJournals files journals
  pub few : length (postings_of journals) ≤ MOST_POSTINGS
  pub own_says : Says apt_of own (Ok owner)
  pub shape : HasShapeOf instruction owner
  pub lawful : AreLawful instruction journals
  pub is_appraisal : IsAppraisal owner (postings_of journals) appraisal
  pub text_is : text ≡ appraisal_text instruction appraisal

-- an owner's instruction may stand beside the instruction
abbrev pub HasOwner : Option (List ℕ) → InstructionParts → Type 0
HasOwner own i = (owner : InstructionParts) × Says apt_of own (Ok owner) × HasShapeOf i owner

-- why there is none: as of journals that are shown; or the owner's instruction is refused; or, if it isn't, a journal
-- isn't lawful
abbrev pub IsAppraiseFault : SettingsParts → Option (List ℕ) → List (Option (List ℕ)) → Option (List ℕ) × ℕ → TermsFault
    → Type 0
IsAppraiseFault settings apt files own fault =
    ((why : EngineFault) × (fault ≡ Run why) × IsSeveralFault apt files why)
    ⊎ (HaveSeveral (apt_with settings) (λ i js. IsOwnFileFault own.1 i own.0 fault) apt files
    ⊎ HaveSeveral (apt_with settings) (λ i js. HasOwner own.0 i × ((place : ℕ) × (why : _)
    × (fault ≡ Run (replay_fault (length files) place why)) × IsFirstUnlawful i js place why)) apt files)

-- the text of an appraisal, or why there is none
abbrev pub AnswersAppraise : SettingsParts → Option (List ℕ) → List (Option (List ℕ)) → Option (List ℕ) × ℕ
    → Result (List ℕ) TermsFault → Type 0
AnswersAppraise settings apt files own (Ok text) = IsAppraised settings apt files own.0 text
AnswersAppraise settings apt files own (Err fault) = IsAppraiseFault settings apt files own fault

pub record OpensOwn {O F : Type 0} (opens : O → List ℕ → Option F → O → Type 0) (old new : O) (apt : List ℕ)
    (journals : List (List ℕ)) (own : List ℕ) (files : Opened F) : Type 0 where
  pub between : O
  pub inputs : AnswersInputs opens old between apt journals (Ok (files.apt, files.journals.items))
  pub last : AnswersLast opens between new own (length journals + 1) (Ok files.own)

pub record StopsBefore {O F : Type 0} (opens : O → List ℕ → Option F → O → Type 0) (old new : O) (apt : List ℕ)
    (journals : List (List ℕ)) (own : List ℕ) (fault : EngineFault) : Type 0 where
  pub between : O
  pub opened : F × List F
  pub inputs : AnswersInputs opens old between apt journals (Ok opened)
  pub last : AnswersLast {F = F} opens between new own (length journals + 1) (Err fault)

-- all files are opened by their names, in order, or the first that can't be is the fault
abbrev pub AnswersFiles : {O F : Type 0} → (O → List ℕ → Option F → O → Type 0) → O → O → List ℕ → List (List ℕ)
    → List ℕ → Result (Opened F) EngineFault → Type 0
AnswersFiles opens old new apt journals own (Ok files) = OpensOwn opens old new apt journals own files
AnswersFiles {F = F} opens old new apt journals own (Err fault) =
    AnswersInputs {F = F} opens old new apt journals (Err fault)
    ⊎ StopsBefore {F = F} opens old new apt journals own fault

abbrev pub AppraisesOpened : {F : Type 0} → (F → Option (List ℕ)) → AppraiseTask → Result (Opened F) EngineFault
    → Option (List ℕ) → Option (List ℕ) → Result (Unit {0}) TermsFault → Type 0
AppraisesOpened held task (Ok files) old new outcome =
    WritesTerms (AnswersAppraise task.settings (held files.apt) (map held files.journals.items)
    (held files.own.0, files.own.1)) old new outcome
AppraisesOpened held task (Err fault) old new outcome = (outcome ≡ Err (Run fault)) × Keeps old new

pub record RunsAppraise {O F : Type 0} (opens : O → List ℕ → Option F → O → Type 0) (held : F → Option (List ℕ))
    (start end : O) (task : AppraiseTask) (old new : Option (List ℕ)) (outcome : Result (Unit {0}) TermsFault)
    : Type 0 where
  pub opened : Result (Opened F) EngineFault
  pub answers : AnswersFiles opens start end task.apt.now (map (λ s. s.now) task.journals.items) task.own.now opened
  pub runs : AppraisesOpened held task opened old new outcome

-- a comparison over files, or why there is none
abbrev pub AnswersCompare : CompareTask → Option (List ℕ) → List (Option (List ℕ)) → Result (List ℕ) EngineFault
    → Type 0
AnswersCompare task apt files (Ok text) = (i : InstructionParts) × (one : JournalParts) × (other : JournalParts)
    × SaysTwo apt files i one other × AreBothLawful task.first task.second i one other
AnswersCompare task apt files (Err fault) = IsCompareFault task.first task.second apt files fault

abbrev pub ComparesOpened : {F : Type 0} → (F → Option (List ℕ)) → CompareTask → Result (F × List F) EngineFault
    → Option (List ℕ) → Option (List ℕ) → Result (Unit {0}) EngineFault → Type 0
ComparesOpened held task (Ok files) old new outcome =
    WritesText (AnswersCompare task (held files.0) (map held files.1)) old new outcome
ComparesOpened held task (Err fault) old new outcome = (outcome ≡ Err fault) × Keeps old new

pub record RunsCompare {O F : Type 0} (opens : O → List ℕ → Option F → O → Type 0) (held : F → Option (List ℕ))
    (start end : O) (task : CompareTask) (old new : Option (List ℕ)) (outcome : Result (Unit {0}) EngineFault)
    : Type 0 where
  pub opened : Result (F × List F) EngineFault
  pub answers : AnswersInputs opens start end task.apt.now (map (λ s. s.now) task.journals) opened
  pub runs : ComparesOpened held task opened old new outcome

-- A sweep whose lines also say what an owner pays: behind the line of a trial, what the run brings under the owner's
-- instruction, and what its draws lose there.
use Rattle.std.specs.Prelude.{◌≡◌, ◌⊎◌, ◌≤◌, ℕ, ◌+◌, min, List, [], ◌∷◌, ◌++◌, length, map, Option, Some, None, Result, Ok, Err, codes}
use Rattle.std.specs.List.{AllZip, flat_map}
use Rattle.std.specs.Option.{option_map}
use Rattle.std.specs.Io.KnownBytes.{Keeps}
use Rattle.std.specs.declared.sync.Arc.{Arc}
use Rattle.std.specs.declared.vec.Vec.{Vec}
use Rattle.std.specs.declared.alloc.Global.{Global}
use Rattle.buck_apt.specs.Apt.{apt_of}
use Rattle.buck_apt_instruction.specs.Instruction.{InstructionParts}
use Rattle.buck_apt_instruction.specs.Settings.{with_settings}
use Rattle.buck_stem_shape.specs.declared.stem.Stem.{Stem}
use Rattle.buck_book_postings.specs.declared.posting.TheConstants.{MOST_POSTINGS}
use Rattle.buck_book_postings.specs.History.{HistoryParts}
use Rattle.buck_page_cells.specs.Cells.{number_cell}
use Rattle.buckfleet_trial_draws.specs.declared.orders.Draws.{Draws}
use Rattle.buckfleet_engine_files.specs.declared.fault.EngineFault.{EngineFault}
use Rattle.buckfleet_engine_files.specs.Reading.{Says}
use Rattle.buckfleet_proceeds.specs.declared.appraisal.Appraisal.{Appraisal}
use Rattle.buckfleet_proceeds.specs.Appraisal.{IsAppraisal}
use Rattle.buckfleet_tasks.specs.declared.combination.Combination.{Combination}
use Rattle.buckfleet_trial_sweep.specs.Runs.{HasCut}
use Rattle.buckfleet_trial_sweep.specs.Sweep.{AreLines}
use Rattle.buckfleet_trial_sweep.specs.Table.{head_line, rate_of}
use Rattle.buckfleet_terms_files.specs.declared.fault.TermsFault.{TermsFault}
use Rattle.buckfleet_terms_files.specs.Own.{HasShapeOf}
use Rattle.buckfleet_terms_files.specs.declared.fault.TermsFault.TheVariants.{Run}
use Rattle.buckfleet_terms_files.specs.Reading.{AnswersLast, IsOwnFileFault}
use Rattle.buckfleet_terms_files.specs.Telling.{WritesTerms}
use Rattle.buck_fleet_round_robin.specs.Turn.{stems_in_all}
use Rattle.buckfleet_trial_owned.specs.declared.outcome.OwnRun.{OwnRun}
use Rattle.buckfleet_trial_owned.specs.declared.owned.OwnedFiles.{OwnedFiles}
use Rattle.buckfleet_trial.specs.declared.reading.Opened.{Opened}
use Rattle.buckfleet_tasks.specs.declared.trials.OwnedTask.{OwnedTask}
use Rattle.buckfleet_tasks.specs.declared.trials.TrialTask.{TrialTask}
use Rattle.buckfleet_trial.specs.Inputs.{AnswersFiles, IsInputFault, SaysInput, held_with}
use Rattle.buckfleet_trial.specs.Trial.{AreSpread, IsBestFor, IsTrialLine, drawn_head, starts_of}
use Rattle.buckfleet_trial.specs.Light.{AreOrdered}

-- what the run of a combination brings under an owner's instruction, in the files' own order or in that of a draw: the
-- total of an appraisal of its history
pub record IsOwnRun (own i : InstructionParts) (lists : List (Vec (Arc Stem Global) Global)) (c : Combination)
    (order : Option ℕ) (o : OwnRun) : Type 0 where
  pub ordered : List (Vec (Arc Stem Global) Global)
  pub history : HistoryParts
  pub appraisal : Appraisal
  pub are_ordered : AreOrdered order lists ordered
  pub instruction : history.instruction ≡ with_settings c.settings i
  pub has_cut : HasCut c.rule ordered history
  pub is_appraisal : IsAppraisal own history.postings appraisal
  pub worth : o.worth ≡ appraisal.total.cut.worth
  pub best : o.best ≡ appraisal.total.best.worth
  pub unbought : o.unbought ≡ appraisal.total.cut.unbought

-- what a run loses of what the best cuttings bring, in ten-thousandths
abbrev pub loss_of : OwnRun → ℕ
loss_of o = rate_of o.best o.worth

abbrev pub losses_in : List OwnRun → List (Option ℕ)
losses_in drawn = map (λ o. Some (loss_of o)) drawn

-- the cells of a run
abbrev pub own_cells : OwnRun → List ℕ
own_cells o = flat_map (λ n. number_cell (Some n)) (o.worth ∷ o.best ∷ o.unbought ∷ loss_of o ∷ [])

-- the cells of the losses of draws, none if there are no draws
abbrev pub AreLosses : List OwnRun → List ℕ → Type 0
AreLosses [] text = text ≡ []
AreLosses (o ∷ more) text = AreSpread (losses_in (o ∷ more)) text

-- what stands last in the line of a combination
pub record IsOwnTail (own i : InstructionParts) (lists : List (Vec (Arc Stem Global) Global)) (starts : List ℕ)
    (c : Combination) (tail : List ℕ) : Type 0 where
  pub run : OwnRun
  pub drawn : List OwnRun
  pub losses : List ℕ
  pub is_run : IsOwnRun own i lists c None run
  pub are_drawn : AllZip (λ start o. IsOwnRun own i lists c (Some start) o) starts drawn
  pub are_losses : AreLosses drawn losses
  pub tail_is : tail ≡ own_cells run ++ losses

-- the line of a combination: that of a trial, and behind it what the owner pays, before the line feed
pub record IsOwnedLine (own i : InstructionParts) (lists : List (Vec (Arc Stem Global) Global)) (starts : List ℕ)
    (best : ℕ) (c : Combination) (line : List ℕ) : Type 0 where
  pub front : List ℕ
  pub tail : List ℕ
  pub is_trial_line : IsTrialLine i lists starts best c (front ++ codes "\n")
  pub is_tail : IsOwnTail own i lists starts c tail
  pub line_is : line ≡ front ++ (tail ++ codes "\n")

-- the names of the last columns, and with those of draws
abbrev pub own_names : List ℕ
own_names = codes ",own_worth_millionths,own_best_worth_millionths,own_unbought_logs,own_loss_ten_thousandths"

abbrev pub own_head : List ℕ → List ℕ
own_head [] = own_names
own_head (start ∷ more) = own_names ++ codes ",own_loss_min,own_loss_mean,own_loss_max"

-- the table of some combinations over an instruction, an owner's instruction and stems
pub record IsOwnedOver (own i : InstructionParts) (lists : List (Vec (Arc Stem Global) Global)) (cs : List Combination)
    (starts text : List ℕ) : Type 0 where
  pub head : List ℕ
  pub head_is : head_line i ≡ head ++ codes "\n"
  pub best : ℕ
  pub is_best : IsBestFor i lists starts best
  pub lines : List ℕ
  pub are_lines : AreLines (IsOwnedLine own i lists starts best) cs lines
  pub text_is : text ≡ head ++ (drawn_head starts ++ (own_head starts ++ (codes "\n" ++ lines)))

-- the same over the files of a trial and that of the owner's instruction, with its number
pub record IsOwned (cs : List Combination) (draws : Option Draws) (apt : Option (List ℕ))
    (stms : List (Option (List ℕ))) (targets : Option (Option (List ℕ) × ℕ)) (own : Option (List ℕ)) (text : List ℕ)
    : Type 0 where
  pub instruction : InstructionParts
  pub lists : List (Vec (Arc Stem Global) Global)
  pub owner : InstructionParts
  pub says : SaysInput apt stms targets instruction lists
  pub own_says : Says apt_of own (Ok owner)
  pub shape : HasShapeOf instruction owner
  pub is_owned : IsOwnedOver owner instruction lists cs (starts_of draws lists) text

-- the owner's instruction is refused; all files before it are accepted, and their stems aren't too many
pub record IsOwnStop (apt : Option (List ℕ)) (stms : List (Option (List ℕ)))
    (targets : Option (Option (List ℕ) × ℕ)) (own : Option (List ℕ) × ℕ) (fault : TermsFault) : Type 0 where
  pub instruction : InstructionParts
  pub lists : List (Vec (Arc Stem Global) Global)
  pub says : SaysInput apt stms targets instruction lists
  pub few : stems_in_all lists ≤ MOST_POSTINGS
  pub is_fault : IsOwnFileFault own.1 instruction own.0 fault

-- the table, or why there is none
abbrev pub AnswersOwned : List Combination → Option Draws → Option (List ℕ) → List (Option (List ℕ))
    → Option (Option (List ℕ) × ℕ) → Option (List ℕ) × ℕ → Result (List ℕ) TermsFault → Type 0
AnswersOwned cs draws apt stms targets own (Ok text) = IsOwned cs draws apt stms targets own.0 text
AnswersOwned cs draws apt stms targets own (Err fault) =
    IsInputFault apt stms targets fault ⊎ IsOwnStop apt stms targets own fault

-- how many files come before that of the owner's instruction
abbrev pub files_before : List (List ℕ) → Option (List ℕ) → ℕ
files_before stms None = length stms + 1
files_before stms (Some targets) = length stms + 2

-- the files are opened by their names, that of the owner's instruction last
pub record OpensOwned {O F : Type 0} (opens : O → List ℕ → Option F → O → Type 0) (old new : O) (apt : List ℕ)
    (stms : List (List ℕ)) (targets : Option (List ℕ)) (own : List ℕ) (files : OwnedFiles F) : Type 0 where
  pub between : O
  pub trial : AnswersFiles opens old between apt stms targets (Ok files.files)
  pub last : AnswersLast opens between new own (min (files_before stms targets) 4294967295) (Ok files.own)

pub record StopsAtOwn {O F : Type 0} (opens : O → List ℕ → Option F → O → Type 0) (old new : O) (apt : List ℕ)
    (stms : List (List ℕ)) (targets : Option (List ℕ)) (own : List ℕ) (fault : EngineFault) : Type 0 where
  pub between : O
  pub opened : Opened F
  pub trial : AnswersFiles opens old between apt stms targets (Ok opened)
  pub last : AnswersLast {F = F} opens between new own (min (files_before stms targets) 4294967295) (Err fault)

-- all files, or that one can't be read: the first that can't be opened
abbrev pub AnswersOwnedFiles : {O F : Type 0} → (O → List ℕ → Option F → O → Type 0) → O → O → List ℕ
    → List (List ℕ) → Option (List ℕ) → List ℕ → Result (OwnedFiles F) EngineFault → Type 0
AnswersOwnedFiles opens old new apt stms targets own (Ok files) = OpensOwned opens old new apt stms targets own files
AnswersOwnedFiles {F = F} opens old new apt stms targets own (Err fault) =
    AnswersFiles {F = F} opens old new apt stms targets (Err fault)
    ⊎ StopsAtOwn {F = F} opens old new apt stms targets own fault

-- a run over the files that were opened; if one can't be, nothing is written
abbrev pub OwnedOpened : {F : Type 0} → (F → Option (List ℕ)) → TrialTask → Result (OwnedFiles F) EngineFault
    → Option (List ℕ) → Option (List ℕ) → Result (Unit {0}) TermsFault → Type 0
OwnedOpened held task (Ok files) old new outcome =
    WritesTerms (AnswersOwned task.combinations.items task.draws (held files.files.apt)
    (map held files.files.stms.items) (held_with held files.files.targets) (held files.own.0, files.own.1))
    old new outcome
OwnedOpened held task (Err fault) old new outcome = (outcome ≡ Err (Run fault)) × Keeps old new

-- all input files are opened by their names, in order, and then the table is made
pub record RunsOwned {O F : Type 0} (opens : O → List ℕ → Option F → O → Type 0) (held : F → Option (List ℕ))
    (start end : O) (task : OwnedTask) (old new : Option (List ℕ)) (outcome : Result (Unit {0}) TermsFault)
    : Type 0 where
  pub opened : Result (OwnedFiles F) EngineFault
  pub answers : AnswersOwnedFiles opens start end task.trial.apt.now (map (λ s. s.now) task.trial.stms.items)
      (option_map (λ s. s.now) task.trial.targets) task.own.now opened
  pub runs : OwnedOpened held task.trial opened old new outcome

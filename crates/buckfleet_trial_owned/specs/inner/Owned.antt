-- What a table with an owner's columns is put together from.
use Rattle.std.specs.Prelude.{◌≡◌, ◌++◌, ℕ, List, codes, Bool, true, false, Result, IfErr, IfOk}
use Rattle.std.specs.List.{AllZip}
use Rattle.std.specs.declared.sync.Arc.{Arc}
use Rattle.std.specs.declared.vec.Vec.{Vec}
use Rattle.std.specs.declared.alloc.Global.{Global}
use Rattle.buck_apt_instruction.specs.Instruction.{InstructionParts}
use Rattle.buck_stem_shape.specs.declared.stem.Stem.{Stem}
use Rattle.buck_book_postings.specs.declared.posting.Posting.{Posting}
use Rattle.buckfleet_engine_files.specs.declared.fault.EngineFault.{EngineFault}
use Rattle.buckfleet_proceeds.specs.declared.appraisal.Appraisal.{Appraisal}
use Rattle.buckfleet_proceeds.specs.Appraisal.{IsAppraisal}
use Rattle.buckfleet_tasks.specs.declared.combination.Combination.{Combination}
use Rattle.buckfleet_trial_sweep.specs.Runs.{IsStop}
use Rattle.buckfleet_trial_sweep.specs.Table.{head_line}
use Rattle.buckfleet_trial_owned.specs.declared.outcome.OwnRun.{OwnRun}
use Rattle.buckfleet_trial.specs.declared.trial.Drawn.{Drawn}
use Rattle.buckfleet_trial_owned.specs.Owned.{IsOwnTail, own_names}
use Rattle.buckfleet_trial.specs.Trial.{AreSpreads}
use Rattle.buckfleet_trial.specs.Lines.{columns_of}

-- what postings bring: the total of their appraisal
pub record IsPaidFor (own : InstructionParts) (ps : List Posting) (o : OwnRun) : Type 0 where
  pub appraisal : Appraisal
  pub is_appraisal : IsAppraisal own ps appraisal
  pub worth : o.worth ≡ appraisal.total.cut.worth
  pub best : o.best ≡ appraisal.total.best.worth
  pub unbought : o.unbought ≡ appraisal.total.cut.unbought

-- what stands last in the line of each combination
abbrev pub AreTails : InstructionParts → InstructionParts → List (Vec (Arc Stem Global) Global) → List ℕ
    → List Combination → List (Vec ℕ Global) → Type 0
AreTails own i lists starts cs tails = AllZip (λ c tail. IsOwnTail own i lists starts c tail.items) cs tails

-- of some combinations, or why there is nothing
abbrev pub IsTailsPart : InstructionParts → InstructionParts → List (Vec (Arc Stem Global) Global) → List ℕ
    → List Combination → Result (Vec (Vec ℕ Global) Global) EngineFault → Type 0
IsTailsPart own i lists starts cs result =
    IfOk result (λ tails. AreTails own i lists starts cs tails.items) × IfErr result (IsStop lists)

-- the names of the last columns, those of draws among them or not
abbrev pub own_columns : Bool → List ℕ
own_columns false = own_names
own_columns true = own_names ++ codes ",own_loss_min,own_loss_mean,own_loss_max"

-- the first line was put
abbrev pub IsFirstLine : InstructionParts → Bool → List ℕ → List ℕ → Type 0
IsFirstLine i draws old new = (head : List ℕ) → head_line i ≡ head ++ codes "\n"
    → new ≡ old ++ ((head ++ columns_of draws) ++ (own_columns draws ++ codes "\n"))

-- the line of a run was put, what its draws came to, and what stands last
abbrev pub IsPutOwned : ℕ → List ℕ → List Drawn → List ℕ → List ℕ → List ℕ → Type 0
IsPutOwned best line drawn tail old new = (own : List ℕ) → line ≡ own ++ codes "\n"
    → (spreads : List ℕ) × AreSpreads best drawn spreads
    × (new ≡ old ++ ((own ++ spreads) ++ (tail ++ codes "\n")))

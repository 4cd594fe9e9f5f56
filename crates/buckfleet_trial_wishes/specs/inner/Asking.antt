-- What the runs of wishes share, and what is added wish by wish.
use Rattle.std.specs.Prelude.{◌≡◌, ◌<◌, ◌≤◌, ◌+◌, ◌*◌, ℕ, List, [], ◌∷◌, length, All, Option, Some, Result, IfOk, IfErr}
use Rattle.std.specs.List.{AllByRecursion, AllZip, Contains}
use Rattle.std.specs.declared.vec.Vec.{Vec}
use Rattle.std.specs.declared.alloc.Global.{Global}
use Rattle.buck_apt_instruction.specs.Instruction.{InstructionParts}
use Rattle.buck_apt_instruction.specs.Wanted.{MayBeWanted}
use Rattle.buck_book_postings.specs.Posting.{opening_targets}
use Rattle.buckfleet_engine_files.specs.declared.fault.EngineFault.{EngineFault}
use Rattle.buckfleet_trial_sweep.specs.Runs.{IsStop}
use Rattle.buckfleet_trial_wishes.specs.declared.asking.Asking.{Asking}
use Rattle.buckfleet_trial_wishes.specs.declared.outcome.Outcome.{Outcome}
use Rattle.buckfleet_trial_wishes.specs.declared.outcome.Runs.{Runs}
use Rattle.buckfleet_trial_wishes.specs.declared.wish.Told.{Told}
use Rattle.buckfleet_trial_wishes.specs.declared.wish.Wish.{Wish}
use Rattle.buckfleet_trial_wishes.specs.Wishes.{AreRunsOf, AreUnsteered, IsRunOf, IsTold, IsWishAt, place_of}

-- the targets and the logs are those of the instruction
pub record IsAsking (a : Asking) : Type 0 where
  pub few : length a.input.lists.items ≤ 64
  pub targets : a.targets.items ≡ opening_targets a.instruction.value
  pub wanted : MayBeWanted a.instruction.value (opening_targets a.instruction.value)
  pub unsteered : AreUnsteered a.instruction.value a.input.lists.items a.unsteered.items
  pub number : length a.starts.items ≤ 65535

-- a run of an instruction in an order, and in that of each draw
abbrev pub IsRunBy : Asking → InstructionParts → Option ℕ → Outcome → Type 0
IsRunBy a i order run = IsRunOf a.rule i a.input.lists.items (opening_targets a.instruction.value) order run

abbrev pub AreDrawnBy : Asking → InstructionParts → List ℕ → List Outcome → Type 0
AreDrawnBy a i starts drawn = AllZip (λ start run. IsRunBy a i (Some start) run) starts drawn

abbrev pub AreRunsBy : Asking → InstructionParts → Runs → Type 0
AreRunsBy a i runs = AreRunsOf a.rule i a.input.lists.items (opening_targets a.instruction.value) a.starts.items runs

-- such draws, or why there are none
abbrev pub IsDrawnPartBy : Asking → List ℕ → Result (Vec Outcome Global) EngineFault → Type 0
IsDrawnPartBy a starts result =
    IfOk result (λ drawn. AreDrawnBy a a.instruction.value starts drawn.items)
    × IfErr result (IsStop a.input.lists.items)

-- what is known of each wish, or why nothing is
pub record IsToldOf (a : Asking) (whole : Runs) (wish : Wish) (told : Told) : Type 0 where
  pub wish_is : told.wish ≡ wish
  pub is_told : IsTold a.rule a.instruction.value a.input.lists.items a.starts.items a.unsteered.items whole told

abbrev pub AreTold : Asking → Runs → List Wish → List Told → Type 0
AreTold a whole wishes told = AllZip (IsToldOf a whole) wishes told

abbrev pub IsToldPart : Asking → Runs → List Wish → Result (Vec Told Global) EngineFault → Type 0
IsToldPart a whole wishes result =
    IfOk result (λ told. AreTold a whole wishes told.items) × IfErr result (IsStop a.input.lists.items)

-- wishes are such by what the runs share
abbrev pub AreAsked : Asking → List Wish → Type 0
AreAsked a wishes = All (λ w. IsWishAt a.instruction.value a.unsteered.items w.assortment w.class) wishes

-- of each item a number is below that of those behind it
abbrev pub Rises : {X : Type 0} → (X → ℕ) → List X → Type 0
Rises n [] = Unit {0}
Rises n (x ∷ xs) = AllByRecursion (λ y. n x < n y) xs × Rises n xs

-- the wishes whose places are below one, the lower class first
pub record AreBelow (i : InstructionParts) (unsteered : List ℕ) (place : ℕ) (wishes : List Wish) : Type 0 where
  pub each : All (λ w. IsWishAt i unsteered w.assortment w.class) wishes
  pub below : All (λ w. place_of w < place) wishes
  pub rises : Rises place_of wishes
  pub all : (at class : ℕ) → at * 1024 + class < place → IsWishAt i unsteered at class
      → Contains wishes (record { assortment = at; class = class })

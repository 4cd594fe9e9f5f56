-- What the runs of combinations came to, before it is put into lines.
use Rattle.std.specs.Prelude.{◌≡◌, ◌++◌, ℕ, List, [], map, codes, Bool, true, false}
use Rattle.std.specs.List.{AllZip, flat_map}
use Rattle.std.specs.declared.sync.Arc.{Arc}
use Rattle.std.specs.declared.vec.Vec.{Vec}
use Rattle.std.specs.declared.alloc.Global.{Global}
use Rattle.buck_apt_instruction.specs.Instruction.{InstructionParts}
use Rattle.buck_stem_shape.specs.declared.stem.Stem.{Stem}
use Rattle.buckfleet_tasks.specs.declared.combination.Combination.{Combination}
use Rattle.buckfleet_trial_sweep.specs.Runs.{IsRunLine}
use Rattle.buckfleet_trial.specs.declared.trial.Drawn.{Drawn}
use Rattle.buckfleet_trial.specs.Trial.{AreSpreads, IsDrawn}

-- a line for each combination
abbrev pub AreLinesFor : InstructionParts → List (Vec (Arc Stem Global) Global) → List Combination
    → List (Vec ℕ Global) → Type 0
AreLinesFor i lists cs lines = AllZip (λ c line. IsRunLine i lists c line.items) cs lines

-- the draws of a combination, and of each of some
abbrev pub draws_of : Combination → List ℕ → List (Combination × ℕ)
draws_of c starts = map (λ start. (c, start)) starts

abbrev pub all_draws : List Combination → List ℕ → List (Combination × ℕ)
all_draws cs starts = flat_map (λ c. draws_of c starts) cs

-- what all draws of each combination came to
abbrev pub AreDrawnFor : InstructionParts → List (Vec (Arc Stem Global) Global) → List Combination → List ℕ
    → List Drawn → Type 0
AreDrawnFor i lists cs starts drawn = AllZip (λ p d. IsDrawn i lists p.0 p.1 d) (all_draws cs starts) drawn

-- the line of a run was put, and what its draws came to
abbrev pub IsPut : ℕ → List ℕ → List Drawn → List ℕ → List ℕ → Type 0
IsPut best line drawn old new = (own : List ℕ) → line ≡ own ++ codes "\n"
    → (spreads : List ℕ) × AreSpreads best drawn spreads × (new ≡ old ++ (own ++ (spreads ++ codes "\n")))

-- the names of the columns of draws, if there are draws
abbrev pub columns_of : Bool → List ℕ
columns_of true = codes ",least_degree_min,least_degree_mean,least_degree_max,cost_min,cost_mean,cost_max"
columns_of false = []

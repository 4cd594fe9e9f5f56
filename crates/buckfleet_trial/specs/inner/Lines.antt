-- The runs that are planned, and parts of what they came to.
use Rattle.std.specs.Prelude.{ℕ, List, map, Result, IfOk, IfErr}
use Rattle.std.specs.List.{AllZip}
use Rattle.std.specs.declared.sync.Arc.{Arc}
use Rattle.std.specs.declared.vec.Vec.{Vec}
use Rattle.std.specs.declared.alloc.Global.{Global}
use Rattle.buck_apt_instruction.specs.Instruction.{InstructionParts}
use Rattle.buck_stem_shape.specs.declared.stem.Stem.{Stem}
use Rattle.buckfleet_engine_files.specs.declared.fault.EngineFault.{EngineFault}
use Rattle.buckfleet_tasks.specs.declared.combination.Combination.{Combination}
use Rattle.buckfleet_trial_sweep.specs.Runs.{IsStop}
use Rattle.buckfleet_trial.specs.declared.trial.Drawn.{Drawn}
use Rattle.buckfleet_trial.specs.declared.trial.Planned.{Planned}
use Rattle.buckfleet_trial.specs.Trial.{IsDrawn}
use Rattle.buckfleet_trial.specs.Lines.{AreLinesFor}

-- of some combinations, or why there are none
abbrev pub IsLinesPart : InstructionParts → List (Vec (Arc Stem Global) Global) → List Combination
    → Result (Vec (Vec ℕ Global) Global) EngineFault → Type 0
IsLinesPart i lists cs result =
    IfOk result (λ lines. AreLinesFor i lists cs lines.items) × IfErr result (IsStop lists)

-- the draws that are planned
abbrev pub runs_of : List Planned → List (Combination × ℕ)
runs_of planned = map (λ p. (p.combination.now, p.start)) planned

-- what each of some draws came to
abbrev pub AreRun : InstructionParts → List (Vec (Arc Stem Global) Global) → List Planned → List Drawn → Type 0
AreRun i lists planned drawn = AllZip (λ p d. IsDrawn i lists p.combination.now p.start d) planned drawn

abbrev pub IsDrawnPart : InstructionParts → List (Vec (Arc Stem Global) Global) → List Planned
    → Result (Vec Drawn Global) EngineFault → Type 0
IsDrawnPart i lists planned result =
    IfOk result (λ drawn. AreRun i lists planned drawn.items) × IfErr result (IsStop lists)

use Rattle.std.proofs.Common.{take}
use Rattle.buckfleet_engine_files.specs.Several.{AreLawful}
use Rattle.buckfleet_engine_files.proofs.several.replay_several.Given as goal

abbrev pub invariant-loop-place : goal.invariant-loop-place
invariant-loop-place g l =
    AreLawful l.several.instruction.value (take l.place l.several.journals.items)

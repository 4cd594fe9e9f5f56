use Rattle.std.proofs.Common.{◌≡◌, length}
use Rattle.buck_record.specs.checking.Rules.{all_within}
use Rattle.buck_stem.specs.Stm.{starts}
use Rattle.buck_stem.proofs.rules.starts_within.Given as goal

abbrev pub invariant-loop-rest : goal.invariant-loop-rest
invariant-loop-rest l =
    all_within l.slot.low l.slot.high (starts l.rest) ≡ all_within l.slot.low l.slot.high (starts l.zones)

abbrev pub decreases-loop-rest : goal.decreases-loop-rest
decreases-loop-rest l = length l.rest

use Rattle.std.proofs.Common.{◌≡◌, length}
use Rattle.buck_record.specs.checking.Rules.{is_rising}
use Rattle.buck_stem.specs.Stm.{starts}
use Rattle.buck_stem.proofs.rules.starts_rise.Given as goal

abbrev pub invariant-loop-rest : goal.invariant-loop-rest
invariant-loop-rest l = is_rising (starts l.rest) ≡ is_rising (starts l.zones)

abbrev pub decreases-loop-rest : goal.decreases-loop-rest
decreases-loop-rest l = length l.rest

use Rattle.std.proofs.Common.{◌≡◌, take}
use Rattle.buck_record.specs.checking.Rules.{all_within}
use Rattle.buck_record.proofs.checking.rules.all_within.Given as goal

abbrev pub invariant-loop-number : goal.invariant-loop-number
invariant-loop-number l = l.fits ≡ all_within l.low l.high (take l.number-index l.numbers)

use Rattle.std.proofs.Common.{◌≡◌, ◌-◌, drop}
use Rattle.buck_record.specs.checking.Rules.{is_rising}
use Rattle.buck_record.proofs.checking.rules.is_rising.Given as goal

abbrev pub invariant-loop-i : goal.invariant-loop-i
invariant-loop-i l = is_rising (drop (l.i - 1) l.numbers) ≡ is_rising l.numbers

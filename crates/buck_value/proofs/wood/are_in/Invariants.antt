use Rattle.std.proofs.Common.{◌≡◌, ℕ, ◌-◌, ◌<◌, ◌≤◌, Contains}
use Rattle.std.specs.Int.{bit_at}
use Rattle.buck_value.proofs.wood.are_in.Given as goal

abbrev pub invariant-loop-grade : goal.invariant-loop-grade
invariant-loop-grade l = (g : ℕ) → 1 ≤ g → g < l.grade-counter → bit_at l.grades (g - 1) ≡ 1 → Contains l.list g

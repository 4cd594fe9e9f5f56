use Rattle.buck_fleet_world.proofs.Words.{◌≢◌, ℕ, ◌-◌, ◌≤◌, get_or, Answered, newcomer}
use Rattle.buck_fleet_world.proofs.turns.is_nobody_answered.Given as goal

abbrev pub invariant-loop-x : goal.invariant-loop-x
invariant-loop-x l =
    (h : ℕ) → (1 ≤ h) × (h ≤ l.x-index) → (get_or l.harvesters (h - 1) newcomer).stage ≢ Answered

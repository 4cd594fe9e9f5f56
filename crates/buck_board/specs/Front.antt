-- The front, the versions that seats have seen of it, and what each step on it does.
use Rattle.std.specs.Prelude.{◌≡◌, ℕ, ◌<◌, ◌≤◌, ◌^◌, List, [], ◌∷◌, max, All, Contains}
use Rattle.atomic_table.specs.Table.{State, Me, Step}

-- the front rule: the front is below 2 ^ 32, and each version seen is at most the front
pub record IsSeenUpTo (front : ℕ) (seen : List ℕ) : Type 0 where
  pub bounded : front < 2 ^ 32
  pub newest : All (λ version. version ≤ front) seen

-- the rule of the board's table: its one word is the front, its views are the versions seen, and some seat has seen the
-- front; so it opens at the version that the first seat has seen
abbrev pub IsFront : State (Unit {0}) ℕ → Type 0
IsFront s = (front : ℕ) × (s.words ≡ front ∷ []) × IsSeenUpTo front s.views × Contains s.views front

-- what a load tells: the word was found and is seen, and no more had been seen before
abbrev pub Reads : Step (Unit {0}) → Me (Unit {0}) ℕ → ℕ → Me (Unit {0}) ℕ → Type 0
Reads s before found after = (before.0 ≤ found) × (found < 2 ^ 32) × (after.0 ≡ found)

-- what a raise to s.first tells: the greater of that and the word found is seen, and no more than the word had been
-- seen before
abbrev pub Raises : Step (Unit {0}) → Me (Unit {0}) ℕ → ℕ → Me (Unit {0}) ℕ → Type 0
Raises s before found after = (before.0 ≤ found) × (found < 2 ^ 32) × (after.0 ≡ max found s.first)

-- A list of harvesters after one of them changed, read from 1 on.
use Rattle.buck_fleet_world.proofs.Words.{◌≡◌, ◌≢◌, ◌⊎◌, ℕ, ◌-◌, ◌≤◌, List, length, get_or, set, length-set, arith, get_or-set_same, get_or-set_other}

module _ {X : Type 0} where
  pub here : (xs : List X) (h : ℕ) (x d : X) → 1 ≤ h → h ≤ length xs → get_or (set xs (h - 1) x) (h - 1) d ≡ x
  here xs h x d low high = get_or-set_same xs (h - 1) x d (omega arith)

  pub elsewhere : (xs : List X) (h g : ℕ) (x d : X) → 1 ≤ h → 1 ≤ g → g ≢ h
      → get_or (set xs (h - 1) x) (g - 1) d ≡ get_or xs (g - 1) d
  elsewhere xs h g x d low low' other = get_or-set_other xs (h - 1) (g - 1) x d (λ e. other (omega arith))

  -- one of the list after the change is the new one, or another that was there before
  pub each_of : (xs : List X) (h : ℕ) (x d : X) → 1 ≤ h → (g : ℕ) → (1 ≤ g) × (g ≤ length (set xs (h - 1) x))
      → (g ≡ h)
      ⊎ ((g ≢ h) × ((1 ≤ g) × (g ≤ length xs)) × (get_or (set xs (h - 1) x) (g - 1) d ≡ get_or xs (g - 1) d))
  each_of xs h x d low g g_in = grind (arith, length-set, elsewhere)

  -- what holds of each, and of the new one, holds of each after the change
  pub after_set : (P : ℕ → X → Type 0) (xs : List X) (h : ℕ) (x d : X) → 1 ≤ h → h ≤ length xs → P h x
      → ((g : ℕ) → (1 ≤ g) × (g ≤ length xs) → g ≢ h → P g (get_or xs (g - 1) d))
      → (g : ℕ) → (1 ≤ g) × (g ≤ length (set xs (h - 1) x)) → P g (get_or (set xs (h - 1) x) (g - 1) d)
  after_set P xs h x d low high new old g g_in = grind (arith, each_of, here)

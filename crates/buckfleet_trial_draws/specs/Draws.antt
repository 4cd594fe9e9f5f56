-- Orders that are drawn from a seed: the generator is SplitMix64 (Steele, Lea and Flood 2014), a shuffle is that of
-- Fisher and Yates.
use Rattle.std.specs.Prelude.{ℕ, zero, suc, ◌*◌, ◌/◌, ◌^◌, List, [], ◌∷◌, length}
use Rattle.std.specs.List.{swap}
use Rattle.rand_xoshiro.specs.SplitMix64.{mix_u64, next_state}

-- a number below a limit: the high half of the product of the limit and the next word of a state
abbrev pub drawn_below : ℕ → ℕ → ℕ
drawn_below limit state = (mix_u64 state).0 * limit / 2 ^ 64

-- a list whose first places, so many, are still to be gone through, from the last of them down: what stands there
-- changes places with what stands at a place that is drawn among them
abbrev pub shuffled_from : {X : Type 0} → ℕ → ℕ → List X → List X
shuffled_from zero state xs = xs
shuffled_from (suc zero) state xs = xs
shuffled_from (suc (suc k)) state xs =
    shuffled_from (suc k) (next_state state) (swap xs (suc k) (drawn_below (suc (suc k)) state))

-- the state after a shuffle of so many
abbrev pub state_after : ℕ → ℕ → ℕ
state_after zero state = state
state_after (suc zero) state = state
state_after (suc (suc k)) state = state_after (suc k) (next_state state)

-- a shuffled list
abbrev pub shuffled : {X : Type 0} → ℕ → List X → List X
shuffled state xs = shuffled_from (length xs) state xs

-- the order of a draw that begins at a state: list after list
abbrev pub order_of : {X : Type 0} → ℕ → List (List X) → List (List X)
order_of state [] = []
order_of state (xs ∷ more) = shuffled state xs ∷ order_of (state_after (length xs) state) more

-- the state behind a draw
abbrev pub state_behind : {X : Type 0} → ℕ → List (List X) → ℕ
state_behind state [] = state
state_behind state (xs ∷ more) = state_behind (state_after (length xs) state) more

-- the states at which so many draws begin, the first at this one
abbrev pub starts_from : {X : Type 0} → ℕ → ℕ → List (List X) → List ℕ
starts_from zero state lists = []
starts_from (suc k) state lists = state ∷ starts_from k (state_behind state lists) lists

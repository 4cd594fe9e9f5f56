-- A shuffle has each element as often as the list.
use Rattle.std.proofs.Common.{ℕ, zero, suc, ◌*◌, ◌/◌, ◌^◌, ◌<◌, ◌≤◌, List, IsPermutation, arith, length, refl}
use Rattle.std.proofs.lemmas.List.Sorted.{IsPermutation-refl, IsPermutation-swap, IsPermutation-trans, length_permutation}
use Rattle.std.proofs.lemmas.Nat.{div_below, mod_below, mul-add-lt, xor_lt}
use Rattle.std.specs.List.{swap}
use Rattle.rand_xoshiro.specs.SplitMix64.{fold_mul, mix_u64, next_state}
use Rattle.buckfleet_trial_draws.specs.Draws.{drawn_below, shuffled, shuffled_from}

word_low : (state : ℕ) → (mix_u64 state).0 < 2 ^ 64
word_low state =
    let z = fold_mul (fold_mul (next_state state) 30 0xbf58476d1ce4e5b9) 27 0x94d049bb133111eb in
    let low : z < 2 ^ 64 = mod_below _ (2 ^ 64) (omega arith) in
    xor_lt 64 z (z / 2 ^ 31) low (omega (arith, low))

pub place_low : (limit state : ℕ) → 0 < limit → drawn_below limit state < limit
place_low limit state some = div_below ((mix_u64 state).0 * limit) (2 ^ 64) limit (omega arith)
    (omega (arith, mul-add-lt (mix_u64 state).0 limit 0 (2 ^ 64) (word_low state) some))

permuted : {X : Type 0} → (places state : ℕ) (xs : List X) → places ≤ length xs
    → IsPermutation xs (shuffled_from places state xs)
permuted zero state xs within = IsPermutation-refl xs
permuted (suc zero) state xs within = IsPermutation-refl xs
permuted (suc (suc k)) state xs within =
    let place = drawn_below (suc (suc k)) state in
    let first = IsPermutation-swap xs (swap xs (suc k) place) (suc k) place (omega (arith, within))
    (omega (arith, within, place_low (suc (suc k)) state (omega arith))) refl in
    IsPermutation-trans _ _ _ first
    (permuted (suc k) (next_state state) (swap xs (suc k) place)
    (omega (arith, within, length_permutation xs (swap xs (suc k) place) first)))

pub is_permutation : {X : Type 0} → (state : ℕ) (xs : List X) → IsPermutation xs (shuffled state xs)
is_permutation state xs = permuted (length xs) state xs (omega arith)

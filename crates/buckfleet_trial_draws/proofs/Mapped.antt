-- A shuffle of what a function makes of the elements.
use Rattle.std.proofs.Common.{◌≡◌, ◌∙◌, ℕ, zero, suc, ◌<◌, ◌≤◌, List, [], ◌∷◌, ap, arith, get_or, length, map, refl, set, sym}
use Rattle.std.proofs.lemmas.List.{get_or-map, length-map, map-set}
use Rattle.std.proofs.lemmas.List.Sorted.{IsPermutation-swap, length_permutation}
use Rattle.std.specs.List.{swap}
use Rattle.rand_xoshiro.specs.SplitMix64.{next_state}
use Rattle.buckfleet_trial_draws.specs.Draws.{drawn_below, shuffled, shuffled_from}
use Rattle.buckfleet_trial_draws.proofs.Permuted.{place_low}

map_swap : {X Y : Type 0} (f : X → Y) → (xs : List X) (i j : ℕ) → i < length xs → j < length xs
    → map f (swap xs i j) ≡ swap (map f xs) i j
map_swap f [] i j li lj = absurd (omega (arith, li))
map_swap f (d ∷ ys) i j li lj =
    map-set f (set (d ∷ ys) i (get_or (d ∷ ys) j d)) j (get_or (d ∷ ys) i d)
    ∙ ap (λ zs. set zs j (f (get_or (d ∷ ys) i d))) (map-set f (d ∷ ys) i (get_or (d ∷ ys) j d))
    ∙ ap (λ a. set (set (map f (d ∷ ys)) i a) j (f (get_or (d ∷ ys) i d)))
    (sym (get_or-map f (d ∷ ys) j d (f d) lj))
    ∙ ap (λ b. set (set (map f (d ∷ ys)) i (get_or (map f (d ∷ ys)) j (f d))) j b)
    (sym (get_or-map f (d ∷ ys) i d (f d) li))

mapped : {X Y : Type 0} (f : X → Y) → (places state : ℕ) (xs : List X) → places ≤ length xs
    → map f (shuffled_from places state xs) ≡ shuffled_from places state (map f xs)
mapped f zero state xs within = refl
mapped f (suc zero) state xs within = refl
mapped f (suc (suc k)) state xs within =
    let place = drawn_below (suc (suc k)) state in
    let low = place_low (suc (suc k)) state (omega arith) in
    let long = length_permutation xs (swap xs (suc k) place)
    (IsPermutation-swap xs (swap xs (suc k) place) (suc k) place (omega (arith, within)) (omega (arith, within, low)) refl) in
    mapped f (suc k) (next_state state) (swap xs (suc k) place) (omega (arith, within, long))
    ∙ ap (λ zs. shuffled_from (suc k) (next_state state) zs)
    (map_swap f xs (suc k) place (omega (arith, within)) (omega (arith, within, low)))

pub is_mapped : {X Y : Type 0} (f : X → Y) → (state : ℕ) (xs : List X)
    → map f (shuffled state xs) ≡ shuffled state (map f xs)
is_mapped f state xs =
    mapped f (length xs) state xs (omega arith)
    ∙ ap (λ n. shuffled_from n state (map f xs)) (sym (length-map xs f))

-- One place more of a shuffle.
use Rattle.std.proofs.Common.{◌≡◌, ◌∙◌, ℕ, zero, suc, ◌+◌, ◌-◌, ◌^◌, ◌<◌, List, [], ◌∷◌, ◌++◌, ap, append_assoc, arith, length, refl, subst}
use Rattle.std.proofs.lemmas.Nat.{mod_below}
use Rattle.std.specs.List.{swap}
use Rattle.rand_xoshiro.specs.SplitMix64.{next_state}
use Rattle.buckfleet_trial_draws.specs.Draws.{drawn_below, shuffled_from, starts_from, state_after, state_behind}

-- with two places or more to go through, the last of them is done first
list_step : {X : Type 0} → (last state : ℕ) (xs : List X) → 0 < last
    → shuffled_from last (next_state state) (swap xs last (drawn_below (last + 1) state))
    ≡ shuffled_from (last + 1) state xs
list_step zero state xs some = absurd (omega arith)
list_step (suc k) state xs some =
    let next : suc (suc k) ≡ suc k + 1 = omega arith in
    subst (λ n. shuffled_from (suc k) (next_state state) (swap xs (suc k) (drawn_below n state))
    ≡ shuffled_from n state xs) next refl

state_step : (last state : ℕ) → 0 < last → state_after last (next_state state) ≡ state_after (last + 1) state
state_step zero state some = absurd (omega arith)
state_step (suc k) state some =
    let next : suc (suc k) ≡ suc k + 1 = omega arith in
    subst (λ n. state_after (suc k) (next_state state) ≡ state_after n state) next refl

-- what is still to be done of a shuffle after one place more
pub list_kept : {X : Type 0} → (after place state then : ℕ) (xs ys : List X) → after < length xs
    → length ys ≡ length xs → ys ≡ swap xs (length xs - after) place
    → place ≡ drawn_below (length xs - after + 1) state → then ≡ next_state state
    → shuffled_from (length ys + 1 - (after + 1)) then ys ≡ shuffled_from (length xs + 1 - after) state xs
list_kept after place state then xs ys lt long is place_is then_is =
    let fewer : length ys + 1 - (after + 1) ≡ length xs - after = omega (arith, lt, long) in
    let more : length xs - after + 1 ≡ length xs + 1 - after = omega (arith, lt) in
    ap (λ n. shuffled_from n then ys) fewer
    ∙ ap (λ s. shuffled_from (length xs - after) s ys) then_is
    ∙ ap (λ zs. shuffled_from (length xs - after) (next_state state) zs) is
    ∙ ap (λ p. shuffled_from (length xs - after) (next_state state) (swap xs (length xs - after) p)) place_is
    ∙ list_step (length xs - after) state xs (omega (arith, lt))
    ∙ ap (λ n. shuffled_from n state xs) more

pub state_kept : (after number state then : ℕ) → after < number → then ≡ next_state state
    → state_after (number + 1 - (after + 1)) then ≡ state_after (number + 1 - after) state
state_kept after number state then lt then_is =
    let fewer : number + 1 - (after + 1) ≡ number - after = omega (arith, lt) in
    let more : number - after + 1 ≡ number + 1 - after = omega (arith, lt) in
    ap (λ n. state_after n then) fewer
    ∙ ap (λ s. state_after (number - after) s) then_is
    ∙ state_step (number - after) state (omega (arith, lt))
    ∙ ap (λ n. state_after n state) more

-- one draw more begins
pub start_step : {X : Type 0} → (number counter state then start : ℕ) (lists : List (List X)) (starts more : List ℕ)
    → counter < number → more ≡ starts ++ start ∷ [] → start ≡ state → then ≡ state_behind state lists
    → more ++ starts_from (number - (counter + 1)) then lists ≡ starts ++ starts_from (number - counter) state lists
start_step number counter state then start lists starts more lt is start_is then_is =
    let next : suc (number - (counter + 1)) ≡ number - counter = omega (arith, lt) in
    ap (λ xs. xs ++ starts_from (number - (counter + 1)) then lists) is
    ∙ append_assoc starts (start ∷ []) (starts_from (number - (counter + 1)) then lists)
    ∙ ap (λ s. starts ++ s ∷ starts_from (number - (counter + 1)) then lists) start_is
    ∙ ap (λ s. starts ++ state ∷ starts_from (number - (counter + 1)) s lists) then_is
    ∙ ap (λ n. starts ++ starts_from n state lists) next

next_low : (state : ℕ) → next_state state < 2 ^ 64
next_low state = mod_below (state + 0x9e3779b97f4a7c15) (2 ^ 64) (omega arith)

after_low : (number state : ℕ) → state < 2 ^ 64 → state_after number state < 2 ^ 64
after_low zero state low = low
after_low (suc zero) state low = low
after_low (suc (suc k)) state low = after_low (suc k) (next_state state) (next_low state)

-- a state behind a draw is one of 64 bits too
pub behind_low : {X : Type 0} → (state : ℕ) (lists : List (List X)) → state < 2 ^ 64 → state_behind state lists < 2 ^ 64
behind_low state [] low = low
behind_low state (xs ∷ more) low = behind_low (state_after (length xs) state) more (after_low (length xs) state low)

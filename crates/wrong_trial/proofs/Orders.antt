-- Orders have as many stems as the lists.
use Rattle.std.proofs.Common.{◌≡◌, ◌∙◌, ℕ, ◌<◌, List, [], ◌∷◌, ap, arith, get_or, length, map, refl, slice_index_or, sym}
use Rattle.std.proofs.lemmas.List.{get_or-map, length-map}
use Rattle.std.proofs.lemmas.List.Sorted.{length_permutation}
use Rattle.buckfleet_trial_draws.specs.Draws.{order_of, shuffled, state_after}
use Rattle.buckfleet_trial_draws.proofs.Permuted.{is_permutation}

-- of each list
lengths : {X : Type 0} → (state : ℕ) (lists : List (List X))
    → map (λ l. length l) (order_of state lists) ≡ map (λ l. length l) lists
lengths state [] = refl
lengths state (xs ∷ more) =
    let long : length (shuffled state xs) ≡ length xs =
    omega (arith, length_permutation xs (shuffled state xs) (is_permutation state xs)) in
    ap (λ n. n ∷ map (λ l. length l) (order_of (state_after (length xs) state) more)) long
    ∙ ap (λ ns. length xs ∷ ns) (lengths (state_after (length xs) state) more)

-- a function over elements keeps the number of them
sizes : {A X Y : Type 0} (items : A → List X) (f : X → Y) → (xs : List A)
    → map (λ l. length l) (map (λ a. map f (items a)) xs) ≡ map (λ a. length (items a)) xs
sizes items f [] = refl
sizes items f (x ∷ xs) =
    ap (λ n. n ∷ map (λ l. length l) (map (λ a. map f (items a)) xs)) (length-map (items x) f)
    ∙ ap (λ ns. length (items x) ∷ ns) (sizes items f xs)

pub as_many : {A X Y : Type 0} (items : A → List X) (f : X → Y) → (state k : ℕ) (lists order : List A) (d e : A)
    → map (λ a. map f (items a)) order ≡ order_of state (map (λ a. map f (items a)) lists)
    → k < length order → k < length lists
    → length (items (get_or order k d)) ≡ length (items (get_or lists k e))
as_many items f state k lists order d e is lt lt_too =
    let same : map (λ a. length (items a)) order ≡ map (λ a. length (items a)) lists =
    sym (sizes items f order) ∙ ap (λ ls. map (λ l. length l) ls) is
    ∙ lengths state (map (λ a. map f (items a)) lists) ∙ sizes items f lists in
    sym (get_or-map (λ a. length (items a)) order k d 0 lt) ∙ ap (λ ns. get_or ns k 0) same
    ∙ get_or-map (λ a. length (items a)) lists k e 0 lt_too

-- what seed 0 makes of four numbers begins with the third
pub begins : (state : ℕ) (list : List ℕ) → list ≡ shuffled state (1 ∷ 2 ∷ 3 ∷ 4 ∷ []) → state ≡ 0
    → slice_index_or list 0 0 ≡ 3
begins state list is seed =
    ap (λ (l : List ℕ). slice_index_or l 0 0) (is ∙ ap (λ s. shuffled s (1 ∷ 2 ∷ 3 ∷ 4 ∷ [])) seed)

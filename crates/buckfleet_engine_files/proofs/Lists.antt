-- A list of files of which one more was read.
use Rattle.std.proofs.Common.{◌≡◌, ℕ, ◌+◌, ◌<◌, List, length, map, drop, get_or, set, Option, None, sym, ap, ◌∙◌, arith}
use Rattle.std.proofs.lemmas.List.{drop-set-lt, get_or-drop, get_or-map}
use Rattle.std.proofs.lemmas.Grind.{drop_more_same}

-- what stands at a place of what is left as it was
pub same_place : {A : Type 0} (f : A → Option (List ℕ)) (now old : List A) (k : ℕ) (x : A) → k < length old
    → drop k now ≡ drop k old → f (get_or now k x) ≡ get_or (map f old) k None
same_place f now old k x lt same =
    let none : k + 0 ≡ k = omega arith in
    let a : get_or now k x ≡ get_or (drop k now) 0 x =
    sym (get_or-drop k now 0 x ∙ ap (λ (n : ℕ). get_or now n x) none) in
    let b : get_or (drop k old) 0 x ≡ get_or old k x = get_or-drop k old 0 x ∙ ap (λ (n : ℕ). get_or old n x) none in
    let there : get_or now k x ≡ get_or old k x = a ∙ ap (λ (l : List _). get_or l 0 x) same ∙ b in
    ap f there ∙ sym (get_or-map f old k x None lt)

-- and of the places after it, if it is replaced
pub same_rest : {A : Type 0} (now old : List A) (k : ℕ) (y : A) → drop k now ≡ drop k old
    → drop (k + 1) (set now k y) ≡ drop (k + 1) old
same_rest now old k y same = drop-set-lt (k + 1) now k y (omega arith) ∙ drop_more_same now old k same

-- The sheets of the first versions, one more.
use Rattle.buck_book_replay.proofs.Words.{◌≡◌, ℕ, zero, suc, List, [], ◌∷◌, ◌++◌, length, map, slice_get, Some, refl, sym, ◌∙◌, ap, arith, length_push, length-map, map-append, InstructionParts, SheetParts, sheet_at, AreMade}

kept_at : {X : Type 0} (xs : List X) (y x : X) (k : ℕ) → slice_get xs k ≡ Some x → slice_get (xs ++ y ∷ []) k ≡ Some x
kept_at [] y x k there = absurd (cc)
kept_at (z ∷ xs) y x zero there = there
kept_at (z ∷ xs) y x (suc k) there = kept_at xs y x k there

pushed_at : {X : Type 0} (xs : List X) (y : X) → slice_get (xs ++ y ∷ []) (length xs) ≡ Some y
pushed_at [] y = refl
pushed_at (x ∷ xs) y = pushed_at xs y

one_made : (i : InstructionParts) (sheets : List (List ℕ)) (made : List SheetParts) (s : SheetParts)
    → AreMade i sheets made → s ≡ sheet_at i sheets (length made) → AreMade i sheets (made ++ s ∷ [])
one_made i sheets made s are is version lt = grind (arith, pushed_at, kept_at, length_push)

-- the same of a list of what the sheets stand in
pub one_more : {A : Type 0} (f : A → SheetParts) (i : InstructionParts) (sheets : List (List ℕ)) (old new : List A)
    (x : A) (version : ℕ)
    → AreMade i sheets (map f old) → length old ≡ version → new ≡ old ++ x ∷ [] → f x ≡ sheet_at i sheets version
    → AreMade i sheets (map f new)
one_more f i sheets old new x version are count more is =
    rw (more, map-append f old (x ∷ []))
    (one_made i sheets (map f old) (f x) are
    (is ∙ ap (λ n. sheet_at i sheets n) (sym (length-map old f ∙ count))))

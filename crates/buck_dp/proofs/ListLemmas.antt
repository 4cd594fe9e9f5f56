-- Lists that grow, and what stands in lists.
use Rattle.buck_dp.proofs.Words.{All, All-contains, ◌≡◌, ℕ, ◌+◌, ◌%◌, ◌<◌, List, [], ◌∷◌, ◌++◌, Contains, length, length-append, slice_get, Some, refl, sym, arith, slice_get_within, slice_get_read, get_or_from_slice_get, get_or_push}
use Rattle.buck_dp.proofs.Words.{AssortmentParts, InstructionParts, IsInstruction, inl, inr, Contains-push_cases}

-- what stands at a place of a list is in it
pub has_at : {X : Type 0} (xs : List X) (k : ℕ) (x : X) → slice_get xs k ≡ Some x → Contains xs x
has_at xs k x at = (k, slice_get_within xs k x at, get_or_from_slice_get xs k x x at)

-- what holds at the first `n` places of a list and at the next, holds at one more
pub more_at : {X : Type 0} (P : ℕ → X → Type 0) (xs : List X) (n : ℕ) (x : X) → slice_get xs n ≡ Some x
    → ((a : ℕ) (y : X) → a < n → slice_get xs a ≡ Some y → P a y) → P n x
    → (a : ℕ) (y : X) → a < n + 1 → slice_get xs a ≡ Some y → P a y
more_at P xs n x at was now a y lt there = grind arith

-- each length of a valid instruction is a multiple of the module
pub on_module : (i : InstructionParts) (a : ℕ) (x : AssortmentParts) (l : ℕ) → IsInstruction i
    → slice_get i.assortments a ≡ Some x → Contains x.lengths l → l % i.«module» ≡ 0
on_module i a x l v at has = search (arith, All-contains, has_at)

-- one more stands behind all others
pub pushed_at : {X : Type 0} (xs : List X) (y : X) (k : ℕ) → length xs ≡ k → slice_get (xs ++ y ∷ []) k ≡ Some y
pushed_at xs y k e = slice_get_read _ _ k y refl (grind (arith, length-append)) (sym (get_or_push xs y y k e))

-- what holds of all in a list holds of what stands at a place
pub all_at : {X : Type 0} (P : X → Type 0) (xs : List X) → All P xs → (k : ℕ) (x : X) → slice_get xs k ≡ Some x → P x
all_at P xs all k x at = All-contains P xs x all (has_at xs k x at)

-- what is in a list stands at a place
pub place_of : {X : Type 0} (xs : List X) (x : X) → (has : Contains xs x) → slice_get xs has.0 ≡ Some x
place_of xs x has = slice_get_read xs (length xs) has.0 x refl has.1 (sym has.2)

-- what holds of each element of a list, and of one more, holds of each once that is pushed
pub push_each : {X : Type 0} (P : X → Type 0) (xs : List X) (t : X)
    → ((k : ℕ) (x : X) → slice_get xs k ≡ Some x → P x) → P t
    → (k : ℕ) (x : X) → slice_get (xs ++ t ∷ []) k ≡ Some x → P x
push_each P xs t old new k x at = elim (Contains-push_cases xs t x (has_at (xs ++ t ∷ []) k x at)) [
  | inl was ↦ old was.0 x (place_of xs x was)
  | inr is ↦ rw (sym is) new
]

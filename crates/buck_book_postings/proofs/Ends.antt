-- Ends, and the targets in force, of longer and of shorter lists of postings.
use Rattle.buck_book_postings.proofs.Words.{◌≡◌, ℕ, ◌+◌, ◌<◌, ◌≤◌, true, false, cond, List, [], ◌∷◌, ◌++◌, length, take, drop, slice_get, Some, refl, ◌∙◌, ap, arith, eq-eqb, false_from_ne_true, take-append-drop, take_more, slice_get_within}
use Rattle.buck_book_postings.proofs.Words.{get_or_from_slice_get, InstructionParts, Posting, Cut, Demand, DemandParts, is_end, ends_from, cuts_from, ends_of, cuts_since_end, targets_after, IsEnd}

pub true_false : true ≡ false → ⊥
true_false e = absurd (cc)

-- the first postings and the next one
pub take_one_more : {X : Type 0} (xs : List X) (k : ℕ) (x : X) → slice_get xs k ≡ Some x
    → take (k + 1) xs ≡ take k xs ++ x ∷ []
take_one_more xs k x at = take_more xs k x (slice_get_within xs k x at)
    ∙ ap (λ y. take k xs ++ y ∷ []) (get_or_from_slice_get xs k x x at)

module _ (p n : ℕ) (x : Posting) (xs : List Posting) where
  pub ends_yes : is_end p n x ≡ true → ends_from p n (x ∷ xs) ≡ 1 + ends_from p 0 xs
  ends_yes e = ap (λ b. cond b (1 + ends_from p 0 xs) (ends_from p (n + 1) xs)) e

  pub ends_no : is_end p n x ≡ false → ends_from p n (x ∷ xs) ≡ ends_from p (n + 1) xs
  ends_no e = ap (λ b. cond b (1 + ends_from p 0 xs) (ends_from p (n + 1) xs)) e

  pub cuts_yes : is_end p n x ≡ true → cuts_from p n (x ∷ xs) ≡ cuts_from p 0 xs
  cuts_yes e = ap (λ b. cond b (cuts_from p 0 xs) (cuts_from p (n + 1) xs)) e

  pub cuts_no : is_end p n x ≡ false → cuts_from p n (x ∷ xs) ≡ cuts_from p (n + 1) xs
  cuts_no e = ap (λ b. cond b (cuts_from p 0 xs) (cuts_from p (n + 1) xs)) e

pub ends-append : (p n : ℕ) (xs ys : List Posting)
    → ends_from p n (xs ++ ys) ≡ ends_from p n xs + ends_from p (cuts_from p n xs) ys
ends-append p n [] ys = omega arith
ends-append p n (x ∷ xs) ys =
    grind (arith, ends_yes, ends_no, cuts_yes, cuts_no, (ends-append p 0 xs ys), (ends-append p (n + 1) xs ys))

pub cuts-append : (p n : ℕ) (xs ys : List Posting) → cuts_from p n (xs ++ ys) ≡ cuts_from p (cuts_from p n xs) ys
cuts-append p n [] ys = refl
cuts-append p n (x ∷ xs) ys =
    grind (arith, cuts_yes, cuts_no, (cuts-append p 0 xs ys), (cuts-append p (n + 1) xs ys))

module _ (i : InstructionParts) (ps : List Posting) (x : Posting) where
  pub ends_with_end : IsEnd i ps x → ends_of i (ps ++ x ∷ []) ≡ ends_of i ps + 1
  ends_with_end e = grind (arith, ends-append, ends_yes)

  pub ends_without : (IsEnd i ps x → ⊥) → ends_of i (ps ++ x ∷ []) ≡ ends_of i ps
  ends_without e = grind (arith, ends-append, ends_no, false_from_ne_true)

  pub cuts_with_end : IsEnd i ps x → cuts_since_end i (ps ++ x ∷ []) ≡ 0
  cuts_with_end e = cuts-append i.period 0 ps (x ∷ []) ∙ cuts_yes i.period (cuts_since_end i ps) x [] e

  pub cuts_without : (IsEnd i ps x → ⊥) → cuts_since_end i (ps ++ x ∷ []) ≡ cuts_since_end i ps + 1
  cuts_without e = grind (arith, cuts-append, cuts_no, false_from_ne_true)

-- the ends before a demand, the demand itself, and those of what comes after it as of a new history
module _ (i : InstructionParts) (before after : List Posting) (d : DemandParts) where
  pub ends_around : ends_of i (before ++ Demand d ∷ after) ≡ ends_of i before + 1 + ends_of i after
  ends_around = ends-append i.period 0 before (Demand d ∷ after) ∙ omega arith

  pub cuts_around : cuts_since_end i (before ++ Demand d ∷ after) ≡ cuts_since_end i after
  cuts_around = cuts-append i.period 0 before (Demand d ∷ after)

-- fewer postings have no more ends
pub ends_take-le : (i : InstructionParts) (ps : List Posting) (k : ℕ) → ends_of i (take k ps) ≤ ends_of i ps
ends_take-le i ps k =
    omega (arith, ends-append i.period 0 (take k ps) (drop k ps), ap (λ xs. ends_of i xs) (take-append-drop k ps))

-- an end within some postings is counted
pub ends_past : (i : InstructionParts) (ps : List Posting) (k : ℕ) (x : Posting) → slice_get ps k ≡ Some x
    → IsEnd i (take k ps) x → ends_of i (take k ps) + 1 ≤ ends_of i ps
ends_past i ps k x at e =
    omega (
      arith,
      ends_take-le i ps (k + 1),
      ap (λ xs. ends_of i xs) (take_one_more ps k x at),
      ends_with_end i (take k ps) x e,
    )

pub ends-le : (p n : ℕ) (ps : List Posting) → ends_from p n ps ≤ length ps
ends-le p n [] = omega arith
ends-le p n (x ∷ xs) = grind (arith, ends_yes, ends_no, (ends-le p 0 xs), (ends-le p (n + 1) xs))

-- a period has fewer cuts than make it full
pub cuts_low : (p n : ℕ) (ps : List Posting) → 0 < p → n < p → cuts_from p n ps < p
cuts_low p n [] pos lt = lt
cuts_low p n (x ∷ xs) pos lt =
    grind (arith, cuts_yes, cuts_no, eq-eqb, true_false, (cuts_low p 0 xs pos pos), (cuts_low p (n + 1) xs pos))

pub targets-append : (ts : List ℕ) (xs ys : List Posting)
    → targets_after ts (xs ++ ys) ≡ targets_after (targets_after ts xs) ys
targets-append ts [] ys = refl
targets-append ts (Cut e ∷ xs) ys = targets-append ts xs ys
targets-append ts (Demand d ∷ xs) ys = targets-append d.targets xs ys

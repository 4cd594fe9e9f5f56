-- The sheets of a book.
use Rattle.buck_book_postings.proofs.Words.{◌≡◌, ℕ, zero, suc, ◌+◌, ◌*◌, ◌<◌, ◌≤◌, List, [], ◌∷◌, ◌++◌, All, length, get_or, refl, ap, arith, mul-le-mul_right, sum_by-le, All-weaker, InstructionParts, AssortmentParts, IsInstruction}
use Rattle.buck_book_postings.proofs.Words.{IsAssortment, classes, classes_of, SheetParts, sheet_of, sheets_from}

pub length-sheets_from : (v : ℕ) (i : InstructionParts) (pss : List (List ℕ))
    → length (sheets_from v i pss) ≡ length pss
length-sheets_from v i [] = refl
length-sheets_from v i (ps ∷ pss) = ap suc (length-sheets_from (v + 1) i pss)

pub get_or-sheets_from : (v : ℕ) (i : InstructionParts) (pss : List (List ℕ)) (k : ℕ) (d : SheetParts) → k < length pss
    → get_or (sheets_from v i pss) k d ≡ sheet_of (v + k) i (get_or pss k [])
get_or-sheets_from v i [] k d lt = absurd (omega arith)
get_or-sheets_from v i (ps ∷ pss) zero d lt = let e : v ≡ v + 0 = omega arith in ap (λ x. sheet_of x i ps) e
get_or-sheets_from v i (ps ∷ pss) (suc k) d lt = grind (arith, (get_or-sheets_from (v + 1) i pss k d (omega arith)))

pub sheets_from-append : (v : ℕ) (i : InstructionParts) (pss qss : List (List ℕ))
    → sheets_from v i (pss ++ qss) ≡ sheets_from v i pss ++ sheets_from (v + length pss) i qss
sheets_from-append v i [] qss = let e : v ≡ v + 0 = omega arith in ap (λ x. sheets_from x i qss) e
sheets_from-append v i (ps ∷ pss) qss = grind (arith, (sheets_from-append (v + 1) i pss qss))

-- an instruction has at most 16,384 classes
pub classes-le : (i : InstructionParts) → IsInstruction i → classes i ≤ 16384
classes-le i v =
    let each : All (λ a. classes_of a ≤ 1024) i.assortments =
    All-weaker IsAssortment (λ a. classes_of a ≤ 1024) (λ a w. small a w) i.assortments v.assortments_valid in
    omega (arith, sum_by-le classes_of 1024 i.assortments each, v.assortments_number)
  where
    small : (a : AssortmentParts) → IsAssortment a → classes_of a ≤ 1024
    small a w = let h : length a.diameters * length a.lengths ≤ 32 * length a.lengths =
        mul-le-mul_right (length a.lengths) w.rows.1 in omega (arith, w.columns)

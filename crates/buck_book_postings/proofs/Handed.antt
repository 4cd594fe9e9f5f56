-- what is handed out of a book
use Rattle.buck_book_postings.proofs.Words.{◌≡◌, ℕ, ◌+◌, ◌-◌, ◌<◌, List, [], ◌∷◌, length, get_or, refl, ap, ◌∙◌, map, arith, InstructionParts, SheetParts, Posting, HistoryParts, IsLawful, in_force, sheets_from}
pub use Rattle.buck_book_postings.specs.inner.Parts.{history_of}
use Rattle.buck_book_postings.proofs.Sheets.{length-sheets_from, get_or-sheets_from}

-- the prices of a book's sheets
pub prices_are : {A : Type 0} (f : A → SheetParts) (xs : List A) (v : ℕ) (i : InstructionParts) (prices : List (List ℕ))
    → map f xs ≡ sheets_from v i prices → map (λ (a : A). (f a).prices) xs ≡ prices
prices_are f xs v i prices e = fused f xs ∙ ap (λ (l : List SheetParts). map (λ (s : SheetParts). s.prices) l) e
    ∙ from v i prices where
      fused : {A : Type 0} (f : A → SheetParts) (xs : List A)
          → map (λ (a : A). (f a).prices) xs ≡ map (λ (s : SheetParts). s.prices) (map f xs)
      fused f [] = refl
      fused f (x ∷ xs) = ap (λ (l : List (List ℕ)). (f x).prices ∷ l) (fused f xs)

      from : (v : ℕ) (i : InstructionParts) (prices : List (List ℕ))
          → map (λ (s : SheetParts). s.prices) (sheets_from v i prices) ≡ prices
      from v i [] = refl
      from v i (p ∷ ps) = ap (λ (l : List (List ℕ)). p ∷ l) (from (v + 1) i ps)

pub history_same : (h : HistoryParts) (i : InstructionParts) (prices : List (List ℕ)) (ps : List Posting)
    → i ≡ h.instruction → prices ≡ h.sheets → ps ≡ h.postings → history_of i prices ps ≡ h
history_same h i prices ps a b c = λ t. record { instruction = a t; sheets = b t; postings = c t }

-- the last of a lawful history's sheets is the one in force
pub last_is : (h : HistoryParts) (sheets : List SheetParts) (d : SheetParts) → IsLawful h
    → sheets ≡ sheets_from 0 h.instruction h.sheets
    → (0 < length sheets) × (get_or sheets (length sheets - 1) d ≡ in_force h)
last_is h sheets d lawful e = grind (arith, length-sheets_from, get_or-sheets_from)

-- Items without a demand are read as in the words that know of none.
use Rattle.buck_book_laws.proofs.Words.{◌≡◌, ℕ, suc, ◌+◌, false, List, [], ◌∷◌, Option, Some, None, inl, inr, drop, slice_get, refl, arith, or-false, cases_Bool, ItemParts, is_at, slot, follows, cut_at, posting_at, sheets_from}
use Rattle.buck_book_laws.proofs.Words.{postings_from, journal_in}
use Rattle.buck_book_laws.specs.JournalsOfCuts as alone

follows_alone : (place : ℕ) (o : Option ItemParts) → ((x : ItemParts) → o ≡ Some x → is_at (slot 982 1) x ≡ false)
    → follows place o ≡ alone.follows place o
follows_alone place None h = refl
follows_alone place (Some x) h = rw (h x refl, or-false) refl

cut_alone : (items : List ItemParts) (k before : ℕ) → alone.HasNoDemand items
    → cut_at items k before ≡ alone.cut_at items k before
unfolding cut_at alone.cut_at
cut_alone items k before none = rw (follows_alone (k + 7) (slice_get items 6) (none 6)) refl

later : (x : ItemParts) (more : List ItemParts) → alone.HasNoDemand (x ∷ more) → alone.HasNoDemand more
later x more none = λ k y there. none (suc k) y there

postings_alone : (k before : ℕ) (items : List ItemParts) → alone.HasNoDemand items
    → postings_from k before items ≡ alone.cuts_from k before items
unfolding postings_from posting_at alone.cuts_from
postings_alone k before [] none = refl
postings_alone k before (x ∷ more) none =
    let rest = λ (b : ℕ). postings_alone (k + 1) b more (later x more none) in
    elim (cases_Bool (is_at (slot 981 1) x)) [
      | inl yes_ ↦ rw (none 0 x refl, yes_, cut_alone (x ∷ more) k before none, rest (before + 1)) refl
      | inr no_ ↦ rw (none 0 x refl, no_, rest before) refl
    ]

sheets_alone : (k : ℕ) (items : List ItemParts) → alone.HasNoDemand items
    → sheets_from k items ≡ alone.sheets_from k items
unfolding sheets_from alone.sheets_from
sheets_alone k [] none = refl
sheets_alone k (x ∷ more) none = rw (none 0 x refl, or-false, sheets_alone (k + 1) more (later x more none)) refl

behind_first : (items : List ItemParts) → alone.HasNoDemand items → alone.HasNoDemand (drop 1 items)
behind_first [] none = none
behind_first (x ∷ more) none = later x more none

pub journal_alone : (items : List ItemParts) → alone.HasNoDemand items → journal_in items ≡ alone.journal_in items
unfolding journal_in alone.journal_in
journal_alone items none = grind (arith, sheets_alone, behind_first, postings_alone)

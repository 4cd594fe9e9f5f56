-- Lists and rows that are kept.
use Rattle.buck_dp.proofs.Words.{All, get_or, slice_get_read, IsListAt, AssortmentSet, CacheParts, IsCache, IsInBand, row_of, length, ◌≡◌, ◌≤◌, arith, ℕ, List, [], ◌∷◌, ◌++◌, length-append, AllAre, sym, rules, same_Some, length-drop}
use Rattle.buck_dp.proofs.Words.{drop_at, Candidate, drop-append-le, take-append-le, take_all, RowEntry, Cell, CandidateList, IsRow, IsAt, HasCandidates, IsSmall, SheetParts, LogTypes, Stands, IsRowAt, refl}
use Rattle.buck_dp.proofs.ListLemmas.{push_each, pushed_at}
use Rattle.buck_dp.proofs.CandidateLemmas.{row_right, candidate_short}

-- what is put behind others stands there
stands_last : {X : Type 0} (P : X → Type 0) (xs : List X) (x : X) (n : ℕ) → length xs ≡ n → P x
    → Stands P (xs ++ x ∷ []) n
stands_last P xs x n at right = grind (arith, length-append, same_Some, pushed_at)

module _ {X : Type 0} (P : CandidateList X → Type 0) (lists : List (CandidateList X)) (are : AllAre P lists) where
  -- a list that is put behind others is found there, and all are right
  pub list_put : {new : List (CandidateList X)} {l : CandidateList X} {d : ℕ} (n : ℕ) → new ≡ lists ++ l ∷ []
      → length lists ≡ n → P l → IsInBand l.key.band d → AllAre P new × IsListAt new l.key.takers d n
  list_put {new} {l} {d} n is at right in_band =
      rw is (push_each P lists l are right, stands_last _ lists l n at (refl, in_band))

  -- the list that is found is right, as the code reads it
  pub list_found : {l : CandidateList X} {n d : ℕ} {takers : AssortmentSet} → IsListAt lists takers d n
      → l ≡ get_or lists n l → P l × (l.key.takers ≡ takers) × IsInBand l.key.band d
  list_found {l} {n} there is = search (rules, slice_get_read)

-- the candidates that are found make a row, and it has what their takers bid
pub row_found : {x : CacheParts} {l : CandidateList Candidate} {n d : ℕ} {takers : AssortmentSet} → IsCache x
    → IsListAt x.candidates takers d n → l ≡ get_or x.candidates n l
    → All (λ q. IsSmall q × (q.term.steps ≤ x.types.most_steps)) l.list.items
    × IsRow x.sheet x.types.list.items takers d x.types.most_steps (row_of x.types.most_steps d l.list.items)
row_found {x} {l} {n} {d} is_cache there is =
    let found = list_found (HasCandidates x.sheet x.types) x.candidates is_cache.candidates there is in (
      candidate_short x.sheet x.types l d is_cache.valid is_cache.types found.0 found.2,
      rw (sym found.1) (row_right x.sheet x.types l d is_cache.valid is_cache.types found.0 found.2),
    )

-- a row that is put behind others stands there, and the others stand where they did
pub row_put : (s : SheetParts) (m : LogTypes) (entries : List RowEntry) (n : ℕ) {all : List RowEntry}
    {cells new row : List Cell} {takers : AssortmentSet} {d from number : ℕ} → AllAre (IsAt s m cells) entries
    → length entries ≡ n
    → all ≡ entries ++ record { takers = takers; diameter = d; from = from; number = number } ∷ [] → new ≡ cells ++ row
    → IsRow s m.list.items takers d m.most_steps row → from ≡ length cells → number ≡ length row
    → AllAre (IsAt s m new) all × IsRowAt all takers d n
row_put s m entries n {cells = cells} {new} {takers = takers} {d} {from} {number}
    are count entries-are cells-are right at is =
    let h : RowEntry = record { takers = takers; diameter = d; from = from; number = number } in
    let there : IsAt s m new h = search (rules, right, cells-are, at, is, length-append, drop_at, take_all) in
    let more : (g : RowEntry) → IsAt s m cells g → IsAt s m new g =
    λ g is. search (rules, is, cells-are, drop-append-le, take-append-le, length-drop, length-append) in
    rw entries-are (
      push_each (IsAt s m new) entries h (λ n g at. more g (are n g at)) there,
      stands_last _ entries h n count (refl, refl),
    )

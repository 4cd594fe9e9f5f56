-- A sheet, the log types of its instruction, and what was found of these so far.
use Rattle.std.specs.Prelude.{◌≡◌, ℕ, ◌+◌, ◌<◌, ◌≤◌, List, length, slice_get, take, drop, Some}
use Rattle.buck_dp.specs.inner.Words.{SheetParts, IsSheet, RowEntry, CandidateList, LogTypes, Term, Candidate, AssortmentSet, Cell, WoodEntry}
use Rattle.buck_dp.specs.inner.Candidates.{IsRow, IsInBand, AreTerms, AreCandidates}
use Rattle.buck_dp.specs.inner.LogTypes.{HasLogTypes}
use Rattle.buck_dp.specs.inner.Logs.{AreWoodEntries}

pub record CacheParts : Type 0 where
  pub sheet : SheetParts
  pub types : LogTypes
  pub kinds : List WoodEntry
  pub terms : List (CandidateList Term)
  pub candidates : List (CandidateList Candidate)
  pub cells : List Cell
  pub entries : List RowEntry

abbrev pub cache_of : SheetParts → LogTypes → List WoodEntry → List (CandidateList Term)
    → List (CandidateList Candidate) → List Cell → List RowEntry → CacheParts
cache_of s m kinds terms candidates cells entries = record {
  sheet = s;
  types = m;
  kinds = kinds;
  terms = terms;
  candidates = candidates;
  cells = cells;
  entries = entries;
}

-- the row that an entry tells of stands at its place
abbrev pub IsAt : SheetParts → LogTypes → List Cell → RowEntry → Type 0
IsAt s m cells h = (h.from + h.number ≤ length cells)
    × IsRow s m.list.items h.takers h.diameter m.most_steps (take h.number (drop h.from cells))

-- what stands at a place of a list is right
abbrev pub Stands : {X : Type 0} → (X → Type 0) → List X → ℕ → Type 0
Stands {X} P xs n = (n < length xs) × ((x : X) → slice_get xs n ≡ Some x → P x)

-- the entry of the row of some takers at a diameter stands at a place
abbrev pub IsRowAt : List RowEntry → AssortmentSet → ℕ → ℕ → Type 0
IsRowAt entries takers d n = Stands (λ (h : RowEntry). (h.takers ≡ takers) × (h.diameter ≡ d)) entries n

-- the candidate list of some takers for a diameter stands at a place
abbrev pub IsListAt : {X : Type 0} → List (CandidateList X) → AssortmentSet → ℕ → ℕ → Type 0
IsListAt {X} lists takers d n =
    Stands (λ (l : CandidateList X). (l.key.takers ≡ takers) × IsInBand l.key.band d) lists n

-- a candidate list has the terms of an instruction for its log types
abbrev pub HasTerms : SheetParts → LogTypes → CandidateList Term → Type 0
HasTerms s m l = AreTerms s.instruction m.list.items l.key.band (length m.list.items) l.list.items

-- or the candidates of a sheet for them
abbrev pub HasCandidates : SheetParts → LogTypes → CandidateList Candidate → Type 0
HasCandidates s m l = AreCandidates s m.list.items l.key l.list.items

-- so is each of a list
abbrev pub AllAre : {X : Type 0} → (X → Type 0) → List X → Type 0
AllAre {X} P xs = (n : ℕ) (x : X) → slice_get xs n ≡ Some x → P x

-- the sheet is valid, the log types its instruction's, and all that was found is right
pub record IsCache (x : CacheParts) : Type 0 where
  pub valid : IsSheet x.sheet
  pub types : HasLogTypes x.sheet.instruction x.types
  pub kinds : AreWoodEntries x.sheet.instruction x.kinds
  pub terms : AllAre (HasTerms x.sheet x.types) x.terms
  pub candidates : AllAre (HasCandidates x.sheet x.types) x.candidates
  pub rows : AllAre (IsAt x.sheet x.types x.cells) x.entries

-- the second has the sheet and the log types of the first
abbrev pub HasSame : CacheParts → CacheParts → Type 0
HasSame x y = (y.sheet ≡ x.sheet) × (y.types ≡ x.types)

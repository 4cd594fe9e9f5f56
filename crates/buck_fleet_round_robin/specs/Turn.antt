-- Who cuts when, if harvesters take turns: one stem each, round by round.
use Rattle.std.specs.Prelude.{◌≡◌, ℕ, ◌+◌, ◌<◌, ◌≤◌, ◌⊎◌, List, [], ◌∷◌, length, map, sum_by, All, Some}
use Rattle.std.specs.List.{AllByRecursion}
use Rattle.std.specs.declared.sync.Arc.{Arc}
use Rattle.std.specs.declared.vec.Vec.{Vec}
use Rattle.std.specs.declared.alloc.Global.{Global}
use Rattle.buck_stem_shape.specs.declared.stem.Stem.{Stem}
use Rattle.buck_book_postings.specs.declared.posting.Posting.{Posting}
use Rattle.buck_book_postings.specs.Posting.{harvester_of, number_of}
use Rattle.buck_book_postings.specs.History.{HistoryParts}
use Rattle.buck_book_postings.specs.Replies.{replies_of, stem_cut, stems_at}

-- the stems of a harvester, in the order in which it cuts them
abbrev pub StemList : Type 0
StemList = Vec (Arc Stem Global) Global

-- one posting comes before another: in an earlier round, or in the same round for a harvester of a lower number. A
-- harvester's calls are numbered from 1, so that the number of its call is the round.
abbrev pub ComesBefore : Posting → Posting → Type 0
ComesBefore x y =
    (number_of x < number_of y)
    ⊎ ((number_of x ≡ number_of y) × (harvester_of x < harvester_of y))

-- each posting comes before all that follow it
abbrev pub AreInTurn : List Posting → Type 0
AreInTurn [] = Unit {0}
AreInTurn (x ∷ more) = AllByRecursion (ComesBefore x) more × AreInTurn more

-- harvester k + 1 cut exactly the stems of the list at place k, in their order; nobody else has a posting; and the
-- postings are in turn
pub record HasCutInTurn (lists : List StemList) (h : HistoryParts) : Type 0 where
  pub stems : (k : ℕ) → k < length lists
      → map (λ x. stem_cut x.entry) (replies_of (k + 1) h) ≡ map Some (stems_at lists k)
  pub nobody_else : All (λ x. (0 < harvester_of x) × (harvester_of x ≤ length lists)) h.postings
  pub in_turn : AreInTurn h.postings

-- how many stems the lists have together
abbrev pub stems_in_all : List StemList → ℕ
stems_in_all lists = sum_by (λ list. length list.items) lists

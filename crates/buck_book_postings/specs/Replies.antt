-- Whose postings are whose, and which stems they cut, beside the lists of stems that harvesters are given.
use Rattle.std.specs.Prelude.{ℕ, ◌+◌, ◌==◌, List, [], ◌∷◌, map, cond, Option, Some, None, slice_index_or}
use Rattle.std.specs.declared.sync.Arc.{Arc}
use Rattle.std.specs.declared.vec.Vec.{Vec}
use Rattle.std.specs.declared.alloc.Global.{Global}
use Rattle.std.specs.Arc.{arc_value}
use Rattle.buck_stem_shape.specs.declared.stem.Stem.{Stem}
use Rattle.buck_stem_shape.specs.Stem.{StemParts}
use Rattle.buck_book_postings.specs.declared.posting.Posting.{Posting}
use Rattle.buck_book_postings.specs.declared.posting.Posting.TheVariants.{Cut, Demand}
use Rattle.buck_book_postings.specs.declared.posting.Kept.{Kept}
use Rattle.buck_book_postings.specs.Posting.{harvester_of}
use Rattle.buck_book_postings.specs.History.{HistoryParts}

-- a harvester's postings among some, in order, each with its position; the first of them has this position
abbrev pub replies_from : ℕ → ℕ → List Posting → List Kept
replies_from h position [] = []
replies_from h position (x ∷ more) =
    cond (harvester_of x == h)
    ((record { position = position; entry = x }) ∷ replies_from h (position + 1) more)
    (replies_from h (position + 1) more)

-- a harvester's postings of a history, in order, each with its position
abbrev pub replies_of : ℕ → HistoryParts → List Kept
replies_of h history = replies_from h 0 history.postings

-- the stem that a posting cut
abbrev pub stem_cut : Posting → Option StemParts
stem_cut (Cut e) = Some e.stem
stem_cut (Demand d) = None

-- the stems of a harvester's list
abbrev pub stems_of : List (Arc Stem Global) → List StemParts
stems_of = map (λ (a : Arc Stem Global). arc_value a)

-- those of the list at a place
abbrev pub stems_at : List (Vec (Arc Stem Global) Global) → ℕ → List StemParts
stems_at lists i = slice_index_or (map (λ (v : Vec (Arc Stem Global) Global). stems_of v.items) lists) i []

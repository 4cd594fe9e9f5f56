-- Stem files that are accepted, and the stems that a harvester cut.
use Rattle.std.specs.Prelude.{◌<◌, ℕ, List, map, Option, None, slice_index_or}
use Rattle.buck_stem_shape.specs.Stem.{StemParts}
use Rattle.buck_stem.specs.Stm.{stm_of}
use Rattle.buck_book_postings.specs.History.{HistoryParts}
use Rattle.buck_book_postings.specs.Replies.{stem_cut, replies_of}
use Rattle.buckfleet_engine_files.specs.Reading.{IsAccepted}

-- the stem that each posting of a harvester cut, in their order; none in the place of a demand
abbrev pub stems_cut_by : ℕ → HistoryParts → List (Option StemParts)
stems_cut_by harvester h = map (λ k. stem_cut k.entry) (replies_of harvester h)

-- the first so many stem files are accepted
abbrev pub AreAccepted : ℕ → List (Option (List ℕ)) → Type 0
AreAccepted n stms = (k : ℕ) → k < n → IsAccepted stm_of (slice_index_or stms k None)

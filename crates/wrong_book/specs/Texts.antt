-- The postings whose texts the callers look at.
use Rattle.std.specs.Prelude.{[], ◌∷◌}
use Rattle.buck_book_postings.specs.Entry.{EntryParts, DemandParts}

-- harvester 3's first cut: one log of a stem of two zones
abbrev pub zoned_cut : EntryParts
zoned_cut = record {
  harvester = 3;
  number = 1;
  stem = record { number = 7; species = 1; samples = 250 ∷ 240 ∷ []; zones = (0, 1) ∷ (100, 8) ∷ [] };
  version = 0;
  logs = record { start = 0; length = 4000; assortment = 0 } ∷ [];
  worth = 157080000;
}

-- its demand after that
abbrev pub second_demand : DemandParts
second_demand = record { harvester = 3; number = 2; version = 0; targets = 0 ∷ 4 ∷ [] }

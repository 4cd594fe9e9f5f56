-- The text of a journal: the kind of file, the prices of each sheet, and then the items of each posting.
use Rattle.std.specs.Prelude.{ℕ, List, [], ◌∷◌, ◌++◌, codes}
use Rattle.std.specs.List.{flat_map}
use Rattle.buck_record.specs.writing.Written.{spelled}
use Rattle.buck_value.specs.declared.log.Log.{Log}
use Rattle.buck_book_postings.specs.declared.posting.Posting.{Posting}
use Rattle.buck_book_postings.specs.declared.posting.Posting.TheVariants.{Cut, Demand}
use Rattle.buck_book_postings.specs.Entry.{EntryParts, DemandParts}

-- an item: its number, a space and its kind, then a space before each number, then a tilde and a line feed
abbrev pub item_text : List ℕ → List ℕ → List ℕ
item_text head numbers = head ++ (spelled numbers ++ codes "~\n")

-- the numbers of zones: each start, and its grade after it
abbrev pub zone_numbers : List (ℕ × ℕ) → List ℕ
zone_numbers zones = flat_map (λ z. z.0 ∷ z.1 ∷ []) zones

-- the numbers of logs: each start, and its length and its assortment after it
abbrev pub log_numbers : List Log → List ℕ
log_numbers logs = flat_map (λ g. g.start ∷ g.length ∷ g.assortment ∷ []) logs

abbrev pub sheet_text : List ℕ → List ℕ
sheet_text prices = item_text (codes "971 1") prices

unfoldable pub cut_text : EntryParts → List ℕ
cut_text e =
    item_text (codes "981 1") (e.harvester ∷ e.number ∷ e.version ∷ [])
    ++ item_text (codes "981 2") (e.stem.number ∷ e.stem.species ∷ [])
    ++ item_text (codes "981 3") e.stem.samples
    ++ item_text (codes "981 4") (zone_numbers e.stem.zones)
    ++ item_text (codes "981 5") (log_numbers e.logs)
    ++ item_text (codes "981 6") (e.worth ∷ [])

unfoldable pub demand_text : DemandParts → List ℕ
demand_text d =
    item_text (codes "982 1") (d.harvester ∷ d.number ∷ d.version ∷ [])
    ++ item_text (codes "982 2") d.targets

abbrev pub posting_text : Posting → List ℕ
posting_text (Cut e) = cut_text e
posting_text (Demand d) = demand_text d

-- the text of sheets, by their prices, and of postings
unfoldable pub journal_text : List (List ℕ) → List Posting → List ℕ
journal_text sheets postings =
    item_text (codes "1 2 JRN") [] ++ flat_map sheet_text sheets ++ flat_map posting_text postings

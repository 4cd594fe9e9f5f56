-- The stems of a file's bytes, or their refusal: the first of eight lines that applies, and within a line the first
-- item in the order of the table, `1 2` and then stem by stem. The table stands in src/file/slots: what each item says,
-- the range of its numbers, and how many there may be, if more than one. The chain of the lines, `stm_of`, stands
-- at the end of this page.
use Rattle.std.specs.Prelude.{ℕ, Bool, ◌*◌, ◌&&◌, ◌==◌, ◌%◌, List, [], ◌∷◌, length, map, slice_index, nat_le, Result, Ok, codes}
use Rattle.std.specs.Str.{bytes_eq}
use Rattle.buck_record.specs.Item.{ItemParts}
use Rattle.buck_record.specs.declared.slot.Slot.{Slot}
use Rattle.buck_record.specs.Reading.{with_fault}
use Rattle.buck_record.specs.bytes.Record.{items_of}
use Rattle.buck_record.specs.checking.Table.{only_in, rest_in, first_missing, first_twice, groups_of}
use Rattle.buck_record.specs.checking.Check.{◌>>=◌, check, none_of, each, make_each}
use Rattle.buck_record.specs.checking.Rules.{file_slot, of_slot, has_no_strays, numbers_in, all_in_range, counted_to, is_rising}
use Rattle.buck_stem_shape.specs.declared.slots.TheConstants.{STEM, SPECIES, SAMPLES, MOST_SAMPLES, ZONES, STARTS, GRADES, MOST_ZONES, NEEDED, MEMBERS}
use Rattle.buck_stem.specs.declared.draft.Draft.{Draft}
use Rattle.buck_stem.specs.declared.fault.StmFault.{StmFault}
use Rattle.buck_stem.specs.declared.fault.StmFault.TheVariants.{Head, NotStm, Missing, Twice, Digits, Range, Order, Count}
use Rattle.buck_stem_shape.specs.Stem.{StemParts, stem_of}

-- the items of each stem: its number, and what follows up to the next number
abbrev pub groups : List ItemParts → List (List ItemParts)
groups items = groups_of STEM items

-- Line 2, NotStm: the first item that names the kind of file says STM.
abbrev pub says_stm : List ItemParts → Bool
says_stm items = bytes_eq (rest_in file_slot items) (codes "STM")

unfoldable pub stem_present : List ItemParts → Result (Unit {0}) StmFault
stem_present stem = none_of (first_missing NEEDED stem) Missing

-- Line 3, Missing: each item that must be there is, and no item of a stem stands before the first number.
unfoldable pub present : List ItemParts → Result (Unit {0}) StmFault
present items = do
  _ ← check (has_no_strays STEM MEMBERS items) (of_slot Missing STEM)
  each stem_present (groups items)

unfoldable pub stem_single : List ItemParts → Result (Unit {0}) StmFault
stem_single stem = none_of (first_twice MEMBERS stem) Twice

-- Line 4, Twice: no item stands twice in the file or in its stem.
unfoldable pub single : List ItemParts → Result (Unit {0}) StmFault
single items = do
  _ ← none_of (first_twice (file_slot ∷ []) items) Twice
  each stem_single (groups items)

-- what the items of a stem say; an absent one has no numbers
unfoldable pub draft_of : List ItemParts → Result Draft StmFault
draft_of stem = do
  number ← numbers_in Digits STEM stem
  species ← numbers_in Digits SPECIES stem
  samples ← numbers_in Digits SAMPLES stem
  zones ← numbers_in Digits ZONES stem
  Ok (record { number = number; species = species; samples = samples; zones = zones })

-- the numbers at odd places, the last one too if it has no grade after it
abbrev pub starts : List ℕ → List ℕ
starts [] = []
starts (start ∷ []) = start ∷ []
starts (start ∷ grade ∷ more) = start ∷ starts more

-- the numbers at even places
abbrev pub grades : List ℕ → List ℕ
grades [] = []
grades (start ∷ []) = []
grades (start ∷ grade ∷ more) = grade ∷ grades more

unfoldable pub draft_range : Draft → Result (Unit {0}) StmFault
draft_range d = do
  _ ← all_in_range Range SPECIES d.species
  _ ← all_in_range Range SAMPLES d.samples
  _ ← all_in_range Range STARTS (starts d.zones)
  all_in_range Range GRADES (grades d.zones)

-- Line 6, Range: each number is in its range.
unfoldable pub in_range : List Draft → Result (Unit {0}) StmFault
in_range drafts = each draft_range drafts

unfoldable pub draft_order : Draft → Result (Unit {0}) StmFault
draft_order d = check (is_rising (starts d.zones)) (of_slot Order ZONES)

-- Line 7, Order: the starts of each stem's zones rise.
unfoldable pub in_order : List Draft → Result (Unit {0}) StmFault
in_order drafts = each draft_order drafts

unfoldable pub draft_count : Draft → Result (Unit {0}) StmFault
draft_count d = do
  _ ← counted_to Count STEM 1 d.number
  _ ← counted_to Count SPECIES 1 d.species
  _ ← counted_to Count SAMPLES MOST_SAMPLES d.samples
  check (length d.zones % 2 == 0 && nat_le (length d.zones) (2 * MOST_ZONES)) (of_slot Count ZONES)

-- Line 8, Count: there are as many numbers as there should be.
unfoldable pub in_number : List Draft → Result (Unit {0}) StmFault
in_number drafts = each draft_count drafts

-- starts and grades, two by two
abbrev pub zones_of : List ℕ → List (ℕ × ℕ)
zones_of [] = []
zones_of (start ∷ []) = []
zones_of (start ∷ grade ∷ more) = (start, grade) ∷ zones_of more

unfoldable pub parts_of : Draft → StemParts
parts_of d = stem_of (slice_index d.number 0) (slice_index d.species 0) d.samples (zones_of d.zones)

-- Lines 2 to 4, and line 5, Digits: each list of each stem is one of numbers.
unfoldable pub drafts_in : List ItemParts → Result (List Draft) StmFault
drafts_in items = do
  _ ← check (says_stm items) NotStm
  _ ← present items
  _ ← single items
  make_each draft_of (groups items)

-- Lines 6 to 8: the numbers are those of stems.
unfoldable pub checked : List Draft → Result (Unit {0}) StmFault
checked drafts = do
  _ ← in_range drafts
  _ ← in_order drafts
  in_number drafts

-- the slots of the table
abbrev pub table : List Slot
table = file_slot ∷ STEM ∷ MEMBERS

-- The stems of the bytes, or the first refusal that applies: line 1 (an item without a head) to line 8. Items that
-- stand in no slot of the table are skipped.
unfoldable pub stm_of : List ℕ → Result (List StemParts) StmFault
stm_of bytes = do
  items ← with_fault Head (only_in table (items_of bytes))
  drafts ← drafts_in items
  _ ← checked drafts
  Ok (map parts_of drafts)

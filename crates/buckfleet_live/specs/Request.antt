-- What a line of the input asks for, or its refusal: the first of eight lines that applies, and within a line the first
-- item in the order of the table.
--
--   item        what it says                          how many numbers   range of each   order
--   HARVESTER   the harvester; if it is absent,       1                  1 to 64         before the others
--               the first
--   STEM ..     a stem: its four items, as in a stem file
--   PREVIEW     the stem is previewed                 1                  1
--   OWN         the logs that an operator would cut,  three for each     0 to the highest
--               each as start, length, assortment     of at most         of each in turn
--                                                     MOST_OWN
--   TARGETS     new targets                           any                any
--
-- A line asks for one thing: a stem to be cut, or looked at only, or new targets. Items that aren't in the table say
-- nothing, and a line with no item at all asks for nothing. Line 2 has no fault here: nobody says the kind of a line.
use Rattle.std.specs.Prelude.{ℕ, Bool, true, false, ◌&&◌, ◌==◌, ◌*◌, ◌%◌, List, [], ◌∷◌, ◌++◌, length, slice_index, not, nat_le, nat_lt, Option, Some, None, Result, Ok, Err, codes, if◌then◌else◌}
use Rattle.std.specs.List.{flat_map}
use Rattle.buck_record.specs.Item.{ItemParts}
use Rattle.buck_record.specs.declared.slot.Slot.{Slot}
use Rattle.buck_record.specs.Reading.{with_fault}
use Rattle.buck_record.specs.bytes.Record.{items_of}
use Rattle.buck_record.specs.checking.Table.{count_in, first_missing, first_twice, is_in}
use Rattle.buck_record.specs.checking.Check.{◌>>=◌, check, none_of}
use Rattle.buck_record.specs.checking.Rules.{of_slot, has_no_strays, numbers_in, all_within, all_in_range}
use Rattle.buck_record.specs.writing.Written.{spelled}
use Rattle.buck_apt_instruction.specs.declared.slots.TheConstants.{LENGTHS}
use Rattle.buck_stem_shape.specs.declared.slots.TheConstants.{STEM, STARTS, NEEDED}
use Rattle.buck_stem.specs.declared.fault.StmFault.{StmFault}
use Rattle.buck_stem.specs.declared.fault.StmFault.TheVariants.{Head, Missing, Twice, Digits, Range, Order, Count}
use Rattle.buck_stem.specs.Faults.{stm_numbers}
use Rattle.buck_stem_shape.specs.Stem.{StemParts}
use Rattle.buck_stem.specs.Stm.{stm_of}
use Rattle.buck_value.specs.declared.log.Log.{Log}
use Rattle.buck_book_journal.specs.Reading.{logs_of}
use Rattle.buckfleet_live.specs.declared.slots.TheConstants.{HARVESTER, PREVIEW, OWN, HIGHEST_ASSORTMENT, MOST_OWN, TARGETS, STEM_ITEMS, AFTER_STEM, TABLE}
use Rattle.buckfleet_live.specs.declared.request.Asked.{Asked}
use Rattle.buckfleet_live.specs.declared.request.Asked.TheVariants.{Stem, Preview, Own, Targets}
use Rattle.buckfleet_live.specs.declared.request.Request.{Request}

-- some item stands in a slot
abbrev pub has : Slot → List ItemParts → Bool
has s items = nat_lt 0 (count_in s items)

-- Line 3, Missing: no item of a stem stands before its number; a stem has all its items, and if there is none there
-- are targets.
unfoldable pub present : List ItemParts → Result (Unit {0}) StmFault
present items = do
  _ ← check (has_no_strays STEM AFTER_STEM items) (of_slot Missing STEM)
  if has STEM items then none_of (first_missing NEEDED items) Missing
      else check (has TARGETS items) (of_slot Missing STEM)

-- Line 4, Twice: no item stands twice, and targets don't stand beside a stem.
unfoldable pub single : List ItemParts → Result (Unit {0}) StmFault
single items = do
  _ ← none_of (first_twice TABLE items) Twice
  check (not (has STEM items && has TARGETS items)) (of_slot Twice TARGETS)

-- Lines 5 to 8 of who asks.
unfoldable pub harvester_in : List ItemParts → Result ℕ StmFault
harvester_in items = if not (has HARVESTER items) then Ok 1 else (do
  numbers ← numbers_in Digits HARVESTER items
  _ ← check (all_within 1 64 numbers) (of_slot Range HARVESTER)
  _ ← check (has_no_strays HARVESTER TABLE items) (of_slot Order HARVESTER)
  _ ← check (length numbers == 1) (of_slot Count HARVESTER)
  Ok (slice_index numbers 0))

-- an item as it is written
abbrev pub item_text : ItemParts → List ℕ
item_text item = spelled (item.number ∷ item.kind ∷ []) ++ (codes " " ++ (item.rest ++ codes "~"))

-- the same of an item of a stem; nothing of another
abbrev pub stem_text : ItemParts → List ℕ
stem_text item = if is_in STEM_ITEMS item then item_text item else []

-- the stem file that has a line's items of a stem, and no others
abbrev pub stem_file : List ItemParts → List ℕ
stem_file items = codes "1 2 STM~" ++ flat_map stem_text items

-- the stem of a stem file that has one
abbrev pub only_stem : Result (List StemParts) StmFault → Result StemParts StmFault
only_stem (Ok (stem ∷ [])) = Ok stem
only_stem (Ok _) = Err (of_slot Missing STEM)
only_stem (Err fault) = Err fault

-- Lines 5 to 8 of whether a preview is asked for.
unfoldable pub preview_in : List ItemParts → Result Bool StmFault
preview_in items = if not (has PREVIEW items) then Ok false else (do
  numbers ← numbers_in Digits PREVIEW items
  _ ← all_in_range Range PREVIEW numbers
  _ ← check (length numbers == 1) (of_slot Count PREVIEW)
  Ok true)

-- no number is above its bound, and three bounds take turns
abbrev pub in_turn : ℕ → ℕ → ℕ → List ℕ → Bool
in_turn first second third [] = true
in_turn first second third (n ∷ ns) = nat_le n first && in_turn second third first ns

-- no start, length or assortment is above the highest; those of a last log that isn't whole take part
abbrev pub are_low : List ℕ → Bool
are_low numbers = in_turn STARTS.high LENGTHS.high HIGHEST_ASSORTMENT numbers

-- Lines 5 to 8 of an operator's own logs, if there are any.
unfoldable pub own_in : List ItemParts → Result (Option (List Log)) StmFault
own_in items = if not (has OWN items) then Ok None else (do
  numbers ← numbers_in Digits OWN items
  _ ← check (are_low numbers) (of_slot Range OWN)
  _ ← check (length numbers % 3 == 0 && nat_le (length numbers) (3 * MOST_OWN)) (of_slot Count OWN)
  Ok (Some (logs_of numbers)))

-- the number of a fault's line, from its number and fields
abbrev pub number_of_line : List ℕ → ℕ
number_of_line [] = 0
number_of_line (number ∷ fields) = number

-- the fault of the earlier line: if both are of one line, the first, because its item comes first in the table
abbrev pub earlier : StmFault → StmFault → StmFault
earlier e f = if nat_le (number_of_line (stm_numbers e)) (number_of_line (stm_numbers f)) then e else f

-- what two items say, or the fault of the earlier line
abbrev pub both : {A B : Type 0} → Result A StmFault → Result B StmFault → Result (A × B) StmFault
both (Ok a) (Ok b) = Ok (a, b)
both (Ok a) (Err f) = Err f
both (Err e) (Ok b) = Err e
both (Err e) (Err f) = Err (earlier e f)

-- what is asked of a stem: logs of the operator's own come before a preview, and that before the cut
abbrev pub asked_of : StemParts → Bool → Option (List Log) → Asked
asked_of stem previewed (Some logs) = Own stem logs
asked_of stem previewed None = if previewed then Preview stem else Stem stem

-- Lines 5 to 8 of what is asked for: numbers as targets, or else a stem, which is refused as its stem file is, and what
-- else is asked of it.
unfoldable pub asked_in : List ItemParts → Result Asked StmFault
asked_in items =
    if has TARGETS items then (numbers_in Digits TARGETS items >>= λ targets. Ok (Targets targets)) else (do
      found ← both (only_stem (stm_of (stem_file items))) (both (preview_in items) (own_in items))
      Ok (asked_of found.0 found.1.0 found.1.1))

-- what the items of a line ask for, if there are any
unfoldable pub requested : List ItemParts → Result (Option Request) StmFault
requested [] = Ok None
requested (item ∷ items) = do
  _ ← present (item ∷ items)
  _ ← single (item ∷ items)
  found ← both (harvester_in (item ∷ items)) (asked_in (item ∷ items))
  Ok (Some (record { harvester = found.0; asked = found.1 }))

-- What a line asks for, or the first refusal that applies: line 1 (an item without a head) to line 8.
unfoldable pub request_of : List ℕ → Result (Option Request) StmFault
request_of line = with_fault Head (items_of line) >>= λ items. requested items

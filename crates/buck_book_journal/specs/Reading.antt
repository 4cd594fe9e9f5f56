-- The journal of a file's bytes, or its refusal. The items stand in this sequence, and no item is skipped. What stands
-- in a stem file or an instruction too has the range that it has there:
--
--   item    what it says                       how many numbers     range of each
--   1 2     the kind of file: JRN
--   971 1   the prices of a sheet; one item    0 to 16384           0 to 20000000
--           for each, in the order of versions
--   then for each posting either the items of a cut
--   981 1   harvester, number, version         3                    1 to 64, 1 to 1000000, 0 to 1000000
--   981 2   stem number, species               2                    any, 1 to 255
--   981 3   diameters in mm                    1 to 401             0 to 1500
--   981 4   zones: pairs of a start in mm      even, 0 to 200       starts 0 to 40000, strictly rising; grades 1 to 8
--           and a grade
--   981 5   logs: start and length in mm,      a multiple of 3,     0 to 40000, 0 to 30000, 0 to 15
--           assortment                         0 to 240
--   981 6   worth                              1                    below 2^64
--   or those of a demand
--   982 1   harvester, number, version         3                    1 to 64, 1 to 1000000, 0 to 1000000
--   982 2   targets                            0 to 16384           0 to 1000000
--
-- The refusals, in order: Head, of the least item without a head; NotJournal; then of the least item that has one of
-- these, and on it the first: Shape, it isn't the item that the sequence wants there; Digits, a word isn't a number;
-- Count, another count of numbers, or the first item of a 1,000,001st posting; Range. Items count from 1, and places in
-- a list from 0.
use Rattle.std.specs.Prelude.{ℕ, ◌+◌, ◌*◌, ◌%◌, Bool, true, false, ◌&&◌, ◌||◌, ◌==◌, List, [], ◌∷◌, length, drop, slice_index, slice_get, nat_le, nat_lt, Option, Some, None, Result, Ok, Err, if◌then◌else◌, codes}
use Rattle.std.specs.Str.{bytes_eq}
use Rattle.buck_record.specs.Item.{ItemParts}
use Rattle.buck_record.specs.declared.slot.Slot.{Slot}
use Rattle.buck_record.specs.Reading.{with_fault}
use Rattle.buck_record.specs.bytes.Record.{items_of, numbers_of, number_of}
use Rattle.buck_record.specs.checking.Table.{is_at}
use Rattle.buck_record.specs.checking.Check.{◌>>=◌, check}
use Rattle.buck_record.specs.checking.Rules.{slot, file_slot, within, all_within, one_to}
use Rattle.buck_apt_instruction.specs.declared.slots.TheConstants.{LENGTHS, TARGETS}
use Rattle.buck_stem_shape.specs.declared.slots.TheConstants.{SPECIES, SAMPLES, MOST_SAMPLES, STARTS, GRADES, MOST_ZONES}
use Rattle.buck_stem_shape.specs.Stem.{StemParts, stem_of}
use Rattle.buck_stem.specs.Stm.{zones_of}
use Rattle.buck_value.specs.declared.log.Log.{Log}
use Rattle.buck_book_postings.specs.declared.posting.Posting.{Posting}
use Rattle.buck_book_postings.specs.declared.posting.Posting.TheVariants.{Cut, Demand}
use Rattle.buck_book_postings.specs.Entry.{EntryParts, DemandParts}
use Rattle.buck_book_journal.specs.Journal.{JournalParts}
use Rattle.buck_book_journal.specs.declared.call.Call.{Call}
use Rattle.buck_book_journal.specs.declared.journal_fault.JournalFault.{JournalFault}
use Rattle.buck_book_journal.specs.declared.journal_fault.JournalFault.TheVariants.{Head, NotJournal, Shape, Digits, Count, Range}
use Rattle.buck_book_postings.specs.declared.posting.TheConstants.{MOST_POSTINGS}
use Rattle.buck_value.specs.declared.sheet.TheConstants.{HIGHEST_PRICE}

-- the rest of the item at a place, which has to be in this slot
abbrev pub wanted : Slot → ℕ → Option ItemParts → Result (List ℕ) JournalFault
wanted s place None = Err (Shape place)
wanted s place (Some item) = if is_at s item then Ok item.rest else Err (Shape place)

-- its numbers
unfoldable pub numbers_at : Slot → ℕ → Option ItemParts → Result (List ℕ) JournalFault
numbers_at s place item = wanted s place item >>= λ rest. with_fault (λ _. Digits place) (numbers_of rest)

-- how many numbers an item may have, which these may be, and what they say
pub record Form (X : Type 0) : Type 0 where
  pub count : List ℕ → Bool
  pub range : List ℕ → Bool
  pub value : List ℕ → X

abbrev pub says : {X : Type 0} → Form X → ℕ → List ℕ → Result X JournalFault
says form place numbers = do
  _ ← check (form.count numbers) (Count place)
  _ ← check (form.range numbers) (Range place)
  Ok (form.value numbers)

-- what the item at a place says
unfoldable pub item_at : {X : Type 0} → Slot → Form X → ℕ → Option ItemParts → Result X JournalFault
item_at s form place item = numbers_at s place item >>= λ numbers. says form place numbers

-- at most 16,384 numbers, each in a range
abbrev pub list_form : ℕ → ℕ → Form (List ℕ)
list_form low high =
    record { count = λ ns. nat_le (length ns) 16384; range = λ ns. all_within low high ns; value = λ ns. ns }

abbrev pub sheet_at : ℕ → Option ItemParts → Result (List ℕ) JournalFault
sheet_at place item = item_at (slot 971 1) (list_form 0 HIGHEST_PRICE) place item

abbrev pub call_of : List ℕ → Call
call_of numbers = record {
  harvester = slice_index numbers 0;
  number = slice_index numbers 1;
  version = slice_index numbers 2;
}

abbrev pub is_call : Call → Bool
is_call c = within 1 64 c.harvester && (within 1 MOST_POSTINGS c.number && nat_le c.version MOST_POSTINGS)

abbrev pub call_form : Form Call
call_form = record { count = λ ns. length ns == 3; range = λ ns. is_call (call_of ns); value = call_of }

-- the item that begins a posting, which so many come before
unfoldable pub call_at : Slot → ℕ → ℕ → Option ItemParts → Result Call JournalFault
call_at s before place item = do
  numbers ← numbers_at s place item
  _ ← check (nat_lt before MOST_POSTINGS) (Count place)
  says call_form place numbers

-- the stem's number and species
abbrev pub head_form : Form (ℕ × ℕ)
head_form = record {
  count = λ ns. length ns == 2;
  range = λ ns. within SPECIES.low SPECIES.high (slice_index ns 1);
  value = λ ns. (slice_index ns 0, slice_index ns 1);
}

abbrev pub samples_form : Form (List ℕ)
samples_form = record {
  count = λ ns. one_to MOST_SAMPLES (length ns);
  range = λ ns. all_within SAMPLES.low SAMPLES.high ns;
  value = λ ns. ns;
}

abbrev pub is_zone : ℕ → ℕ → ℕ → Bool
is_zone low start grade = within low STARTS.high start && within GRADES.low GRADES.high grade

-- starts from `low` on and grades, each in its range, and each start above the one before
abbrev pub are_zones : ℕ → List ℕ → Bool
are_zones low [] = true
are_zones low (start ∷ []) = true
are_zones low (start ∷ grade ∷ more) = is_zone low start grade && are_zones (start + 1) more

abbrev pub zones_form : Form (List (ℕ × ℕ))
zones_form = record {
  count = λ ns. (length ns % 2 == 0) && nat_le (length ns) (2 * MOST_ZONES);
  range = λ ns. are_zones 0 ns;
  value = zones_of;
}

abbrev pub is_log : ℕ → ℕ → ℕ → Bool
is_log start long assortment =
    within STARTS.low STARTS.high start && (within 0 LENGTHS.high long && within 0 15 assortment)

-- starts, lengths and assortments, three by three
abbrev pub are_logs : List ℕ → Bool
are_logs (start ∷ long ∷ assortment ∷ more) = is_log start long assortment && are_logs more
are_logs other = true

abbrev pub logs_of : List ℕ → List Log
logs_of (start ∷ long ∷ assortment ∷ more) =
    record { start = start; length = long; assortment = assortment } ∷ logs_of more
logs_of other = []

abbrev pub logs_form : Form (List Log)
logs_form =
    record { count = λ ns. (length ns % 3 == 0) && nat_le (length ns) 240; range = are_logs; value = logs_of }

unfoldable pub worth_at : ℕ → Option ItemParts → Result ℕ JournalFault
worth_at place item = do
  rest ← wanted (slot 981 6) place item
  with_fault (λ _. Digits place) (number_of 18446744073709551615 rest)

-- the item begins a posting
abbrev pub is_first : ItemParts → Bool
is_first item = is_at (slot 981 1) item || is_at (slot 982 1) item

-- after a posting comes the next one, or the end
abbrev pub follows : ℕ → Option ItemParts → Result (Unit {0}) JournalFault
follows place None = Ok tt
follows place (Some item) = check (is_first item) (Shape place)

abbrev pub entry_of : Call → StemParts → List Log → ℕ → EntryParts
entry_of c stem logs worth = record {
  harvester = c.harvester;
  number = c.number;
  stem = stem;
  version = c.version;
  logs = logs;
  worth = worth;
}

-- the stem of a cut that the items begin with, k of the file coming before
unfoldable pub stem_at : List ItemParts → ℕ → Result StemParts JournalFault
stem_at items k = do
  head ← item_at (slot 981 2) head_form (k + 2) (slice_get items 1)
  samples ← item_at (slot 981 3) samples_form (k + 3) (slice_get items 2)
  zones ← item_at (slot 981 4) zones_form (k + 4) (slice_get items 3)
  Ok (stem_of head.0 head.1 samples zones)

-- the cut
unfoldable pub cut_at : List ItemParts → ℕ → ℕ → Result Posting JournalFault
cut_at items k before = do
  call ← call_at (slot 981 1) before (k + 1) (slice_get items 0)
  stem ← stem_at items k
  logs ← item_at (slot 981 5) logs_form (k + 5) (slice_get items 4)
  worth ← worth_at (k + 6) (slice_get items 5)
  _ ← follows (k + 7) (slice_get items 6)
  Ok (Cut (entry_of call stem logs worth))

abbrev pub demand_of : Call → List ℕ → DemandParts
demand_of c targets = record {
  harvester = c.harvester;
  number = c.number;
  version = c.version;
  targets = targets;
}

unfoldable pub demand_at : List ItemParts → ℕ → ℕ → Result Posting JournalFault
demand_at items k before = do
  call ← call_at (slot 982 1) before (k + 1) (slice_get items 0)
  targets ← item_at (slot 982 2) (list_form TARGETS.low TARGETS.high) (k + 2) (slice_get items 1)
  _ ← follows (k + 3) (slice_get items 2)
  Ok (Demand (demand_of call targets))

-- the posting that the items begin with
unfoldable pub posting_at : ItemParts → List ItemParts → ℕ → ℕ → Result Posting JournalFault
posting_at first items k before =
    if is_at (slot 981 1) first then cut_at items k before else demand_at items k before

-- the sheets of the items behind k others: one for each item up to the first that begins a posting
unfoldable pub sheets_from : ℕ → List ItemParts → Result (List (List ℕ)) JournalFault
sheets_from k [] = Ok []
sheets_from k (item ∷ more) =
    if is_first item then Ok []
    else (sheet_at (k + 1) (Some item) >>= λ prices. sheets_from (k + 1) more >>= λ sheets. Ok (prices ∷ sheets))

-- the postings of the items behind k others, so many coming before: one for each item that begins a posting
unfoldable pub postings_from : ℕ → ℕ → List ItemParts → Result (List Posting) JournalFault
postings_from k before [] = Ok []
postings_from k before (item ∷ more) =
    if is_first item
    then (posting_at item (item ∷ more) k before >>= λ posting.
    postings_from (k + 1) (before + 1) more >>= λ rest. Ok (posting ∷ rest))
    else postings_from (k + 1) before more

-- the first item says that the file is a journal
abbrev pub says_journal : List ItemParts → Bool
says_journal [] = false
says_journal (item ∷ more) = is_at file_slot item && bytes_eq item.rest (codes "JRN")

-- the journal of items
unfoldable pub journal_in : List ItemParts → Result JournalParts JournalFault
journal_in items = do
  _ ← check (says_journal items) NotJournal
  sheets ← sheets_from 1 (drop 1 items)
  postings ← postings_from 0 0 items
  Ok (record { sheets = sheets; entries = postings })

unfoldable pub journal_of : List ℕ → Result JournalParts JournalFault
journal_of bytes = do
  items ← with_fault Head (items_of bytes)
  journal_in items

-- how many items a posting has
abbrev pub number_of_items : Posting → ℕ
number_of_items (Cut e) = 6
number_of_items (Demand d) = 2

-- The instruction of a file's bytes, or the first refusal that applies: ten lines, each looked at only if all
-- before it pass, and within a line the first item in the order of the table, assortment by assortment. The table
-- stands in src/slots: what each item says, the range of its numbers, and how many there may be, if more than one.
-- The chain of the ten lines, `apt_of`, stands at the end of this page.
use Rattle.std.specs.Prelude.{ℕ, Bool, not, ◌*◌, ◌%◌, ◌&&◌, ◌==◌, List, [], ◌∷◌, ◌++◌, length, sum, slice_index, nat_le, nat_lt, find, position, Option, Some, None, Result, Ok, Err, codes, if◌then◌else◌}
use Rattle.std.specs.List.{list_all}
use Rattle.std.specs.Str.{bytes_eq}
use Rattle.buck_record.specs.Item.{ItemParts}
use Rattle.buck_record.specs.declared.slot.Slot.{Slot}
use Rattle.buck_record.specs.Reading.{with_fault}
use Rattle.buck_record.specs.bytes.Record.{items_of}
use Rattle.buck_record.specs.checking.Table.{only_in, count_in, rest_in, first_missing, first_twice, groups_of}
use Rattle.buck_record.specs.checking.Check.{◌>>=◌, check, none_of, each, make_each}
use Rattle.buck_record.specs.checking.Rules.{file_slot, of_slot, has_no_strays, numbers_in, one_to, all_in_range, counted_to, is_rising}
use Rattle.buck_apt_instruction.specs.declared.slots.TheConstants.{MODULE, PERIOD, LIMIT, COUNT, NAME, LONGEST_NAME, SPECIES, GRADES, MOST_GRADES, PRICE_KIND, DIAMETERS, MOST_ROWS, UPPER, LENGTHS, MOST_COLUMNS, PRICES, TARGETS}
use Rattle.buck_apt_instruction.specs.declared.slots.TheConstants.{MOST_TARGETS_TOGETHER, TRIM, HEAD, ALONE, MEMBERS, IN_ASSORTMENT}
use Rattle.buck_apt_instruction.specs.Instruction.{InstructionParts}
use Rattle.buck_apt_instruction.specs.Draft.{instruction_of}
use Rattle.buck_apt_instruction.specs.declared.draft.Draft.{Draft}
use Rattle.buck_apt_instruction.specs.declared.draft.FileDraft.{FileDraft}
use Rattle.buck_apt.specs.declared.fault.AptFault.{AptFault}
use Rattle.buck_apt.specs.declared.fault.AptFault.TheVariants.{Head, NotApt, Missing, Twice, Digits, Range, Order, Count, Module, Targets}

-- the items of each assortment: a name, and what stands after it up to the next name
abbrev pub groups : List ItemParts → List (List ItemParts)
groups items = groups_of NAME items

-- Line 2, NotApt: the first item that names the kind of file says APT.
abbrev pub says_apt : List ItemParts → Bool
says_apt items = bytes_eq (rest_in file_slot items) (codes "APT")

-- there is a name, and no item of an assortment stands before the first one
abbrev pub begins_with_name : List ItemParts → Bool
begins_with_name items = nat_lt 0 (count_in NAME items) && has_no_strays NAME IN_ASSORTMENT items

unfoldable pub group_present : List ItemParts → Result (Unit {0}) AptFault
group_present group = none_of (first_missing MEMBERS group) Missing

-- Line 3, Missing: each item that must be there is.
unfoldable pub present : List ItemParts → Result (Unit {0}) AptFault
present items = do
  _ ← none_of (first_missing HEAD items) Missing
  _ ← check (begins_with_name items) (of_slot Missing NAME)
  each group_present (groups items)

unfoldable pub group_single : List ItemParts → Result (Unit {0}) AptFault
group_single group = none_of (first_twice IN_ASSORTMENT group) Twice

-- Line 4, Twice: no item stands twice in the file or in its assortment.
unfoldable pub single : List ItemParts → Result (Unit {0}) AptFault
single items = do
  _ ← none_of (first_twice ALONE items) Twice
  each group_single (groups items)

-- the numbers of an item that may be left out: if it is absent it says so much
unfoldable pub numbers_or : ℕ → Slot → List ItemParts → Result (List ℕ) AptFault
numbers_or absent s items = if count_in s items == 0 then Ok (absent ∷ []) else numbers_in Digits s items

-- what the items of an assortment say
unfoldable pub draft_of : List ItemParts → Result Draft AptFault
draft_of group = do
  species ← numbers_in Digits SPECIES group
  grades ← numbers_in Digits GRADES group
  price_kind ← numbers_in Digits PRICE_KIND group
  diameters ← numbers_in Digits DIAMETERS group
  upper ← numbers_in Digits UPPER group
  lengths ← numbers_in Digits LENGTHS group
  prices ← numbers_in Digits PRICES group
  targets ← numbers_in Digits TARGETS group
  trim ← numbers_or 0 TRIM group
  Ok (record {
    name = rest_in NAME group;
    species = species;
    grades = grades;
    price_kind = price_kind;
    diameters = diameters;
    upper = upper;
    lengths = lengths;
    prices = prices;
    targets = targets;
    trim = trim;
  })

-- Line 5, Digits: each item but the texts is a list of numbers.
unfoldable pub file_draft_of : List ItemParts → Result FileDraft AptFault
file_draft_of items = do
  step ← numbers_in Digits MODULE items
  period ← numbers_in Digits PERIOD items
  limit ← numbers_in Digits LIMIT items
  count ← numbers_in Digits COUNT items
  drafts ← make_each draft_of (groups items)
  Ok (record { «module» = step; period = period; limit = limit; count = count; drafts = drafts })

-- from the space on, and none of | ~ and DEL
abbrev pub is_name_byte : ℕ → Bool
is_name_byte b = nat_le 32 b && (not (b == 124) && (not (b == 126) && not (b == 127)))

-- as many bytes as a name may have
abbrev pub is_name : List ℕ → Bool
is_name bs = one_to LONGEST_NAME (length bs) && list_all is_name_byte bs

unfoldable pub draft_range : Draft → Result (Unit {0}) AptFault
draft_range d = do
  _ ← check (is_name d.name) (of_slot Range NAME)
  _ ← all_in_range Range SPECIES d.species
  _ ← all_in_range Range GRADES d.grades
  _ ← all_in_range Range PRICE_KIND d.price_kind
  _ ← all_in_range Range DIAMETERS d.diameters
  _ ← all_in_range Range UPPER d.upper
  _ ← all_in_range Range LENGTHS d.lengths
  _ ← all_in_range Range PRICES d.prices
  _ ← all_in_range Range TARGETS d.targets
  all_in_range Range TRIM d.trim

-- Line 6, Range: each number is in its range, and each name meets its rule.
unfoldable pub in_range : FileDraft → Result (Unit {0}) AptFault
in_range file = do
  _ ← all_in_range Range MODULE file.«module»
  _ ← all_in_range Range PERIOD file.period
  _ ← all_in_range Range LIMIT file.limit
  _ ← all_in_range Range COUNT file.count
  each draft_range file.drafts

-- each of the lower limits is below each upper diameter
abbrev pub all_above : List ℕ → List ℕ → Bool
all_above lows highs = list_all (λ high. list_all (λ low. nat_lt low high) lows) highs

unfoldable pub draft_order : Draft → Result (Unit {0}) AptFault
draft_order d = do
  _ ← check (is_rising d.grades) (of_slot Order GRADES)
  _ ← check (is_rising d.diameters) (of_slot Order DIAMETERS)
  _ ← check (all_above d.diameters d.upper) (of_slot Order UPPER)
  check (is_rising d.lengths) (of_slot Order LENGTHS)

-- Line 7, Order: each list is in its order.
unfoldable pub in_order : FileDraft → Result (Unit {0}) AptFault
in_order file = each draft_order file.drafts

unfoldable pub draft_count : Draft → Result (Unit {0}) AptFault
draft_count d = do
  _ ← counted_to Count SPECIES 1 d.species
  _ ← counted_to Count GRADES MOST_GRADES d.grades
  _ ← counted_to Count PRICE_KIND 1 d.price_kind
  _ ← counted_to Count DIAMETERS MOST_ROWS d.diameters
  _ ← counted_to Count UPPER 1 d.upper
  _ ← counted_to Count LENGTHS MOST_COLUMNS d.lengths
  _ ← check (length d.prices == length d.diameters * length d.lengths) (of_slot Count PRICES)
  _ ← check (length d.targets == length d.diameters * length d.lengths) (of_slot Count TARGETS)
  counted_to Count TRIM 1 d.trim

-- one number, and as many as there are assortments
abbrev pub is_number_of : List Draft → List ℕ → Bool
is_number_of drafts ns = length ns == 1 && slice_index ns 0 == length drafts

-- Line 8, Count: there are as many numbers as there should be.
unfoldable pub in_number : FileDraft → Result (Unit {0}) AptFault
in_number file = do
  _ ← counted_to Count MODULE 1 file.«module»
  _ ← counted_to Count PERIOD 1 file.period
  _ ← counted_to Count LIMIT 1 file.limit
  _ ← check (is_number_of file.drafts file.count) (of_slot Count COUNT)
  each draft_count file.drafts

-- the fault of a number that was found
abbrev pub none_found : Option ℕ → (ℕ → AptFault) → Result (Unit {0}) AptFault
none_found None fault = Ok tt
none_found (Some n) fault = Err (fault n)

-- the first length that isn't a multiple of the module, and so the least
abbrev pub first_off_module : ℕ → List ℕ → Option ℕ
first_off_module step lengths = find (λ l. not (l % step == 0)) lengths

-- Line 9, Module: each length is a multiple of the module.
unfoldable pub on_module : FileDraft → Result (Unit {0}) AptFault
on_module file =
    let step = slice_index file.«module» 0 in
    each (λ d. none_found (first_off_module step d.lengths) Module) file.drafts

-- Line 10, Targets: no assortment's targets are too many together; assortments count from 0.
unfoldable pub in_targets : FileDraft → Result (Unit {0}) AptFault
in_targets file = none_found (position (λ d. nat_lt MOST_TARGETS_TOGETHER (sum d.targets)) file.drafts) Targets

-- Lines 2 to 5: what the items of an instruction say.
unfoldable pub draft_in : List ItemParts → Result FileDraft AptFault
draft_in items = do
  _ ← check (says_apt items) NotApt
  _ ← present items
  _ ← single items
  file_draft_of items

-- Lines 6 to 10: what the items say is within the limits.
unfoldable pub within_limits : FileDraft → Result (Unit {0}) AptFault
within_limits file = do
  _ ← in_range file
  _ ← in_order file
  _ ← in_number file
  _ ← on_module file
  in_targets file

-- the slots of the table
abbrev pub table : List Slot
table = ALONE ++ NAME ∷ IN_ASSORTMENT

-- The instruction of the bytes, or the first refusal that applies: line 1 (an item without a head) to line 10. Items
-- that stand in no slot of the table are skipped.
unfoldable pub apt_of : List ℕ → Result InstructionParts AptFault
apt_of bytes = do
  items ← with_fault Head (only_in table (items_of bytes))
  file ← draft_in items
  _ ← within_limits file
  Ok (instruction_of file)

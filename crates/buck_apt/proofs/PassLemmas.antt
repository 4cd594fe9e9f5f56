-- What the lines of refusals that passed say: names are trimmed, and the numbers are within the limits.
use Rattle.std.proofs.Common.{map, rules, ◌≡◌, ℕ, ◌*◌, ◌<◌, ◌≤◌, Bool, true, false, List, [], ◌∷◌, ◌==◌, Ok, Option, Some, None, length, sum, slice_index, refl, arith, eqb-true, All, nat_lt, ◌%◌, subst}
use Rattle.std.specs.Prelude.{position}
use Rattle.std.specs.List.{AllByRecursion, list_all}
use Rattle.std.proofs.lemmas.Bool.Decides.{nat_tests}
use Rattle.std.proofs.lemmas.List.Elements.{All-from_recursion, All-map}
use Rattle.std.proofs.lemmas.List.{length-map}
use Rattle.std.proofs.lemmas.List.Sums.{AllPass-from_list_all, fails_before_first}
use Rattle.buck_record.proofs.TableLemmas.{place-none}
use Rattle.std.proofs.lemmas.Bool.{ltb-true, ltb-false}
use Rattle.buck_record.specs.declared.slot.Slot.{Slot}
use Rattle.buck_record.specs.checking.Rules.{one_to, is_rising}
use Rattle.buck_record.proofs.PassLemmas.{AreRanged, passed, check_ok, then_ok, each_ok, both, within_ok, in_range_ok, ranged, counted_ok, counted}
use Rattle.buck_apt_instruction.proofs.Rising.{rising_ok}
use Rattle.buck_apt.specs.declared.fault.AptFault.{AptFault}
use Rattle.buck_apt.specs.declared.fault.AptFault.TheVariants.{Head, Range, Count, Module, Targets}
use Rattle.buck_apt_instruction.specs.declared.slots.TheConstants.{MODULE, PERIOD, LIMIT, COUNT, LONGEST_NAME, SPECIES, GRADES, MOST_GRADES, PRICE_KIND, DIAMETERS, MOST_ROWS, UPPER, LENGTHS, MOST_COLUMNS}
use Rattle.buck_apt_instruction.specs.declared.slots.TheConstants.{PRICES, TARGETS, MOST_TARGETS_TOGETHER, TRIM, NAME}
use Rattle.buck_apt_instruction.specs.declared.draft.Draft.{Draft}
use Rattle.buck_apt_instruction.specs.declared.draft.FileDraft.{FileDraft}
use Rattle.buck_apt_instruction.specs.Instruction.{IsAssortment, IsWithin, IsNameByte, IsOnModule}
use Rattle.buck_apt.specs.Apt.{is_name, is_name_byte, all_above, is_number_of, none_found, first_off_module, draft_range, draft_order, draft_count, in_range, in_order, in_number, on_module}
use Rattle.buck_apt_instruction.specs.Draft.{assortment_of}
use Rattle.buck_apt.specs.Apt.{in_targets, within_limits, table, groups}
use Rattle.buck_apt_instruction.specs.Draft.{IsReadyDraft, IsReadyFile}
use Rattle.buck_record.specs.Item.{ItemParts}
use Rattle.buck_record.specs.Reading.{with_fault}
use Rattle.buck_record.specs.bytes.Record.{items_of}
use Rattle.buck_record.specs.checking.Table.{only_in}
use Rattle.buck_record.specs.bytes.White.{trim}
unfoldable use Rattle.buck_record.specs.checking.Check.{make_each}
use Rattle.buck_record.proofs.TrimLemmas.{AreBare, kept_bare, groups_bare, rest_bare}
unfoldable use Rattle.buck_apt.specs.Apt.{draft_of, file_draft_of, draft_in}

-- drafts of which each name is trimmed
abbrev IsNamed : Draft → Type 0
IsNamed d = trim d.name ≡ d.name

abbrev AreNamed : FileDraft → Type 0
AreNamed file = AllByRecursion IsNamed file.drafts

draft_named : (group : List ItemParts) (d : Draft) → AreBare group → draft_of group ≡ Ok d → IsNamed d
unfolding draft_of
draft_named group d bare h = grind (arith, rest_bare NAME group bare)

drafts_named : (groups : List (List ItemParts)) (made : List Draft) → AllByRecursion AreBare groups
    → make_each draft_of groups ≡ Ok made → AllByRecursion IsNamed made
unfolding make_each
drafts_named [] made bare h = let e : [] ≡ made = cc in subst (AllByRecursion IsNamed) e tt
drafts_named (group ∷ groups) made bare h =
    let first : (d : Draft) → draft_of group ≡ Ok d → IsNamed d = λ d e. draft_named group d bare.0 e in
    let more : (ds : List Draft) → make_each draft_of groups ≡ Ok ds → AllByRecursion IsNamed ds =
    λ ds e. drafts_named groups ds bare.1 e in
    grind (arith, first, more)

file_named : (items : List ItemParts) (file : FileDraft) → AreBare items → file_draft_of items ≡ Ok file → AreNamed file
unfolding file_draft_of
file_named items file bare h =
    let named : (made : List Draft) → make_each draft_of (groups items) ≡ Ok made → AllByRecursion IsNamed made =
    λ made e. drafts_named (groups items) made (groups_bare NAME items bare) e in
    grind (arith, named)

-- the names of a draft that the items of some bytes say
draft_in_named : (bytes : List ℕ) (items : List ItemParts) (file : FileDraft)
    → with_fault Head (only_in table (items_of bytes)) ≡ Ok items → draft_in items ≡ Ok file → AreNamed file
unfolding draft_in
draft_in_named bytes items file read h =
    let bare = kept_bare Head table bytes items read in
    grind (arith, file_named items file bare)

-- the one number of an item
one_of : (item : Slot) (ns : List ℕ) → AreRanged item ns → length ns ≡ 1
    → IsWithin item.low item.high (slice_index ns 0)
one_of item ns h one = h 0 0 (omega arith)

one_number : (ns : List ℕ) → (1 ≤ length ns) × (length ns ≤ 1) → length ns ≡ 1
one_number ns h = omega (arith, h)

name_byte_ok : (b : ℕ) → is_name_byte b ≡ true → IsNameByte b
name_byte_ok b h = grind (arith, nat_tests)

above_ok : (lows highs : List ℕ) → all_above lows highs ≡ true → length highs ≡ 1
    → All (λ low. low < slice_index highs 0) lows
above_ok lows highs h one =
    λ k d lt. ltb-true _ _
    (AllPass-from_list_all (λ low. nat_lt low (slice_index highs 0)) lows
    (AllPass-from_list_all (λ high. list_all (λ low. nat_lt low high) lows) highs h 0 0 (omega arith)) k d lt)

none_found_ok : (o : Option ℕ) (fault : ℕ → AptFault) → none_found o fault ≡ Ok tt → o ≡ None
none_found_ok None fault h = refl
none_found_ok (Some n) fault h = cc

all_on : (step : ℕ) (lengths : List ℕ) → first_off_module step lengths ≡ None
    → AllByRecursion (λ l. l % step ≡ 0) lengths
all_on step [] h = tt
all_on step (l ∷ ls) h = let more = all_on step ls in grind (arith, nat_tests, more)

position_none : {X : Type 0} (p : X → Bool) (xs : List X) → position p xs ≡ None → All (λ x. p x ≡ false) xs
position_none p xs h = λ k d lt. fails_before_first p xs k d (omega (arith, place-none p xs h))

-- an assortment that passed
draft_ready : (d : Draft) → IsNamed d → draft_range d ≡ Ok tt → draft_order d ≡ Ok tt → draft_count d ≡ Ok tt
    → sum d.targets ≤ MOST_TARGETS_TOGETHER → IsReadyDraft d
unfolding draft_range draft_order draft_count
draft_ready d named in_ranges ordered counted_all few =
    let r1 = passed (is_name d.name) _ _ in_ranges in
    let r2 = ranged Range SPECIES d.species _ r1.1 in
    let r3 = ranged Range GRADES d.grades _ r2.1 in
    let r4 = ranged Range PRICE_KIND d.price_kind _ r3.1 in
    let r5 = ranged Range DIAMETERS d.diameters _ r4.1 in
    let r6 = ranged Range UPPER d.upper _ r5.1 in
    let r7 = ranged Range LENGTHS d.lengths _ r6.1 in
    let r8 = ranged Range PRICES d.prices _ r7.1 in
    let r9 = ranged Range TARGETS d.targets _ r8.1 in
    let r10 = in_range_ok Range TRIM d.trim r9.1 in
    let o1 = passed (is_rising d.grades) _ _ ordered in
    let o2 = passed (is_rising d.diameters) _ _ o1.1 in
    let o3 = passed (all_above d.diameters d.upper) _ _ o2.1 in
    let o4 = check_ok (is_rising d.lengths) _ o3.1 in
    let c1 = counted Count SPECIES 1 d.species _ counted_all in
    let c2 = counted Count GRADES MOST_GRADES d.grades _ c1.1 in
    let c3 = counted Count PRICE_KIND 1 d.price_kind _ c2.1 in
    let c4 = counted Count DIAMETERS MOST_ROWS d.diameters _ c3.1 in
    let c5 = counted Count UPPER 1 d.upper _ c4.1 in
    let c6 = counted Count LENGTHS MOST_COLUMNS d.lengths _ c5.1 in
    let c7 = passed (length d.prices == length d.diameters * length d.lengths) _ _ c6.1 in
    let c8 = passed (length d.targets == length d.diameters * length d.lengths) _ _ c7.1 in
    let name = both (one_to LONGEST_NAME (length d.name)) (list_all is_name_byte d.name) r1.0 in
    let name_length = within_ok 1 LONGEST_NAME (length d.name) name.0 in
    let name_bytes : All (λ b. IsNameByte b) d.name =
    λ k b lt. name_byte_ok _ (AllPass-from_list_all is_name_byte d.name name.1 k b lt) in
    let species = one_number d.species c1.0 in
    let price_kind = one_number d.price_kind c3.0 in
    let upper = one_number d.upper c5.0 in
    let trim = one_number d.trim (counted_ok Count TRIM 1 d.trim c8.1) in
    let species_range = one_of SPECIES d.species r2.0 species in
    let price_kind_range = one_of PRICE_KIND d.price_kind r4.0 price_kind in
    let upper_range = one_of UPPER d.upper r6.0 upper in
    let trim_range = one_of TRIM d.trim r10 trim in
    search (rules, rising_ok, above_ok, eqb-true)

lengths_ok : (step : ℕ) (lengths : List ℕ) → none_found (first_off_module step lengths) Module ≡ Ok tt
    → All (λ l. l % step ≡ 0) lengths
lengths_ok step lengths h = All-from_recursion _ lengths (all_on step lengths (none_found_ok _ Module h))

-- what the ninth line requires
pub module_single : (s : FileDraft) → in_number s ≡ Ok tt → length s.«module» ≡ 1
unfolding in_number
module_single s counted_all = one_number s.«module» (counted Count MODULE 1 s.«module» _ counted_all).0

pub module_above_zero : (s : FileDraft) → in_range s ≡ Ok tt → in_number s ≡ Ok tt → 0 < slice_index s.«module» 0
unfolding in_range
module_above_zero s in_ranges counted_all =
    let range = ranged Range MODULE s.«module» _ in_ranges in
    omega (arith, one_of MODULE s.«module» range.0 (module_single s counted_all))

pub ruleset one_module = (module_single, module_above_zero)

-- a file that passed the last five lines
file_ready : (s : FileDraft) → AreNamed s → within_limits s ≡ Ok tt → IsReadyFile s
unfolding within_limits in_range in_order in_number on_module in_targets
file_ready s named passes =
    let in_ranges = then_ok (in_range s) _ passes in
    let ordered = then_ok (in_order s) _ in_ranges.1 in
    let counted_all = then_ok (in_number s) _ ordered.1 in
    let stepped = then_ok (on_module s) _ counted_all.1 in
    let r1 = ranged Range MODULE s.«module» _ in_ranges.0 in
    let r2 = ranged Range PERIOD s.period _ r1.1 in
    let r3 = ranged Range LIMIT s.limit _ r2.1 in
    let r4 = ranged Range COUNT s.count _ r3.1 in
    let c1 = counted Count MODULE 1 s.«module» _ counted_all.0 in
    let c2 = counted Count PERIOD 1 s.period _ c1.1 in
    let c3 = counted Count LIMIT 1 s.limit _ c2.1 in
    let c4 = passed (is_number_of s.drafts s.count) _ _ c3.1 in
    let number = both (length s.count == 1) (slice_index s.count 0 == length s.drafts) c4.0 in
    let same = eqb-true (slice_index s.count 0) (length s.drafts) number.1 in
    let range = one_of COUNT s.count r4.0 (eqb-true _ _ number.0) in
    let step = one_number s.«module» c1.0 in
    let period = one_number s.period c2.0 in
    let limit = one_number s.limit c3.0 in
    let names = All-from_recursion IsNamed s.drafts named in
    let ranges = each_ok draft_range s.drafts r4.1 in
    let orders = each_ok draft_order s.drafts ordered.0 in
    let counts = each_ok draft_count s.drafts c4.1 in
    let few =
    position_none (λ d. nat_lt MOST_TARGETS_TOGETHER (sum d.targets)) s.drafts
    (none_found_ok _ Targets stepped.1) in
    let ready : All IsReadyDraft s.drafts =
    λ k d lt. draft_ready _ (names k d lt) (ranges k d lt) (orders k d lt) (counts k d lt)
    (ltb-false _ _ (few k d lt)) in
    let module_range = one_of MODULE s.«module» r1.0 step in
    let period_range = one_of PERIOD s.period r2.0 period in
    let limit_range = one_of LIMIT s.limit r3.0 limit in
    let assortments_number : IsWithin 1 16 (length (map assortment_of s.drafts)) = rw length-map (rw same at range) in
    let valid = All-map IsAssortment assortment_of s.drafts (λ k d lt. (ready k d lt).valid) in
    let on_step =
    All-map (λ a. IsOnModule (slice_index s.«module» 0) a) assortment_of s.drafts
    (λ k d lt. lengths_ok (slice_index s.«module» 0) _ (each_ok _ s.drafts stepped.0 k d lt)) in
    search rules

-- the file of the items of some bytes
pub items_ready : (s : FileDraft) (bytes : List ℕ) (items : List ItemParts)
    → with_fault Head (only_in table (items_of bytes)) ≡ Ok items → draft_in items ≡ Ok s → within_limits s ≡ Ok tt
    → IsReadyFile s
items_ready s bytes items read is passes = file_ready s (draft_in_named bytes items s read is) passes

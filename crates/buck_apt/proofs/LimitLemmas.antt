-- The draft that says a valid instruction passes all lines of refusals, and the text of the instruction is read again.
use Rattle.std.proofs.Common.{suc, ◌≡◌, ℕ, ◌+◌, ◌*◌, ◌≤◌, ◌%◌, ◌==◌, filter, inl, inr, Bool, true, false, List, [], ◌∷◌, All, Ok, None, length, map, sum, refl, sym, ap, arith, eq-eqb, nat_lt}
use Rattle.std.specs.Prelude.{position}
use Rattle.std.specs.List.{AllByRecursion, list_all, position_or_len, flat_map}
use Rattle.std.specs.List.Sorted.{IsStrictlyIncreasing}
use Rattle.std.proofs.lemmas.Bool.{cases_Bool, le-leb, lt-ltb, le-ltb, and_from, cond-false}
use Rattle.std.proofs.lemmas.Bool.Decides.{nat_tests}
use Rattle.std.proofs.lemmas.List.{length-map}
use Rattle.std.proofs.lemmas.List.Elements.{recursion_from_All, All-map}
use Rattle.std.proofs.lemmas.List.Sums.{list_all-from_AllPass, position_or_len_is}
use Rattle.buck_record.specs.checking.Rules.{within, all_within, is_rising}
use Rattle.buck_apt.specs.declared.fault.AptFault.TheVariants.{Module}
use Rattle.buck_apt_instruction.specs.declared.slots.TheConstants.{LONGEST_NAME, MOST_GRADES, MOST_ROWS, MOST_COLUMNS, MOST_TARGETS_TOGETHER}
use Rattle.buck_apt_instruction.specs.declared.draft.Draft.{Draft}
use Rattle.buck_apt_instruction.specs.Instruction.{AssortmentParts, InstructionParts, IsAssortment, IsInstruction, IsNameByte, IsWithin}
use Rattle.buck_apt_instruction.specs.Draft.{assortment_of, instruction_of}
use Rattle.buck_apt.specs.Apt.{table, is_name, is_name_byte, none_found, first_off_module}
unfoldable use Rattle.buck_apt.specs.Apt.{draft_range, draft_order, draft_count, in_range, in_order, in_number, on_module, in_targets, within_limits, apt_of}
use Rattle.buck_apt.specs.Text.{text_of}
unfoldable use Rattle.buck_apt.proofs.ItemLemmas.{member_items, head_items}
use Rattle.buck_record.specs.checking.Table.{is_in}
use Rattle.buck_apt.proofs.ItemLemmas.{assortment_items, items_in, draft_for, file_draft_for, items_again}
use Rattle.buck_apt.proofs.DraftLemmas.{draft_in_again, each_passes, each_valid}

within_from : (low high n : ℕ) → IsWithin low high n → within low high n ≡ true
within_from low high n h = and_from _ _ (le-leb low n h.0) (le-leb n high h.1)

all_within_from : (low high : ℕ) (ns : List ℕ) → All (λ n. IsWithin low high n) ns → all_within low high ns ≡ true
all_within_from low high ns h =
    list_all-from_AllPass (within low high) ns (λ k d lt. within_from low high _ (h k d lt))

all_upto_from : (high : ℕ) (ns : List ℕ) → All (λ n. n ≤ high) ns → all_within 0 high ns ≡ true
all_upto_from high ns h = all_within_from 0 high ns (λ k d lt. (omega arith, h k d lt))

one_within : (low high n : ℕ) → IsWithin low high n → all_within low high (n ∷ []) ≡ true
one_within low high n h = rw (within_from low high n h) refl

name_byte_from : (b : ℕ) → IsNameByte b → is_name_byte b ≡ true
name_byte_from b h = grind (arith, nat_tests)

rising_from : (ns : List ℕ) → IsStrictlyIncreasing ns → is_rising ns ≡ true
rising_from [] h = refl
rising_from (n ∷ []) h = refl
rising_from (m ∷ n ∷ ns) h =
    and_from _ _ (lt-ltb m n (h 0 (omega arith)))
    (rising_from (n ∷ ns)
    (λ k lt. let one : suc k + 1 ≡ suc (k + 1) = omega arith in rw one at (h (suc k) (omega arith))))

module _ (a : AssortmentParts) (h : IsAssortment a) where
  range_again : draft_range (draft_for a) ≡ Ok tt
  unfolding draft_range
  range_again =
      let name : is_name a.name ≡ true =
      and_from _ _ (within_from 1 LONGEST_NAME (length a.name) h.name_length)
      (list_all-from_AllPass is_name_byte a.name (λ k d lt. name_byte_from _ (h.name_bytes k d lt))) in
      rw (
        name,
        one_within 1 255 a.species h.species,
        all_within_from 1 8 a.grades h.grades_range,
        one_within 1 2 a.price_kind h.price_kind,
        all_upto_from 1500 a.diameters h.diameters_range,
        one_within 1 2000 a.upper h.upper_range,
        all_within_from 500 30000 a.lengths h.lengths_range,
        all_upto_from 10000000 a.prices h.prices_range,
        all_upto_from 1000000 a.targets h.targets_range,
        one_within 0 200 a.trim (omega arith, h.trim_range),
      ) refl

  order_again : draft_order (draft_for a) ≡ Ok tt
  unfolding draft_order
  order_again =
      let above : list_all (λ low. nat_lt low a.upper) a.diameters ≡ true =
      list_all-from_AllPass (λ low. nat_lt low a.upper) a.diameters (λ k d lt. lt-ltb _ _ (h.upper_above k d lt)) in
      rw (
        rising_from a.grades h.grades_rise,
        rising_from a.diameters h.diameters_rise,
        above,
        rising_from a.lengths h.lengths_rise,
      ) refl

  count_again : draft_count (draft_for a) ≡ Ok tt
  unfolding draft_count
  count_again =
      rw (
        within_from 1 MOST_GRADES (length a.grades) h.grades_number,
        within_from 1 MOST_ROWS (length a.diameters) h.rows,
        within_from 1 MOST_COLUMNS (length a.lengths) h.columns,
        eq-eqb (length a.prices) (length a.diameters * length a.lengths) h.prices_number,
        eq-eqb (length a.targets) (length a.diameters * length a.lengths) h.targets_number,
      ) refl

off_none : (step : ℕ) (lengths : List ℕ) → AllByRecursion (λ l. l % step ≡ 0) lengths
    → first_off_module step lengths ≡ None
off_none step [] h = refl
off_none step (l ∷ ls) h = rw (eq-eqb (l % step) 0 h.0) (off_none step ls h.1)

none_at : {X : Type 0} (p : X → Bool) (xs : List X) → All (λ x. p x ≡ false) xs → position p xs ≡ None
none_at p [] h = refl
none_at p (x ∷ xs) h =
    let all = position_or_len_is p (x ∷ xs) (length (x ∷ xs)) x (omega arith) (λ k lt. h k x lt)
    (λ lt. absurd (omega arith)) in
    let none : length (x ∷ xs) ≤ position_or_len p (x ∷ xs) = omega arith in cond-false _ _ _ (le-ltb _ _ none)

abbrev too_many : Draft → Bool
too_many d = nat_lt MOST_TARGETS_TOGETHER (sum d.targets)

said_back : (rest : List AssortmentParts) → map assortment_of (map draft_for rest) ≡ rest
said_back [] = refl
said_back (a ∷ rest) = ap (λ xs. a ∷ xs) (said_back rest)

module _ (i : InstructionParts) (h : IsInstruction i) where
  ranges_again : in_range (file_draft_for i) ≡ Ok tt
  unfolding in_range
  ranges_again =
      rw (
        one_within 10 1000 i.«module» h.module_range,
        one_within 1 1000 i.period h.period_range,
        one_within 0 1000 i.limit (omega arith, h.limit_range),
        one_within 1 16 (length i.assortments) h.assortments_number,
      ) (each_valid draft_range draft_for i h range_again)

  orders_again : in_order (file_draft_for i) ≡ Ok tt
  unfolding in_order
  orders_again = each_valid draft_order draft_for i h order_again

  counts_again : in_number (file_draft_for i) ≡ Ok tt
  unfolding in_number
  counts_again =
      rw (eq-eqb _ _ (sym (length-map i.assortments draft_for)))
      (each_valid draft_count draft_for i h count_again)

  steps_again : on_module (file_draft_for i) ≡ Ok tt
  unfolding on_module
  steps_again =
      each_passes (λ d. none_found (first_off_module i.«module» d.lengths) Module) draft_for i.assortments
      (recursion_from_All _ i.assortments
      (λ k d lt. ap (λ o. none_found o Module)
      (off_none i.«module» _ (recursion_from_All (λ l. l % i.«module» ≡ 0) _ (h.on_module k d lt)))))

  targets_again : in_targets (file_draft_for i) ≡ Ok tt
  unfolding in_targets
  targets_again =
      let few : All (λ d. too_many d ≡ false) (map draft_for i.assortments) =
      All-map (λ d. too_many d ≡ false) draft_for i.assortments
      (λ k d lt. le-ltb _ _ (h.assortments_valid k d lt).targets_sum) in
      rw (none_at too_many (map draft_for i.assortments) few) refl

  limits_again : within_limits (file_draft_for i) ≡ Ok tt
  unfolding within_limits
  limits_again = rw (ranges_again, orders_again, counts_again, steps_again, targets_again) refl

  instruction_back : instruction_of (file_draft_for i) ≡ i
  instruction_back =
      ap (λ rest. record { «module» = i.«module»; period = i.period; limit = i.limit; assortments = rest })
      (said_back i.assortments)

-- all items of the text stand in slots of the table
kept : (rest : List AssortmentParts)
    → filter (is_in table) (flat_map assortment_items rest) ≡ flat_map assortment_items rest
unfolding member_items
kept [] = refl
kept (a ∷ rest) =
    elim (cases_Bool (a.trim == 0)) [ inl none ↦ rw (none, kept rest) refl | inr some ↦ rw (some, kept rest) refl ]

all_kept : (i : InstructionParts) → filter (is_in table) (items_in i) ≡ items_in i
unfolding head_items
all_kept i = rw (kept i.assortments) refl

-- the text of an instruction is read again as the instruction
pub text_again : (i : InstructionParts) → IsInstruction i → apt_of (text_of i) ≡ Ok i
unfolding apt_of
text_again i h =
    rw (items_again i h, all_kept i, draft_in_again i h, limits_again i h) (ap (λ x. Ok x) (instruction_back i h))

-- The draft of an instruction's items is that which says it.
use Rattle.std.proofs.Common.{◌≡◌, ℕ, ◌+◌, ◌<◌, ◌≤◌, ◌==◌, true, List, [], ◌∷◌, ◌++◌, None, Ok, length, map, refl, sym, ap, arith, inl, inr, eqb-true, cond}
use Rattle.std.specs.List.{AllByRecursion, flat_map}
use Rattle.std.proofs.lemmas.Bool.{cases_Bool, lt-ltb}
use Rattle.std.proofs.lemmas.List.Sums.{sum_by-append}
use Rattle.buck_record.specs.pass.Cursor.{item_in}
use Rattle.std.proofs.lemmas.List.Elements.{recursion_from_All}
use Rattle.buck_record.specs.Item.{ItemParts}
use Rattle.buck_record.specs.bytes.Record.{numbers_of}
use Rattle.buck_record.specs.checking.Table.{count_in, first_missing, first_twice, is_at}
unfoldable use Rattle.buck_record.specs.checking.Table.{rest_in, groups_of}
unfoldable use Rattle.buck_record.specs.checking.Check.{each, make_each}
unfoldable use Rattle.buck_record.specs.checking.Rules.{numbers_in}
use Rattle.std.specs.Prelude.{Result}
use Rattle.buck_apt.specs.declared.fault.AptFault.{AptFault}
use Rattle.buck_apt_instruction.specs.declared.slots.TheConstants.{ALONE, HEAD, NAME, TRIM}
use Rattle.buck_apt_instruction.specs.Instruction.{AssortmentParts, InstructionParts, IsAssortment, IsInstruction}
use Rattle.buck_apt.specs.Apt.{groups, begins_with_name}
unfoldable use Rattle.buck_apt.specs.Apt.{group_present, present, group_single, single, numbers_or, draft_of, file_draft_of, draft_in}
use Rattle.buck_record.specs.writing.Written.{blank, row_start}
unfoldable use Rattle.buck_apt.proofs.ItemLemmas.{member_items, head_items}
use Rattle.buck_record.proofs.RoundLemmas.{AreWhite}
use Rattle.buck_record.proofs.SpacedLemmas.{said, said_again}
use Rattle.buck_apt.proofs.ItemLemmas.{assortment_items, items_in, draft_for, file_draft_for, blank_white, row_white, small_from, small_within, classes_some}

-- one number
one_again : (n : ℕ) → n ≤ 4294967295 → numbers_of (said blank (n ∷ [])) ≡ Ok (n ∷ [])
one_again n le = said_again blank blank_white (n ∷ []) (omega arith) (le, tt)

module _ (a : AssortmentParts) (h : IsAssortment a) where
  trim_again : numbers_or 0 TRIM (assortment_items a) ≡ Ok (a.trim ∷ [])
  unfolding numbers_or numbers_in rest_in member_items
  trim_again =
      elim (cases_Bool (a.trim == 0)) [
        | inl none ↦ rw none (ap (λ n. Ok (n ∷ [])) (sym (eqb-true a.trim 0 none)))
        | inr some ↦ rw some (rw (one_again a.trim (let s = h.trim_range in omega arith)) refl)
      ]

  draft_again : draft_of (assortment_items a) ≡ Ok (draft_for a)
  unfolding draft_of numbers_in rest_in member_items
  draft_again =
      let rows : AreWhite (row_start (length a.lengths)) = row_white (length a.lengths) in
      rw (
        one_again a.species (let s = h.species in omega arith),
        said_again blank blank_white a.grades (let s = h.grades_number in omega arith)
            (small_within 1 8 (omega arith) a.grades h.grades_range),
        one_again a.price_kind (let s = h.price_kind in omega arith),
        said_again blank blank_white a.diameters (let s = h.rows in omega arith)
            (small_from 1500 (omega arith) a.diameters h.diameters_range),
        one_again a.upper (let s = h.upper_range in omega arith),
        said_again blank blank_white a.lengths (let s = h.columns in omega arith)
            (small_within 500 30000 (omega arith) a.lengths h.lengths_range),
        said_again (row_start (length a.lengths)) rows a.prices (omega (arith, classes_some a h, h.prices_number))
            (small_from 10000000 (omega arith) a.prices h.prices_range),
        said_again (row_start (length a.lengths)) rows a.targets (omega (arith, classes_some a h, h.targets_number))
            (small_from 1000000 (omega arith) a.targets h.targets_range),
        trim_again,
      ) refl

  present_again : group_present (assortment_items a) ≡ Ok tt
  unfolding group_present member_items
  present_again = elim (cases_Bool (a.trim == 0)) [ inl none ↦ rw none refl | inr some ↦ rw some refl ]

  single_again : group_single (assortment_items a) ≡ Ok tt
  unfolding group_single member_items
  single_again = elim (cases_Bool (a.trim == 0)) [ inl none ↦ rw none refl | inr some ↦ rw some refl ]

-- each assortment's items are a group
groups_again : (rest : List AssortmentParts)
    → groups_of NAME (flat_map assortment_items rest) ≡ map assortment_items rest
unfolding groups_of member_items
groups_again [] = refl
groups_again (a ∷ []) = elim (cases_Bool (a.trim == 0)) [ inl none ↦ rw none refl | inr some ↦ rw some refl ]
groups_again (a ∷ b ∷ rest) =
    let more = groups_again (b ∷ rest) in
    elim (cases_Bool (a.trim == 0)) [ inl none ↦ rw (none, more) refl | inr some ↦ rw (some, more) refl ]

module _ (i : InstructionParts) where
  groups_in : groups (items_in i) ≡ map assortment_items i.assortments
  unfolding groups_of head_items
  groups_in = groups_again i.assortments

  -- no assortment has an item of those that stand once in a file
  none_twice : (rest : List AssortmentParts) → first_twice ALONE (head_items i ++ flat_map assortment_items rest) ≡ None
  unfolding head_items member_items
  none_twice [] = refl
  none_twice (a ∷ rest) =
      elim (cases_Bool (a.trim == 0)) [ inl none ↦ rw none (none_twice rest) | inr some ↦ rw some (none_twice rest) ]

  all_heads : (rest : List AssortmentParts) → first_missing HEAD (head_items i ++ flat_map assortment_items rest) ≡ None
  unfolding head_items member_items
  all_heads [] = refl
  all_heads (a ∷ rest) =
      elim (cases_Bool (a.trim == 0)) [ inl none ↦ rw none (all_heads rest) | inr some ↦ rw some (all_heads rest) ]

  begins : (rest : List AssortmentParts) → 0 < length rest
      → begins_with_name (head_items i ++ flat_map assortment_items rest) ≡ true
  unfolding head_items
  begins [] some = absurd (omega arith)
  begins (a ∷ rest) some =
      let items : List ItemParts = member_items a ++ flat_map assortment_items rest in
      let count : count_in NAME (head_items i ++ item_in NAME a.name ∷ items) ≡ 1 + count_in NAME items =
      sum_by-append (λ x. cond (is_at NAME x) 1 0) (head_items i ++ item_in NAME a.name ∷ []) items in
      rw (lt-ltb 0 (count_in NAME (head_items i ++ item_in NAME a.name ∷ items)) (omega arith)) refl

drafts_again : (rest : List AssortmentParts) → AllByRecursion IsAssortment rest
    → make_each draft_of (map assortment_items rest) ≡ Ok (map draft_for rest)
unfolding make_each
drafts_again [] h = refl
drafts_again (a ∷ rest) h = rw (draft_again a h.0, drafts_again rest h.1) refl

-- a check of each that passes
pub each_passes : {X : Type 0} (f : X → Result (Unit {0}) AptFault) (g : AssortmentParts → X)
    (rest : List AssortmentParts) → AllByRecursion (λ a. f (g a) ≡ Ok tt) rest → each f (map g rest) ≡ Ok tt
unfolding each
each_passes f g [] h = refl
each_passes f g (a ∷ rest) h = rw (h.0, each_passes f g rest h.1) refl

pub each_valid : {X : Type 0} (f : X → Result (Unit {0}) AptFault) (g : AssortmentParts → X) (i : InstructionParts)
    → IsInstruction i → ((a : AssortmentParts) → IsAssortment a → f (g a) ≡ Ok tt)
    → each f (map g i.assortments) ≡ Ok tt
each_valid f g i h passes =
    each_passes f g i.assortments (recursion_from_All _ i.assortments (λ k d lt. passes _ (h.assortments_valid k d lt)))

module _ (i : InstructionParts) (h : IsInstruction i) where
  all_there : present (items_in i) ≡ Ok tt
  unfolding present
  all_there =
      let name = begins i i.assortments (let n = h.assortments_number in omega arith) in
      let each_one = each_valid group_present assortment_items i h present_again in
      rw (all_heads i i.assortments, name, groups_in i, each_one) refl

  once : single (items_in i) ≡ Ok tt
  unfolding single
  once = rw (none_twice i i.assortments, groups_in i, each_valid group_single assortment_items i h single_again) refl

  file_again : file_draft_of (items_in i) ≡ Ok (file_draft_for i)
  unfolding file_draft_of numbers_in rest_in head_items
  file_again =
      rw (
        one_again i.«module» (let s = h.module_range in omega arith),
        one_again i.period (let s = h.period_range in omega arith),
        one_again i.limit (let s = h.limit_range in omega arith),
        one_again (length i.assortments) (let s = h.assortments_number in omega arith),
        groups_in i,
        drafts_again i.assortments (recursion_from_All IsAssortment i.assortments h.assortments_valid),
      ) refl

  -- the draft of the items
  pub draft_in_again : draft_in (items_in i) ≡ Ok (file_draft_for i)
  unfolding draft_in rest_in head_items
  draft_in_again = rw (all_there, once, file_again) refl

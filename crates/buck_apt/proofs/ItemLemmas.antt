-- The items of an instruction's text, the draft that they say, and that the text is read as these items.
use Rattle.std.proofs.Common.{◌≡◌, ℕ, ◌<◌, ◌≤◌, ◌%◌, ◌==◌, false, List, [], ◌∷◌, ◌++◌, All, Ok, length, map, refl, subst, sym, arith, append_assoc, codes, inl, inr}
use Rattle.std.specs.List.{AllByRecursion, flat_map}
use Rattle.std.specs.Fmt.{decimal}
unfoldable use Rattle.std.specs.Fmt.{digits}
use Rattle.std.proofs.lemmas.Bool.{cases_Bool}
use Rattle.std.proofs.lemmas.List.{append-nil}
use Rattle.std.proofs.lemmas.Bool.Decides.{nat_tests}
use Rattle.std.proofs.lemmas.List.Elements.{recursion_from_All, All-from_recursion}
use Rattle.buck_record.specs.Item.{ItemParts}
use Rattle.buck_record.specs.declared.slot.Slot.{Slot}
use Rattle.buck_record.specs.bytes.Record.{is_tilde}
unfoldable use Rattle.buck_record.specs.bytes.Record.{items_of}
use Rattle.buck_record.specs.checking.Rules.{file_slot}
use Rattle.buck_record.specs.pass.Cursor.{HasItems, item_in}
use Rattle.buck_apt_instruction.specs.declared.slots.TheConstants.{MODULE, PERIOD, LIMIT, COUNT, NAME, SPECIES, GRADES, PRICE_KIND, DIAMETERS, UPPER, LENGTHS, PRICES, TARGETS, TRIM}
use Rattle.buck_apt_instruction.specs.Instruction.{AssortmentParts, InstructionParts, IsAssortment, IsInstruction, IsNameByte, IsWithin, classes_of}
use Rattle.buck_record.specs.writing.Written.{spaced, blank, row_start}
use Rattle.buck_record.specs.writing.Line.{item_text}
use Rattle.buck_apt.specs.Text.{list_text, trim_text}
unfoldable use Rattle.buck_apt.specs.Text.{wood_text, sizes_text, tables_text, assortment_text, text_of}
use Rattle.buck_record.proofs.LineLemmas.{IsPlain, IsSaid, line_says, no_items}
use Rattle.buck_record.proofs.RoundLemmas.{AreWhite}
use Rattle.buck_record.proofs.SpacedLemmas.{said, AreSmall, numbers_are_said, spaced_said, trimmed_is_dark}
use Rattle.std.specs.Prelude.{if◌then◌else◌}
use Rattle.buck_apt_instruction.specs.declared.draft.Draft.{Draft}
use Rattle.buck_apt_instruction.specs.declared.draft.FileDraft.{FileDraft}

abbrev pub trim_items : ℕ → List ItemParts
trim_items n = if n == 0 then [] else item_in TRIM (said blank (n ∷ [])) ∷ []

-- the items of an assortment after its name
unfoldable pub member_items : AssortmentParts → List ItemParts
member_items a =
    item_in SPECIES (said blank (a.species ∷ []))
    ∷ item_in GRADES (said blank a.grades)
    ∷ item_in PRICE_KIND (said blank (a.price_kind ∷ []))
    ∷ item_in DIAMETERS (said blank a.diameters)
    ∷ item_in UPPER (said blank (a.upper ∷ []))
    ∷ item_in LENGTHS (said blank a.lengths)
    ∷ item_in PRICES (said (row_start (length a.lengths)) a.prices)
    ∷ item_in TARGETS (said (row_start (length a.lengths)) a.targets)
    ∷ trim_items a.trim

abbrev pub assortment_items : AssortmentParts → List ItemParts
assortment_items a = item_in NAME a.name ∷ member_items a

-- the items before the first assortment
unfoldable pub head_items : InstructionParts → List ItemParts
head_items i =
    item_in file_slot (codes "APT")
    ∷ item_in MODULE (said blank (i.«module» ∷ []))
    ∷ item_in PERIOD (said blank (i.period ∷ []))
    ∷ item_in LIMIT (said blank (i.limit ∷ []))
    ∷ item_in COUNT (said blank (length i.assortments ∷ []))
    ∷ []

-- the items of an instruction's text
abbrev pub items_in : InstructionParts → List ItemParts
items_in i = head_items i ++ flat_map assortment_items i.assortments

-- the draft that says an assortment
abbrev pub draft_for : AssortmentParts → Draft
draft_for a = record {
  name = a.name;
  species = a.species ∷ [];
  grades = a.grades;
  price_kind = a.price_kind ∷ [];
  diameters = a.diameters;
  upper = a.upper ∷ [];
  lengths = a.lengths;
  prices = a.prices;
  targets = a.targets;
  trim = a.trim ∷ [];
}

-- the draft that says an instruction
abbrev pub file_draft_for : InstructionParts → FileDraft
file_draft_for i = record {
  «module» = i.«module» ∷ [];
  period = i.period ∷ [];
  limit = i.limit ∷ [];
  count = length i.assortments ∷ [];
  drafts = map draft_for i.assortments;
}

pub blank_white : AreWhite blank
blank_white k = refl

pub row_white : (columns : ℕ) → AreWhite (row_start columns)
row_white columns k =
    elim (cases_Bool (k % columns == 0)) [ inl start ↦ rw start refl | inr other ↦ rw other refl ]

-- a text that is read as these items, whatever is read after it
record Says (text : List ℕ) (own : List ItemParts) : Type 0 where
  pub before : (more : List ℕ) (items : List ItemParts) → HasItems more items → HasItems (text ++ more) (own ++ items)

nothing_says : Says [] []
nothing_says = record { before = λ more items has. has }

-- two texts, one after the other
infixl 10 ◌⊕◌
◌⊕◌ : {a b : List ℕ} {xs ys : List ItemParts} → Says a xs → Says b ys → Says (a ++ b) (xs ++ ys)
◌⊕◌ {a} {b} {xs} {ys} p q = record {
  before =
      λ more items has. subst (λ text. HasItems text ((xs ++ ys) ++ items)) (sym (append_assoc a b more))
      (subst (λ all. HasItems (a ++ (b ++ more)) all) (sym (append_assoc xs ys items))
      (p.before (b ++ more) (ys ++ items) (q.before more items has)));
}

-- the bytes that begin an item
abbrev IsHead : Slot → List ℕ → Type 0
IsHead s head = (s.number ≤ 65535) × (s.kind ≤ 65535) × (head ≡ decimal s.number ++ 32 ∷ decimal s.kind)

text_says : (s : Slot) (head rest : List ℕ) → IsHead s head → IsSaid rest
    → Says (item_text head (32 ∷ rest)) (item_in s rest ∷ [])
text_says s head rest is said =
    record { before = λ more items has. line_says s is.0 is.1 32 refl rest said head more items is.2 has }

list_says : (white : ℕ → ℕ) → AreWhite white → (s : Slot) (head ns : List ℕ) → IsHead s head → 0 < length ns
    → AreSmall ns → Says (item_text head (spaced white 0 ns)) (item_in s (said white ns) ∷ [])
list_says white w s head [] is some small = absurd (omega arith)
list_says white w s head (m ∷ ms) is some small = record {
  before =
      λ more items has. rw (spaced_said white w m ms)
      (line_says s is.0 is.1 (white 0) (w 0) (said white (m ∷ ms)) (numbers_are_said white w m ms small) head more
      items is.2 has);
}

one_says : (s : Slot) (head : List ℕ) (n : ℕ) → IsHead s head → n ≤ 4294967295
    → Says (list_text head (n ∷ [])) (item_in s (said blank (n ∷ [])) ∷ [])
one_says s head n is le = list_says blank blank_white s head (n ∷ []) is (omega arith) (le, tt)

-- numbers within a limit are small
pub small_from : (most : ℕ) → most ≤ 4294967295 → (ns : List ℕ) → All (λ n. n ≤ most) ns → AreSmall ns
small_from most le ns h = recursion_from_All _ ns (λ k d lt. let here = h k d lt in omega arith)

pub small_within : (low high : ℕ) → high ≤ 4294967295 → (ns : List ℕ) → All (λ n. IsWithin low high n) ns → AreSmall ns
small_within low high le ns h = recursion_from_All _ ns (λ k d lt. let here = h k d lt in omega arith)

name_plain : (b : ℕ) → IsNameByte b → is_tilde b ≡ false
name_plain b h = grind (arith, nat_tests)

name_said : (a : AssortmentParts) → IsAssortment a → IsSaid a.name
name_said a h =
    let some : 0 < length a.name = let l = h.name_length in omega arith in
    let dark = trimmed_is_dark a.name some h.name_trimmed in
    record { starts = dark.0; ends = dark.1; plain = λ k d lt. name_plain _ (h.name_bytes k d lt) }

trim_says : (trim : ℕ) → trim ≤ 200 → Says (trim_text trim) (trim_items trim)
unfolding digits
trim_says trim le =
    elim (cases_Bool (trim == 0)) [
      | inl none ↦ rw none nothing_says
      | inr some ↦ rw some (one_says TRIM (codes "919 1") trim (omega arith, omega arith, refl) (omega arith))
    ]

pub classes_some : (a : AssortmentParts) → IsAssortment a → 0 < classes_of a
classes_some a h = let r = h.rows in let c = h.columns in grind arith

assortment_says : (a : AssortmentParts) → IsAssortment a → Says (assortment_text a) (assortment_items a)
unfolding assortment_text wood_text sizes_text tables_text member_items digits
assortment_says a h =
    let rows : AreWhite (row_start (length a.lengths)) = row_white (length a.lengths) in
    (text_says NAME (codes "911 1") a.name (omega arith, omega arith, refl) (name_said a h)
    ⊕ one_says SPECIES (codes "912 1") a.species (omega arith, omega arith, refl) (let s = h.species in omega arith)
    ⊕ list_says blank blank_white GRADES (codes "913 1") a.grades (omega arith, omega arith, refl)
    (let s = h.grades_number in omega arith) (small_within 1 8 (omega arith) a.grades h.grades_range)
    ⊕ one_says PRICE_KIND (codes "914 1") a.price_kind (omega arith, omega arith, refl)
    (let s = h.price_kind in omega arith))
    ⊕ (list_says blank blank_white DIAMETERS (codes "915 1") a.diameters (omega arith, omega arith, refl)
    (let s = h.rows in omega arith) (small_from 1500 (omega arith) a.diameters h.diameters_range)
    ⊕ one_says UPPER (codes "915 2") a.upper (omega arith, omega arith, refl) (let s = h.upper_range in omega arith)
    ⊕ list_says blank blank_white LENGTHS (codes "916 1") a.lengths (omega arith, omega arith, refl)
    (let s = h.columns in omega arith) (small_within 500 30000 (omega arith) a.lengths h.lengths_range))
    ⊕ (list_says (row_start (length a.lengths)) rows PRICES (codes "917 1") a.prices (omega arith, omega arith, refl)
    (omega (arith, classes_some a h, h.prices_number)) (small_from 10000000 (omega arith) a.prices h.prices_range)
    ⊕ list_says (row_start (length a.lengths)) rows TARGETS (codes "918 1") a.targets (omega arith, omega arith, refl)
    (omega (arith, classes_some a h, h.targets_number)) (small_from 1000000 (omega arith) a.targets h.targets_range)
    ⊕ trim_says a.trim h.trim_range)

assortments_say : (rest : List AssortmentParts) → AllByRecursion IsAssortment rest
    → Says (flat_map assortment_text rest) (flat_map assortment_items rest)
assortments_say [] h = nothing_says
assortments_say (a ∷ rest) h = assortment_says a h.0 ⊕ assortments_say rest h.1

apt_plain : IsSaid (codes "APT")
apt_plain = record {
  starts = (omega arith, refl);
  ends = (omega arith, refl);
  plain = All-from_recursion IsPlain (codes "APT") (refl, (refl, (refl, tt)));
}

all_say : (i : InstructionParts) → IsInstruction i → Says (text_of i) (items_in i)
unfolding text_of head_items digits
all_say i h =
    text_says file_slot (codes "1 2") (codes "APT") (omega arith, omega arith, refl) apt_plain
    ⊕ one_says MODULE (codes "901 1") i.«module» (omega arith, omega arith, refl)
    (let s = h.module_range in omega arith)
    ⊕ one_says PERIOD (codes "902 1") i.period (omega arith, omega arith, refl) (let s = h.period_range in omega arith)
    ⊕ one_says LIMIT (codes "903 1") i.limit (omega arith, omega arith, refl) (let s = h.limit_range in omega arith)
    ⊕ one_says COUNT (codes "910 1") (length i.assortments) (omega arith, omega arith, refl)
    (let s = h.assortments_number in omega arith)
    ⊕ assortments_say i.assortments (recursion_from_All IsAssortment i.assortments h.assortments_valid)

-- the items of the text are those that were written
pub items_again : (i : InstructionParts) → IsInstruction i → items_of (text_of i) ≡ Ok (items_in i)
unfolding items_of
items_again i h =
    subst (λ text. HasItems text (items_in i)) (append-nil (text_of i))
    (subst (λ all. HasItems (text_of i ++ []) all) (append-nil (items_in i)) ((all_say i h).before [] [] no_items)) 1

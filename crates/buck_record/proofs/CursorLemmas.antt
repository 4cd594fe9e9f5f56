-- The first piece of a text.
use Rattle.std.proofs.Common.{◌≡◌, ℕ, ◌+◌, ◌<◌, ◌≤◌, true, false, List, ◌∷◌, Option, None, Some, length, get_or, refl, sym, ap, ap₂, subst, ◌==◌, eqb-true, ◌∙◌, arith, length-drop}
use Rattle.std.specs.Prelude.{position}
use Rattle.std.specs.List.{before_first, after_first, position_or_len}
use Rattle.std.proofs.lemmas.List.Sums.{position_or_len_is}
use Rattle.std.proofs.lemmas.Bool.{false_from_ne_true, lt-ltb, le-ltb, cond-true, cond-false}
use Rattle.memchr.specs.Find.{IsFirstByte, is_byte}
use Rattle.buck_record.specs.Item.{ItemParts}
use Rattle.buck_record.specs.bytes.White.{trim}
unfoldable use Rattle.buck_record.specs.Reading.{each_from}
use Rattle.buck_record.specs.bytes.Record.{is_tilde, item_of, pieces}
use Rattle.buck_record.specs.pass.Cursor.{HasItems, HasItemsIn, Leads, item_in}
use Rattle.buck_record.specs.inner.Front.{IsCut}
use Rattle.buck_record.proofs.PassLemmas.{both}
use Rattle.buck_record.specs.declared.slot.Slot.{Slot}
use Rattle.buck_record.specs.checking.Table.{is_at, is_in}
use Rattle.buck_record.proofs.WordLemmas.{pieces-first}

pub is_cut : (text part piece left : List ℕ) → part ≡ before_first is_tilde text → left ≡ after_first is_tilde text
    → piece ≡ trim part → IsCut text piece left
is_cut text part piece left is after cut =
    rw (after, cut, is) (record {
      shorter = λ some. omega (arith, some, length-drop (position_or_len is_tilde text + 1) text);
      first = λ some. pieces-first text ∙ cond-true _ _ _ (lt-ltb _ _ some);
      none = λ none. pieces-first text ∙ cond-false _ _ _ (le-ltb 0 (length (trim (before_first is_tilde text)))
          (let e : length (trim (before_first is_tilde text)) ≤ 0 = omega (arith, none) in e));
    })

-- the items of a text that begins with one
pub leads_on : {text left : List ℕ} {item : ItemParts} → Leads text item left → (items : List ItemParts)
    → HasItems left items → HasItems text (item ∷ items)
unfolding each_from
leads_on l items h = λ k. rw (l.first, l.head, h (k + 1)) refl

-- a text whose first piece is an item begins with it
pub begins_with : {text piece left : List ℕ} {item : ItemParts} → pieces text ≡ piece ∷ pieces left
    → item_of piece ≡ Some item → length left < length text → Leads text item left
begins_with {text} {piece} first head shorter = record { piece = piece; first = first; head = head; shorter = shorter }

-- the same of the items in some slots, where the first item stands in one
pub kept_on : {text left : List ℕ} {item : ItemParts} (slots : List Slot) → Leads text item left
    → is_in slots item ≡ true → (items : List ItemParts) → HasItemsIn slots left items
    → HasItemsIn slots text (item ∷ items)
kept_on {item} slots l inside items h =
    (item ∷ h.0, leads_on l h.0 h.1, cond-true _ _ _ inside ∙ ap (λ xs. item ∷ xs) h.2)

-- and where it stands in none
pub passed_on : {text left : List ℕ} {item : ItemParts} (slots : List Slot) → Leads text item left
    → is_in slots item ≡ false → (items : List ItemParts) → HasItemsIn slots left items → HasItemsIn slots text items
passed_on {item} slots l other items h = (item ∷ h.0, leads_on l h.0 h.1, cond-false _ _ _ other ∙ h.2)

-- an item that stands in a slot is the slot's, with a rest
pub leads_in : {text left : List ℕ} {item : ItemParts} (s : Slot) → Leads text item left → is_at s item ≡ true
    → Leads text (item_in s item.rest) left
leads_in {text} {left} {item} s l at =
    let p = both (item.number == s.number) (item.kind == s.kind) at in
    subst (λ i. Leads text i left)
    (ap₂ (λ n k. record { number = n; kind = k; rest = item.rest }) (eqb-true _ _ p.0) (eqb-true _ _ p.1)) l

-- the first tilde that a search finds
pub first_found : (text : List ℕ) (r : Option ℕ) → IsFirstByte (is_byte 126) text r → r ≡ position is_tilde text
first_found text None h =
    let at : position_or_len is_tilde text ≡ length text =
    position_or_len_is is_tilde text (length text) 0 (omega arith)
    (λ k lt. false_from_ne_true (is_tilde (get_or text k 0)) (h k (omega arith) lt)) (λ lt. absurd (omega arith)) in
    sym (cond-false _ _ _ (le-ltb (position_or_len is_tilde text) (length text) (omega (arith, at))))
first_found text (Some i) h =
    let at : position_or_len is_tilde text ≡ i =
    position_or_len_is is_tilde text i 0 (omega (arith, h.0.high))
    (λ k lt. false_from_ne_true (is_tilde (get_or text k 0)) (h.0.before k (omega arith) lt)) (λ lt. h.1) in
    ap Some (sym at)
    ∙ sym (cond-true _ _ _ (lt-ltb (position_or_len is_tilde text) (length text) (omega (arith, at, h.0.high))))

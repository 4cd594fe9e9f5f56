-- Lines of items as they are written, and the items that are read of them.
use Rattle.std.proofs.Common.{◌≡◌, ℕ, ◌+◌, ◌<◌, ◌≤◌, ◌^◌, true, false, List, [], ◌∷◌, ◌++◌, All, Some, get_or, length, refl, ap, ◌∙◌, subst, arith, append_assoc}
use Rattle.std.specs.List.{slice_split, onto_first, position_or_len}
use Rattle.std.specs.Char.{is_ascii_digit}
use Rattle.std.specs.Fmt.{decimal}
use Rattle.std.proofs.lemmas.Grind.{common_steps}
use Rattle.std.proofs.lemmas.Bool.{cond-true, lt-ltb}
use Rattle.std.proofs.lemmas.Bool.Decides.{nat_tests}
use Rattle.std.proofs.lemmas.Fmt.{digits_decimal, decimal_nonempty}
use Rattle.std.proofs.Math.Seq.{get_or-append_seam, take-append_seam}
use Rattle.std.proofs.lemmas.List.{length-append, length_push, get_or_append_left, drop_at}
use Rattle.std.proofs.lemmas.List.Elements.{All-append, All-cons}
use Rattle.std.proofs.lemmas.List.Splits.{slice_split_at, slice_split-cons_no}
use Rattle.std.proofs.lemmas.List.Sums.{AllPass-from_list_all, position_or_len_is}
use Rattle.buck_record.specs.Item.{ItemParts}
use Rattle.buck_record.specs.declared.slot.Slot.{Slot}
use Rattle.buck_record.specs.bytes.White.{is_white, trim}
unfoldable use Rattle.buck_record.specs.bytes.White.{trim_start, trim_end, first_word, after_word}
unfoldable use Rattle.buck_record.specs.Reading.{each_from}
use Rattle.buck_record.specs.bytes.Record.{is_tilde, filled_parts}
unfoldable use Rattle.buck_record.specs.bytes.Record.{item_of}
use Rattle.buck_record.specs.pass.Cursor.{HasItems, item_in}
use Rattle.buck_record.proofs.NumberLemmas.{numeral, digit_dark}
use Rattle.buck_record.proofs.RoundLemmas.{dark, number-decimal}
use Rattle.buck_record.proofs.WhiteLemmas.{StartsDark, EndsDark, trim_dark, start_white}
use Rattle.buck_record.specs.writing.Line.{item_text}

-- a byte that isn't a tilde
abbrev pub IsPlain : ℕ → Type 0
IsPlain b = is_tilde b ≡ false

digit_plain : (c : ℕ) → is_ascii_digit c ≡ true → is_tilde c ≡ false
digit_plain c h = grind (arith, nat_tests)

white_plain : (c : ℕ) → is_white c ≡ true → is_tilde c ≡ false
white_plain c h = grind (arith, nat_tests)

ends_append : (xs zs : List ℕ) → EndsDark zs → EndsDark (xs ++ zs)
ends_append xs zs h = grind (arith, common_steps)

starts_append : (xs zs : List ℕ) → StartsDark xs → StartsDark (xs ++ zs)
starts_append [] zs h = absurd (let pos = h.0 in omega arith)
starts_append (x ∷ xs) zs h = (omega arith, h.1)

-- what an item may say: no tilde, and no whitespace byte at its ends
pub record IsSaid (rest : List ℕ) : Type 0 where
  pub starts : StartsDark rest
  pub ends : EndsDark rest
  pub plain : All IsPlain rest

trimmed : (rest : List ℕ) → IsSaid rest → trim rest ≡ rest
trimmed rest h = trim_dark rest h.starts h.ends

module _ (n : ℕ) (lt : n < 2 ^ 64) where
  digits : (k : ℕ) → k < length (decimal n) → is_ascii_digit (get_or (decimal n) k 0) ≡ true
  digits k l = AllPass-from_list_all is_ascii_digit (decimal n) (digits_decimal numeral n lt) k 0 l

  pub decimal_said : IsSaid (decimal n)
  decimal_said = record {
    starts = (decimal_nonempty n lt, digit_dark (get_or (decimal n) 0 0) (digits 0 (decimal_nonempty n lt)));
    ends = grind (arith, decimal_nonempty, digit_dark, digits);
    plain = grind (arith, common_steps, digit_plain, digits_decimal, numeral);
  }

  -- a number and a whitespace byte before what may be said
  module _ (w : ℕ) (white : is_white w ≡ true) (rest : List ℕ) where
    pub said_after : IsSaid rest → IsSaid (decimal n ++ w ∷ rest)
    said_after h = record {
      starts = starts_append (decimal n) (w ∷ rest) decimal_said.starts;
      ends = ends_append (decimal n) (w ∷ rest) (ends_append (w ∷ []) rest h.ends);
      plain = All-append IsPlain (decimal n) (w ∷ rest) decimal_said.plain
          (All-cons IsPlain w rest (white_plain w white) h.plain);
    }

    number_word : (first_word (decimal n ++ w ∷ rest) ≡ decimal n) × (after_word (decimal n ++ w ∷ rest) ≡ rest)
    unfolding first_word after_word
    number_word =
        let xs = decimal n in
        let p : position_or_len is_white (xs ++ w ∷ rest) ≡ length xs =
        position_or_len_is is_white (xs ++ w ∷ rest) (length xs) 0 (omega (arith, length-append xs (w ∷ rest)))
        (λ k l. rw (get_or_append_left xs (w ∷ rest) 0 k l) (dark n lt k 0 l))
        (λ _. rw (get_or-append_seam xs w rest 0) white) in
        rw p (
          take-append_seam xs (w ∷ rest),
          rw append_assoc at (drop_at (xs ++ w ∷ []) rest (length xs + 1) (length_push xs w)),
        )

-- a line feed before the parts of a file makes no difference
feed_first : (parts : List (List ℕ)) → filled_parts (onto_first 10 parts) ≡ filled_parts parts
unfolding trim_start trim_end
feed_first [] = refl
feed_first (part ∷ parts) = rw (start_white 10 part refl) refl

pub after_feed : (bytes : List ℕ) (items : List ItemParts) → HasItems bytes items → HasItems (10 ∷ bytes) items
after_feed bytes items h k =
    ap (each_from item_of k)
    (ap filled_parts (slice_split-cons_no is_tilde 10 bytes refl) ∙ feed_first (slice_split is_tilde bytes)) ∙ h k

-- no bytes, no items
pub no_items : HasItems [] []
unfolding each_from trim_start trim_end
no_items k = refl

-- a part that is an item, and a tilde, before the others
part_says : (part left : List ℕ) (item : ItemParts) (items : List ItemParts) → IsSaid part → trim part ≡ part
    → item_of part ≡ Some item → HasItems left items → HasItems (part ++ 126 ∷ left) (item ∷ items)
unfolding each_from
part_says part left item items said same is h = grind (arith, slice_split_at, cond-true, lt-ltb)

-- an item's line, before the items of another text
pub line_says : (s : Slot) → s.number ≤ 65535 → s.kind ≤ 65535 → (w : ℕ) → is_white w ≡ true → (rest : List ℕ)
    → IsSaid rest → (head more : List ℕ) (items : List ItemParts) → head ≡ decimal s.number ++ 32 ∷ decimal s.kind
    → HasItems more items → HasItems (item_text head (w ∷ rest) ++ more) (item_in s rest ∷ items)
unfolding item_of
line_says s n k w white rest h head more items is has =
    let kind = decimal s.kind ++ w ∷ rest in
    let whole = decimal s.number ++ 32 ∷ kind in
    let kind_said = said_after s.kind (omega arith) w white rest h in
    let said = said_after s.number (omega arith) 32 refl kind kind_said in
    let number_first = number_word s.number (omega arith) 32 refl kind in
    let kind_first = number_word s.kind (omega arith) w white rest in
    let item : item_of whole ≡ Some (item_in s rest) =
    rw (
      number_first.0,
      number-decimal 65535 s.number n (omega arith),
      number_first.1,
      trimmed kind kind_said,
      kind_first.0,
      number-decimal 65535 s.kind k (omega arith),
      kind_first.1,
      trimmed rest h,
    ) refl in
    let text : whole ++ 126 ∷ 10 ∷ more ≡ item_text head (w ∷ rest) ++ more = rw is (simp append_assoc) in
    subst (λ t. HasItems t (item_in s rest ∷ items)) text
    (part_says whole (10 ∷ more) (item_in s rest) items said (trimmed whole said) item (after_feed more items has))

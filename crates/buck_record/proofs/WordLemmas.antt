-- The words of a text, one after the other, and its pieces.
use Rattle.std.proofs.Common.{◌≡◌, ℕ, ◌+◌, ◌<◌, ◌≤◌, Bool, true, false, not, List, [], ◌∷◌, length, get_or, filter, refl, sym, ap, ◌∙◌, arith, inl, inr, take_all, length-take-le}
use Rattle.std.specs.List.{slice_split, before_first, after_first, position_or_len}
use Rattle.std.proofs.lemmas.List.{drop_all, nil_from_length}
use Rattle.std.proofs.lemmas.List.Splits.{slice_split_none, slice_split_first, slice_split-cons_yes}
use Rattle.std.proofs.lemmas.List.Sums.{prefix_len-le-length, fails_before_first}
use Rattle.std.proofs.lemmas.Bool.{cases_Bool, cond-true, lt-ltb, cases_lt}
use Rattle.buck_record.specs.bytes.White.{is_white, is_filled}
unfoldable use Rattle.buck_record.specs.bytes.White.{trim_start, trim_end, first_word, after_word, words}
use Rattle.buck_record.specs.bytes.Record.{is_tilde, filled_parts, pieces}
use Rattle.buck_record.proofs.WhiteLemmas.{start_white, start_cases}

pub bounded : {X : Type 0} (p : X → Bool) (xs : List X) → position_or_len p xs ≤ length xs
bounded p xs = prefix_len-le-length (λ x. not (p x)) xs

-- what is made of the parts of a text, if an empty part at the end counts for nothing
split-first : {X : Type 0} (f : List (List ℕ) → X) → ((text : List ℕ) → f (text ∷ []) ≡ f (text ∷ [] ∷ []))
    → (p : ℕ → Bool) (text : List ℕ)
    → f (slice_split p text) ≡ f (before_first p text ∷ slice_split p (after_first p text))
split-first f none p text =
    elim (cases_lt (position_or_len p text) (length text)) [
      | inl lt ↦ ap f (slice_split_first p text 0 lt)
      | inr le ↦
          let whole : position_or_len p text ≡ length text = omega (arith, bounded p text) in
          ap f (slice_split_none p text (λ k d lt. fails_before_first p text k d (omega arith))) ∙ none text
          ∙ rw (whole, take_all (length text) text (omega arith), drop_all (length text + 1) text (omega arith)) refl
    ]

pub pieces-first : (text : List ℕ)
    → pieces text ≡ filled_parts (before_first is_tilde text ∷ slice_split is_tilde (after_first is_tilde text))
unfolding trim_start trim_end
pieces-first text = split-first filled_parts (λ t. refl) is_tilde text

pub pieces_none : (text : List ℕ) → length text ≡ 0 → pieces text ≡ []
unfolding trim_start trim_end
pieces_none text h = rw (nil_from_length text h) refl

pub words-cons_white : (b : ℕ) (bs : List ℕ) → is_white b ≡ true → words (b ∷ bs) ≡ words bs
unfolding words
words-cons_white b bs h = ap (filter is_filled) (slice_split-cons_yes is_white b bs h)

pub words-trim_start : (bs : List ℕ) → words (trim_start bs) ≡ words bs
unfolding trim_start
words-trim_start [] = refl
words-trim_start (b ∷ bs) =
    elim (cases_Bool (is_white b)) [
      | inl white ↦ rw (start_white b bs white) (words-trim_start bs ∙ sym (words-cons_white b bs white))
      | inr dark ↦ rw dark refl
    ]

pub words-none_left : (rest : List ℕ) → length rest ≡ 0 → words rest ≡ []
unfolding words
words-none_left rest h = rw (nil_from_length rest h) refl

pub words_none : (bs : List ℕ) → length (trim_start bs) ≡ 0 → words bs ≡ []
words_none bs h = sym (words-trim_start bs) ∙ words-none_left (trim_start bs) h

-- a text that begins with a word, and what is left after it
pub words-more : (text after : List ℕ) → 0 < length (first_word text) → after ≡ after_word text
    → words text ≡ first_word text ∷ words after
unfolding words first_word after_word
words-more text after h a =
    split-first (filter is_filled) (λ t. refl) is_white text ∙ cond-true _ _ _ (lt-ltb _ _ h)
    ∙ ap (λ bs. first_word text ∷ words bs) (sym a)

-- a text that begins with no whitespace byte has a first word
pub filled_word : (text : List ℕ) → 0 < length text → is_white (get_or text 0 0) ≡ false → 0 < length (first_word text)
unfolding first_word
filled_word [] some dark = absurd (omega arith)
filled_word (b ∷ bs) some dark =
    let size = length-take-le (1 + position_or_len is_white bs) (b ∷ bs) (omega (arith, bounded is_white bs)) in
    rw dark (omega (arith, size))

start_filled : (bs : List ℕ) → 0 < length (trim_start bs) → 0 < length (first_word (trim_start bs))
start_filled bs h =
    elim (start_cases bs) [
      | inl none ↦ absurd (omega (arith, h, ap length none))
      | inr dark ↦ filled_word (trim_start bs) dark.0 dark.1
    ]

pub words_first : (bs : List ℕ) → 0 < length (trim_start bs)
    → words bs ≡ first_word (trim_start bs) ∷ words (after_word (trim_start bs))
words_first bs h = sym (words-trim_start bs) ∙ words-more (trim_start bs) _ (start_filled bs h) refl

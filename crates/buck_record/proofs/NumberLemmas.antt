-- When a word is a number, and the first word of a text while its digits are read one after the other.
use Rattle.std.proofs.Common.{◌≡◌, ℕ, ◌+◌, ◌*◌, ◌-◌, ◌<◌, ◌≤◌, true, false, List, Some, None, length, get_or, get_or-drop, take, drop, drop-drop, length-drop, refl, sym, ap, ◌∙◌, arith, rules, inl, inr, length-take-le}
use Rattle.std.proofs.Math.Nat.{add-zero}
use Rattle.std.specs.List.{list_all, position_or_len}
use Rattle.std.specs.Char.{is_ascii_digit, digit_value}
use Rattle.std.specs.Str.Parse.{digits_value}
use Rattle.std.proofs.lemmas.Str.Parse.{IsNumeralModel, numerals_by_value, digits_value-take-le}
use Rattle.std.proofs.lemmas.Int.Digits.{digits_value_more}
use Rattle.std.proofs.lemmas.List.{get_or-take, take-take, take_rest}
use Rattle.std.proofs.lemmas.List.Folds.{list_all_at, list_all_more}
use Rattle.std.proofs.lemmas.List.Sums.{AllPass-from_list_all, passes_at_first, position_or_len_is}
use Rattle.std.proofs.lemmas.Bool.{cases_lt, false≢true, and_from, and_left, and_right, le-leb, lt-leb, lt-ltb, cond-true, cond-false}
use Rattle.std.proofs.lemmas.Bool.Decides.{nat_tests}
use borrow.Author.Count.{below_more}
use Rattle.buck_record.specs.bytes.White.{is_white}
unfoldable use Rattle.buck_record.specs.bytes.White.{first_word, after_word}
unfoldable use Rattle.buck_record.specs.bytes.Record.{number_at_most}
use Rattle.buck_record.proofs.WordLemmas.{bounded}

abbrev pub AreDigits : List ℕ → Type 0
AreDigits word = list_all is_ascii_digit word ≡ true

pub numeral : IsNumeralModel AreDigits (digits_value 10)
numeral = numerals_by_value AreDigits (search rules)

-- it is digits, at least one, and at most `most`
pub number-some : (most : ℕ) (word : List ℕ) → AreDigits word → 0 < length word → digits_value 10 word ≤ most
    → number_at_most most word ≡ Some (digits_value 10 word)
unfolding number_at_most
number-some most word digits filled small =
    cond-true _ _ _ (and_from _ _ (lt-ltb _ _ filled) (and_from _ _ digits (le-leb _ _ small)))

-- it is no number if it has another byte, or is above `most`
pub number-other : (most : ℕ) (word : List ℕ) → list_all is_ascii_digit word ≡ false → number_at_most most word ≡ None
unfolding number_at_most
number-other most word fails = cond-false _ _ _ (and_right _ _ (and_left _ _ fails))

pub number-large : (most : ℕ) (word : List ℕ) → most < digits_value 10 word → number_at_most most word ≡ None
unfolding number_at_most
number-large most word large = cond-false _ _ _ (and_right _ _ (and_right _ _ (lt-leb _ _ large)))

pub digit_dark : (c : ℕ) → is_ascii_digit c ≡ true → is_white c ≡ false
digit_dark c h = grind (arith, nat_tests)

pub digits_more : (text : List ℕ) (i : ℕ) → AreDigits (take i text) → i < length text
    → is_ascii_digit (get_or text i 0) ≡ true → AreDigits (take (i + 1) text)
digits_more text i digits inside digit = rw (list_all_more is_ascii_digit text i 0 inside, digits, digit) refl

-- a text that begins with digits: what `grind` matches stands first in the conclusions
module _ (text : List ℕ) (i : ℕ) (digits : AreDigits (take i text)) where
  dark : i ≤ length text → (k : ℕ) → k < i → is_white (get_or text k 0) ≡ false
  dark within k lt =
      let inside : k < length (take i text) = omega (arith, length-take-le i text within, lt) in
      digit_dark (get_or text k 0)
      (rw (get_or-take i text k 0 lt) at (AllPass-from_list_all is_ascii_digit (take i text) digits k 0 inside))

  -- the word goes on past a byte that isn't white: it has the digits at its front, and the byte after them
  pub word_goes_on : i < length text → is_white (get_or text i 0) ≡ false
      → (take i text ≡ take i text) × (i < length (first_word text)) × (take i (first_word text) ≡ take i text)
      × (get_or (first_word text) i 0 ≡ get_or text i 0)
  unfolding first_word
  word_goes_on inside other =
      let p = position_or_len is_white text in
      let lt : i < p = elim (cases_lt i p) [
        | inl lt ↦ lt
        | inr le ↦
            let fails = below_more (λ k. is_white (get_or text k 0) ≡ false) i (dark (omega arith)) other in
            absurd (false≢true (sym (fails p (omega arith)) ∙ passes_at_first is_white text 0 (omega arith)))
      ] in (
        refl,
        omega (arith, length-take-le p text (bounded is_white text)),
        take-take i p text (omega arith),
        get_or-take p text i 0 lt,
      )

  -- a byte that is white, or the end of the text: the word is the digits
  pub word_ends : i ≤ length text → (i < length text → is_white (get_or text i 0) ≡ true)
      → (take i text ≡ take i text) × (first_word text ≡ take i text) × (after_word text ≡ drop (i + 1) text)
  unfolding first_word after_word
  word_ends within end =
      let p : position_or_len is_white text ≡ i = position_or_len_is is_white text i 0 within (dark within) end in
      (refl, ap (λ n. take n text) p, ap (λ n. drop (n + 1) text) p)

  -- a byte that is no digit, and one that is: then the word is worth as much at least
  pub word_fails : i < length text → is_ascii_digit (get_or text i 0) ≡ false → is_white (get_or text i 0) ≡ false
      → (take i text ≡ take i text) × (list_all is_ascii_digit (first_word text) ≡ false)
  word_fails inside fails other =
      let f = word_goes_on inside other in
      (refl, list_all_at is_ascii_digit (first_word text) i 0 f.1 (ap is_ascii_digit f.3 ∙ fails))

  pub word_worth : i < length text → is_ascii_digit (get_or text i 0) ≡ true → (take i text ≡ take i text)
      × (digits_value 10 (take i text) * 10 + digit_value (get_or text i 0) ≤ digits_value 10 (first_word text))
  word_worth inside digit =
      let f = word_goes_on inside (digit_dark (get_or text i 0) digit) in (
        refl,
        rw (← f.2, ← f.3) (omega (
          arith,
          digits_value_more 10 (first_word text) i f.1,
          digits_value-take-le 10 (first_word text) (i + 1) (omega (arith, f.1)),
        )),
      )

-- a text with no byte, or with a white one at its front, begins with no number
pub no_word : (most : ℕ) (text : List ℕ) → (0 < length text → is_white (get_or text 0 0) ≡ true)
    → number_at_most most (first_word text) ≡ None
unfolding number_at_most
no_word most text white = rw (word_ends text 0 refl (omega arith) white).1 refl

value_of : (x : ℕ) → is_ascii_digit x ≡ true → digit_value x ≡ x - 48
value_of x h = grind (arith, nat_tests)

-- digits of a text that were read and are worth v, and what is left of the text
pub record IsRead (text rest : List ℕ) (v : ℕ) : Type 0 where
  pub place : ℕ
  pub within : place ≤ length text
  pub left : rest ≡ drop place text
  pub digits : AreDigits (take place text)
  pub value : v ≡ digits_value 10 (take place text)

pub none_read : (text : List ℕ) → IsRead text text 0
none_read text = record { place = 0; within = omega arith; left = refl; digits = refl; value = refl }

module _ (most : ℕ) (text rest : List ℕ) (v : ℕ) (r : IsRead text rest v) where
  some_left : 0 < length rest → r.place < length text
  some_left some = omega (arith, ap length r.left, length-drop r.place text)

  next_byte : get_or rest 0 0 ≡ get_or text r.place 0
  next_byte = rw (r.left, get_or-drop r.place text 0 0, add-zero) refl

  pub digit_read : 0 < length rest → is_ascii_digit (get_or rest 0 0) ≡ true
      → IsRead text (drop 1 rest) (v * 10 + (get_or rest 0 0 - 48))
  digit_read some digit =
      let inside = some_left some in
      record {
        place = r.place + 1;
        within = omega (arith, inside);
        left = ap (drop 1) r.left ∙ drop-drop 1 r.place text;
        digits = digits_more text r.place r.digits inside (ap is_ascii_digit (sym next_byte) ∙ digit);
        value = rw (← value_of _ digit, next_byte, r.value) (sym (digits_value_more 10 text r.place inside));
      }

  -- a whitespace byte is next, or none
  pub word_read : 0 < length (first_word text) → v ≤ most → (0 < length rest → is_white (get_or rest 0 0) ≡ true)
      → (number_at_most most (first_word text) ≡ Some v) × (after_word text ≡ drop 1 rest)
  word_read filled small end =
      let ends = word_ends text r.place r.digits r.within
      (λ inside. ap is_white (sym next_byte) ∙ end (omega (arith, ap length r.left, length-drop r.place text, inside))) in (
        rw (ends.1, r.value)
            (number-some most (take r.place text) r.digits (rw (← ends.1) filled) (rw (← r.value) small)),
        ends.2 ∙ sym (ap (drop 1) r.left ∙ drop-drop 1 r.place text),
      )

  -- a byte that is neither a digit nor white is next
  pub other_read : 0 < length rest → is_ascii_digit (get_or rest 0 0) ≡ false → is_white (get_or rest 0 0) ≡ false
      → number_at_most most (first_word text) ≡ None
  other_read some fails other =
      number-other most (first_word text) (word_fails text r.place r.digits (some_left some)
      (ap is_ascii_digit (sym next_byte) ∙ fails) (ap is_white (sym next_byte) ∙ other)).1

  -- a digit is next by which the number is above `most`
  pub large_read : 0 < length rest → is_ascii_digit (get_or rest 0 0) ≡ true
      → most < v * 10 + (get_or rest 0 0 - 48) → number_at_most most (first_word text) ≡ None
  large_read some digit large =
      let worth = word_worth text r.place r.digits (some_left some) (ap is_ascii_digit (sym next_byte) ∙ digit) in
      number-large most (first_word text)
      (omega (arith, worth.1, rw (← value_of _ digit, next_byte, r.value) at large))

-- a zero before the number is next
pub zero_read : (text rest : List ℕ) → IsRead text rest 0 → 0 < length rest → get_or rest 0 0 ≡ 48
    → IsRead text (take (length rest - 1) (drop 1 rest)) 0
zero_read text rest r some zero =
    let read : IsRead text (drop 1 rest) (0 * 10 + (get_or rest 0 0 - 48)) =
    digit_read 0 text rest 0 r some (ap is_ascii_digit zero) in
    rw (take_rest rest 1) (rw zero at read)

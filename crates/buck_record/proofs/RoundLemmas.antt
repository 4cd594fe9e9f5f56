-- What is written is read again.
use Rattle.std.proofs.Common.{◌≡◌, ℕ, ◌≤◌, ◌+◌, ◌<◌, ◌^◌, true, false, List, [], ◌∷◌, ◌++◌, Some, Ok, get_or, length, filter, map, refl, ap, ◌∙◌, arith}
use Rattle.std.specs.List.{slice_split, All, AllByRecursion}
use Rattle.std.specs.Char.{is_ascii_digit}
use Rattle.std.specs.Fmt.{decimal}
use Rattle.std.specs.Str.Parse.{digits_value}
use Rattle.std.proofs.lemmas.Fmt.{digits_decimal, digits_value-decimal, decimal_nonempty}
use Rattle.std.proofs.lemmas.List.Splits.{slice_split_none, slice_split_at}
use Rattle.std.proofs.lemmas.List.{append-nil}
use Rattle.std.proofs.lemmas.Bool.{cond-true, lt-ltb}
use Rattle.std.proofs.lemmas.List.Sums.{AllPass-from_list_all}
use Rattle.buck_record.specs.bytes.White.{is_white, is_filled, words}
use Rattle.buck_record.specs.Reading.{each_from}
use Rattle.buck_record.specs.bytes.Record.{number_at_most, numbers_of}
use Rattle.buck_record.specs.writing.Written.{spelled, blank}
unfoldable use Rattle.buck_record.specs.writing.Written.{spaced}
use Rattle.buck_record.proofs.NumberLemmas.{numeral, number-some, digit_dark}

pub number-decimal : (most n : ℕ) → n ≤ most → most < 2 ^ 64 → number_at_most most (decimal n) ≡ Some n
number-decimal most n le bound =
    let value : digits_value 10 (decimal n) ≡ n = digits_value-decimal numeral n (omega arith) in
    number-some most (decimal n) (digits_decimal numeral n (omega arith)) (decimal_nonempty n (omega arith))
    (omega (arith, value)) ∙ ap (λ v. Some v) value

-- no whitespace byte in digits
pub dark : (n : ℕ) → n < 2 ^ 64 → All (λ b. is_white b ≡ false) (decimal n)
dark n lt =
    λ k d l. digit_dark (get_or (decimal n) k d)
    (AllPass-from_list_all is_ascii_digit (decimal n) (digits_decimal numeral n lt) k d l)

filled-front : (word : List ℕ) (others : List (List ℕ)) → 0 < length word
    → filter is_filled (word ∷ others) ≡ word ∷ filter is_filled others
filled-front word others h = cond-true _ _ _ (lt-ltb _ _ h)

-- each byte before a number is white
abbrev pub AreWhite : (ℕ → ℕ) → Type 0
AreWhite white = (k : ℕ) → is_white (white k) ≡ true

-- the words of numbers, of which the first has lost the byte before it
pub split-spaced : (white : ℕ → ℕ) → AreWhite white → (n k : ℕ) (ns : List ℕ) → n < 2 ^ 64
    → AllByRecursion (λ n. n < 2 ^ 64) ns
    → filter is_filled (slice_split is_white (decimal n ++ spaced white k ns)) ≡ decimal n ∷ map decimal ns
unfolding spaced
split-spaced white w n k [] lt h =
    ap (λ bs. filter is_filled (slice_split is_white bs)) (append-nil (decimal n))
    ∙ ap (filter is_filled) (slice_split_none is_white (decimal n) (dark n lt))
    ∙ filled-front (decimal n) [] (decimal_nonempty n lt)
split-spaced white w n k (m ∷ ms) lt h =
    ap (filter is_filled)
    (slice_split_at is_white (decimal n) (white k) (decimal m ++ spaced white (k + 1) ms) (dark n lt) (w k))
    ∙ filled-front (decimal n) (slice_split is_white (decimal m ++ spaced white (k + 1) ms)) (decimal_nonempty n lt)
    ∙ ap (λ ws. decimal n ∷ ws) (split-spaced white w m (k + 1) ms h.0 h.1)

spelled_spaced : (k : ℕ) (ns : List ℕ) → spelled ns ≡ spaced blank k ns
unfolding spaced
spelled_spaced k [] = refl
spelled_spaced k (n ∷ ns) = ap (λ text. 32 ∷ (decimal n ++ text)) (spelled_spaced (k + 1) ns)

pub words-spelled : (ns : List ℕ) → AllByRecursion (λ n. n < 2 ^ 64) ns → words (spelled ns) ≡ map decimal ns
unfolding words
words-spelled [] h = refl
words-spelled (n ∷ ns) h = rw (spelled_spaced 1 ns) (split-spaced blank (λ k. refl) n 1 ns h.0 h.1)

each-decimal : (most k : ℕ) (ns : List ℕ) → most < 2 ^ 64 → AllByRecursion (λ n. n ≤ most) ns
    → each_from (number_at_most most) k (map decimal ns) ≡ Ok ns
unfolding each_from
each-decimal most k [] bound h = refl
each-decimal most k (n ∷ ns) bound h = rw (number-decimal most n h.0 bound, each-decimal most (k + 1) ns bound h.1) refl

pub smaller : (ns : List ℕ) → AllByRecursion (λ n. n ≤ 4294967295) ns → AllByRecursion (λ n. n < 2 ^ 64) ns
smaller [] h = tt
smaller (n ∷ ns) h = (omega (arith, h.0), smaller ns h.1)

-- a text whose words are numbers in decimal
pub numbers_worded : (text ns : List ℕ) → words text ≡ map decimal ns → AllByRecursion (λ n. n ≤ 4294967295) ns
    → numbers_of text ≡ Ok ns
unfolding numbers_of
numbers_worded text ns e h = rw e (each-decimal 4294967295 1 ns (omega arith) h)

-- numbers that are written are read again
pub numbers_again : (ns : List ℕ) → AllByRecursion (λ n. n ≤ 4294967295) ns → numbers_of (spelled ns) ≡ Ok ns
numbers_again ns h = numbers_worded (spelled ns) ns (words-spelled ns (smaller ns h)) h

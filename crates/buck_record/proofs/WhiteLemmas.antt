-- White bytes, and texts without them at their ends.
use Rattle.std.proofs.Common.{◌≡◌, ℕ, ◌+◌, ◌-◌, ◌<◌, ◌≤◌, false, true, List, [], ◌∷◌, get_or, length, reverse, take, drop, refl, sym, ap, ◌∙◌, arith, inl, inr, ◌⊎◌, rules}
use Rattle.std.specs.List.{suffix_len, prefix_len}
use Rattle.std.proofs.Math.Nat.{add-zero}
use Rattle.std.proofs.lemmas.Bool.{cases_lt}
use Rattle.std.proofs.lemmas.Grind.{common_steps}
use Rattle.std.proofs.lemmas.List.{take_all, get_or-take, take-take, length-take-le, length-drop, get_or-drop, drop_all, take_rest, get_or-reverse, length-reverse}
use Rattle.std.proofs.lemmas.List.Sums.{suffix_len_is, suffix_len-take_yes, prefix_len_stops}
use Rattle.buck_record.specs.bytes.White.{is_white, trim}
unfoldable use Rattle.buck_record.specs.bytes.White.{trim_start, trim_end}

-- a white byte at the start of a text, and one at its end
pub start_white : (w : ℕ) (xs : List ℕ) → is_white w ≡ true → trim_start (w ∷ xs) ≡ trim_start xs
unfolding trim_start
start_white w xs h = grind (arith, common_steps)

pub start_past : (xs : List ℕ) → 0 < length xs → is_white (get_or xs 0 0) ≡ true
    → trim_start (take (length xs - 1) (drop 1 xs)) ≡ trim_start xs
start_past [] some white = absurd (omega arith)
start_past (x ∷ xs) some white = ap trim_start (take_rest (x ∷ xs) 1) ∙ sym (start_white x xs white)

pub start_past_four : (xs : List ℕ) → 4 ≤ length xs → is_white (get_or xs 0 0) ≡ true
    → is_white (get_or xs 1 0) ≡ true → is_white (get_or xs 2 0) ≡ true → is_white (get_or xs 3 0) ≡ true
    → trim_start (take (length xs - 4) (drop 4 xs)) ≡ trim_start xs
start_past_four [] some a b c d = absurd (omega arith)
start_past_four (w ∷ []) some a b c d = absurd (omega arith)
start_past_four (w ∷ x ∷ []) some a b c d = absurd (omega arith)
start_past_four (w ∷ x ∷ y ∷ []) some a b c d = absurd (omega arith)
start_past_four (w ∷ x ∷ y ∷ z ∷ xs) some a b c d =
    ap trim_start (take_rest (w ∷ x ∷ y ∷ z ∷ xs) 4) ∙ sym (start_white z xs d) ∙ sym (start_white y _ c)
    ∙ sym (start_white x _ b) ∙ sym (start_white w _ a)

pub end_past : (xs : List ℕ) → 0 < length xs → is_white (get_or xs (length xs - 1) 0) ≡ true
    → trim_end (take (length xs - 1) xs) ≡ trim_end xs
unfolding trim_end
end_past xs some white =
    let n = length xs - 1 in
    let more : suffix_len is_white xs ≡ 1 + suffix_len is_white (take n xs) =
    rw (take_all (length xs) xs (omega arith))
    at (suffix_len-take_yes is_white xs (length xs) 0 some (omega arith) white) in
    let less : length xs - (1 + suffix_len is_white (take n xs)) ≡ n - suffix_len is_white (take n xs) = omega arith in
    rw (more, less, length-take-le n xs (omega arith))
    (take-take (n - suffix_len is_white (take n xs)) n xs (omega arith))

-- a text whose first byte isn't white, and one whose last isn't
abbrev pub StartsDark : List ℕ → Type 0
StartsDark xs = (0 < length xs) × (is_white (get_or xs 0 0) ≡ false)

abbrev pub EndsDark : List ℕ → Type 0
EndsDark xs = (0 < length xs) × (is_white (get_or xs (length xs - 1) 0) ≡ false)

pub start_dark : (xs : List ℕ) → (0 < length xs → is_white (get_or xs 0 0) ≡ false) → trim_start xs ≡ xs
unfolding trim_start
start_dark [] h = refl
start_dark (x ∷ xs) h = rw (h (omega arith)) refl

pub end_dark : (xs : List ℕ) → (0 < length xs → is_white (get_or xs (length xs - 1) 0) ≡ false) → trim_end xs ≡ xs
unfolding trim_end
end_dark xs h = search (rules, suffix_len_is, take_all)

pub trim_dark : (xs : List ℕ) → StartsDark xs → EndsDark xs → trim xs ≡ xs
trim_dark xs s e = ap trim_end (start_dark xs (λ _. s.1)) ∙ end_dark xs (λ _. e.1)

-- a text without whitespace at its start is empty, or begins with another byte
pub start_cases : (xs : List ℕ) → (trim_start xs ≡ []) ⊎ StartsDark (trim_start xs)
unfolding trim_start
start_cases xs =
    let n = prefix_len is_white xs in
    elim (cases_lt n (length xs)) [
      | inl lt ↦
          inr (omega (arith, length-drop n xs), rw (get_or-drop n xs 0 0, add-zero) (prefix_len_stops is_white xs 0 lt))
      | inr le ↦ inl (drop_all n xs le)
    ]

-- and one that is trimmed at its end too
end_cases : (xs : List ℕ) → StartsDark xs → (trim_end xs ≡ []) ⊎ (StartsDark (trim_end xs) × EndsDark (trim_end xs))
unfolding trim_end
end_cases xs s =
    let n = suffix_len is_white xs in
    let m = length xs - n in
    elim (cases_lt n (length xs)) [
      | inl lt ↦
          let size : length (take m xs) ≡ m = length-take-le m xs (omega arith) in
          let last : is_white (get_or xs (length xs - 1 - n) 0) ≡ false =
          rw (get_or-reverse xs n 0 lt)
          at (prefix_len_stops is_white (reverse xs) 0 (omega (arith, length-reverse xs))) in
          let back : length xs - 1 - n ≡ m - 1 = omega arith in
          inr (
            (omega (arith, size), rw (get_or-take m xs 0 0 (omega arith)) s.1),
            (omega (arith, size), rw (size, get_or-take m xs (m - 1) 0 (omega arith), ← back) last),
          )
      | inr le ↦ inl (ap (λ k. take k xs) (let none : m ≡ 0 = omega arith in none))
    ]

nothing : (trim [] ≡ []) × (trim_end [] ≡ [])
unfolding trim_start trim_end
nothing = (refl, refl)

pub trim_cases : (xs : List ℕ) → (trim xs ≡ []) ⊎ (StartsDark (trim xs) × EndsDark (trim xs))
trim_cases xs =
    elim (start_cases xs) [
      | inl none ↦ inl (ap trim_end none ∙ nothing.1)
      | inr dark ↦ end_cases (trim_start xs) dark
    ]

pub trim_again : (xs : List ℕ) → trim (trim xs) ≡ trim xs
trim_again xs = elim (trim_cases xs) [ inl none ↦ rw none nothing.0 | inr d ↦ trim_dark (trim xs) d.0 d.1 ]

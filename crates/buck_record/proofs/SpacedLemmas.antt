-- Numbers with whitespace before them, and names, as what items say.
use Rattle.std.proofs.Common.{◌≡◌, ℕ, ◌+◌, ◌<◌, ◌≤◌, ◌^◌, List, [], ◌∷◌, ◌++◌, Ok, get_or, length, drop, refl, sym, ap, ◌∙◌, arith, append_assoc, inl, inr}
use Rattle.std.specs.List.{AllByRecursion}
use Rattle.std.specs.Fmt.{decimal}
use Rattle.std.proofs.lemmas.List.{append-nil, drop_all, drop_more}
use Rattle.buck_record.specs.bytes.White.{trim}
unfoldable use Rattle.buck_record.specs.bytes.White.{words}
unfoldable use Rattle.buck_record.specs.bytes.Record.{numbers_of}
use Rattle.buck_record.proofs.RoundLemmas.{AreWhite, smaller, split-spaced, numbers_worded}
unfoldable use Rattle.buck_record.specs.writing.Written.{spaced}
use Rattle.buck_record.proofs.LineLemmas.{IsSaid, decimal_said, said_after}
use Rattle.buck_record.proofs.WhiteLemmas.{StartsDark, EndsDark, trim_cases}

-- what an item of numbers says, without the whitespace byte after the head
abbrev pub said : (ℕ → ℕ) → List ℕ → List ℕ
said white numbers = drop 1 (spaced white 0 numbers)

abbrev pub AreSmall : List ℕ → Type 0
AreSmall ns = AllByRecursion (λ n. n ≤ 4294967295) ns

module _ (white : ℕ → ℕ) (w : AreWhite white) where
  said_from : (k n : ℕ) (ns : List ℕ) → n < 2 ^ 64 → AllByRecursion (λ n. n < 2 ^ 64) ns
      → IsSaid (decimal n ++ spaced white k ns)
  unfolding spaced
  said_from k n [] lt h = rw (append-nil (decimal n)) (decimal_said n lt)
  said_from k n (m ∷ ms) lt h =
      said_after n lt (white k) (w k) (decimal m ++ spaced white (k + 1) ms) (said_from (k + 1) m ms h.0 h.1)

  pub numbers_are_said : (n : ℕ) (ns : List ℕ) → AreSmall (n ∷ ns) → IsSaid (said white (n ∷ ns))
  unfolding spaced
  numbers_are_said n ns h = let lt = smaller (n ∷ ns) h in said_from 1 n ns lt.0 lt.1

  pub spaced_said : (n : ℕ) (ns : List ℕ) → spaced white 0 (n ∷ ns) ≡ white 0 ∷ said white (n ∷ ns)
  unfolding spaced
  spaced_said n ns = refl

-- a text that trimming leaves as it is
pub trimmed_is_dark : (xs : List ℕ) → 0 < length xs → trim xs ≡ xs → StartsDark xs × EndsDark xs
trimmed_is_dark xs some h =
    elim (trim_cases xs) [
      | inl none ↦ absurd (let e : xs ≡ [] = sym h ∙ none in omega (arith, ap length e))
      | inr d ↦ rw h at d
    ]

-- numbers of an item are read again
pub said_again : (white : ℕ → ℕ) → AreWhite white → (ns : List ℕ) → 0 < length ns → AreSmall ns
    → numbers_of (said white ns) ≡ Ok ns
unfolding words spaced
said_again white w [] some small = absurd (omega arith)
said_again white w (n ∷ ns) some small =
    let lt = smaller (n ∷ ns) small in
    numbers_worded (said white (n ∷ ns)) (n ∷ ns) (split-spaced white w n 1 ns lt.0 lt.1) small

-- one number more was put
pub spaced_goes_on : (white : ℕ → ℕ) (ns out whole : List ℕ) (i d : ℕ) → i < length ns
    → out ++ spaced white i (drop i ns) ≡ whole
    → (out ++ (white i ∷ decimal (get_or ns i d))) ++ spaced white (i + 1) (drop (i + 1) ns) ≡ whole
unfolding spaced
spaced_goes_on white ns out whole i d lt e =
    append_assoc out (white i ∷ decimal (get_or ns i d)) (spaced white (i + 1) (drop (i + 1) ns))
    ∙ rw (drop_more ns i d lt) at e

-- no number is left
pub spaced_ends : (white : ℕ → ℕ) (ns out whole : List ℕ) (i : ℕ) → length ns ≤ i
    → out ++ spaced white i (drop i ns) ≡ whole → out ≡ whole
unfolding spaced
spaced_ends white ns out whole i le e = rw (drop_all i ns le, append-nil out) at e

-- The row of a top diameter.
use Rattle.std.proofs.Common.{◌≡◌, ℕ, zero, suc, ◌+◌, ◌<◌, ◌≤◌, List, [], ◌∷◌, length, get_or, slice_index, Option, Some, None, unwrap_or, if◌then◌else◌, true, false, nat_le, inl, inr, arith}
use native.Mathlib.Numerals.{unary_clauses}
use Rattle.std.proofs.lemmas.Bool.{cases_lt}
use Rattle.std.proofs.lemmas.Bool.Decides.{nat_tests}
use Rattle.buck_apt_instruction.specs.Instruction.{AssortmentParts, IsAssortment}
use Rattle.std.specs.Option.{option_map, option_or}
use Rattle.buck_value.specs.Allowed.{last_position, row_at, IsRow}

-- the limits from a place on are above a diameter
abbrev AreAbove : ℕ → ℕ → List ℕ → Type 0
AreAbove d from xs = (k : ℕ) → from ≤ k → k < length xs → d < get_or xs k 0

-- so behind one more
above_more : (d x from : ℕ) (xs : List ℕ) → AreAbove d from xs → AreAbove d (from + 1) (x ∷ xs)
above_more d x from xs above zero low lt = absurd (omega (arith, low))
above_more d x from xs above (suc k) low lt = above k (omega (arith, low)) (omega (arith, lt))

above_all : (d x : ℕ) (xs : List ℕ) → d < x → AreAbove d 0 xs → AreAbove d 0 (x ∷ xs)
above_all d x xs first above zero low lt = first
above_all d x xs first above (suc k) low lt = above k (omega arith) (omega (arith, lt))

-- the place of the last limit that is at most a diameter, if there is one
abbrev IsLast : ℕ → List ℕ → Option ℕ → Type 0
IsLast d xs None = AreAbove d 0 xs
IsLast d xs (Some m) = (m < length xs) × (get_or xs m 0 ≤ d) × AreAbove d (m + 1) xs

last_is : (d : ℕ) (xs : List ℕ) → IsLast d xs (last_position (λ limit. nat_le limit d) xs)
last_is d [] = λ k low lt. absurd (omega (arith, lt))
last_is d (x ∷ xs) = more (last_position (λ limit. nat_le limit d) xs) (last_is d xs)
  where
    more : (o : Option ℕ) → IsLast d xs o
        → IsLast d (x ∷ xs) (option_or (option_map (λ k. k + 1) o) (if nat_le x d then Some 0 else None))
    more (Some m) is = (omega (arith, is.0), simp unary_clauses is.1, above_more d x (m + 1) xs is.2)
    more None above = elim (cases_lt d x) [
      | inl first ↦
          let test : nat_le x d ≡ false = grind (arith, nat_tests) in rw test (above_all d x xs first above)
      | inr le ↦
          let test : nat_le x d ≡ true = grind (arith, nat_tests) in
          rw test (omega arith, le, above_more d x 0 xs above)
    ]

module _ (a : AssortmentParts) (d : ℕ) where
  abbrev IsFound : ℕ → Type 0
  IsFound row =
      (row < length a.diameters)
      × (0 < row → slice_index a.diameters row ≤ d)
      × (slice_index a.diameters 0 ≤ d → slice_index a.diameters row ≤ d)
      × AreAbove d (row + 1) a.diameters

  row_is : 0 < length a.diameters → IsFound (row_at a d)
  row_is some = of (last_position (λ limit. nat_le limit d) a.diameters) (last_is d a.diameters)
    where
      of : (o : Option ℕ) → IsLast d a.diameters o → IsFound (unwrap_or o 0)
      of None above = (some, λ lt. absurd (omega (arith, lt)), λ le. le, λ k low. above k (omega arith))
      of (Some m) is = (is.0, λ _. is.1, λ _. is.1, is.2)

  -- it is one of the assortment's
  pub row_within : IsAssortment a → row_at a d < length a.diameters
  row_within v = (row_is (omega (arith, v.rows))).0

  -- it is the last whose lower limit is at most the diameter
  pub row_is_last : IsAssortment a → slice_index a.diameters 0 ≤ d → IsRow a d (row_at a d)
  row_is_last v low =
      let r = row_is (omega (arith, v.rows)) in
      record { exists = r.0; reached = r.2 low; last = λ k lt. r.3 k (omega (arith, lt)) }

  -- the only one from which on the limits are above the diameter, which is at most that or the first
  pub row_found : (row : ℕ) → row < length a.diameters → (0 < row → slice_index a.diameters row ≤ d)
      → ((k : ℕ) → row < k → k < length a.diameters → d < slice_index a.diameters k) → row_at a d ≡ row
  row_found row within reached later =
      let r = row_is (omega (arith, within)) in
      grind (arith, r.0, r.1, r.3 row, reached, later (row_at a d), within)

-- Who a history's postings belong to: if the harvesters 1 to n have all postings between them, nobody else has one.
use Rattle.std.proofs.Common.{◌≡◌, ℕ, zero, suc, Bool, true, false, ◌+◌, ◌<◌, ◌≤◌, ◌==◌, ◌⊎◌, inl, inr, cond, List, [], ◌∷◌, length, refl, arith}
use Rattle.std.proofs.lemmas.Bool.Decides.{nat_tests}
use Rattle.std.specs.Prelude.{All}
use Rattle.buck_book_postings.specs.declared.posting.Posting.{Posting}
use Rattle.buck_book_postings.specs.Posting.{harvester_of}
use Rattle.buck_book_postings.specs.Replies.{replies_from}

-- how many postings the harvesters 1 to n have
abbrev pub owned : ℕ → ℕ → List Posting → ℕ
owned zero p xs = 0
owned (suc n) p xs = owned n p xs + length (replies_from (suc n) p xs)

-- 1 if the posting is one of theirs
abbrev pub one_if : ℕ → Posting → ℕ
one_if zero x = 0
one_if (suc n) x = one_if n x + cond (harvester_of x == suc n) 1 0

replies_one : (h p : ℕ) (x : Posting) (xs : List Posting)
    → length (replies_from h p (x ∷ xs)) ≡ cond (harvester_of x == h) 1 0 + length (replies_from h (p + 1) xs)
replies_one h p x xs = by_test (harvester_of x == h) where
  by_test : (b : Bool)
      → length (cond b ((record { position = p; entry = x }) ∷ replies_from h (p + 1) xs) (replies_from h (p + 1) xs))
      ≡ cond b 1 0 + length (replies_from h (p + 1) xs)
  by_test true = omega arith
  by_test false = omega arith

owned_one : (n p : ℕ) (x : Posting) (xs : List Posting) → owned n p (x ∷ xs) ≡ one_if n x + owned n (p + 1) xs
owned_one zero p x xs = refl
owned_one (suc n) p x xs = let a = owned_one n p x xs in let b = replies_one (suc n) p x xs in omega (arith, a, b)

-- at most one of them has a posting, and none whose number is above
one_if-above : (n : ℕ) (x : Posting) → n < harvester_of x → one_if n x ≡ 0
one_if-above zero x lt = refl
one_if-above (suc n) x lt = let a = one_if-above n x (omega (arith, lt)) in grind (arith, nat_tests, a, lt)

one_if-none : (n : ℕ) (x : Posting) → harvester_of x ≡ 0 → one_if n x ≡ 0
one_if-none zero x is = refl
one_if-none (suc n) x is = let a = one_if-none n x is in grind (arith, nat_tests, a, is)

tested : (n : ℕ) (x : Posting) (b : Bool) → (harvester_of x == suc n) ≡ b → one_if n x ≤ 1 → one_if n x + cond b 1 0 ≤ 1
tested n x true is low = let a : one_if n x ≡ 0 = one_if-above n x (grind (arith, nat_tests, is)) in omega (arith, a)
tested n x false is low = omega (arith, low)

one_if-low : (n : ℕ) (x : Posting) → one_if n x ≤ 1
one_if-low zero x = omega arith
one_if-low (suc n) x = tested n x (harvester_of x == suc n) refl (one_if-low n x)

owned-low : (n p : ℕ) (xs : List Posting) → owned n p xs ≤ length xs
owned-low n p [] = nothing n where
  nothing : (n : ℕ) → owned n p [] ≤ 0
  nothing zero = omega arith
  nothing (suc n) = let a = nothing n in omega (arith, a)
owned-low n p (x ∷ xs) = omega (arith, owned_one n p x xs, one_if-low n x, owned-low n (p + 1) xs)

zero_or : (h : ℕ) → (h ≡ 0) ⊎ (0 < h)
zero_or h = grind arith

low_or : (n h : ℕ) → (h ≤ n) ⊎ (n < h)
low_or n h = grind arith

one_of_them : (n : ℕ) (x : Posting) → one_if n x ≡ 1 → (0 < harvester_of x) × (harvester_of x ≤ n)
one_of_them n x is = (
  (elim (zero_or (harvester_of x)) [
    | inl none ↦ absurd (omega (arith, is, one_if-none n x none))
    | inr some ↦ some
  ]),
  (elim (low_or n (harvester_of x)) [
    | inl low ↦ low
    | inr more ↦ absurd (omega (arith, is, one_if-above n x more))
  ]),
)

pub all_of_them : (n p : ℕ) (xs : List Posting) → owned n p xs ≡ length xs
    → All (λ x. (0 < harvester_of x) × (harvester_of x ≤ n)) xs
all_of_them n p [] is k d lt = absurd (omega (arith, lt))
all_of_them n p (x ∷ xs) is zero d lt =
    one_of_them n x (omega (arith, is, owned_one n p x xs, one_if-low n x, owned-low n (p + 1) xs))
all_of_them n p (x ∷ xs) is (suc k) d lt =
    all_of_them n (p + 1) xs (omega (arith, is, owned_one n p x xs, one_if-low n x, owned-low n (p + 1) xs)) k d
    (omega (arith, lt))

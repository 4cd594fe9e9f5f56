-- Words of three digits, four at a time: groups of four bytes as lanes, and as the front of a text.
use Rattle.std.proofs.Common.{◌≡◌, ℕ, ◌+◌, ◌*◌, ◌/◌, ◌%◌, ◌<◌, ◌≤◌, ltb, cond, true, false, Option, Some, None, IfSome, List, [], ◌∷◌, map, length, get_or, take, drop, replicate}
use Rattle.std.proofs.Common.{refl, sym, ap, ap₂, ◌∙◌, subst, arith, w8, w32, Fits, get_or-drop, drop-drop, length-drop, length-take-le}
use Rattle.std.specs.Char.{is_ascii_digit, digit_value}
use Rattle.std.specs.Str.Parse.{digits_value}
use Rattle.std.proofs.lemmas.Bool.Decides.{nat_tests}
use Rattle.std.proofs.lemmas.Int.Digits.{digits_value_more}
use Rattle.std.proofs.lemmas.Simd.{get_or-zip2, get_or-replicate, length-zip2, tops_compared, length-sel_l, get_or-sel_l, get_or_wider, get_or-chunk, length-chunk, chunk-fits, below_from_Fits}
use Rattle.std.proofs.lemmas.Grind.{elements}
use lib.Lanes.{zip2, sel_l, top, Each1, chunk, digits_l, number_l}
use Rattle.buck_record.specs.inner.Front.{HasFour, IsThree, IsFront, HasFronts}
use Rattle.buck_record.proofs.NumberLemmas.{AreDigits, digits_more, word_ends, number-some}

-- ---- lane by lane
pub own : (xs : List ℕ) → length xs ≡ 4 → HasFour xs (λ i. get_or xs i 0)
own xs n = record { len = n; lanes = λ i h. refl }

pub same : (y : ℕ) → HasFour (replicate 4 y) (λ i. y)
same y = record { len = refl; lanes = λ i h. get_or-replicate 4 i y 0 h }

module _ {xs ys : List ℕ} {g h : ℕ → ℕ} (p : HasFour xs g) (q : HasFour ys h) where
  pub both : (f : ℕ → ℕ → ℕ) → HasFour (zip2 f xs ys) (λ i. f (g i) (h i))
  both f = record {
    len = length-zip2 f xs ys (p.len ∙ sym q.len) ∙ p.len;
    lanes = λ i l. get_or-zip2 f xs ys i 0 0 0 (omega (arith, p.len)) (omega (arith, q.len))
        ∙ ap₂ f (p.lanes i l) (q.lanes i l);
  }

  tests : map (top 31) (zip2 (λ x y. cond (ltb x y) 4294967295 0) xs ys) ≡ zip2 ltb xs ys
  tests = tops_compared w32 ltb xs ys

  count : length (zip2 ltb xs ys) ≡ 4
  count = length-zip2 ltb xs ys (p.len ∙ sym q.len) ∙ p.len

  pub greater : HasFour (sel_l (map (top 31) (zip2 (λ x y. cond (ltb x y) 4294967295 0) xs ys)) ys xs)
      (λ i. cond (ltb (g i) (h i)) (h i) (g i))
  greater = record {
    len = rw tests (length-sel_l (zip2 ltb xs ys) ys xs (count ∙ sym q.len) (count ∙ sym p.len) ∙ count);
    lanes = λ i l.
        rw (
          tests,
          get_or-sel_l (zip2 ltb xs ys) ys xs i 0 (omega (arith, count)) (omega (arith, q.len)) (omega (arith, p.len)),
          get_or-zip2 ltb xs ys i 0 0 false (omega (arith, p.len)) (omega (arith, q.len)),
          p.lanes i l,
          q.lanes i l,
        ) refl;
  }

pub greatest : (a b c : ℕ) → cond (ltb (cond (ltb a b) b a) c) c (cond (ltb a b) b a) ≤ 9 → (a ≤ 9) × (b ≤ 9) × (c ≤ 9)
greatest a b c small = grind (arith, nat_tests)

-- Four bytes less "000 " are three digits, the lowest first, and nothing above them.
pub three : (g z a b c : ℕ) → g < 4294967296 → z ≡ (g + 3754938320) % 4294967296 → a ≡ z % 256 → b ≡ z / 256 % 256
    → c ≡ z / 256 / 256 → (a ≤ 9) × (b ≤ 9) × (c ≤ 9)
    → IsThree g (((a * 100 % 4294967296 + b * 10 % 4294967296) % 4294967296 + c) % 4294967296)
three g z a b c fits zs ea eb ec small =
    record { a = a; b = b; c = c; digits = small; bytes = omega (arith, small); value = omega (arith, small) }

-- ---- a text that begins with a number
-- a digit's byte
digit : (x a : ℕ) → a ≤ 9 → x ≡ 48 + a → (is_ascii_digit x ≡ true) × (digit_value x ≡ a)
digit x a small is = rw is (grind (arith, nat_tests), grind (arith, nat_tests))

-- a text that begins with three digits and a space
front-three : (text : List ℕ) (v w : ℕ) → 4 ≤ length text → ((k : ℕ) → get_or text k 0 < 256)
    → w ≡ get_or text 0 0 + 256 * get_or text 1 0 + 65536 * get_or text 2 0 + 16777216 * get_or text 3 0
    → IsThree w v → IsFront text v (drop 4 text)
front-three text v w long byte is t =
    let small : (get_or text 0 0 < 256) × (get_or text 1 0 < 256) × (get_or text 2 0 < 256) × (get_or text 3 0 < 256) =
    (byte 0, byte 1, byte 2, byte 3) in
    let at : (get_or text 0 0 ≡ 48 + t.a) × (get_or text 1 0 ≡ 48 + t.b) × (get_or text 2 0 ≡ 48 + t.c)
    × (get_or text 3 0 ≡ 32) = omega (arith, is, t.bytes, small, t.digits) in
    let d0 = digit (get_or text 0 0) t.a t.digits.0 at.0 in
    let d1 = digit (get_or text 1 0) t.b t.digits.1 at.1 in
    let d2 = digit (get_or text 2 0) t.c t.digits.2 at.2 in
    let digits : AreDigits (take 3 text) =
    digits_more text 2 (digits_more text 1 (digits_more text 0 refl (omega arith) d0.0) (omega arith) d1.0)
    (omega arith) d2.0 in
    let value : digits_value 10 (take 3 text) ≡ v =
    omega (
      arith,
      t.value,
      d0.1,
      d1.1,
      d2.1,
      digits_value_more 10 text 0 (omega arith),
      digits_value_more 10 text 1 (omega arith),
      digits_value_more 10 text 2 (omega arith),
    ) in
    let size = length-take-le 3 text (omega arith) in
    let word = word_ends text 3 digits (omega arith) (λ _. rw at.3 refl) in
    record {
      filled = rw word.1 (omega (arith, size));
      value = rw word.1 (number-some 4294967295 (take 3 text) digits (omega (arith, size))
          (omega (arith, value, t.value, t.digits)) ∙ ap Some value);
      after = sym word.2;
    }

-- ---- four groups of four bytes as one load
number_four : (xs : List ℕ)
    → length xs ≡ 4
    → number_l 256 xs ≡ get_or xs 0 0 + 256 * get_or xs 1 0 + 65536 * get_or xs 2 0 + 16777216 * get_or xs 3 0
number_four xs h =
    let all : xs ≡ get_or xs 0 0 ∷ get_or xs 1 0 ∷ get_or xs 2 0 ∷ get_or xs 3 0 ∷ [] = grind (arith, elements) in
    rw all (omega arith)

-- the four groups of a text's first bytes
abbrev lanes_in : List ℕ → List ℕ
lanes_in text = digits_l 4294967296 4 (number_l 256 (chunk 0 16 text))

module _ (text : List ℕ) (long : 16 ≤ length text) (fits : (k : ℕ) → Fits w8 (get_or text k 0)) where
  loaded : Each1 (λ x. x < 256) (chunk 0 16 text)
  loaded = below_from_Fits w8 (chunk 0 16 text) (chunk-fits w8 0 16 text fits)

  word : (j : ℕ) → j < 4 → get_or (lanes_in text) j 0
      ≡ get_or (drop (4 * j) text) 0 0 + 256 * get_or (drop (4 * j) text) 1 0
      + 65536 * get_or (drop (4 * j) text) 2 0 + 16777216 * get_or (drop (4 * j) text) 3 0
  word j h =
      let whole = length-chunk 0 16 text long in
      let part = chunk (4 * j) 4 (chunk 0 16 text) in
      let at : (i : ℕ) → i < 4 → get_or part i 0 ≡ get_or (drop (4 * j) text) i 0 =
      λ i l. get_or-chunk (4 * j) 4 (chunk 0 16 text) i 0 l
      ∙ get_or-chunk 0 16 text (4 * j + i) 0 (omega (arith, h, l))
      ∙ ap (λ k. get_or text k 0) (omega arith)
      ∙ sym (get_or-drop (4 * j) text i 0) in
      get_or_wider 256 4 4294967296 4 (chunk 0 16 text) j refl loaded h
      ∙ number_four part (length-chunk (4 * j) 4 (chunk 0 16 text) (omega (arith, whole, h)))
      ∙ rw (at 0 (omega arith), at 1 (omega arith), at 2 (omega arith), at 3 (omega arith)) refl

  pub fronts : (vs : List ℕ) → ((i : ℕ) → i < 4 → IsThree (get_or (lanes_in text) i 0) (get_or vs i 0))
      → HasFronts text vs
  fronts vs t = record {
    long = long;
    fronts = λ i h.
        let back : drop 4 (drop (4 * i) text) ≡ drop (4 * i + 4) text = drop-drop 4 (4 * i) text in
        subst (IsFront (drop (4 * i) text) (get_or vs i 0)) back
        (front-three (drop (4 * i) text) (get_or vs i 0) (get_or (lanes_in text) i 0)
        (omega (arith, length-drop (4 * i) text, h))
        (λ k. rw (get_or-drop (4 * i) text k 0) ((fits (4 * i + k)).fits)) (word i h) (t i h));
  }

  pub some_fronts : (o : Option (List ℕ))
      → IfSome o (λ vs. (i : ℕ) → i < 4 → IsThree (get_or (lanes_in text) i 0) (get_or vs i 0))
      → IfSome o (λ vs. HasFronts text vs)
  some_fronts None h = tt
  some_fronts (Some vs) h = fronts vs h

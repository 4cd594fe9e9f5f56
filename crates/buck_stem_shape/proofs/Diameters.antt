-- The diameters of a stem: how thick it may be, the least of the samples so far, and diameters at each step along it.
use Rattle.std.proofs.Common.{◌≡◌, ◌∙◌, refl, sym, ap, inl, inr, ℕ, zero, suc, ◌+◌, ◌-◌, ◌*◌, ◌/◌, ◌%◌, ◌<◌, ◌≤◌, min, List, [], ◌∷◌, ◌++◌, take, length, length-append, get_or, append_assoc, mul-le-mul_right, arith}
use Rattle.std.proofs.lemmas.Bool.{cases_lt}
use Rattle.std.proofs.lemmas.List.{get_or_append_left, take_more}
use Rattle.std.proofs.Math.Nat.{div-lt_iff_lt-mul, lt-mul-div-succ, lt_of_mul-lt-mul_left}
use Rattle.std.proofs.Math.Seq.{get_or-append_seam}
use Rattle.buck_stem_shape.specs.Stem.{StemParts, IsStem, least, least_to, diameter_at, stem_length}
use Rattle.buck_stem_shape.specs.inner.Diameters.{AreDiametersBy, AreDiametersTo}

least_to-le : (n k : ℕ) (xs : List ℕ) → get_or xs 0 0 ≤ n → least (take k xs) ≤ n
least_to-le n zero xs h = omega arith
least_to-le n (suc k) [] h = h
least_to-le n (suc zero) (x ∷ xs) h = h
least_to-le n (suc (suc k)) (x ∷ []) h = h
least_to-le n (suc (suc k)) (x ∷ y ∷ ys) h = omega arith

line-le : (a b r : ℕ) → a ≤ 1500 → b ≤ 1500 → r < 100 → (a * (100 - r) + b * r) / 100 ≤ 1500
line-le a b r la lb lr =
    let p : a * (100 - r) ≤ 1500 * (100 - r) = mul-le-mul_right (100 - r) la in
    let q : b * r ≤ 1500 * r = mul-le-mul_right r lb in
    omega arith

-- no diameter is above 1,500 mm
pub diameter_at-le : (s : StemParts) (x : ℕ) → IsStem s → diameter_at s.samples x ≤ 1500
diameter_at-le s x v =
    let first : get_or s.samples 0 0 ≤ 1500 = v.samples_range 0 0 (omega (arith, v.samples_number.0)) in
    line-le (least_to s.samples (x / 100)) (least_to s.samples (x / 100 + 1)) (x % 100)
    (least_to-le 1500 (x / 100 + 1) s.samples first) (least_to-le 1500 (x / 100 + 1 + 1) s.samples first) (omega arith)

-- the diameter some mm past a sample
pub diameter_past : (samples : List ℕ) (i part : ℕ) → part < 100
    → diameter_at samples (100 * i + part) ≡ (least_to samples i * (100 - part) + least_to samples (i + 1) * part) / 100
diameter_past samples i part lt =
    let at : (100 * i + part) / 100 ≡ i = omega (arith, lt) in
    let rest : (100 * i + part) % 100 ≡ part = omega (arith, lt) in
    rw (at, rest) refl

-- ---- the least of the samples so far
least-push : (xs : List ℕ) (y x : ℕ) → least (xs ++ y ∷ x ∷ []) ≡ min (least (xs ++ y ∷ [])) x
least-push [] y x = refl
least-push (a ∷ []) y x = grind arith
least-push (a ∷ b ∷ xs) y x = grind (arith, least-push (b ∷ xs) y x)

-- the least up to the next sample
pub least_next : (samples : List ℕ) (i s : ℕ) → i + 1 < length samples → s ≡ get_or samples (i + 1) 0
    → least_to samples (i + 1) ≡ min (least_to samples i) s
least_next samples i s lt is =
    let here : take (i + 1) samples ≡ take i samples ++ get_or samples i 0 ∷ [] =
    take_more samples i 0 (omega (arith, lt)) in
    let more : take (i + 1 + 1) samples ≡ take (i + 1) samples ++ s ∷ [] = rw is (take_more samples (i + 1) 0 lt) in
    rw (more, here, append_assoc) (least-push (take i samples) (get_or samples i 0) s)

-- the least up to the first sample
pub least_first : (samples : List ℕ) → 0 < length samples → least_to samples 0 ≡ get_or samples 0 0
least_first [] some = absurd (omega arith)
least_first (x ∷ xs) some = refl

-- ---- diameters at each step
-- the line from one to another, by how far it falls
pub fallen : (low next part : ℕ) → next ≤ low → part < 100
    → (low - next) * part + (low * (100 - part) + next * part) ≡ low * 100
fallen low next part le lt =
    let whole : low ≡ next + (low - next) = omega arith in
    let parts : 100 ≡ part + (100 - part) = omega arith in
    go next (low - next) low part (100 - part) whole parts
  where
    go : (n f l p r : ℕ) → l ≡ n + f → 100 ≡ p + r → f * p + (l * r + n * p) ≡ l * 100
    go n f l p r a b = rw (a, b) (grind arith)

-- one more diameter
push-right : (samples : List ℕ) (step : ℕ) (ds : List ℕ) (value : ℕ)
    → value ≡ diameter_at samples (length ds * step) → AreDiametersBy samples step ds
    → AreDiametersBy samples step (ds ++ value ∷ [])
push-right samples step ds value is right k lt =
    elim (cases_lt k (length ds)) [
      | inl early ↦ get_or_append_left ds (value ∷ []) 0 k early ∙ right k early
      | inr late ↦
          let more : length (ds ++ value ∷ []) ≡ length ds + 1 = length-append ds (value ∷ []) in
          let here : k ≡ length ds = omega (arith, lt, late, more) in
          ap (λ j. get_or (ds ++ value ∷ []) j 0) here ∙ get_or-append_seam ds value [] 0 ∙ is
          ∙ ap (λ j. diameter_at samples (j * step)) (sym here)
    ]

pub push_between : (samples : List ℕ) (step i part : ℕ) (ds : List ℕ) (value : ℕ) → part < 100
    → value ≡ (least_to samples i * (100 - part) + least_to samples (i + 1) * part) / 100
    → AreDiametersTo samples step i part ds → AreDiametersTo samples step i (part + step) (ds ++ value ∷ [])
push_between samples step i part ds value lt is to = record {
  right = push-right samples step ds value
      (is ∙ sym (ap (diameter_at samples) to.up_to ∙ diameter_past samples i part lt)) to.right;
  up_to =
      let more : length (ds ++ value ∷ []) ≡ length ds + 1 = length-append ds (value ∷ []) in
      let next : (length ds + 1) * step ≡ length ds * step + step = grind arith in
      ap (λ n. n * step) more ∙ next ∙ omega (arith, to.up_to);
}

-- how many steps lie along the samples
pub number_along : (samples : List ℕ) (step last part : ℕ) (ds : List ℕ) → 100 * last ≡ stem_length samples → 0 < part
    → part ≤ step
    → AreDiametersTo samples step last part ds → length ds ≡ stem_length samples / step + 1
number_along samples step last part ds whole some le to =
    let total : ℕ = stem_length samples in
    let n : ℕ = length ds in
    let q : ℕ = total / step in
    let wide : 0 < step = omega (arith, some, le) in
    let at : n * step ≡ total + part = omega (arith, to.up_to, whole) in
    let upper : q < n = (div-lt_iff_lt-mul {k = step} {x = total} {y = n} wide).1 (omega (arith, at, some)) in
    let reach : total < step * (q + 1) = lt-mul-div-succ total wide in
    let turned : step * n ≡ n * step = grind arith in
    let next : step * (q + 1 + 1) ≡ step * (q + 1) + step = grind arith in
    let lower : n < q + 1 + 1 = lt_of_mul-lt-mul_left step (omega (arith, at, le, reach, turned, next)) in
    omega (arith, upper, lower)

-- all diameters, if the last sample is one of them
pub along_here : (samples : List ℕ) (step last : ℕ) (ds : List ℕ) (value : ℕ) → 10 ≤ step → last + 1 ≡ length samples
    → value ≡ least_to samples last → AreDiametersTo samples step last 0 ds
    → (length (ds ++ value ∷ []) ≡ stem_length samples / step + 1) × AreDiametersBy samples step (ds ++ value ∷ [])
along_here samples step last ds value wide number is to =
    let whole : 100 * last ≡ stem_length samples = omega (arith, number) in
    let on : AreDiametersTo samples step last (0 + step) (ds ++ value ∷ []) =
    push_between samples step last 0 ds value (omega arith) (is ∙ omega arith) to in (
      number_along samples step last (0 + step) (ds ++ value ∷ []) whole (omega (arith, wide)) (omega arith) on,
      on.right,
    )

-- and if it isn't
pub along_past : (samples : List ℕ) (step last part : ℕ) (ds : List ℕ) → 0 < part → part < step
    → last + 1 ≡ length samples
    → AreDiametersTo samples step last part ds
    → (length ds ≡ stem_length samples / step + 1) × AreDiametersBy samples step ds
along_past samples step last part ds some lt number to =
    let whole : 100 * last ≡ stem_length samples = omega (arith, number) in
    (number_along samples step last part ds whole some (omega (arith, lt)) to, to.right)

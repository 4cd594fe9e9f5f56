-- Steps along a stem, and their grades.
use Rattle.std.proofs.Common.{◌≡◌, ◌-◌, ◌/◌, ◌↔◌, ◌⊎◌, mul-le-mul_right, add-mul, ℕ, ◌+◌, ◌*◌, ◌≤◌, ◌<◌, List, length, get_or, inl, inr, sym, ◌∙◌, arith}
use Rattle.std.proofs.lemmas.Bool.{cases_lt}
use Rattle.std.proofs.lemmas.Nat.{div-add-mod'}
use Rattle.std.proofs.lemmas.Nat.Bits.{bit_at_or, bit_at-lt}
use Rattle.std.proofs.Math.Nat.{le-div_iff_mul-le, div-mul-le_self, mod-lt}
use Rattle.std.specs.Int.{bit_at}
use Rattle.std.specs.Int.RustNames.{bit_or}
use Rattle.buck_stem_shape.specs.Stem.{grade_at}
use Rattle.buck_stem_shape.specs.points.Profile.{IsMask}
use Rattle.buck_stem_shape.specs.declared.points.runs.Step.{Step}
use Rattle.buck_stem_shape.specs.inner.Runs.{AreSteps, ShowMask}

-- steps with one more run, of those up to `e`
pub steps_more : (zones : List (ℕ × ℕ)) (m i e mask : ℕ) (old more : List Step) → AreSteps zones m old
    → i ≡ length old → i < e → length more ≡ e
    → ((k : ℕ) (d : Step) → k < length old → get_or more k d ≡ get_or old k d)
    → ((k : ℕ) (d : Step) → length old ≤ k → k < e → get_or more k d ≡ record { mask = mask; first = i })
    → ShowMask zones m i e mask → AreSteps zones m more
steps_more zones m i e mask old more are at ahead number kept new shows k d within = elim (cases_lt k (length old)) [
  | inl early ↦ rw (kept k d early) (are k d early)
  | inr late ↦ rw (new k d late (omega arith)) (omega arith, λ j le lt. shows j le (omega arith))
]

-- the steps before the grade changes have that of the first of them
pub even_steps : (zones : List (ℕ × ℕ)) (m i e end mask : ℕ) → 0 < m
    → ((y : ℕ) → i * m ≤ y → y < end → grade_at zones y ≡ grade_at zones (i * m)) → (i + 1 < e → e ≤ end / m)
    → IsMask zones (i * m) ((i + 1) * m) mask → ShowMask zones m i e mask
even_steps zones m i e end mask pos stays within is k le lt g one = elim (cases_lt i k) [
  | inr same ↦ (let at : i ≡ k = omega arith in rw (← at) (is g one))
  | inl past ↦
      let bound : e * m ≤ end / m * m = mul-le-mul_right m (within (omega arith)) in
      let whole = div-mul-le_self end m in
      let low : i * m ≤ k * m = mul-le-mul_right m le in
      let first : (i + 1) * m ≤ e * m = mul-le-mul_right m (omega arith) in
      let high : (k + 1) * m ≤ e * m = mul-le-mul_right m (omega arith) in
      let next : k * m < (k + 1) * m = omega (arith, add-mul k 1 m) in
      let start : i * m < (i + 1) * m = omega (arith, add-mul i 1 m) in
      let here = stays (k * m) low (omega arith) in (
        λ on. (let h = (is g one).0 on in
            (k * m, omega arith, next, here ∙ sym (stays h.0 h.1 (omega (arith, h.2))) ∙ h.3)),
        λ h. (is g one).1 (i * m, omega arith, start, sym (stays h.0 (omega (arith, h.1)) (omega (arith, h.2))) ∙ h.3),
      )
]

-- the grades from one place up to another, and from there up to a third
pub mask_more : (zones : List (ℕ × ℕ)) (a b e first rest : ℕ) → a ≤ b → b ≤ e
    → IsMask zones a b first → IsMask zones b e rest → IsMask zones a e (bit_or first rest)
mask_more zones a b e first rest le up is_first is_rest g one =
    let bits : (bit_at (bit_or first rest) (g - 1) ≡ 1) ↔ ((bit_at first (g - 1) ≡ 1) ⊎ (bit_at rest (g - 1) ≡ 1)) =
    grind (arith, bit_at_or first rest (g - 1), bit_at-lt first (g - 1), bit_at-lt rest (g - 1)) in (
      λ on. elim (bits.0 on) [
        | inl bit ↦ (let w = (is_first g one).0 bit in (w.0, w.1, omega (arith, w.2), w.3))
        | inr bit ↦ (let w = (is_rest g one).0 bit in (w.0, omega (arith, w.1), w.2, w.3))
      ],
      λ h. bits.1 (elim (cases_lt h.0 b) [
        | inl before ↦ inl ((is_first g one).1 (h.0, h.1, before, h.3))
        | inr after ↦ inr ((is_rest g one).1 (h.0, after, h.2, h.3))
      ]),
    )

-- from a step of a run on the grades are those from a later step of it on
pub same_masks : (zones : List (ℕ × ℕ)) (m k i j one mask : ℕ) → 0 < m → i < j → k ≤ i
    → ShowMask zones m k (i + 1) one → IsMask zones (i * m) (j * m) mask → IsMask zones (k * m) (j * m) mask
same_masks zones m k i j one mask pos lt upto shows is g from =
    let below : k * m ≤ i * m = mul-le-mul_right m upto in (
      λ on. (let h = (is g from).0 on in (h.0, omega (arith, h.1), h.2, h.3)),
      λ h. (is g from).1 (elim (cases_lt h.0 (i * m)) [
        | inr after ↦ (h.0, after, h.2, h.3)
        | inl before ↦
            let s : ℕ = h.0 / m in
            let start : k ≤ s = (le-div_iff_mul-le pos).1 h.1 in
            let down : s * m ≤ h.0 = div-mul-le_self h.0 m in
            let in_step : h.0 < (s + 1) * m = omega (arith, div-add-mod' h.0 m, mod-lt h.0 pos, add-mul s 1 m) in
            let to : s ≤ i = elim (cases_lt i s) [
              | inr fine ↦ fine
              | inl past ↦ absurd (let far : i * m ≤ s * m = mul-le-mul_right m (omega arith) in omega arith)
            ] in
            let bit = (shows s start (omega arith) g from).1 (h.0, down, in_step, h.3) in
            let there = (shows i upto (omega arith) g from).0 bit in
            let high : (i + 1) * m ≤ j * m = mul-le-mul_right m (omega arith) in
            (there.0, there.1, omega (arith, there.2), there.3)
      ]),
    )

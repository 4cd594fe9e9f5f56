-- Grades from one place up to another, by the zones that begin in between.
use Rattle.std.proofs.Common.{◌≡◌, ◌≢◌, ℕ, zero, suc, ◌+◌, ◌-◌, ◌*◌, ◌^◌, ◌%◌, ◌<◌, ◌≤◌, ◌⊎◌, ◌↔◌, inl, inr, List, [], ◌∷◌, get_or, drop, length, refl, sym, ◌∙◌, ap, nat_le, if◌then◌else◌, arith, w8}
use Rattle.std.specs.Int.{bit_at}
use Rattle.std.specs.Int.RustNames.{bit_or}
use Rattle.std.proofs.lemmas.Bool.{cases_lt, cases_order}
use Rattle.std.proofs.lemmas.Bool.Decides.{nat_tests}
use Rattle.std.proofs.lemmas.Nat.Bits.{bit_at_set_same, bit_at_set_other}
use Rattle.buck_stem_shape.specs.Stem.{grade_from, IsRisingFrom}
use Rattle.buck_stem_shape.specs.inner.Zones.{HasGradeFrom}

-- before all zones the grade is the one that stood before them
pub grade_before : (low before x : ℕ) (zones : List (ℕ × ℕ)) → IsRisingFrom low zones → x < low
    → grade_from before zones x ≡ before
grade_before low before x [] r lt = refl
grade_before low before x (z ∷ zs) r lt =
    let early : (if nat_le z.0 x then z.1 else before) ≡ before = grind (arith, nat_tests) in
    ap (λ g. grade_from g zs x) early ∙ grade_before (z.0 + 1) before x zs r.1 (omega (arith, r.0))

-- past the start of a zone the one that stood before it doesn't matter
pub grade_past : (before x : ℕ) (z : ℕ × ℕ) (zs : List (ℕ × ℕ)) → z.0 ≤ x
    → grade_from before (z ∷ zs) x ≡ grade_from z.1 zs x
grade_past before x z zs le =
    let late : (if nat_le z.0 x then z.1 else before) ≡ z.1 = grind (arith, nat_tests) in
    ap (λ g. grade_from g zs x) late

-- each zone is the first of those from it on
pub rising_at : (low i : ℕ) (zones : List (ℕ × ℕ)) → IsRisingFrom low zones → i < length zones
    → IsRisingFrom (get_or zones i (0, 0)).0 (drop i zones)
rising_at low i [] r lt = absurd (omega arith)
rising_at low zero (z ∷ zs) r lt = (omega arith, r.1)
rising_at low (suc i) (z ∷ zs) r lt = rising_at (z.0 + 1) i zs r.1 (omega arith)

module _ (before a b g : ℕ) where
  -- if no zone starts before b, there is one grade
  pub one_grade : (low : ℕ) (zones : List (ℕ × ℕ)) → IsRisingFrom low zones → a < b → b ≤ low
      → (HasGradeFrom before zones a b g ↔ (g ≡ before))
  one_grade low zones r lt le = (
    λ h. sym h.3 ∙ grade_before low before h.0 zones r (omega (arith, h.2)),
    λ e. (a, omega arith, lt, grade_before low before a zones r (omega arith) ∙ sym e),
  )

  -- a zone that starts in between
  pub next_zone : (z : ℕ × ℕ) (zs : List (ℕ × ℕ)) → IsRisingFrom z.0 (z ∷ zs) → a < z.0 → z.0 < b
      → (HasGradeFrom before (z ∷ zs) a b g ↔ ((g ≡ before) ⊎ HasGradeFrom z.1 zs z.0 b g))
  next_zone z zs r above below = (
    λ h. elim (cases_lt h.0 z.0) [
      | inl early ↦ inl (sym h.3 ∙ grade_before z.0 before h.0 (z ∷ zs) r early)
      | inr late ↦ inr (h.0, late, h.2, sym (grade_past before h.0 z zs late) ∙ h.3)
    ],
    λ h. elim h [
      | inl e ↦ (a, omega arith, omega arith, grade_before z.0 before a (z ∷ zs) r above ∙ sym e)
      | inr h ↦ (h.0, omega (arith, h.1), h.2, grade_past before h.0 z zs h.1 ∙ h.3)
    ],
  )

  -- a zone that starts no later
  pub past_zone : (z : ℕ × ℕ) (zs : List (ℕ × ℕ)) → z.0 ≤ a
      → (HasGradeFrom before (z ∷ zs) a b g ↔ HasGradeFrom z.1 zs a b g)
  past_zone z zs le = (
    λ h. (h.0, h.1, h.2, sym (grade_past before h.0 z zs (omega (arith, h.1))) ∙ h.3),
    λ h. (h.0, h.1, h.2, grade_past before h.0 z zs (omega (arith, h.1)) ∙ h.3),
  )

-- what a walk along zones has found (B) and will find (C, then E), with the grade of a stretch (D)
module _ {A B C D : Type 0} where
  pub passed : (A ↔ (B ⊎ C)) → (C ↔ D) → (A ↔ (B ⊎ D))
  passed a c = grind (arith, a, c)

  pub joined : {R : Type 0} → (A ↔ (B ⊎ C)) → (C ↔ D) → (R ↔ (D ⊎ B)) → (R ↔ A)
  joined a c r = grind (arith, a, c, r)

  pub moved : {E R : Type 0} → (A ↔ (B ⊎ C)) → (C ↔ (D ⊎ E)) → (R ↔ (D ⊎ B)) → (A ↔ (R ⊎ E))
  moved a c r = grind (arith, a, c, r)

-- a mask with one more grade
pub set_grade : (mask grade g : ℕ) → 1 ≤ grade → grade ≤ 8 → 1 ≤ g
    → (bit_at (bit_or mask (1 * 2 ^ (grade - 1) % 256)) (g - 1) ≡ 1) ↔ ((g ≡ grade) ⊎ (bit_at mask (g - 1) ≡ 1))
set_grade mask grade g low high one =
    elim (cases_order g grade) [
      | inl same ↦ (λ _. inl same, λ _. rw same (bit_at_set_same w8 mask (grade - 1) (omega arith)))
      | inr o ↦
          let other : g ≢ grade = elim o [ inl lt ↦ λ e. omega arith | inr gt ↦ λ e. omega arith ] in
          let e : bit_at (bit_or mask (1 * 2 ^ (grade - 1) % 256)) (g - 1) ≡ bit_at mask (g - 1) =
          bit_at_set_other w8 mask (grade - 1) (omega arith) (g - 1) (omega arith) in
          (λ h. inr (sym e ∙ h), λ h. elim h [ inl same ↦ absurd (other same) | inr was ↦ e ∙ was ])
    ]

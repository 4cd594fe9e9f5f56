-- A log is worth at most 70,000,000,000 millionths for each millimetre.
use Rattle.std.proofs.Common.{ℕ, ◌*◌, ◌≤◌, true, false, nat_eq, if◌then◌else◌, slice_get, arith, mul-le-mul_right}
use Rattle.buck_apt_instruction.specs.Instruction.{index_of}
use Rattle.buck_stem_shape.specs.Stem.{StemParts}
use Rattle.buck_value.specs.declared.log.Log.{Log}
use Rattle.buck_value.specs.Sheet.{SheetParts, IsSheet, price_of}
use Rattle.buck_value.specs.Volume.{volume, worth_at}
use Rattle.buck_value.specs.Allowed.{IsAllowed, worth_of, kind_in, class_of, top_diameter}
use Rattle.buck_value.proofs.Prices.{price-le}
use Rattle.buck_value.proofs.Classes.{allowed_low}

volume-le : (d l : ℕ) → d ≤ 2000 → volume d l ≤ 3142 * l
volume-le d l le =
    let a : d * d ≤ 2000 * d = mul-le-mul_right d le in
    let b : d * d * l ≤ 4000000 * l = mul-le-mul_right l (omega arith) in
    omega arith

worth_at-le : (kind price d l : ℕ) → price ≤ 20000000 → d ≤ 2000 → 500 ≤ l
    → worth_at kind price (volume d l) ≤ 70000000000 * l
worth_at-le kind price d l p h low =
    elim (nat_eq kind 1) as (λ b. (if b then price * volume d l else price * 1000000) ≤ 70000000000 * l) [
      | true ↦
          let v : volume d l ≤ 3142 * l = volume-le d l h in
          let a : price * volume d l ≤ 20000000 * volume d l = mul-le-mul_right (volume d l) p in
          omega arith
      | false ↦ omega arith
    ]

pub worth_low : (s : SheetParts) (stem : StemParts) (g : Log) → IsSheet s → IsAllowed s.instruction stem g
    → worth_of s stem g ≤ 70000000000 * g.length
unfolding worth_of
worth_low s stem g v a =
    let low = allowed_low s.instruction stem g v.valid a in
    let price : price_of s (class_of s.instruction stem g) ≤ 20000000 =
    price-le s (index_of s.instruction (class_of s.instruction stem g)) v in
    worth_at-le (kind_in (slice_get s.instruction.assortments g.assortment))
    (price_of s (class_of s.instruction stem g)) (top_diameter stem g) g.length price low.2 low.0

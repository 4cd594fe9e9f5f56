use Rattle.std.proofs.Common.{◌≡◌, ◌↔◌, ℕ, ◌*◌, ◌+◌, length, Some, slice_get, slice_index, sym, refl, ◌∙◌, ap, inl, inr, arith, true≢false}
use Rattle.buck_apt_instruction.specs.Instruction.{InstructionParts}
use Rattle.buck_stem_shape.specs.Stem.{HasGradesOf}
use Rattle.buck_value.proofs.Classes.{column_some, column_none, column_is}
use Rattle.buck_value.specs.Allowed.{top_of, top_diameter, row_at, column_of}
use Rattle.buck_value.specs.Wood.{TakesWood}
use Rattle.buck_dp_own_logs.specs.Reasons.{NoneBelow}
use Rattle.buck_dp_own_logs.proofs.Standing.{stands_past_all}
use Rattle.buck_dp_own_logs.proofs.Told.{it_has, its_species, takes_exactly, past_length, past_end, past_grade, past_diameter, past_price, top_is, price_is}
use Rattle.buck_dp_own_logs.proofs.judging.reason_measured.Goals as goal
use Rattle.buck_dp_own_logs.proofs.judging.reason_measured.Goals.{After-takes, After-diameters, After-price}

-- whether the log's wood is taken
taken : (c : After-takes)
    → (TakesWood c.args.assortment.now c.species.result c.of-grades.result
    ↔ ((c.args.assortment.now.species ≡ c.args.stem.now.species)
    × HasGradesOf c.args.stem.now.zones c.args.log.now.start (top_of c.args.log.now) c.args.assortment.now.grades))
taken c =
    takes_exactly c.args.stem.now c.args.log.now c.args.assortment.now c.in-Some-top_within.top _ _ _
    c.in-Some-top_within.ensures.valid c.in-Some-top_within.ensures.top c.species.ensures c.grades_between.ensures
    c.of-grades.ensures

module _ (c : After-takes) (i : InstructionParts) (from : ℕ)
    (there : slice_get i.assortments c.args.log.now.assortment ≡ Some c.args.assortment.now)
    (passed : NoneBelow i c.args.stem.now from c.args.log.now 5) where
  -- the log ends within the stem
  inside : NoneBelow i c.args.stem.now from c.args.log.now 7
  inside =
      let g = c.args.log.now in let a = c.args.assortment.now in
      past_end i c.args.stem.now from g a there passed
      (column_some a.lengths g.length c.in-Some.column (sym c.column_of.ensures ∙ c.in-Some.is)).1
      (omega (arith, c.in-Some-top_within.ensures.within, c.trim.ensures.trim))

  -- and its grades are taken, if its wood is
  graded : TakesWood c.args.assortment.now c.species.result c.of-grades.result
      → NoneBelow i c.args.stem.now from c.args.log.now 8
  graded takes =
      past_grade i c.args.stem.now from c.args.log.now c.args.assortment.now there inside ((taken c).0 takes).1

-- the log's diameter, and the least that its assortment takes
measured : (c : After-diameters)
    → (c.diameter_at-diameter.result ≡ top_diameter c.args.stem.now c.args.log.now)
    × (slice_index c.diameters.result.now 0 ≡ slice_index c.args.assortment.now.diameters 0)
measured c = (
  top_is c.args.stem.now c.args.log.now c.in-Some-top_within.top _ c.in-Some-top_within.ensures.top
      c.diameter_at-diameter.ensures,
  ap (λ ds. slice_index ds 0) c.diameters.ensures.limits,
)

-- its price, by its diameter
priced : (c : After-price) → c.diameter_at-diameter.result ≡ top_diameter c.args.stem.now c.args.log.now
    → c.price.result ≡ slice_index c.args.assortment.now.prices
    (row_at c.args.assortment.now (top_diameter c.args.stem.now c.args.log.now)
    * length c.args.assortment.now.lengths + column_of c.args.assortment.now c.args.log.now.length)
priced c d =
    let a = c.args.assortment.now in let g = c.args.log.now in
    price_is c.args.stem.now g a c.in-Some.column c.diameter_at-diameter.result c.row_of.result c.price.result
    (column_is a g.length c.in-Some.column (sym c.column_of.ensures ∙ c.in-Some.is)) d c.row_of.ensures.row
    c.price.ensures

pub returns-in_default-clause-told : goal.returns-in_default-clause-told
returns-in_default-clause-told c = λ i from there passed. record {
  applies = it_has i c.args.log.now c.args.assortment.now _ there
      (column_none c.args.assortment.now.lengths c.args.log.now.length (sym c.column_of.ensures ∙ c.in_default.is));
  none_before = passed;
}

pub returns-in_default-top_within-clause-told : goal.returns-in_default-top_within-clause-told
returns-in_default-top_within-clause-told c = λ i from there passed.
    let stem = c.args.stem.now in let g = c.args.log.now in
    let a = c.args.assortment.now in
    record {
      applies = it_has i g a _ there
          (omega (arith, c.in_default-top_within.ensures.none, c.trim.ensures.trim));
      none_before = past_length i stem from g a there passed
          (column_some a.lengths g.length c.in-Some.column (sym c.column_of.ensures ∙ c.in-Some.is)).1;
    }

pub returns-then-not-takes-clause-told : goal.returns-then-not-takes-clause-told
returns-then-not-takes-clause-told c = λ i from there passed.
    let stem = c.args.stem.now in let g = c.args.log.now in
    let a = c.args.assortment.now in
    let on = (goal.at.returns-then-not-takes-clause-told c).After-takes in
    let its = its_species i stem from g a there passed in
    record {
      applies = it_has i g a _ there
          (λ has. true≢false (sym (c.if-not-takes.ensures.1 ((taken on).1 (its, has)))));
      none_before = inside on i from there passed;
    }

pub returns-then-diameter-diameters-clause-told : goal.returns-then-diameter-diameters-clause-told
returns-then-diameter-diameters-clause-told c = λ i from there passed.
    let at = goal.at.returns-then-diameter-diameters-clause-told c in
    let m = measured at.After-diameters in
    record {
      applies = it_has i c.args.log.now c.args.assortment.now _ there
          (inl (omega (arith, m.0, m.1, c.if-diameter-diameters.true)));
      none_before = graded at.After-takes i from there passed (c.if-not-takes.ensures.0 refl);
    }

pub returns-then-upper-diameter-clause-told : goal.returns-then-upper-diameter-clause-told
returns-then-upper-diameter-clause-told c = λ i from there passed.
    let at = goal.at.returns-then-upper-diameter-clause-told c in
    let m = measured at.After-diameters in
    record {
      applies = it_has i c.args.log.now c.args.assortment.now _ there
          (inr (omega (arith, m.0, c.upper.ensures, c.if-upper-diameter.true)));
      none_before = graded at.After-takes i from there passed (c.if-not-takes.ensures.0 refl);
    }

pub returns-then-price-eq0-clause-told : goal.returns-then-price-eq0-clause-told
returns-then-price-eq0-clause-told c = λ i from there passed.
    let g = c.args.log.now in let a = c.args.assortment.now in
    let at = goal.at.returns-then-price-eq0-clause-told c in
    let m = measured at.After-diameters in
    let sized = past_diameter i c.args.stem.now from g a there
    (graded at.After-takes i from there passed (c.if-not-takes.ensures.0 refl))
    (omega (arith, m.0, m.1, c.if-diameter-diameters.false))
    (omega (arith, m.0, c.upper.ensures, c.if-upper-diameter.false)) in
    record {
      applies = it_has i g a _ there (sym (priced at.After-price m.0) ∙ c.if-price-eq0.true);
      none_before = sized;
    }

pub returns-clause-none : goal.returns-clause-none
returns-clause-none c = λ i from there passed.
    let stem = c.args.stem.now in let g = c.args.log.now in
    let a = c.args.assortment.now in
    let at = goal.at.returns-clause-none c in
    let m = measured at.After-diameters in
    let sized = past_diameter i stem from g a there
    (graded at.After-takes i from there passed (c.if-not-takes.ensures.0 refl))
    (omega (arith, m.0, m.1, c.if-diameter-diameters.false))
    (omega (arith, m.0, c.upper.ensures, c.if-upper-diameter.false)) in
    stands_past_all i stem from g
    (past_price i stem from g a there sized (λ zero. c.if-price-eq0.false (priced at.After-price m.0 ∙ zero)))

use Rattle.std.proofs.Common.{◌≡◌, ◌↔◌, Option, Some, None, IfNone, slice_get, sym, ◌∙◌, ap, subst, length, arith, rules}
use Rattle.std.proofs.lemmas.Option.{IfSome_then, same_Some, slice_get_within}
use Rattle.buck_apt_instruction.specs.Instruction.{AssortmentParts}
use Rattle.buck_value.specs.Allowed.{IsAllowed, Allows}
use Rattle.buck_value.proofs.Stands.{stands}
use Rattle.buck_value.proofs.worth.measure.Goals as goal
use Rattle.buck_value.proofs.worth.measure.Goals.{After-module, After-measure_in}

-- the log's assortment, as the code finds it
its : (c : After-module)
    → slice_get c.args.sheet.now.instruction.assortments c.args.log.now.assortment
    ≡ Some c.in_ok-assortment.assortment.now
its c =
    let found = c.in_ok-assortment.ensures.lookup in
    let same : c.assortments.result.now ≡ c.args.sheet.now.instruction.assortments = search rules in
    stands c.args.sheet.now.instruction c.args.log.now.assortment c.in_ok-assortment.assortment.now
    c.assortments.result.now same (omega (arith, found.3.0, ap length same)) found.1

step : (c : After-module) → c.module.result ≡ c.args.sheet.now.instruction.«module»
step c = search rules

-- the log is allowed if that assortment allows it
allowed : (c : After-measure_in) → c.module.result ≡ c.args.sheet.now.instruction.«module»
    → slice_get c.args.sheet.now.instruction.assortments c.args.log.now.assortment
    ≡ Some c.in_ok-assortment.assortment.now
    → (Allows c.module.result c.in_ok-assortment.assortment.now c.args.stem.now c.args.log.now
    ↔ IsAllowed c.args.sheet.now.instruction c.args.stem.now c.args.log.now)
allowed c same at = (
  λ a. record { assortment = c.in_ok-assortment.assortment.now; exists = at; allows = rw same at a },
  λ a. rw same (subst
      (λ (y : AssortmentParts). Allows c.args.sheet.now.instruction.«module» y c.args.stem.now c.args.log.now)
      (same_Some _ _ (sym a.exists ∙ at)) a.allows),
)

none_then : {X : Type 0} (r : Option X) {P Q : Type 0} → (P → Q) → IfNone r P → IfNone r Q
none_then None f h = f h
none_then (Some x) f h = tt

pub returns-in_err-assortment-clause-none : goal.returns-in_err-assortment-clause-none
returns-in_err-assortment-clause-none c =
    let i = c.args.sheet.now.instruction in let n = c.args.log.now.assortment in
    let same : c.assortments.result.now ≡ i.assortments = search rules in
    rw c.from_residual.ensures (λ (a : IsAllowed i c.args.stem.now c.args.log.now).
    omega (
      arith,
      slice_get_within i.assortments n a.assortment a.exists,
      c.in_err-assortment.ensures.lookup.3,
      ap length same,
    ))

pub returns-clause-allowed : goal.returns-clause-allowed
returns-clause-allowed c =
    let at = goal.at.returns-clause-allowed c in
    IfSome_then c.measure_in.result c.measure_in.ensures.allowed
    (λ m. (allowed at.After-measure_in (step at.After-module) (its at.After-module)).0)

pub returns-clause-class : goal.returns-clause-class
returns-clause-class c = rw (its (goal.at.returns-clause-class c).After-module) c.measure_in.ensures.class

pub returns-clause-none : goal.returns-clause-none
returns-clause-none c =
    let at = goal.at.returns-clause-none c in
    none_then c.measure_in.result
    (λ no a. no ((allowed at.After-measure_in (step at.After-module) (its at.After-module)).1 a))
    c.measure_in.ensures.none

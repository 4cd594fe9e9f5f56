use Rattle.std.proofs.Common.{◌≡◌, ◌*◌, ◌≤◌, Some, slice_get, refl, sym, rules, arith, mul-le-mul_right}
use Rattle.buck_value.specs.Prepared.{lengths_of}
use Rattle.buck_value.proofs.Stands.{stands}
use Rattle.buck_value.proofs.prepared.Prepared.log.Goals as goal
use Rattle.buck_value.proofs.prepared.Prepared.log.Goals.{After-lengths}

-- the lengths of the assortment, as the code reads them
its : (c : After-lengths) → lengths_of c.args.self.now c.args.assortment ≡ c.lengths.result.now
its c =
    let i = c.args.self.now.sheet.instruction in let x = c.index-assortments-assortment.result in
    let at : slice_get i.assortments c.args.assortment ≡ Some x =
    stands i c.args.assortment x c.assortments.result.now (search rules) c.requires.assortment
    c.index-assortments-assortment.is in
    rw at (sym c.lengths.ensures.lengths)

pub prove-unreachable-requires : goal.prove-unreachable-requires
prove-unreachable-requires c = omega (arith, c.requires.i, c.points.ensures.number)

pub overflow_mul-result : goal.overflow_mul-result
overflow_mul-result c =
    let m = c.module.result in
    let h : c.args.i * m ≤ 4001 * m = mul-le-mul_right m (omega arith) in
    omega (arith, h, c.module.ensures.valid.module_range)

pub offset_bounds-lengths-column : goal.offset_bounds-lengths-column
offset_bounds-lengths-column c =
    let h = rw (its (goal.at.offset_bounds-lengths-column c).After-lengths, c.lengths.ensures.lengths)
    at c.requires.column in
    omega (arith, h, c.lengths.ensures.valid.columns)

pub bounds-lengths-column : goal.bounds-lengths-column
bounds-lengths-column c = rw (← its (goal.at.bounds-lengths-column c).After-lengths) c.requires.column

pub returns : goal.returns
returns c =
    let step : c.module.result ≡ c.args.self.now.sheet.instruction.«module» = search rules in
    rw (step, its (goal.at.returns c).After-lengths) refl

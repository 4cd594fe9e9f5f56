use Rattle.std.proofs.Common.{List, length, ap, arith}
use Rattle.buck_apt_instruction.specs.Instruction.{AssortmentParts}
use Rattle.buckfleet_engine_text.proofs.Reports.{assortment_more}
use Rattle.buckfleet_engine_text.proofs.report.put_assortments.Goals as goal

pub loop-at-preserved : goal.loop-at-preserved
loop-at-preserved c =
    let same = c.loop-at.invariant.1 in
    let e = c.args.ending.now in
    let xs = e.instruction.assortments in
    let long = ap (λ (l : List AssortmentParts). length l) same in (
      assortment_more e xs c.loop-at.at c.index-assortments-at.result c.args.out.now.items c.loop-at.out.items
          c.put_assortment.new.out.items
          (omega (arith, c.loop-at-test.true, long)) (rw same at c.index-assortments-at.is)
          c.loop-at.invariant.0 c.in_ok-put_assortment.ensures,
      same,
    )

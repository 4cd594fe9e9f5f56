use Rattle.buck_fleet.proofs.Words.{arith, ap, ◌∙◌, sym, Some, length-map, Arc, Global, arc_value, Stem, StemParts}
use Rattle.buck_fleet.proofs.Running.{got, one_more_cut}
use Rattle.buck_fleet.proofs.run.cut_all.Goals as goal

pub loop-stem-preserved : goal.loop-stem-preserved
loop-stem-preserved g c =
    let f = λ (a : Arc Stem Global). arc_value a in
    let lt = c.loop-stem-test.true in
    let len = length-map c.args.stems.now f in
    let at = got f c.args.stems.now c.loop-stem.stem-index c.stem-item.result lt c.stem-item.is in (
      c.in-Ok-cut.ensures.seat,
      one_more_cut _ _ _ _ _ c.in-Ok-cut._reply _ c.loop-stem.invariant.1 c.in-Ok-cut.ensures.reply
          (at ∙ ap (λ (s : StemParts). Some s) (sym c.in-Ok.ensures.cases)) (omega (arith, lt, len)),
    )

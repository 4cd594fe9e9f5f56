use Rattle.std.proofs.Common.{refl, ◌∙◌, arith}
use Rattle.std.specs.Arc.{arc_value}
use Rattle.buckfleet_trial.specs.Light.{IsBestWorth}
use Rattle.buckfleet_trial.proofs.Lights.{best_at, sum_taken}
use Rattle.buckfleet_trial.proofs.light.list_best.Goals as goal

pub loop-stem-preserved : goal.loop-stem-preserved
loop-stem-preserved c = record {
  same = c.in_ok-worth.ensures.same ∙ c.loop-stem.invariant.same;
  best =
      sum_taken (λ stem w. IsBestWorth c.args.planner.now (arc_value stem) w) c.args.stems.now c.loop-stem.stem-index
      c.stem-item.result c.loop-stem.all c.from-all.result _ c.loop-stem-test.true c.stem-item.is
      c.loop-stem.invariant.best
      (best_at c.loop-stem.planner c.args.planner.now c.deref.result.now (arc_value c.stem-item.result)
      c.in_ok-worth.field-0-0.logs.items c.from-all.result c.loop-stem.invariant.same c.deref.ensures
      c.in_ok-worth.ensures.first (c.from-all.ensures ∙ c.in_ok-worth.ensures.worth)) refl;
  low = omega (arith, c.loop-stem.invariant.low, c.in_ok-worth.ensures.high, c.from-all.ensures);
}

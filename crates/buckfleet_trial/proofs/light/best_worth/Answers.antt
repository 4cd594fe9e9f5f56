use Rattle.std.proofs.Common.{refl, subst, ◌∙◌}
use Rattle.buck_value.specs.Sheet.{SheetParts}
use Rattle.buck_page_figures.specs.Figures.{base_sheet}
use Rattle.buckfleet_trial.specs.Light.{AreBestOf}
use Rattle.buckfleet_trial.proofs.Lights.{list_low, sum_taken}
use Rattle.buckfleet_trial.proofs.light.best_worth.Goals as goal

pub loop-list-preserved : goal.loop-list-preserved
loop-list-preserved c = record {
  same = c.in_ok-all.ensures.same ∙ c.loop-list.invariant.same;
  best =
      sum_taken (λ list w. AreBestOf (base_sheet c.args.instruction.now.value) list.items w) c.args.lists.now
      c.loop-list.list-index c.list-item.result c.loop-list.all c.in_ok-all.field-0 _ c.loop-list-test.true
      c.list-item.is c.loop-list.invariant.best
      (subst (λ (x : SheetParts). AreBestOf x c.list-item.result.items c.in_ok-all.field-0) c.loop-list.invariant.same
      (subst (λ l. AreBestOf c.loop-list.planner l c.in_ok-all.field-0) c.as_slice.ensures.value
      c.in_ok-all.ensures.best)) refl;
  low =
      list_low c.args.lists.now c.loop-list.list-index c.list-item.result c.as_slice.result.now c.loop-list.all
      c.in_ok-all.field-0 c.loop-list-test.true c.list-item.is c.as_slice.ensures.value c.loop-list.invariant.low
      c.in_ok-all.ensures.low;
}

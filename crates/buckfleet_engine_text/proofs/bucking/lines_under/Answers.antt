use Rattle.std.proofs.Common.{◌∙◌, subst, arith}
use Rattle.buck_value.specs.Sheet.{SheetParts}
use Rattle.buckfleet_engine_text.specs.inner.Text.{IsPut}
use Rattle.buckfleet_engine_text.proofs.TextLemmas.{nothing_put, one_put, one_taken}
use Rattle.buckfleet_engine_text.proofs.bucking.lines_under.Goals as goal

pub loop-stem-init : goal.loop-stem-init
loop-stem-init c = record {
  text = rw c.new-text.ensures.items (nothing_put c.args.sheet.value);
  planner = c.in_ok-planner.ensures;
}

pub loop-stem-preserved : goal.loop-stem-preserved
loop-stem-preserved c =
    let put =
    subst (λ (s : SheetParts). IsPut s c.stem-item.result c.loop-stem.text.items c.put_cut.new.out.items
    c.in_ok-count.count c.in_ok-count.value)
    c.loop-stem.invariant.planner c.in_ok-count.ensures.put in
    record {
      text = rw (
        one_taken c.args.stems.now c.loop-stem.stem-index c.stem-item.result c.loop-stem-test.true
            c.stem-item.is,
        c.from-worth.ensures,
      )
          (one_put _ _ _ _ _ _ _ _ _ c.loop-stem.invariant.text put (omega (arith, c.in_ok-count.ensures.logs_fit))
          (omega (arith, c.in_ok-count.ensures.worth_fits)));
      planner = c.in_ok-count.ensures.same ∙ c.loop-stem.invariant.planner;
    }

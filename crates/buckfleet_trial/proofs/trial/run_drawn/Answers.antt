use Rattle.std.proofs.Common.{◌≡◌, length, ap, arith, rules, subst}
use Rattle.buck_apt_instruction.specs.Settings.{with_settings}
use Rattle.buckfleet_trial_sweep.specs.Runs.{HasCut}
use Rattle.buckfleet_trial_sweep.specs.Table.{IsLeast}
use Rattle.buckfleet_trial.specs.Light.{AreDegrees, AreDrawn}
use Rattle.buckfleet_trial.proofs.Orders.{drawn_length, drawn_stop}
use Rattle.buckfleet_trial.proofs.RunLemmas.{drawn_is}
use Rattle.buckfleet_trial.proofs.trial.run_drawn.Goals as goal

pub cut_by_name-requires : goal.cut_by_name-requires
cut_by_name-requires c = record {
  few =
      (let long = drawn_length c.args.start c.as_slice.result.now c.in_ok-order.order.items c.in_ok-order.ensures in
      omega (arith, long, ap length c.as_slice.ensures.value, ap length c.as_slice-2.ensures.value, c.requires.few));
}

pub returns-in_err-parts-clause-stop : goal.returns-in_err-parts-clause-stop
returns-in_err-parts-clause-stop c =
    drawn_stop c.args.start c.args.input.now.lists.items c.as_slice.result.now c.in_ok-order.order.items
    c.as_slice-2.result.now _ _ c.as_slice.ensures.value c.in_ok-order.ensures c.as_slice-2.ensures.value
    c.in_err-parts.ensures.stop c.from_residual-in_err-parts.ensures.1

pub returns-clause-ok : goal.returns-clause-ok
returns-clause-ok c =
    let own : c.in_ok-instruction.instruction.value
    ≡ with_settings c.args.combination.now.settings c.args.input.now.instruction =
    search rules in
    drawn_is c.args.input.now.instruction c.in_ok-instruction.instruction.value c.args.input.now.lists.items
    c.in_ok-order.order.items c.args.combination.now c.args.start _ c.in_ok-parts.parts c.targets.result.now
    c.counts.result.now c.in_ok-degrees.degrees.items
    (subst (λ l. AreDrawn c.args.start l c.in_ok-order.order.items) c.as_slice.ensures.value c.in_ok-order.ensures)
    c.in_ok-parts.ensures.instruction own
    (subst (λ l. HasCut c.args.combination.now.rule l c.in_ok-parts.parts) c.as_slice-2.ensures.value
    c.in_ok-parts.ensures.cut) c.targets.ensures.targets c.counts.ensures
    (subst (λ i. AreDegrees i c.targets.result.now c.counts.result.now c.in_ok-degrees.degrees.items) c.deref.ensures
    c.in_ok-degrees.ensures) c.in_ok-base_worth.ensures.worth
    (subst (λ l. IsLeast l c.least_of.result) c.as_slice-3.ensures.value c.least_of.ensures)

use Rattle.std.proofs.Common.{length, ap, arith, refl}
use Rattle.buckfleet_trial.proofs.Lights.{cut_drawn}
use Rattle.buckfleet_trial.proofs.Orders.{drawn_length, drawn_stops}
use Rattle.buckfleet_trial.proofs.light.cut_in_order.Goals as goal

pub cut_by_name-requires-in-Some : goal.cut_by_name-requires-in-Some
cut_by_name-requires-in-Some c = record {
  few =
      (let long = drawn_length c.in-Some.start c.args.lists.now c.in_ok-order-in-Some.order.items
      c.in_ok-order-in-Some.ensures in
      omega (arith, long, ap length c.as_slice.ensures.value, c.requires.few));
}

pub returns-in_ok-order-in-Some-clause-ok : goal.returns-in_ok-order-in-Some-clause-ok
returns-in_ok-order-in-Some-clause-ok c =
    cut_drawn c.args.named c.args.instruction.now.value c.args.lists.now c.args.lists.now
    c.in_ok-order-in-Some.order.items c.as_slice.result.now c.in-Some.start c.args.order
    c.cut_by_name-in-Some.result c.in-Some.is refl c.in_ok-order-in-Some.ensures
    c.as_slice.ensures.value c.cut_by_name-in-Some.ensures.instruction c.cut_by_name-in-Some.ensures.cut

pub returns-in_ok-order-in-Some-clause-stop : goal.returns-in_ok-order-in-Some-clause-stop
returns-in_ok-order-in-Some-clause-stop c =
    drawn_stops c.in-Some.start c.args.lists.now c.args.lists.now c.in_ok-order-in-Some.order.items
    c.as_slice.result.now c.cut_by_name-in-Some.result refl c.in_ok-order-in-Some.ensures c.as_slice.ensures.value
    c.cut_by_name-in-Some.ensures.stop

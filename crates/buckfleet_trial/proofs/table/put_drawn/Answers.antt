use Rattle.std.proofs.Common.{◌<◌, Some, length, arith}
use Rattle.std.proofs.lemmas.Grind.{common_steps}
use Rattle.std.proofs.lemmas.List.{length-map}
use Rattle.buckfleet_trial_sweep.specs.Table.{rate_of}
use Rattle.buckfleet_trial.specs.Trial.{costs_in, degrees_in}
use Rattle.buckfleet_trial.proofs.Spreads.{as_many, put_both}
use Rattle.buckfleet_trial.proofs.table.put_drawn.Goals as goal

pub spread_of-requires : goal.spread_of-requires
spread_of-requires c =
    let long = as_many c.args.drawn.now (degrees_in c.args.drawn.now) c.in_ok-degrees.degrees.items
    c.as_slice.result.now c.as_slice.ensures.value (length-map c.args.drawn.now (λ d. d.least))
    c.in_ok-degrees.ensures in
    omega (arith, long, c.requires.few)

pub spread_of-requires-2 : goal.spread_of-requires-2
spread_of-requires-2 c =
    let long = as_many c.args.drawn.now (costs_in c.args.best c.args.drawn.now) c.in_ok-costs.costs.items
    c.as_slice-2.result.now c.as_slice-2.ensures.value
    (length-map c.args.drawn.now (λ d. Some (rate_of c.args.best d.at_base))) c.in_ok-costs.ensures in
    omega (arith, long, c.requires.few)

pub returns : goal.returns
returns c =
    let some : 0 < length c.args.drawn.now = grind (arith, common_steps, c.if-is_empty.ensures) in
    put_both c.args.best c.args.drawn.now c.in_ok-degrees.degrees.items c.in_ok-costs.costs.items
    c.as_slice.result.now c.as_slice-2.result.now c.spread_of.result c.spread_of-2.result c.args.out.now.items
    c.put_spread.new.out.items c.put_spread-2.new.out.items c.put_spread-2.result some c.in_ok-degrees.ensures
    c.in_ok-costs.ensures c.as_slice.ensures.value c.as_slice-2.ensures.value c.spread_of.ensures c.spread_of-2.ensures
    c.in_ok-put_spread.ensures c.put_spread-2.ensures

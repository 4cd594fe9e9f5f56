use Rattle.std.proofs.Common.{◌<◌, Some, length, arith}
use Rattle.std.proofs.lemmas.Grind.{common_steps}
use Rattle.buckfleet_trial_wishes.specs.WishLine.{both, degree_in}
use Rattle.buckfleet_trial_wishes.proofs.Gains.{as_many_pairs, put_both}
use Rattle.buckfleet_trial_wishes.proofs.wish.put_gains.Goals as goal

pub spread_of-requires : goal.spread_of-requires
spread_of-requires c =
    let long = as_many_pairs (λ p. Some (p.0.at_base, p.1.at_base)) c.args.wholes.now c.args.runs.now
    c.in_ok-gains.gains.items c.as_slice.result.now c.requires.same c.as_slice.ensures.value c.in_ok-gains.ensures in
    omega (arith, long, c.requires.few)

pub spread_of-requires-2 : goal.spread_of-requires-2
spread_of-requires-2 c =
    let long = as_many_pairs (λ p. both (degree_in p.0 c.args.at) (degree_in p.1 c.args.at)) c.args.wholes.now
    c.args.runs.now c.in_ok-changes.changes.items c.as_slice-2.result.now c.requires.same c.as_slice-2.ensures.value
    c.in_ok-changes.ensures in
    omega (arith, long, c.requires.few)

pub returns : goal.returns
returns c =
    let some : 0 < length c.args.runs.now = grind (arith, common_steps, c.if-is_empty.ensures) in
    put_both c.args.at c.args.wholes.now c.args.runs.now c.in_ok-gains.gains.items c.in_ok-changes.changes.items
    c.as_slice.result.now c.as_slice-2.result.now c.spread_of.result c.spread_of-2.result c.args.out.now.items
    c.put_spread.new.out.items c.put_spread-2.new.out.items c.put_spread-2.result some c.in_ok-gains.ensures
    c.in_ok-changes.ensures c.as_slice.ensures.value c.as_slice-2.ensures.value c.spread_of.ensures
    c.spread_of-2.ensures c.in_ok-put_spread.ensures c.put_spread-2.ensures

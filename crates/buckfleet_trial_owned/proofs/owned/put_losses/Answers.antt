use Rattle.std.proofs.Common.{◌<◌, Some, length, arith}
use Rattle.std.proofs.lemmas.Grind.{common_steps}
use Rattle.std.proofs.lemmas.List.{length-map}
use Rattle.buckfleet_trial_owned.specs.Owned.{loss_of, losses_in}
use Rattle.buckfleet_trial_owned.proofs.Owning.{put_some}
use Rattle.buckfleet_trial.proofs.Spreads.{as_many}
use Rattle.buckfleet_trial_owned.proofs.owned.put_losses.Goals as goal

pub spread_of-requires : goal.spread_of-requires
spread_of-requires c =
    let long = as_many c.args.drawn.now (losses_in c.args.drawn.now) c.in_ok-losses.losses.items
    c.as_slice.result.now c.as_slice.ensures.value (length-map c.args.drawn.now (λ o. Some (loss_of o)))
    c.in_ok-losses.ensures in
    omega (arith, long, c.requires)

pub returns : goal.returns
returns c =
    let some : 0 < length c.args.drawn.now = grind (arith, common_steps, c.if-is_empty.ensures) in
    put_some c.args.drawn.now c.in_ok-losses.losses.items c.as_slice.result.now c.spread_of.result
    c.args.out.now.items c.put_spread.new.out.items c.put_spread.result some c.in_ok-losses.ensures
    c.as_slice.ensures.value c.spread_of.ensures c.put_spread.ensures

use Rattle.std.proofs.Common.{Some}
use Rattle.buckfleet_trial_wishes.specs.WishLine.{IsChangeOf}
use Rattle.buckfleet_trial_wishes.proofs.Gains.{pair_taken}
use Rattle.buckfleet_trial_wishes.proofs.wish.gains_of.Goals as goal

pub loop-k-preserved : goal.loop-k-preserved
loop-k-preserved c =
    pair_taken IsChangeOf (λ p. Some (p.0.at_base, p.1.at_base)) c.args.wholes.now c.args.runs.now c.loop-k.k
    c.index-wholes-k.result c.index-runs-k.result c.loop-k.gains.items c.push.new.self.items (Some c.gain_of.result)
    c.requires c.loop-k-test.true c.index-wholes-k.is c.index-runs-k.is c.loop-k.invariant
    (c.gain_of.ensures.from, c.gain_of.ensures.to) c.in_ok-push.ensures.items

use Rattle.std.proofs.Common.{subst}
use Rattle.buckfleet_trial_wishes.specs.WishLine.{IsChangeOf, both, degree_in}
use Rattle.buckfleet_trial_wishes.proofs.Gains.{pair_taken}
use Rattle.buckfleet_trial_wishes.proofs.wish.changes_of.Goals as goal

pub loop-k-preserved : goal.loop-k-preserved
loop-k-preserved c =
    let at = c.args.at in
    pair_taken IsChangeOf (λ p. both (degree_in p.0 at) (degree_in p.1 at)) c.args.wholes.now c.args.runs.now c.loop-k.k
    c.index-wholes-k.result c.index-runs-k.result c.loop-k.changes.items c.push.new.self.items c.change_of.result
    c.requires c.loop-k-test.true c.index-wholes-k.is c.index-runs-k.is c.loop-k.invariant
    (subst (λ d. IsChangeOf (both d (degree_in c.index-runs-k.result at)) c.change_of.result) c.degree.ensures
    (subst (λ d. IsChangeOf (both c.degree.result d) c.change_of.result) c.degree-in-loop-k.ensures
    c.change_of.ensures))
    c.in_ok-push.ensures.items

use Rattle.buckfleet_trial_wishes.specs.inner.Asking.{IsToldOf}
use Rattle.std.proofs.lemmas.List.{get_or_default}
use Rattle.buckfleet_trial.proofs.Each.{zip_taken}
use Rattle.buckfleet_trial_wishes.proofs.wishes.told_of.Goals as goal

pub loop-wish-preserved : goal.loop-wish-preserved
loop-wish-preserved g c =
    zip_taken (IsToldOf c.args.asking.now c.args.whole.now) c.args.wishes.now c.loop-wish.wish-index _
    c.loop-wish.told.items c.push.new.self.items c.in_ok-one.one c.loop-wish-test.true
    (get_or_default c.args.wishes.now c.loop-wish.wish-index _ _ c.loop-wish-test.true)
    c.loop-wish.invariant c.in_ok-one.ensures.ok c.in_ok-push.ensures.items

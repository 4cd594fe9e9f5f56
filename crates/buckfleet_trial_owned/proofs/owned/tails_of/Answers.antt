use Rattle.buckfleet_trial_owned.specs.Owned.{IsOwnTail}
use Rattle.buckfleet_trial.proofs.Each.{zip_taken}
use Rattle.buckfleet_trial_owned.proofs.owned.tails_of.Goals as goal

pub loop-combination-preserved : goal.loop-combination-preserved
loop-combination-preserved c =
    zip_taken (λ x tail. IsOwnTail c.args.own.now c.args.input.now.instruction c.args.input.now.lists.items
    c.args.starts.now x tail.items)
    c.args.combinations.now c.loop-combination.combination-index c.combination-item.result
    c.loop-combination.tails.items c.push.new.self.items c.in_ok-tail.tail c.loop-combination-test.true
    c.combination-item.is c.loop-combination.invariant c.in_ok-tail.ensures.ok c.in_ok-push.ensures.items

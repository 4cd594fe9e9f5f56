use Rattle.std.proofs.Common.{◌∙◌, ◌+◌, ◌-◌, ap, arith, length}
use Rattle.std.proofs.lemmas.List.Sorted.{IsPermutation-trans}
use Rattle.buckfleet_trial_draws.specs.Draws.{state_after}
use Rattle.buckfleet_trial_draws.proofs.Steps.{list_kept, state_kept}
use Rattle.buckfleet_trial_draws.proofs.drawn.shuffle.Goals as goal

pub loop-after-preserved : goal.loop-after-preserved
loop-after-preserved g c =
    record {
      long = c.swap.ensures.len ∙ c.loop-after.invariant.long;
      list = list_kept c.loop-after.after c.below-place.result c.loop-after.random c.below-place.new.random
          c.loop-after.list c.swap.new.self (omega (arith, c.loop-after-test.true, c.loop-after.invariant.long))
          c.swap.ensures.len c.swap.ensures.after c.below-place.ensures.number c.below-place.ensures.state
          ∙ c.loop-after.invariant.list;
      state = ap (λ n. state_after (n + 1 - (c.loop-after.after + 1)) c.below-place.new.random) c.swap.ensures.len
          ∙ state_kept c.loop-after.after (length c.loop-after.list) c.loop-after.random c.below-place.new.random
          (omega (arith, c.loop-after-test.true, c.loop-after.invariant.long)) c.below-place.ensures.state
          ∙ c.loop-after.invariant.state;
      permutation = IsPermutation-trans _ _ _ c.loop-after.invariant.permutation c.swap.ensures.permutation;
    }

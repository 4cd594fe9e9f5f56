use Rattle.std.proofs.Common.{◌∙◌, ap, map}
use Rattle.std.specs.Arc.{arc_value}
use Rattle.std.proofs.lemmas.List.{take_all, take_at}
use Rattle.std.proofs.lemmas.List.Sorted.{length_permutation}
use Rattle.buckfleet_trial_draws.specs.Draws.{shuffled}
use Rattle.buckfleet_trial_draws.proofs.Mapped.{is_mapped}
use Rattle.buckfleet_trial_draws.proofs.orders.shuffled.Goals as goal

pub returns-clause-order : goal.returns-clause-order
returns-clause-order c =
    ap (λ xs. map arc_value xs)
    (take_at c.shuffle.new.list _ c.loop-stem.order.len
    (length_permutation _ _ c.shuffle.ensures.permutation ∙ c.as_mut_slice.ensures.len))
    ∙ ap (λ xs. map arc_value xs) c.shuffle.ensures.shuffled
    ∙ is_mapped arc_value c.args.random.now c.as_mut_slice.result.now
    ∙ ap (λ xs. shuffled c.args.random.now (map arc_value xs)) c.as_mut_slice.ensures.value
    ∙ ap (λ xs. shuffled c.args.random.now xs) c.loop-stem.invariant
    ∙ ap (λ xs. shuffled c.args.random.now (map arc_value xs))
    (take_all c.loop-stem.stem-index c.args.list.now c.loop-stem-test.false)

use Rattle.std.proofs.Common.{arith}
use Rattle.wrong_trial.proofs.Orders.{begins}
use Rattle.wrong_trial.proofs.draws.shuffle_leaves_nothing_in_its_place.Goals as goal

pub prove-unreachable-requires : goal.prove-unreachable-requires
prove-unreachable-requires c =
    omega (arith, c.if-prove.true, begins _ _ c.shuffle.ensures.shuffled c.seed_from_u64-random.ensures.same)

use Rattle.std.proofs.Common.{arith}
use Rattle.buckfleet_trial_wishes.proofs.MovedLemmas.{greatest_some}
use Rattle.buckfleet_trial_wishes.proofs.moved.Asked.factor.Goals as goal

pub nonzero_div-of_one : goal.nonzero_div-of_one
nonzero_div-of_one c =
    let some = greatest_some c.args.self.now.targets.now c.requires.0 in
    omega (arith, some)

use Rattle.buck_dp.proofs.Words.{◌≡◌, ◌+◌, ◌-◌, arith, rules}
use Rattle.buck_dp.proofs.TopLemmas.{settled_more}
use Rattle.buck_dp.proofs.offering.settle.Goals as goal

pub returns : goal.returns
returns g c =
    let e : c.args.past ≡ c.args.past - 1 + 1 = omega (arith, c.requires.0) in
    let was = rw e at c.requires.1 in search (rules, settled_more)

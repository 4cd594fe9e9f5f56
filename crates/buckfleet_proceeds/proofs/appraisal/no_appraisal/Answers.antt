use Rattle.std.proofs.Common.{refl, rules}
use Rattle.buckfleet_proceeds.proofs.Passed.{passed_none}
use Rattle.buckfleet_proceeds.proofs.appraisal.no_appraisal.Goals as goal

pub returns : goal.returns
returns c =
    passed_none c.args.own.now _ refl (refl, refl, refl, refl) (refl, refl, refl, refl) (search rules) (search rules)
    (search rules)

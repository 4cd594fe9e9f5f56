use Rattle.std.proofs.Common.{◌≡◌, subst, rules}
use Rattle.buck_dp.specs.Best.{IsFirstBest}
use Rattle.wrong_best.proofs.dp.tables_of_another_sheet.Goals as goal

pub prove-unreachable-requires : goal.prove-unreachable-requires
prove-unreachable-requires c =
    let same : c.in_ok-after.after.logs.items ≡ c.in_ok-before.before.logs.items = search rules in
    let after : IsFirstBest c.args.sheet.value c.args.stem.now c.in_ok-after.after.logs.items = search rules in
    c.requires c.in_ok-before.before.logs.items c.in_ok-before.ensures.first
    (subst (λ x. IsFirstBest c.args.sheet.value c.args.stem.now x) same after)

use Rattle.std.proofs.Common.{◌≡◌, rules}
use Rattle.wrong_best.proofs.Ties.{not_of_any_logs}
use Rattle.wrong_best.proofs.dp.cutting_of_any_logs.Goals as goal

pub prove-unreachable-requires : goal.prove-unreachable-requires
prove-unreachable-requires c =
    let same : c.in_ok-cutting.cutting.logs.items ≡ c.args.others.now.logs.items = search rules in
    c.requires
    (not_of_any_logs c.args.sheet.now c.args.stem.now c.in_ok-cutting.cutting.logs.items
    c.args.others.now.logs.items c.in_ok-cutting.ensures.first same)

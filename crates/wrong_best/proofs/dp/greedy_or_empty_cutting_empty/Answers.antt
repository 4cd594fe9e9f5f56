use Rattle.std.proofs.Common.{◌≡◌, [], rules}
use Rattle.wrong_best.proofs.Ties.{not_empty}
use Rattle.wrong_best.proofs.dp.greedy_or_empty_cutting_empty.Goals as goal

pub prove-unreachable-requires : goal.prove-unreachable-requires
prove-unreachable-requires c =
    let same : c.in_ok-cutting.cutting.logs.items ≡ [] = search rules in
    not_empty c.args.sheet.now c.args.stem.now c.in_ok-cutting.cutting.logs.items c.args.log.now
    c.in_ok-cutting.ensures.first same c.requires.allowed c.requires.dear

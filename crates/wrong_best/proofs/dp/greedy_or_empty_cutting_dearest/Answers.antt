use Rattle.std.proofs.Common.{◌≡◌, [], ◌∷◌, arith, rules}
use Rattle.wrong_best.proofs.Ties.{not_outvalued}
use Rattle.wrong_best.proofs.dp.greedy_or_empty_cutting_dearest.Goals as goal

pub prove-unreachable-requires : goal.prove-unreachable-requires
prove-unreachable-requires c =
    let same : c.in_ok-cutting.cutting.logs.items ≡ c.args.dearest.now ∷ [] = search rules in
    not_outvalued c.args.sheet.now c.args.stem.now c.in_ok-cutting.cutting.logs.items (c.args.dearest.now ∷ [])
    c.args.others.now.logs.items c.in_ok-cutting.ensures.first same c.requires.admissible
    (omega (arith, c.requires.more))

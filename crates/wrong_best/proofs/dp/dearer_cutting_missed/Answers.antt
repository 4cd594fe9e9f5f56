use Rattle.std.proofs.Common.{◌≡◌, rules}
use Rattle.wrong_best.proofs.Ties.{not_outvalued}
use Rattle.wrong_best.proofs.dp.dearer_cutting_missed.Goals as goal

pub prove-unreachable-requires : goal.prove-unreachable-requires
prove-unreachable-requires c =
    let same : c.in_ok-cutting.cutting.logs.items ≡ c.args.cheaper.now.logs.items = search rules in
    not_outvalued c.args.sheet.now c.args.stem.now c.in_ok-cutting.cutting.logs.items c.args.cheaper.now.logs.items
    c.args.dearer.now.logs.items c.in_ok-cutting.ensures.first same c.requires.admissible c.requires.less

use Rattle.std.proofs.Common.{arith}
use Rattle.wrong_best.proofs.Ties.{not_worthless}
use Rattle.wrong_best.proofs.dp.worth_of_the_top_row.Goals as goal

pub prove-unreachable-requires : goal.prove-unreachable-requires
prove-unreachable-requires c =
    let most =
    not_worthless c.args.sheet.now c.args.stem.now c.in_ok-_cutting._cutting.logs.items c.args.log.now
    c.in_ok-_cutting.ensures.first c.requires.allowed in
    omega (arith, most, c.requires.dear, c.in_ok-_cutting.ensures.worth)

use Rattle.std.proofs.Common.{◌≡◌, [], ◌∷◌, rules}
use Rattle.wrong_best.proofs.Ties.{not_the_later}
use Rattle.wrong_best.proofs.dp.last_of_ties.Goals as goal

pub prove-unreachable-requires : goal.prove-unreachable-requires
prove-unreachable-requires c =
    let same : c.in_ok-cutting.cutting.logs.items ≡ c.args.late.now ∷ [] = search rules in
    not_the_later c.args.sheet.now c.args.stem.now c.in_ok-cutting.cutting.logs.items c.args.early.now c.args.late.now
    c.in_ok-cutting.ensures.first same c.requires.allowed c.requires.tie c.requires.before

use Rattle.std.proofs.Common.{◌≡◌, [], rules}
use Rattle.wrong_book.proofs.Plans.{not_empty}
use Rattle.wrong_book.proofs.book.plan_without_logs.Goals as goal

pub prove-unreachable-requires : goal.prove-unreachable-requires
prove-unreachable-requires c =
    let same : c.args.plan.now.logs ≡ [] = search rules in
    not_empty c.args.plan.now.sheet c.args.plan.now.stem c.args.plan.now.logs c.args.log.now
    c.cutting.ensures.best.first_best same c.requires.allowed c.requires.dear

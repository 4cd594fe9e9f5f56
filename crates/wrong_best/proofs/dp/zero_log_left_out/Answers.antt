use Rattle.std.proofs.Common.{◌≡◌, [], rules}
use Rattle.wrong_best.proofs.Ties.{not_without_a_free_log}
use Rattle.wrong_best.proofs.dp.zero_log_left_out.Goals as goal

pub prove-unreachable-requires : goal.prove-unreachable-requires
prove-unreachable-requires c =
    let same : c.in_ok-cutting.cutting.logs.items ≡ [] = search rules in
    not_without_a_free_log c.args.sheet.now c.args.stem.now c.in_ok-cutting.cutting.logs.items c.args.log.now
    c.in_ok-cutting.ensures.first same c.requires.allowed

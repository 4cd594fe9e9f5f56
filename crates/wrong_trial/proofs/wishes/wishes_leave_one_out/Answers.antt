use Rattle.std.proofs.Common.{◌≡◌, rules}
use Rattle.wrong_trial.proofs.Wanted.{without_wish}
use Rattle.wrong_trial.proofs.wishes.wishes_leave_one_out.Goals as goal

pub prove-unreachable-requires : goal.prove-unreachable-requires
prove-unreachable-requires g c =
    let same : c.run_wishes_in_parts-outcome.new.out.items ≡ c.args.wrong.now = search rules in
    without_wish _ _ _ _ _ _ _ _ _ _ _ c.args.at c.args.class c.run_wishes_in_parts-outcome.ensures
    c.new-right.ensures.items c.in-Ok.is c.requires.wish c.requires.other same

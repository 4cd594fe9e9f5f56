use Rattle.std.proofs.Common.{rules, ◌≡◌}
use Rattle.wrong_engine.proofs.Firsts.{not_of_firsts}
use Rattle.wrong_engine.proofs.fleets.fleet_cut_by_the_last_of_ties.Goals as goal

pub prove-unreachable-requires : goal.prove-unreachable-requires
prove-unreachable-requires g c =
    let same : c.run_fleet_files-outcome.new.out.items ≡ c.args.wrong.now = search rules in
    not_of_firsts _ _ _ _ _ _ _ _ _ _ c.requires.differ c.run_fleet_files-outcome.ensures.run (search rules)
    c.new-right.ensures.items same

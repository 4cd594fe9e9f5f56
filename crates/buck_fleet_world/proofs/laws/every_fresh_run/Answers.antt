use Rattle.buck_fleet_world.proofs.Words.{arith, refl, rules, newcomer, length-replicate, opening}
use Rattle.buck_fleet_world.proofs.Sound.{reached, opening_sound}
use Rattle.buck_fleet_world.proofs.Counting.{lifts_are_front, within_front, all_stale_within}
use Rattle.buck_fleet_world.proofs.laws.every_fresh_run.Goals as goal

pub returns-clause-lifts : goal.returns-clause-lifts
returns-clause-lifts c i n moves r fresh = omega (arith, lifts_are_front (opening i n) moves (opening_sound i n) r)

pub returns-clause-one_harvester : goal.returns-clause-one_harvester
returns-clause-one_harvester c i n moves r fresh h low high = search (rules, within_front, opening_sound)

pub returns-clause-others : goal.returns-clause-others
returns-clause-others c i n moves r fresh h low high =
    omega (
      arith,
      within_front (opening i n) moves h (opening_sound i n) refl r fresh low,
      lifts_are_front (opening i n) moves (opening_sound i n) r,
    )

pub returns-clause-all_stale : goal.returns-clause-all_stale
returns-clause-all_stale c i n moves r fresh =
    let most = all_stale_within (opening i n) moves (opening_sound i n) refl r fresh (reached i n moves r) in
    rw (length-replicate n newcomer) at most

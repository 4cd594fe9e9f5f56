use Rattle.buck_fleet_world.proofs.Words.{◌∷◌, ◌++◌, le_trans, rules, Read, opening}
use Rattle.buck_fleet_world.proofs.Sound.{opening_sound}
use Rattle.buck_fleet_world.proofs.Counting.{at_here}
use Rattle.buck_fleet_world.proofs.Rising.{moment, run_to}
use Rattle.buck_fleet_world.proofs.laws.every_read.Goals as goal

pub returns-clause-never_fall : goal.returns-clause-never_fall
returns-clause-never_fall c i n before between after h v v' x x' r =
    let m = moment (opening i n) before (between ++ (record { event = Read h v'; after = x' }) ∷ after)
    record { event = Read h v; after = x } (opening_sound i n) r in
    search (rules, moment, at_here, run_to)

pub returns-clause-after_replies : goal.returns-clause-after_replies
returns-clause-after_replies c i n before after h v k w x r there by_h =
    let m = moment (opening i n) before after record { event = Read h v; after = w } (opening_sound i n) r in
    search (rules, le_trans)

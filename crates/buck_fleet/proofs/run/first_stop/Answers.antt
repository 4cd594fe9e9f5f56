use Rattle.buck_fleet.proofs.Words.{rules, ap, sym, ◌≤◌, All, Contains}
use Rattle.buck_fleet.proofs.Stops.{key_of, stop_is}
use Rattle.buck_fleet.proofs.run.first_stop.Goals as goal

pub returns-clause-some : goal.returns-clause-some
returns-clause-some g c =
    let there : Contains c.args.seats.now c.in_ok-first.first.now = search rules in
    let least : All (λ s. key_of c.in_ok-first.first.now ≤ key_of s) c.args.seats.now = search rules in
    stop_is _ _ _ (ap (λ s. s.stopped) (sym c.first.view_is)) there least

use Rattle.std.proofs.Common.{ℕ, sym, subst}
use Rattle.buck_fleet.specs.Crew.{IsCrew}
use Rattle.example_fleet.proofs.day_of.Goals as goal

pub close-requires-clause-crew : goal.close-requires-clause-crew
close-requires-clause-crew g c =
    let opened : IsCrew c.in_ok-fleet.fleet.seats c.in_ok-fleet.seats.items =
    subst (λ (n : ℕ). IsCrew n c.in_ok-fleet.seats.items) (sym c.in_ok-fleet.ensures.number)
    c.in_ok-fleet.ensures.seats.crew in
    c.in-Ok-run_fleet.ensures.ok.same_crew _
    (c.in_ok-demand.ensures.same_crew (c.in-Ok.ensures.ok.same_crew _ opened))

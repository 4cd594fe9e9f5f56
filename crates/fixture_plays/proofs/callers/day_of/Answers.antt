use Rattle.std.proofs.Common.{ℕ, sym, subst}
use Rattle.buck_fleet.specs.Crew.{IsCrew}
use Rattle.fixture_plays.proofs.callers.day_of.Goals as goal

pub close_day-requires-clause-crew : goal.close_day-requires-clause-crew
close_day-requires-clause-crew g c =
    subst (λ (n : ℕ). IsCrew n c.in-Ok-run_fleet.seats.items) (sym c.in-Ok.ensures.number)
    (c.in-Ok-run_fleet.ensures.ok.same_crew _ c.in-Ok.ensures.seats.crew)

pub close_day-requires-in-Err-run_fleet-clause-crew : goal.close_day-requires-in-Err-run_fleet-clause-crew
close_day-requires-in-Err-run_fleet-clause-crew g c =
    subst (λ (n : ℕ). IsCrew n c.in-Err-run_fleet.seats.items) (sym c.in-Ok.ensures.number)
    (c.in-Err-run_fleet.ensures.stopped.same_crew _ c.in-Ok.ensures.seats.crew)

use Rattle.std.proofs.Common.{ℕ, sym, subst}
use Rattle.buck_fleet.specs.Crew.{IsCrew}
use Rattle.bench_calls.proofs.fleet.run_of.Goals as goal

pub close-requires-clause-crew : goal.close-requires-clause-crew
close-requires-clause-crew g c =
    subst (λ (n : ℕ). IsCrew n c.in-Ok-run_fleet.seats.items) (sym c.in-Ok.ensures.number)
    (c.in-Ok-run_fleet.ensures.ok.same_crew _ c.in-Ok.ensures.seats.crew)

use Rattle.std.proofs.Common.{ℕ, sym, subst}
use Rattle.buck_fleet.specs.Crew.{IsCrew}
use Rattle.fixture_plays.proofs.play.played_of.Goals as goal

pub close-requires-clause-crew : goal.close-requires-clause-crew
close-requires-clause-crew g c =
    subst (λ (n : ℕ). IsCrew n c.seats_played-seats.result.items) (sym c.in-Ok.ensures.number)
    (c.seats_played-seats.ensures.same_crew _ c.in-Ok.ensures.seats.crew)

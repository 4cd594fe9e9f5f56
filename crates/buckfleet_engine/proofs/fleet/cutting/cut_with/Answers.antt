use Rattle.std.proofs.Common.{ℕ, sym, subst}
use Rattle.std.proofs.lemmas.Result.{IfOk-weaker}
use Rattle.buck_fleet.specs.Crew.{IsCrew}
use Rattle.buckfleet_engine.proofs.Harvested.{has_cut_lists}
use Rattle.buckfleet_engine.proofs.fleet.cutting.cut_with.Goals as goal

pub close-requires-clause-crew : goal.close-requires-clause-crew
close-requires-clause-crew g c =
    subst (λ (n : ℕ). IsCrew n c.in-Ok-run_fleet.seats.items) (sym c.in-Ok.ensures.number)
    (c.in-Ok-run_fleet.ensures.ok.same_crew _ c.in-Ok.ensures.seats.crew)

pub returns-in-Ok-run_fleet-clause-ok : goal.returns-in-Ok-run_fleet-clause-ok
returns-in-Ok-run_fleet-clause-ok g c =
    IfOk-weaker _ _ _
    (λ closed one. has_cut_lists _ _ _ _ _ _ closed c.in-Ok.ensures.instruction c.in-Ok.ensures.number
    c.requires.lists.0 c.in-Ok.ensures.seats c.in-Ok-run_fleet.ensures.ok c.in-Ok-run_fleet.ensures.whole one)
    c.close.ensures.ok

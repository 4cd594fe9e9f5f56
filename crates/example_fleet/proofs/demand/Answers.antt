use Rattle.example_fleet.proofs.Seats.{crew_still}
use Rattle.example_fleet.proofs.demand.Goals as goal

pub returns-clause-same_crew : goal.returns-clause-same_crew
returns-clause-same_crew g c = λ crew.
    crew_still c.args.seats.now.items 0 c.index_mut.result.now c.retarget.new.seat c.requires.some c.index_mut.ensures.value
    _ c.in_ok-retarget.ensures.reply.kept.same_harvester crew

use Rattle.buck_fleet.proofs.Crews.{crew_same, parts_same}
use Rattle.fixture_plays.proofs.play.play_all.Goals as goal

pub returns-clause-same_crew : goal.returns-clause-same_crew
returns-clause-same_crew g c =
    λ n crew. crew_same n _ _ c.play_each.ensures.number (λ i d lt. (c.play_each.ensures.each i d lt).0) crew

pub returns-clause-same_parts : goal.returns-clause-same_parts
returns-clause-same_parts g c =
    parts_same _ _ c.play_each.ensures.number (λ i d lt. (c.play_each.ensures.each i d lt).1)

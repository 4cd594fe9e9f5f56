use Rattle.buck_fleet.proofs.desk.Desk.commit_locked.Goals as goal

pub prepare_in_force-requires-clause-answers : goal.prepare_in_force-requires-clause-answers
prepare_in_force-requires-clause-answers g c = c.requires.answers _

use Rattle.buck_fleet.proofs.desk.Desk.commit.Goals as goal

pub prepare-requires : goal.prepare-requires
prepare-requires g c = record { answers = c.requires.answers _ }

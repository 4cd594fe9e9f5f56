use Rattle.fixture_plays.proofs.play.played.Given as goal

abbrev pub ghosts-played_of : goal.ghosts-played_of
ghosts-played_of g a = record { name = a.blank.name; parts = a.blank.parts }

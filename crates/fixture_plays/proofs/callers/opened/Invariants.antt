use Rattle.fixture_plays.proofs.callers.opened.Given as goal

abbrev pub ghosts-seats_of : goal.ghosts-seats_of
ghosts-seats_of g a = record { name = a.blank.name; parts = a.blank.parts }

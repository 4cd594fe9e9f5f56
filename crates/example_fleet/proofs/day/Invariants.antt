use Rattle.example_fleet.proofs.day.Given as goal

abbrev pub ghosts-day_of : goal.ghosts-day_of
ghosts-day_of g a = record { name = a.blank.name; parts = a.blank.parts }

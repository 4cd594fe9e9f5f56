use Rattle.buckfleet_engine.proofs.fleet.cutting.cut_lists.Given as goal

abbrev pub ghosts-cut_with : goal.ghosts-cut_with
ghosts-cut_with g a = record { name = a.blank.name; parts = a.blank.parts }

use Rattle.std.proofs.lemmas.List.{take_rest}
use Rattle.buck_stem.proofs.PassLemmas.{even_places}
use Rattle.buck_stem.proofs.rules.grades_within.Goals as goal

pub returns-else-is_empty : goal.returns-else-is_empty
returns-else-is_empty c = rw (even_places c.args.zones.now) (rw take_rest at c.starts_within.ensures)

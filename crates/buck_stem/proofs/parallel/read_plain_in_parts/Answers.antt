use Rattle.buck_stem.proofs.parallel.read_plain_in_parts.Goals as goal

pub returns : goal.returns
returns g c = c.in_ok-body.ensures c.in_ok-stems_in_parts.field-0.items c.in_ok-stems_in_parts.ensures

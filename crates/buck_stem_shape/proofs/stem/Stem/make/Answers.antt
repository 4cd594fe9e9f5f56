use Rattle.std.proofs.Common.{rules}
use Rattle.buck_stem_shape.proofs.stem.Stem.make.Goals as goal

pub returns-then-not-is_stem-clause-limits : goal.returns-then-not-is_stem-clause-limits
returns-then-not-is_stem-clause-limits c = let fits = c.is_stem.ensures c.args.number in search (rules, fits)

pub of_parts-requires : goal.of_parts-requires
of_parts-requires c = let fits = c.is_stem.ensures c.args.number in search (rules, fits)

pub returns-in-Err-clause-limits : goal.returns-in-Err-clause-limits
returns-in-Err-clause-limits c = let fits = c.is_stem.ensures c.args.number in search (rules, fits)

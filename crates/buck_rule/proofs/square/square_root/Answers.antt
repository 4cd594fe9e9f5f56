use Rattle.std.proofs.Common.{◌*◌, arith}
use Rattle.buck_rule.proofs.Roots.{is_isqrt}
use Rattle.buck_rule.proofs.square.square_root.Goals as goal

pub returns-then-square-eq0-clause-exact : goal.returns-then-square-eq0-clause-exact
returns-then-square-eq0-clause-exact c = grind (arith, is_isqrt (c.args.share * c.args.targets) 0)

use Rattle.std.proofs.Common.{rules}
use Rattle.buck_c_session.proofs.Ruled.{cut_by}
use Rattle.buck_c_session.proofs.kept.KeptBook.cut.Goals as goal

pub returns-clause-cut : goal.returns-clause-cut
returns-clause-cut c =
    cut_by _ _ c.args.self.now.rule c.args.harvester _ _ _ _ _ _ (search rules) (search rules) (search rules)
    c.cut-entry.ensures.cut

use Rattle.std.proofs.Common.{rules}
use Rattle.buck_c_session.proofs.Ruled.{retargeted_by}
use Rattle.buck_c_session.proofs.kept.KeptBook.retarget.Goals as goal

pub returns-clause-retargeted : goal.returns-clause-retargeted
returns-clause-retargeted c =
    retargeted_by _ _ c.args.self.now.rule c.args.harvester _ _ _ _ _ _ (search rules) (search rules) (search rules)
    c.retarget-demand.ensures.retargeted

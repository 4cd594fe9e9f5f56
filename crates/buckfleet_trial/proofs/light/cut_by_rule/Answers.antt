use Rattle.buckfleet_trial.proofs.Lights.{cut_is}
use Rattle.buckfleet_trial.proofs.light.cut_by_rule.Goals as goal

pub returns-in-Ok-clause-cut : goal.returns-in-Ok-clause-cut
returns-in-Ok-clause-cut g c =
    let cut = c.in-Ok.ensures in
    cut_is g.F.Fn c.args.rule c.args.named c.args.lists.now _ _ c.into_parts.ensures.history c.into_parts.ensures.kept
    cut.cut c.requires.gives cut.given

use Rattle.std.proofs.Common.{rules, ◌≡◌}
use Rattle.wrong_engine.proofs.Ruled.{another_rule}
use Rattle.wrong_engine.proofs.requests.requests_by_another_rule.Goals as goal

pub prove-unreachable-requires : goal.prove-unreachable-requires
prove-unreachable-requires g c =
    let same : c.in-Ok-journal.right.items ≡ c.args.wrong.now = search rules in
    another_rule g.F.Fn c.in-Ok.live c.run.new.self c.args.rule c.args.instruction.value _ _
    c.in-Ok.ensures.rule c.in-Ok.ensures.history c.run.ensures.rule c.run.ensures.given
    c.in-Ok-journal.ensures c.requires.differ same

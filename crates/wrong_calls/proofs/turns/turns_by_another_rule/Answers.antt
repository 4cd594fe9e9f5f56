use Rattle.std.proofs.Common.{rules, ◌≡◌, ◌+◌, take}
use Rattle.wrong_calls.proofs.Turned.{another_rule}
use Rattle.wrong_calls.proofs.turns.turns_by_another_rule.Goals as goal

pub prove-unreachable-requires : goal.prove-unreachable-requires
prove-unreachable-requires c =
    let ran = c.buckfleet_in_turn-status in
    let right = c.in-Some-get.right.now in
    let texts = c.buckfleet_in_turn-status.new.texts in
    let both : c.in-Some.long ≡ texts.journal + texts.report =
    search rules in
    let taken : right ≡ take c.in-Some.long c.buckfleet_in_turn-status.new.out = search rules in
    let same : right ≡ c.args.wrong.now = search rules in
    another_rule _ _ _ _ right c.args.wrong.now texts _ c.in-Some.long ran.ensures
    c.if-status-eq0.true both taken c.requires.other same

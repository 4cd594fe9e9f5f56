use Rattle.std.proofs.Common.{rules, ◌≡◌, take}
use Rattle.wrong_calls.proofs.Harvests.{tune_read}
use Rattle.wrong_calls.proofs.trials.tune_puts_no_instruction.Goals as goal

pub prove-unreachable-requires : goal.prove-unreachable-requires
prove-unreachable-requires c =
    let right = c.in-Some.right.now in
    let taken : right ≡ take c.buckfleet_tune.new.written c.buckfleet_tune.new.out = search rules in
    let same : right ≡ c.args.wrong.now = search rules in
    tune_read c.args.run.now c.args.files.now.lengths.now c.args.files.now.bytes.now _ _ right c.args.wrong.now _ _ c.buckfleet_tune.ensures
    c.if-buckfleet_tune-eq0.true taken c.requires same

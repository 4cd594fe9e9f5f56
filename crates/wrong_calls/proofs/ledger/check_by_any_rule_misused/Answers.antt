use Rattle.std.proofs.Common.{refl}
use Rattle.wrong_calls.proofs.Ledgers.{never_misused_check}
use Rattle.wrong_calls.proofs.ledger.check_by_any_rule_misused.Goals as goal

pub prove-unreachable-requires : goal.prove-unreachable-requires
prove-unreachable-requires c =
    never_misused_check (record { numbers = record { period = 4294967295; limit = 4294967295 }; rule = 255 })
    c.args.lengths.now c.args.files.now _ _ _ _ refl refl c.requires c.buckfleet_check_with-right.ensures
    c.if-prove.true

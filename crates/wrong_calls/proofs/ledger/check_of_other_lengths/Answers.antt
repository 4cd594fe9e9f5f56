use Rattle.wrong_calls.proofs.Ledgers.{other_lengths_checked}
use Rattle.wrong_calls.proofs.ledger.check_of_other_lengths.Goals as goal

pub prove-unreachable-requires : goal.prove-unreachable-requires
prove-unreachable-requires c =
    other_lengths_checked c.args.run.now c.args.lengths.now c.args.files.now _ _ _ _ c.requires
    c.buckfleet_check_with-right.ensures c.if-prove.true

use Rattle.wrong_calls.proofs.Ledgers.{never_unlawful}
use Rattle.wrong_calls.proofs.ledger.check_tells_the_journal_first.Goals as goal

pub prove-unreachable-requires : goal.prove-unreachable-requires
prove-unreachable-requires c =
    never_unlawful c.args.run.now c.args.lengths.now c.args.files.now _ _ _ _ c.requires
    c.buckfleet_check_with-right.ensures c.if-prove.true

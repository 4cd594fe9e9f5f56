use Rattle.buckfleet_engine_text.proofs.Reports.{posting_more}
use Rattle.buckfleet_engine_text.proofs.report.put_postings.Goals as goal

pub loop-at-preserved : goal.loop-at-preserved
loop-at-preserved c =
    posting_more _ _ _ _ _ _ c.loop-at-test.true c.index-postings-at.is c.loop-at.invariant c.in_ok-put_posting.ensures

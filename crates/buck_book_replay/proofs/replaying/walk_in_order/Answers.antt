use Rattle.buck_book_replay.proofs.Words.{◌≡◌, walk_of, IsOrdered}
use Rattle.buck_book_replay.proofs.Replays.{walk_on, stopped_on, ended_on, ok_then}
use Rattle.buck_book_replay.proofs.replaying.walk_in_order.Goals as goal

pub returns-in_default-clause-ordered : goal.returns-in_default-clause-ordered
returns-in_default-clause-ordered c =
    let inv = c.loop-posting.invariant in
    ended_on c.args.case.now c.loop-posting.walk inv.same inv.right c.check_end-outcome.result c.next.ensures.within
    c.in_default.ensures.next c.check_end-outcome.ensures.right c.check_end-outcome.ensures.refused

pub loop-posting-preserved : goal.loop-posting-preserved
loop-posting-preserved c =
    let inv = c.loop-posting.invariant in
    let p = walk_on c.args.case.now c.loop-posting.walk inv.same c.in_ok-walk-in-Ok.walk c.in-Some.posting.now
    c.in-Ok.sheet.value c.in-Some.ensures.next inv.right c.in-Ok.ensures.right c.in_ok-walk-in-Ok.ensures
    c.in-Ok.ensures.sheet in
    record { same = p.0; right = p.1; none = tt; kept = p.2 }

pub returns-in-Err-clause-walk : goal.returns-in-Err-clause-walk
returns-in-Err-clause-walk c =
    ok_then _ (λ stop. stop.walk ≡ walk_of c.args.case.now.instruction c.args.case.now.postings stop.walk.at)
    c.stopped.result c.stopped.ensures (λ stop p. rw p.0 c.loop-posting.invariant.same)

pub returns-in-Err-clause-ordered : goal.returns-in-Err-clause-ordered
returns-in-Err-clause-ordered c =
    let inv = c.loop-posting.invariant in
    ok_then _ (λ stop. IsOrdered c.args.case.now stop.walk.at stop.outcome) c.stopped.result c.stopped.ensures
    (λ stop p. rw (p.0, p.1)
    (stopped_on c.args.case.now c.loop-posting.walk inv.same inv.right c.in-Some.posting.now c.in-Err.fault
    c.in-Some.ensures.next c.in-Err.ensures.refused p.2))

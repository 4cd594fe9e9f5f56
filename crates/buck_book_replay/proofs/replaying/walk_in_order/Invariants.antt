use Rattle.buck_book_replay.proofs.Words.{◌≡◌, ◌-◌, length, IfNone, IfSome, walk_of, Begins, along, sheet_then, IsInOrderBefore}
use Rattle.buck_book_replay.proofs.replaying.walk_in_order.Given as goal

abbrev pub invariant-loop-posting : goal.invariant-loop-posting
invariant-loop-posting l = record {
  same : l.walk ≡ walk_of l.case.instruction l.case.postings l.walk.at;
  right : IsInOrderBefore (along l.walk l.case.sheets) l.walk.at;
  none : IfNone l.kept (Begins (along l.walk l.case.sheets) l.walk.at);
  kept : IfSome l.kept (λ s. (Begins (along l.walk l.case.sheets) l.walk.at → ⊥)
      → s.value ≡ sheet_then (along l.walk l.case.sheets) l.walk.at);
}

abbrev pub decreases-loop-posting : goal.decreases-loop-posting
decreases-loop-posting l = length l.case.postings - l.walk.at

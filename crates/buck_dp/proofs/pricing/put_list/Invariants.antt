use Rattle.buck_dp.proofs.Words.{IsLeader, IsPruned}
use Rattle.buck_dp.proofs.pricing.put_list.Given as goal

abbrev pub invariant-loop-term : goal.invariant-loop-term
invariant-loop-term l = record {
  pruned : IsPruned l.key l.prices l.terms l.term-index l.candidates.items;
  cubic : IsLeader l.key l.candidates.items l.cubic;
  piece : IsLeader l.key l.candidates.items l.piece;
}

use Rattle.buckfleet_live.proofs.Words.{◌≡◌, vec_capacity, StaysByRule, GoesOn}
use Rattle.buckfleet_live.proofs.live.answer_all.Given as goal

abbrev pub invariant-requests : goal.invariant-requests
invariant-requests g l = record {
  rule : l.cutter.rule ≡ l.fn.cutter.rule;
  capacity : l.cutter.capacity ≡ l.fn.cutter.capacity;
  room : vec_capacity l.line ≡ vec_capacity l.fn.line;
  given : StaysByRule g.F.Fn l.fn.cutter l.cutter;
  on : GoesOn l.fn.cutter.history l.cutter.history (g.R.Read.remaining l.fn.input) (g.R.Read.remaining l.input)
      (g.W.Write.contents l.fn.out) (g.W.Write.contents l.out);
}

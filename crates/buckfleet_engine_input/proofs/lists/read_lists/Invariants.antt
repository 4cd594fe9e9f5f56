use Rattle.std.proofs.Common.{◌≡◌, length, map, drop}
use Rattle.buckfleet_engine_input.specs.Harvest.{AreListsOf}
use Rattle.buckfleet_engine_input.proofs.lists.read_lists.Given as goal

abbrev pub invariant-loop-k : goal.invariant-loop-k
invariant-loop-k g l = record {
  number : length l.lists.items ≡ l.k;
  same_number : length l.stms ≡ length l.initial.stms;
  rest : drop l.k l.stms ≡ drop l.k l.initial.stms;
  made : AreListsOf l.k (map g.R.Read.remaining l.initial.stms) l.lists.items;
}

use Rattle.std.proofs.Common.{◌≡◌, length, map, drop}
use Rattle.buckfleet_engine_cross_check.specs.inner.Tie.{AreStemsOf, stems_in_lists}
use Rattle.buckfleet_engine_cross_check.proofs.lists.read_files.Given as goal

abbrev pub invariant-loop-k : goal.invariant-loop-k
invariant-loop-k g l = record {
  number : length l.files.items ≡ l.k;
  same_number : length l.stms ≡ length l.initial.stms;
  rest : drop l.k l.stms ≡ drop l.k l.initial.stms;
  made : AreStemsOf l.k (map g.R.Read.remaining l.initial.stms) (stems_in_lists l.files.items);
}

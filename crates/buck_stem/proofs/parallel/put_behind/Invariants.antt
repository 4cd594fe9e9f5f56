use Rattle.std.proofs.Common.{◌≡◌, ◌++◌, length}
use Rattle.std.specs.Vec.Iter.{into_iter_items, into_iter_len}
use Rattle.buck_stem.proofs.parallel.put_behind.Given as goal

abbrev pub invariant-loop-stem : goal.invariant-loop-stem
invariant-loop-stem l = record {
  all : l.yielded ++ into_iter_items l.stem-iterator ≡ l.fn.more.items;
  counted : into_iter_len l.stem-iterator ≡ length (into_iter_items l.stem-iterator);
  put : l.stems.items ≡ l.fn.stems.items ++ l.yielded;
}

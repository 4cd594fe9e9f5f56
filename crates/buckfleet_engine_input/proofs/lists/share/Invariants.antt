use Rattle.std.proofs.Common.{◌≡◌, ◌++◌}
use Rattle.std.specs.Vec.Iter.{into_iter_items}
use Rattle.buck_book_postings.specs.Replies.{stems_of}
use Rattle.buckfleet_engine_input.proofs.lists.share.Given as goal

abbrev pub invariant-loop-stem : goal.invariant-loop-stem
invariant-loop-stem l = record {
  all : l.yielded ++ into_iter_items l.stem-iterator ≡ l.fn.stems.items;
  made : stems_of l.list.items ≡ l.yielded;
}

use Rattle.std.proofs.Common.{◌≡◌, ◌≤◌, ◌++◌, length, map}
use Rattle.std.specs.Vec.{vec_capacity}
use Rattle.std.specs.Vec.Iter.{into_iter_items, into_iter_len}
use Rattle.buck_apt_instruction.specs.Draft.{assortment_of}
use Rattle.buck_apt_instruction.proofs.instruction.assortments_of.Given as goal

abbrev pub invariant-loop-draft : goal.invariant-loop-draft
invariant-loop-draft l = record {
  all : l.yielded ++ into_iter_items l.draft-iterator ≡ l.fn.drafts.items;
  counted : into_iter_len l.draft-iterator ≡ length (into_iter_items l.draft-iterator);
  room : length l.fn.drafts.items ≤ vec_capacity l.made;
  made : l.made.items ≡ map assortment_of l.yielded;
}

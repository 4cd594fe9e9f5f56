use Rattle.std.proofs.Common.{◌≡◌, ◌≤◌, ◌++◌, drop, length}
use Rattle.std.specs.Vec.{vec_capacity}
use Rattle.std.specs.List.{AllByRecursion}
use Rattle.buck_apt_instruction.specs.Changed.{each_with}
use Rattle.buck_apt_instruction.specs.Instruction.{IsAssortment}
use Rattle.buck_apt_instruction.specs.inner.Change.{changed}
use Rattle.buck_apt_instruction.proofs.instruction.each_changed.Given as goal

abbrev pub invariant-loop-assortment : goal.invariant-loop-assortment
invariant-loop-assortment l = record {
  made : l.made.items ++ each_with (changed l.change) l.rest (drop l.assortment-index l.assortments)
      ≡ each_with (changed l.change) l.fn.numbers l.assortments;
  number : length l.made.items ≡ l.assortment-index;
  room : length l.assortments ≤ vec_capacity l.made;
  valid : AllByRecursion IsAssortment (each_with (changed l.change) l.rest (drop l.assortment-index l.assortments));
}

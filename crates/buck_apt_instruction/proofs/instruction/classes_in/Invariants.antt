use Rattle.std.proofs.Common.{take, ◌≡◌, ◌≤◌, ◌*◌, sum_by}
use Rattle.buck_apt_instruction.specs.Instruction.{classes_of}
use Rattle.buck_apt_instruction.proofs.instruction.classes_in.Given as goal

abbrev pub invariant-loop-assortment : goal.invariant-loop-assortment
invariant-loop-assortment l = record {
  sum : l.all ≡ sum_by classes_of (take l.assortment-index l.assortments);
  small : l.all ≤ 1024 * l.assortment-index;
}

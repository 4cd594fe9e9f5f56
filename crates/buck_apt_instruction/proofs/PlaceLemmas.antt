-- Places of classes.
use Rattle.std.proofs.Common.{◌+◌, ◌<◌, ◌≤◌, length, arith, mul_comm}
use Rattle.std.proofs.lemmas.Nat.{mul-add-lt}
use Rattle.std.proofs.lemmas.Option.{get_or_from_slice_get, slice_get_within}
use Rattle.std.proofs.lemmas.List.Sums.{sum_by_more_le}
use Rattle.buck_apt_instruction.specs.Instruction.{InstructionParts, IsClass, classes, classes_before, classes_of, index_of}
use Rattle.buck_apt_instruction.specs.declared.class.Class.{Class}

-- the place of a class is below the number of classes
pub index_within : (i : InstructionParts) (c : Class) → IsClass i c → index_of i c < classes i
index_within i c h =
    let a = h.assortment in
    let inner = mul-add-lt c.row (length a.lengths) c.column (length a.diameters) h.row h.column in
    let turned = mul_comm (length a.lengths) (length a.diameters) in
    let within = slice_get_within i.assortments c.assortment a h.exists in
    let more = sum_by_more_le classes_of i.assortments c.assortment a within in
    let whole : classes_before i c.assortment + classes_of a ≤ classes i =
    rw (get_or_from_slice_get i.assortments c.assortment a a h.exists) at more in
    rw h.exists (omega arith)

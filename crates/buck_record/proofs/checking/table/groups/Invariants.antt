use Rattle.std.proofs.Common.{◌≡◌, ◌++◌, drop}
use Rattle.buck_record.specs.checking.Table.{groups_of}
use Rattle.buck_record.proofs.checking.table.groups.Given as goal

abbrev pub invariant-loop-i : goal.invariant-loop-i
invariant-loop-i l = l.groups.items ++ groups_of l.slot (drop l.i l.items) ≡ groups_of l.slot l.items

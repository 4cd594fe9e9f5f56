use Rattle.std.proofs.Common.{◌≤◌, length}
use Rattle.buck_record.proofs.pass.parts.cut_before.Given as goal

abbrev pub invariant-loop : goal.invariant-loop
invariant-loop l = l.from ≤ length l.fn.text

use Rattle.std.proofs.Common.{◌≡◌, ◌++◌, drop}
use Rattle.buck_record.specs.writing.Written.{spaced, row_start}
use Rattle.buck_apt.proofs.text.put_rows.Given as goal

abbrev pub invariant-loop-i : goal.invariant-loop-i
invariant-loop-i l =
    l.out.items ++ spaced (row_start l.columns) l.i (drop l.i l.numbers)
    ≡ l.initial.out.items ++ spaced (row_start l.columns) 0 l.numbers

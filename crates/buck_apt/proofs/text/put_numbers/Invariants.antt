use Rattle.std.proofs.Common.{◌≡◌, ◌++◌, drop}
use Rattle.buck_record.specs.writing.Written.{spaced, blank}
use Rattle.buck_apt.proofs.text.put_numbers.Given as goal

abbrev pub invariant-loop-number : goal.invariant-loop-number
invariant-loop-number l =
    l.out.items ++ spaced blank l.number-index (drop l.number-index l.numbers) ≡ l.initial.out.items ++ spaced blank 0 l.numbers

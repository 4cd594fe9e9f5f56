use Rattle.buck_book_reader.proofs.Words.{◌≡◌, take}
use Rattle.buck_book_reader.proofs.parts.samples_of.Given as goal

abbrev pub invariant-loop-number : goal.invariant-loop-number
invariant-loop-number l = l.samples.items ≡ take l.number-index l.numbers

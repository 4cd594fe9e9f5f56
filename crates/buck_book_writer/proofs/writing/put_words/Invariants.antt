use Rattle.buck_book_writer.proofs.Words.{◌≡◌, ◌++◌, length, take, spelled}
use Rattle.buck_book_writer.proofs.writing.put_words.Given as goal

abbrev pub invariant-loop-rest : goal.invariant-loop-rest
invariant-loop-rest l = l.out.items ++ spelled l.rest ≡ l.initial.out.items ++ spelled l.numbers

abbrev pub decreases-loop-rest : goal.decreases-loop-rest
decreases-loop-rest l = length l.rest

abbrev pub invariant-loop-number : goal.invariant-loop-number
invariant-loop-number l = l.out.items ≡ l.initial.out.items ++ spelled (take l.number-index l.number-items)

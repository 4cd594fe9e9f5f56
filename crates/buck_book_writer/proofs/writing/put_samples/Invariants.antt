use Rattle.buck_book_writer.proofs.Words.{◌≡◌, ◌++◌, length, take, spelled}
use Rattle.buck_book_writer.proofs.writing.put_samples.Given as goal

abbrev pub invariant-loop-rest : goal.invariant-loop-rest
invariant-loop-rest l = l.out.items ++ spelled l.rest ≡ l.initial.out.items ++ spelled l.samples

abbrev pub decreases-loop-rest : goal.decreases-loop-rest
decreases-loop-rest l = length l.rest

abbrev pub invariant-loop-sample : goal.invariant-loop-sample
invariant-loop-sample l = l.out.items ≡ l.initial.out.items ++ spelled (take l.sample-index l.sample-items)

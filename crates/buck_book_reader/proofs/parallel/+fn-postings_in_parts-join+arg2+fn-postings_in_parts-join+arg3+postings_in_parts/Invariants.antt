use Rattle.buck_book_reader.proofs.Words.{◌+◌, ◌-◌, ◌*◌, ◌/◌}
use Rattle.buck_book_reader.proofs.parallel.+fn-postings_in_parts-join+arg2+fn-postings_in_parts-join+arg3+postings_in_parts.Given as goal

abbrev pub decreases-join+arg2 : goal.decreases-join+arg2
decreases-join+arg2 g l = 2 * (l.threads / 2) + 1

abbrev pub decreases-join+arg3 : goal.decreases-join+arg3
decreases-join+arg3 g l = 2 * (l.threads - l.threads / 2) + 1

abbrev pub decreases-postings_in_parts : goal.decreases-postings_in_parts
decreases-postings_in_parts g l = 2 * l.threads

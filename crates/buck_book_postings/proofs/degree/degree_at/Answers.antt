use Rattle.buck_book_postings.proofs.Words.{arith, mul-le-mul}
use Rattle.buck_book_postings.proofs.Degrees.{shared_low, degree_low}
use Rattle.buck_book_postings.proofs.degree.degree_at.Goals as goal

pub overflow_mul-result : goal.overflow_mul-result
overflow_mul-result c = grind (arith, shared_low, mul-le-mul)

pub overflow_cast-result : goal.overflow_cast-result
overflow_cast-result c = grind (arith, degree_low)

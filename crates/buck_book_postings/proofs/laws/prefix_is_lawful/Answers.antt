use Rattle.buck_book_postings.proofs.Extend.{prefix}
use Rattle.buck_book_postings.proofs.laws.prefix_is_lawful.Goals as goal

pub returns : goal.returns
returns c = prefix

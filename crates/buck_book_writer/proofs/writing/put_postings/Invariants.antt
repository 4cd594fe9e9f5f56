use Rattle.buck_book_writer.proofs.Words.{◌≡◌, ◌++◌, take, flat_map, posting_text}
use Rattle.buck_book_writer.proofs.writing.put_postings.Given as goal

abbrev pub invariant-loop-posting : goal.invariant-loop-posting
invariant-loop-posting l = l.out.items ≡ l.initial.out.items ++ flat_map posting_text (take l.posting-index l.postings)

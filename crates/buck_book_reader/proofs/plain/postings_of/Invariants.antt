use Rattle.buck_book_reader.proofs.Words.{LeadsPostings}
use Rattle.buck_book_reader.proofs.plain.postings_of.Given as goal

-- the postings so far lead to what is left
abbrev pub invariant-loop : goal.invariant-loop
invariant-loop l = LeadsPostings l.fn.text l.postings.items l.rest

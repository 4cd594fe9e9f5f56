use Rattle.std.proofs.Common.{◌≡◌, ◌*◌, ◌≤◌, length, take}
use Rattle.buck_book_postings.specs.declared.posting.TheConstants.{MOST_POSTINGS}
use Rattle.buck_book_journal.specs.Several.{postings_of}
use Rattle.buckfleet_engine_files.proofs.several.are_few.Given as goal

abbrev pub invariant-loop-journal : goal.invariant-loop-journal
invariant-loop-journal l = record {
  all : l.number ≡ length (postings_of (take l.journal-index l.journals));
  few : l.number ≤ l.journal-index * MOST_POSTINGS;
}

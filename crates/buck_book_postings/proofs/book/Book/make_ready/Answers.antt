use Rattle.buck_book_postings.proofs.Words.{rules, Cut, entry_of}
use Rattle.buck_book_postings.proofs.Books.{ready_to_add}
use Rattle.buck_book_postings.proofs.book.Book.make_ready.Goals as goal

pub returns-clause-ready : goal.returns-clause-ready
returns-clause-ready g c =
    let room = c.in_ok-reserve.ensures in
    record {
      to_add = ready_to_add _ _ (λ h harvester. Cut (entry_of h harvester c.args.plan.now)) _ c.reserve.ensures.content
          (search rules) c.in_ok-next.ensures.next room.posting room.sheet;
      sheet_in_force = search rules;
      same_stem = search rules;
      same_logs = search rules;
    }

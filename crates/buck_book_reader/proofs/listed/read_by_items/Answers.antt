use Rattle.buck_book_reader.proofs.Words.{rules, refl, err_from_is_err_and, Head, journal_of}
use Rattle.buck_book_journal.specs.declared.journal_fault.JournalFault.TheVariants.{Memory}
use Rattle.buck_book_reader.proofs.listed.read_by_items.Goals as goal

pub returns-in_err-items : goal.returns-in_err-items
unfolding journal_of
returns-in_err-items c =
    let read = c.in_err-items.ensures Memory Head (λ a e made. search rules) (λ k e made. search rules) in
    let p = err_from_is_err_and c.from_residual.result c.from_residual.ensures.1 in
    rw (p.1, p.2) (record { value = λ ne. rw (read ne) refl; few = tt })

pub returns : goal.returns
unfolding journal_of
returns c =
    let read = c.in_ok-items.ensures Memory Head (λ a e made. search rules) (λ k e made. search rules) in
    rw read (search rules)

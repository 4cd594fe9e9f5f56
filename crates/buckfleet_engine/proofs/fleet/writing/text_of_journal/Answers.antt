use Rattle.std.proofs.Common.{◌≡◌, ℕ, List, IfOk, subst}
use Rattle.buck_book_postings.specs.declared.posting.Posting.{Posting}
use Rattle.buck_book_postings.proofs.Handed.{prices_are}
use Rattle.buck_book_journal.specs.Written.{journal_text}
use Rattle.buckfleet_engine.proofs.fleet.writing.text_of_journal.Goals as goal

pub returns : goal.returns
returns c =
    let h = c.args.history.now in
    subst (λ (ps : List Posting). IfOk c.journal_text.result (λ text. text.items ≡ journal_text h.sheets ps))
    c.entries.ensures.postings
    (subst (λ (l : List (List ℕ)). IfOk c.journal_text.result
    (λ text. text.items ≡ journal_text l c.entries.result.now))
    (prices_are (λ a. a.value) c.sheets.result.now 0 h.instruction h.sheets c.sheets.ensures.sheets)
    c.journal_text.ensures)

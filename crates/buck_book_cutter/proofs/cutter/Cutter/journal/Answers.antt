use Rattle.std.proofs.Common.{sym}
use Rattle.buck_book_postings.proofs.Handed.{prices_are}
use Rattle.buck_book_cutter.proofs.cutter.Cutter.journal.Goals as goal

pub returns : goal.returns
returns g c =
    let h = c.self.inside.book.history in
    let sheets = prices_are (λ a. a.value) c.sheets.result.now 0 h.instruction h.sheets c.sheets.ensures.sheets in
    rw (sym c.self.view_is) (rw (c.entries.ensures.postings, sheets) at c.journal_text.ensures)

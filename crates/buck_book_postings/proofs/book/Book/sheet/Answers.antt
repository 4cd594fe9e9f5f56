use Rattle.buck_book_postings.proofs.Words.{sym, ◌∙◌, ap, arith, get_or-map, length-map}
use Rattle.buck_book_postings.proofs.Books.{in_sheets, force_is}
use Rattle.buck_book_postings.proofs.book.Book.sheet.Goals as goal

pub returns : goal.returns
returns g c =
    let k = c.self.invariant in
    let version = rw (sym c.self.view_is) at c.version.ensures.version in
    rw (sym c.self.view_is, ← force_is _ _ _ _ c.index.result.now.value k, ← version)
    (ap (λ a. a.value) c.index.ensures
    ∙ sym (get_or-map (λ a. a.value) c.self.inside.sheets.items c.version.result c.index.result.now _
    (grind (arith, in_sheets, length-map))))

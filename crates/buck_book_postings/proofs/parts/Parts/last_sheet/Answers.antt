use Rattle.buck_book_postings.proofs.Words.{◌-◌, map, get_or, sym, ◌∙◌, ap, arith, get_or-map, length-map}
use Rattle.buck_book_postings.specs.inner.Parts.{history_of}
use Rattle.buck_book_postings.proofs.Handed.{last_is}
use Rattle.buck_book_postings.proofs.parts.Parts.last_sheet.Goals as goal

pub returns : goal.returns
returns c =
    let items = c.self.inside.sheets.items in
    let read = c.index.result.now in
    let sheets = map (λ a. a.value) items in
    let h = history_of c.self.inside.instruction.value (map (λ a. a.value.prices) items) c.self.inside.entries.items in
    let last = last_is h sheets read.value c.self.invariant.lawful c.self.invariant.sheets_are in
    let long = length-map items (λ a. a.value) in
    rw (sym c.self.view_is)
    (ap (λ a. a.value) c.index.ensures
    ∙ sym (get_or-map (λ a. a.value) items (c.len.result - 1) read read.value
    (omega (arith, c.len.ensures, last.0, long)))
    ∙ ap (λ n. get_or sheets n read.value) (omega (arith, c.len.ensures, long))
    ∙ last.1)

use Rattle.std.proofs.Common.{◌≡◌, ◌+◌, ◌∙◌, ap, arith, length, rules, sym, take}
use Rattle.std.specs.Prelude.{sum_by}
use Rattle.std.proofs.lemmas.List.{take_all}
use Rattle.std.proofs.lemmas.List.Sums.{sum_by-take-le, sum_by_more}
use Rattle.buck_book_journal.specs.Journal.{JournalParts}
use Rattle.buck_page_figures.proofs.JournalLemmas.{number_is}
use Rattle.buck_page_figures.proofs.making.number_of.Goals as goal

pub overflow_add-number : goal.overflow_add-number
overflow_add-number c =
    let js = c.args.journals.now in
    let k = c.loop-journal.journal-index in
    let j = c.journal-item.result in
    let f = λ (x : JournalParts). length x.entries in
    let size : c.len-number.result ≡ length j.entries = search rules in
    let more : sum_by f (take (k + 1) js) ≡ sum_by f (take k js) + length j.entries =
    sum_by_more f js k j c.loop-journal-test.true
    ∙ ap (λ (x : JournalParts). sum_by f (take k js) + length x.entries) (sym c.journal-item.is) in
    omega (arith, size, more, c.loop-journal.invariant, number_is js, sum_by-take-le f js (k + 1), c.requires)

pub returns : goal.returns
returns c =
    let js = c.args.journals.now in
    c.loop-journal.invariant
    ∙ ap (sum_by (λ (x : JournalParts). length x.entries)) (take_all c.loop-journal.journal-index js (omega arith))
    ∙ sym (number_is js)

use Rattle.std.proofs.Common.{◌≡◌, List, length, ap, ◌∙◌, arith}
use Rattle.buck_book_journal.specs.Journal.{JournalParts}
use Rattle.buck_page_figures.specs.Journals.{postings_of}
use Rattle.buck_page_figures.specs.Points.{point_after}
use Rattle.wrong_page.proofs.Postings.{found_there}
use Rattle.wrong_page.proofs.curves.last_postings_after_the_last_point.Goals as goal

pub prove-unreachable-requires : goal.prove-unreachable-requires
prove-unreachable-requires c =
    let f = c.in-Ok.figures in
    let p = c.in-Some.point.now in
    let there =
    found_there f.points.items c.deref.result.now 199 p c.deref.ensures.value c.in-Some.ensures.lookup.0
    c.in-Some.ensures.lookup.1 in
    let is = c.in-Ok.ensures.figures.points.each 199 p there in
    let end : point_after (length (postings_of c.from_ref.result.now)) 200 ≡ 399 =
    ap (λ (js : List JournalParts). point_after (length (postings_of js)) 200) c.from_ref.ensures.value
    ∙ ap (λ n. point_after n 200) c.requires.many in
    omega (arith, is.after, end, c.if-prove.true)

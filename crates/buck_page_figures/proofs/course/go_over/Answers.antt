use Rattle.std.proofs.Common.{◌≡◌, ◌+◌, ◌∙◌, ap, sym, refl, arith, rules, length}
use Rattle.std.specs.Prelude.{slice_get}
use Rattle.buck_book_postings.specs.Walk.{walk_of}
use Rattle.buck_page_figures.specs.Journals.{entries_in}
use Rattle.buck_page_figures.proofs.CourseLemmas.{over_end, place_within, postings_there}
use Rattle.buck_page_figures.proofs.JournalLemmas.{entries_there, within_all}
use Rattle.buck_page_figures.proofs.course.go_over.Goals as goal

pub overflow_add-result-2 : goal.overflow_add-result-2
overflow_add-result-2 c =
    let h = c.requires.course in
    omega (
      arith,
      c.at.ensures.at,
      c.requires.few,
      place_within c.args.instruction.now c.args.journals.now _ h.unsteered c.args.course h.course,
    )

pub opening-requires : goal.opening-requires
opening-requires c =
    let js = c.args.journals.now in
    let k = c.args.course.journal + 1 in
    let j = c.index-journals-journal.result in
    let items : c.as_slice.result.now ≡ j.entries = search rules in
    let there : entries_in (slice_get js k) ≡ j.entries =
    entries_there js k j c.requires.more c.index-journals-journal.is in
    omega (
      arith,
      ap length items,
      ap length there,
      c.requires.few,
      within_all js k c.requires.more,
    )

pub returns-clause-over : goal.returns-clause-over
returns-clause-over c =
    let i = c.args.instruction.now in
    let js = c.args.journals.now in
    let k = c.args.course.journal + 1 in
    let j = c.index-journals-journal.result in
    let items : c.as_slice.result.now ≡ j.entries = search rules in
    let there : entries_in (slice_get js k) ≡ j.entries =
    entries_there js k j c.requires.more c.index-journals-journal.is in
    let end : c.args.course.walk.at ≡ length (entries_in (slice_get js c.args.course.journal)) =
    c.requires.end ∙ ap length (postings_there i js c.args.course c.requires.course) in
    over_end i js c.args.course
    (record {
      journal = c.args.course.journal + 1;
      before = c.args.course.before + c.at.result;
      walk = c.in_ok-opening.field-0;
      account = c.args.course.account;
      targets = c.in_ok-new.field-0;
    })
    c.requires.more end refl (ap (λ n. c.args.course.before + n) c.at.ensures.at)
    (c.in_ok-opening.ensures ∙ ap (λ ps. walk_of i ps 0) (items ∙ sym there)) refl
    (ap (λ v. v.items) c.in_ok-new.ensures.ok ∙ c.in_ok-targets.ensures.targets)
    (ap length (sym c.in_ok-targets.ensures.targets) ∙ c.in_ok-targets.ensures.number)

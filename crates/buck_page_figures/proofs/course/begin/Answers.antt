use Rattle.std.proofs.Common.{◌≡◌, ◌∙◌, [], length, ap, subst, sym, refl, rules}
use Rattle.std.specs.Prelude.{slice_get}
use Rattle.buck_apt_instruction.specs.Instruction.{InstructionParts}
use Rattle.buck_value.specs.Sheet.{SheetParts}
use Rattle.buck_book_postings.specs.Walk.{walk_of}
use Rattle.buck_page_figures.specs.Journals.{entries_in}
use Rattle.buck_page_figures.specs.inner.Account.{IsAccount}
use Rattle.buck_page_figures.proofs.CourseLemmas.{at_opening}
use Rattle.buck_page_figures.proofs.JournalLemmas.{entries_there}
use Rattle.buck_page_figures.proofs.course.begin.Goals as goal

pub returns : goal.returns
returns c =
    let i = c.args.instruction.now in
    let js = c.args.journals.now in
    let j = c.index-journals-0.result in
    let items : c.as_slice.result.now ≡ j.entries = search rules in
    let there : entries_in (slice_get js 0) ≡ j.entries =
    entries_there js 0 j c.requires.some c.index-journals-0.is in
    let shown : c.deref.result.now ≡ c.args.planner.now = search rules in
    let account : IsAccount i [] [] c.in_ok-no_account.field-0 =
    subst (λ (k : InstructionParts). IsAccount k [] [] c.in_ok-no_account.field-0)
    (ap (λ (s : SheetParts). s.instruction) shown ∙ c.requires.instruction) c.in_ok-no_account.ensures in
    at_opening i js
    (record {
      journal = 0;
      before = 0;
      walk = c.in_ok-opening.field-0;
      account = c.in_ok-no_account.field-0;
      targets = c.in_ok-new.field-0;
    })
    c.requires.some refl refl (c.in_ok-opening.ensures ∙ ap (λ ps. walk_of i ps 0) (items ∙ sym there)) account
    (ap (λ v. v.items) c.in_ok-new.ensures.ok ∙ c.in_ok-targets.ensures.targets)
    (ap length (sym c.in_ok-targets.ensures.targets) ∙ c.in_ok-targets.ensures.number)

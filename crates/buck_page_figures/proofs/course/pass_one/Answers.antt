use Rattle.std.proofs.Common.{◌≡◌, ◌+◌, ◌∙◌, ap, refl, sym, subst}
use Rattle.buck_apt_instruction.specs.Instruction.{InstructionParts}
use Rattle.buck_value.specs.Sheet.{SheetParts}
use Rattle.buck_book_postings.specs.Walk.{IsCountable, WalkParts, walk_of}
use Rattle.buck_page_figures.specs.inner.Account.{IsAccount, IsAccountWith}
use Rattle.buck_page_figures.specs.inner.Adding.{IsCuttable}
use Rattle.buck_page_figures.specs.declared.course.Course.{Course}
use Rattle.buck_page_figures.proofs.CourseLemmas.{before_one, further_over, next_among, next_there, not_none, one_further, place_is}
use Rattle.buck_page_figures.proofs.course.pass_one.Goals as goal

pub unreachable-requires : goal.unreachable-requires
unreachable-requires c =
    let h = c.requires.course in
    let from = c.args.course.before + c.args.course.walk.at in
    let d = c.in_ok-journal.field-0 in
    let course = c.in_ok-journal.ensures.over from h.unsteered h.course in
    not_none d.walk.postings d.walk.at
    (before_one c.args.instruction.now c.args.journals.now from h.unsteered d course c.requires.more
    c.in_ok-journal.ensures.next) (sym c.in_default.ensures.next)

pub account_posting-requires-clause-cuttable : goal.account_posting-requires-clause-cuttable
account_posting-requires-clause-cuttable c =
    let i = c.args.instruction.now in
    let js = c.args.journals.now in
    let h = c.requires.course in
    let from = c.args.course.before + c.args.course.walk.at in
    let x = c.in-Some.posting.now in
    let d = c.in_ok-journal.field-0 in
    let course = c.in_ok-journal.ensures.over from h.unsteered h.course in
    let there = next_there i js from h.unsteered x d course (sym c.in-Some.ensures.next) in
    subst (λ (s : SheetParts). IsCuttable s.instruction x) (sym c.requires.base)
    (c.requires.passable from x (next_among i js from h.unsteered x d course there)).0

pub pass-requires-clause-countable : goal.pass-requires-clause-countable
pass-requires-clause-countable c =
    let i = c.args.instruction.now in
    let js = c.args.journals.now in
    let h = c.requires.course in
    let from = c.args.course.before + c.args.course.walk.at in
    let x = c.in-Some.posting.now in
    let d = c.in_ok-journal.field-0 in
    let course = c.in_ok-journal.ensures.over from h.unsteered h.course in
    let there = next_there i js from h.unsteered x d course (sym c.in-Some.ensures.next) in
    subst (λ (k : InstructionParts). IsCountable k x) (sym (ap (λ (w : WalkParts). w.instruction) course.walk))
    (c.requires.passable from x (next_among i js from h.unsteered x d course there)).1

pub returns-clause-further : goal.returns-clause-further
returns-clause-further c =
    let i = c.args.instruction.now in
    let js = c.args.journals.now in
    let h = c.requires.course in
    let from = c.args.course.before + c.args.course.walk.at in
    let x = c.in-Some.posting.now in
    let d = c.in_ok-journal.field-0 in
    let course = c.in_ok-journal.ensures.over from h.unsteered h.course in
    let there = next_there i js from h.unsteered x d course (sym c.in-Some.ensures.next) in
    let place : from ≡ d.before + c.at.result =
    sym (place_is i js from h.unsteered d course) ∙ ap (λ n. d.before + n) (sym c.at.ensures.at) in
    let e : Course = record {
      journal = d.journal;
      before = d.before;
      walk = c.in_ok-walk.walk;
      account = c.account_posting.new.account;
      targets = c.in_ok-targets.targets;
    } in
    further_over i js from (from + 1) c.args.course d e c.in_ok-journal.ensures.over
    (one_further i js from x d e there refl refl
    (c.in_ok-walk.ensures
    ∙ ap (λ (w : WalkParts). walk_of w.instruction w.postings (d.walk.at + 1)) course.walk)
    (λ qs us number account.
    subst (λ (s : SheetParts). IsAccountWith s.instruction qs us x c.account_posting.new.account) c.requires.base
    (c.in_ok-account_posting.ensures.passed qs us (number ∙ place)
    (subst (λ (s : SheetParts). IsAccount s.instruction qs us d.account) (sym c.requires.base) account)))
    c.in_ok-targets.ensures
    (c.requires.passable from x (next_among i js from h.unsteered x d course there)).1)

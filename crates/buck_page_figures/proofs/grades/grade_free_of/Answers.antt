use Rattle.std.proofs.Common.{◌++◌, length, take, sym, ap, subst, ◌∙◌, arith}
use Rattle.buck_apt_instruction.specs.Grades.{grade_free}
use Rattle.buck_value.specs.Sheet.{SheetParts}
use Rattle.buck_page_figures.specs.Journals.{postings_of}
use Rattle.buck_page_figures.specs.inner.Grades.{ArePassed, HasRoom}
use Rattle.buck_page_figures.proofs.GradeLemmas.{passed_none, postings_next}
use Rattle.buck_page_figures.proofs.JournalLemmas.{entries_there, within_all}
use Rattle.buck_page_figures.proofs.grades.grade_free_of.Goals as goal

pub loop-journal-init : goal.loop-journal-init
loop-journal-init c = record {
  base = c.in_ok-planner.ensures;
  passed = passed_none (grade_free c.args.figures.now.instruction.now) c.none-free.result c.none-free.ensures.total
      c.none-free.ensures.harvesters;
}

pub add_journal-requires-clause-room : goal.add_journal-requires-clause-room
add_journal-requires-clause-room c =
    let f = c.args.figures.now in
    let k = c.loop-journal.journal-index in
    let j = c.journal-item.result in
    subst (λ (s : SheetParts). HasRoom s.instruction j.entries c.loop-journal.free) (sym c.loop-journal.invariant.base)
    (record {
      before = postings_of (take k f.journals.now);
      passed = c.loop-journal.invariant.passed;
      few = omega (
        arith,
        f.few,
        within_all f.journals.now k c.loop-journal-test.true,
        ap length (entries_there f.journals.now k j c.loop-journal-test.true c.journal-item.is),
      );
    })

pub loop-journal-preserved : goal.loop-journal-preserved
loop-journal-preserved c =
    let f = c.args.figures.now in
    let i = grade_free f.instruction.now in
    let k = c.loop-journal.journal-index in
    let j = c.journal-item.result in
    let before = postings_of (take k f.journals.now) in
    record {
      base = c.in_ok-add_journal.ensures.same ∙ c.loop-journal.invariant.base;
      passed =
          subst (λ l. ArePassed i l c.add_journal.new.free)
          (sym (postings_next f.journals.now k j c.loop-journal-test.true c.journal-item.is))
          (subst (λ (s : SheetParts). ArePassed s.instruction before c.loop-journal.free
          → ArePassed s.instruction (before ++ j.entries) c.add_journal.new.free) c.loop-journal.invariant.base
          (c.in_ok-add_journal.ensures.passed before)
          c.loop-journal.invariant.passed);
    }

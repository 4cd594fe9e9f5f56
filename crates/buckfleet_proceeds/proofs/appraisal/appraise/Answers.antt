use Rattle.std.proofs.Common.{◌++◌, All, length, take, sym, ap, subst, ◌∙◌, arith}
use Rattle.buck_value.specs.Sheet.{SheetParts}
use Rattle.buck_book_postings.specs.History.{IsLawful}
use Rattle.buck_book_journal.specs.Journal.{JournalParts, history_of}
use Rattle.buck_page_figures.specs.Journals.{postings_of}
use Rattle.buck_page_figures.proofs.GradeLemmas.{postings_next}
use Rattle.buck_page_figures.proofs.JournalLemmas.{entries_there, within_all}
use Rattle.buckfleet_proceeds.specs.inner.Passed.{ArePassed, HasRoom, IsPassable}
use Rattle.buckfleet_proceeds.proofs.Cuts.{all_passable}
use Rattle.buckfleet_proceeds.proofs.appraisal.appraise.Goals as goal

pub loop-journal-preserved : goal.loop-journal-preserved
loop-journal-preserved c =
    let own = c.args.own in
    let js = c.args.journals.now in
    let k = c.loop-journal.journal-index in
    let j = c.journal-item.result in
    let before = postings_of (take k js) in
    record {
      base = c.in_ok-add_journal.ensures.same ∙ c.loop-journal.invariant.base;
      passed =
          subst (λ l. ArePassed own l c.add_journal.new.appraisal)
          (sym (postings_next js k j c.loop-journal-test.true c.journal-item.is))
          (subst (λ (s : SheetParts). ArePassed s.instruction before c.loop-journal.appraisal
          → ArePassed s.instruction (before ++ j.entries) c.add_journal.new.appraisal) c.loop-journal.invariant.base
          (c.in_ok-add_journal.ensures.passed before)
          c.loop-journal.invariant.passed);
    }

pub add_journal-requires-clause-passable : goal.add_journal-requires-clause-passable
add_journal-requires-clause-passable c =
    let j = c.journal-item.result in
    let r = c.requires.lawful in
    let lawful : IsLawful (history_of r.0 j) =
    subst (λ (x : JournalParts). IsLawful (history_of r.0 x)) (sym c.journal-item.is)
    (r.2 c.loop-journal.journal-index j c.loop-journal-test.true) in
    subst (λ (s : SheetParts). All (λ x. IsPassable s.instruction x) j.entries) (sym c.loop-journal.invariant.base)
    (all_passable r.0 c.args.own j r.1 lawful)

pub add_journal-requires-clause-room : goal.add_journal-requires-clause-room
add_journal-requires-clause-room c =
    let js = c.args.journals.now in
    let k = c.loop-journal.journal-index in
    let j = c.journal-item.result in
    subst (λ (s : SheetParts). HasRoom s.instruction j.entries c.loop-journal.appraisal)
    (sym c.loop-journal.invariant.base)
    (record {
      before = postings_of (take k js);
      passed = c.loop-journal.invariant.passed;
      few = omega (
        arith,
        c.requires.few,
        within_all js k c.loop-journal-test.true,
        ap length (entries_there js k j c.loop-journal-test.true c.journal-item.is),
      );
    })

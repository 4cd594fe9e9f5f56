use Rattle.buck_book_postings.proofs.Words.{◌+◌, ◌==◌, cond, refl, ◌∙◌, ap}
use Rattle.buck_book_postings.proofs.Cuts.{each_allowed, each_within}
use Rattle.buck_book_postings.proofs.Told.{tells_cut}
use Rattle.buck_book_postings.proofs.running.Running.after_cut.Goals as goal

pub returns : goal.returns
returns c = λ e s l ps few t.
    let period = c.period-period.ensures.period
    ∙ ap (λ j. j.period) (c.deref.ensures ∙ c.instruction.ensures.instruction) in
    tells_cut c.args.sheet.now.instruction ps c.args.self.now t _ e few
    (rw s c.length.ensures.valid) (rw (s, l) c.requires.cutting) refl
    (rw (s, l) c.add_classes.ensures) (rw l c.add_assortments.ensures)
    (c.cut_more.ensures.cuts ∙ ap (λ p. cond (c.args.self.now.cuts + 1 == p) 0 (c.args.self.now.cuts + 1)) period)
    (c.cut_more.ensures.version ∙ ap (λ p. c.args.self.now.version + cond (c.args.self.now.cuts + 1 == p) 1 0) period)

pub add_assortments-requires-clause-within : goal.add_assortments-requires-clause-within
add_assortments-requires-clause-within c =
    each_within c.args.sheet.now.instruction c.args.stem.now c.args.logs.now _
    (each_allowed _ _ 0 _ c.requires.cutting) c.requires.before.2.counts_are.assortments_number

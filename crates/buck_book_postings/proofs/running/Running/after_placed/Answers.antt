use Rattle.buck_book_postings.proofs.Words.{class_place, arith, ◌+◌, ◌==◌, cond, refl, ◌∙◌, ap}
use Rattle.buck_book_postings.proofs.Cuts.{each_allowed, each_within, few_logs}
use Rattle.buck_book_postings.proofs.Counting.{grown_placed, length_places}
use Rattle.buck_book_postings.proofs.Told.{tells_cut, cuts_few, version_low}
use Rattle.buck_book_postings.proofs.running.Running.after_placed.Goals as goal

pub returns : goal.returns
returns c = λ e s l ps few t.
    let period = c.period-period.ensures.period
    ∙ ap (λ j. j.period) (c.deref.ensures ∙ c.instruction.ensures.instruction) in
    tells_cut c.args.sheet.now.instruction ps c.args.self.now t _ e few
    (rw s c.length.ensures.valid) (rw (s, l) c.requires.cutting) refl
    (rw (s, l) (grown_placed (class_place c.args.sheet.now.instruction c.args.stem.now) _ _ _ _ c.requires.places.are
    c.add_places.ensures)) (rw l c.add_assortments.ensures)
    (c.cut_more.ensures.cuts ∙ ap (λ p. cond (c.args.self.now.cuts + 1 == p) 0 (c.args.self.now.cuts + 1)) period)
    (c.cut_more.ensures.version ∙ ap (λ p. c.args.self.now.version + cond (c.args.self.now.cuts + 1 == p) 1 0) period)

pub add_assortments-requires-clause-within : goal.add_assortments-requires-clause-within
add_assortments-requires-clause-within c =
    each_within c.args.sheet.now.instruction c.args.stem.now c.args.logs.now _
    (each_allowed _ _ 0 _ c.requires.cutting) c.requires.before.2.counts_are.assortments_number

pub add_assortments-requires-clause-few : goal.add_assortments-requires-clause-few
add_assortments-requires-clause-few c =
    few_logs _ _ _ c.requires.before.2.valid c.length.ensures.valid c.requires.cutting

pub add_places-requires-clause-few : goal.add_places-requires-clause-few
add_places-requires-clause-few c =
    omega (
      arith,
      length_places _ _ _ _ c.requires.places,
      few_logs _ _ _ c.requires.before.2.valid c.length.ensures.valid c.requires.cutting,
    )

pub cut_more-requires : goal.cut_more-requires
cut_more-requires c = (cuts_few _ _ _ c.requires.before.2, version_low _ _ _ c.requires.before.2)

use Rattle.std.proofs.Common.{◌≡◌, [], ◌∷◌, refl, sym, subst, ap, ◌∙◌, rules}
use Rattle.buck_stem_shape.specs.Stem.{StemParts}
use Rattle.buck_value.specs.Sheet.{SheetParts}
use Rattle.buck_dp.specs.Best.{IsAdmissible, IsFirstBest, cutting_worth}
use Rattle.buck_book_postings.specs.Entry.{EntryParts}
use Rattle.buck_book_postings.specs.declared.posting.Posting.TheVariants.{Cut, Demand}
use Rattle.buck_page_figures.specs.Figures.{base_sheet}
use Rattle.buck_page_figures.specs.Sums.{AreSums}
use Rattle.buck_page_figures.specs.inner.Adding.{IsPassed, IsCuttable, logs_of}
use Rattle.buck_page_figures.specs.inner.Counted.{AreOfPosting}
use Rattle.buck_page_figures.proofs.SumLemmas.{passed_cut, of_posting}
use Rattle.buck_page_figures.proofs.adding.sums_of.Goals as goal

pub returns-in_default-clause-passed : goal.returns-in_default-clause-passed
returns-in_default-clause-passed c =
    let i = c.args.planner.now.instruction in
    let d = c.in_default.field-0 in
    subst (λ x. IsPassed i x c.sums_of_demand.result []) (sym c.in_default.is)
    (record { unsteered = Demand d; is_unsteered = refl; logs_are = refl; sums = c.sums_of_demand.ensures i d })

pub returns-clause-passed : goal.returns-clause-passed
returns-clause-passed c =
    let sheet = c.args.planner.now in
    let e : EntryParts = c.in-Cut.entry in
    let logs = c.in_ok-unsteered.unsteered.logs.items in
    let stem : c.deref.result.now ≡ e.stem = search rules in
    let shown : c.deref-2.result.now ≡ sheet = search rules in
    let first : IsFirstBest sheet e.stem logs =
    subst (λ (t : StemParts). IsFirstBest sheet t logs) stem c.in_ok-unsteered.ensures.first in
    let worth : c.in_ok-unsteered.best ≡ cutting_worth sheet e.stem logs = c.in_ok-unsteered.ensures.worth
    ∙ ap (λ (t : StemParts). cutting_worth sheet t logs) stem in
    let sums : (u : EntryParts) → u.worth ≡ c.in_ok-unsteered.best
    → AreSums sheet.instruction (Cut e ∷ []) (Cut u ∷ []) c.sums_of_cut.result =
    λ u w. subst (λ (t : SheetParts). AreSums t.instruction (Cut e ∷ []) (Cut u ∷ []) c.sums_of_cut.result) shown
    (c.sums_of_cut.ensures.sums u
    (shown ∙ c.requires.base ∙ ap (λ (t : SheetParts). base_sheet t.instruction) (sym shown)) w) in
    subst (λ x. IsPassed sheet.instruction x c.sums_of_cut.result logs) (sym c.in-Cut.is)
    (passed_cut sheet.instruction e c.sums_of_cut.result logs c.in_ok-unsteered.best sheet c.requires.base first worth
    sums)

pub returns-in_default-clause-own : goal.returns-in_default-clause-own
returns-in_default-clause-own c =
    subst (λ x. AreOfPosting c.args.planner.now.instruction x (logs_of x)) (sym c.in_default.is) tt

pub returns-in_default-clause-unsteered : goal.returns-in_default-clause-unsteered
returns-in_default-clause-unsteered c =
    subst (λ x. AreOfPosting c.args.planner.now.instruction x []) (sym c.in_default.is) tt

pub returns-clause-own : goal.returns-clause-own
returns-clause-own c =
    let sheet = c.args.planner.now in
    let e : EntryParts = c.in-Cut.entry in
    let cuttable : IsCuttable sheet.instruction (Cut e) =
    subst (λ x. IsCuttable sheet.instruction x) c.in-Cut.is c.requires.cuttable in
    subst (λ x. AreOfPosting sheet.instruction x (logs_of x)) (sym c.in-Cut.is)
    (of_posting sheet e e.logs c.best.ensures.valid c.sums_of_cut.ensures.stem
    (subst (λ (s : SheetParts). IsAdmissible s e.stem e.logs) (sym c.requires.base) cuttable))

pub returns-clause-unsteered : goal.returns-clause-unsteered
returns-clause-unsteered c =
    let sheet = c.args.planner.now in
    let e : EntryParts = c.in-Cut.entry in
    let logs = c.in_ok-unsteered.unsteered.logs.items in
    let stem : c.deref.result.now ≡ e.stem = search rules in
    let first : IsFirstBest sheet e.stem logs =
    subst (λ (t : StemParts). IsFirstBest sheet t logs) stem c.in_ok-unsteered.ensures.first in
    subst (λ x. AreOfPosting sheet.instruction x logs) (sym c.in-Cut.is)
    (of_posting sheet e logs c.best.ensures.valid c.sums_of_cut.ensures.stem first.best.admissible)

use Rattle.std.proofs.Common.{◌≡◌, ◌∙◌, length, ap, subst, refl, arith, rules}
use Rattle.buck_stem_shape.specs.Stem.{IsStem, StemParts}
use Rattle.buck_value.specs.Sheet.{SheetParts}
use Rattle.buck_dp.specs.Best.{IsFirstBest}
use Rattle.buck_page_figures.specs.Figures.{base_sheet}
use Rattle.buckfleet_proceeds.proofs.Cuts.{accounted_cut, moved, worth_no_more}
use Rattle.buckfleet_proceeds.proofs.Logs.{cutting_fits, cutting_short, shape_of_itself}
use Rattle.buckfleet_proceeds.proofs.appraisal.account_of_cut.Goals as goal

pub add_logs-requires-clause-fits : goal.add_logs-requires-clause-fits
add_logs-requires-clause-fits c =
    let own = c.args.planner.now.instruction in
    let e = c.args.entry.now in
    let p = c.requires.passable in
    let logs : c.as_slice.result.now ≡ e.logs = search rules in
    let stem : c.deref-4.result.now ≡ e.stem = search rules in
    let sheet : c.deref-3.result.now ≡ c.args.planner.now = search rules in
    rw (logs, stem, sheet) (cutting_fits p.0 own e.stem p.1 c.best.ensures.valid.valid e.logs p.2)

pub add_logs-requires-clause-few : goal.add_logs-requires-clause-few
add_logs-requires-clause-few c =
    let own = c.args.planner.now.instruction in
    let e = c.args.entry.now in
    let p = c.requires.passable in
    let logs : c.as_slice.result.now ≡ e.logs = search rules in
    let stem : c.deref.result.now ≡ e.stem = search rules in
    let sound : IsStem e.stem = subst IsStem stem c.length-valid.ensures.valid in
    rw logs (cutting_short p.0 own e.stem p.1 c.best.ensures.valid.valid e.logs sound p.2)

pub add_logs-requires-2-clause-fits : goal.add_logs-requires-2-clause-fits
add_logs-requires-2-clause-fits c =
    let own = c.args.planner.now.instruction in
    let e = c.args.entry.now in
    let logs : c.as_slice-2.result.now ≡ c.in_ok-best.best.logs.items = search rules in
    let stem : c.deref-7.result.now ≡ e.stem = search rules in
    let planned : c.deref-2.result.now ≡ e.stem = search rules in
    let sheet : c.deref-6.result.now ≡ c.args.planner.now = search rules in
    let first : IsFirstBest c.args.planner.now e.stem c.in_ok-best.best.logs.items =
    subst (λ (t : StemParts). IsFirstBest c.args.planner.now t c.in_ok-best.best.logs.items) planned
    c.in_ok-best.ensures.first in
    rw (logs, stem, sheet)
    (cutting_fits own own e.stem (shape_of_itself own) c.best.ensures.valid.valid c.in_ok-best.best.logs.items
    first.best.admissible)

pub add_logs-requires-2-clause-few : goal.add_logs-requires-2-clause-few
add_logs-requires-2-clause-few c =
    let own = c.args.planner.now.instruction in
    let e = c.args.entry.now in
    let logs : c.as_slice-2.result.now ≡ c.in_ok-best.best.logs.items = search rules in
    let stem : c.deref.result.now ≡ e.stem = search rules in
    let planned : c.deref-2.result.now ≡ e.stem = search rules in
    let sound : IsStem e.stem = subst IsStem stem c.length-valid.ensures.valid in
    let first : IsFirstBest c.args.planner.now e.stem c.in_ok-best.best.logs.items =
    subst (λ (t : StemParts). IsFirstBest c.args.planner.now t c.in_ok-best.best.logs.items) planned
    c.in_ok-best.ensures.first in
    rw logs
    (cutting_short own own e.stem (shape_of_itself own) c.best.ensures.valid.valid c.in_ok-best.best.logs.items sound
    first.best.admissible)

pub invariant_of-result : goal.invariant_of-result
invariant_of-result c =
    let own = c.args.planner.now.instruction in
    let e = c.args.entry.now in
    let p = c.requires.passable in
    let base = c.requires.base in
    let cut : c.as_slice.result.now ≡ e.logs = search rules in
    let logs : c.as_slice-2.result.now ≡ c.in_ok-best.best.logs.items = search rules in
    let measured : c.deref.result.now ≡ e.stem = search rules in
    let planned : c.deref-2.result.now ≡ e.stem = search rules in
    let stem : c.deref-4.result.now ≡ e.stem = search rules in
    let stem' : c.deref-7.result.now ≡ e.stem = search rules in
    let sheet : c.deref-3.result.now ≡ c.args.planner.now = search rules in
    let sheet' : c.deref-6.result.now ≡ c.args.planner.now = search rules in
    let sound : IsStem e.stem = subst IsStem measured c.length-valid.ensures.valid in
    let under : IsFirstBest c.args.planner.now e.stem c.in_ok-best.best.logs.items =
    subst (λ (t : StemParts). IsFirstBest c.args.planner.now t c.in_ok-best.best.logs.items) planned
    c.in_ok-best.ensures.first in
    let first : IsFirstBest (base_sheet own) e.stem c.in_ok-best.best.logs.items =
    subst (λ (s : SheetParts). IsFirstBest s e.stem c.in_ok-best.best.logs.items) base under in
    let few = cutting_short p.0 own e.stem p.1 c.best.ensures.valid.valid e.logs sound p.2 in
    let few' =
    cutting_short own own e.stem (shape_of_itself own) c.best.ensures.valid.valid c.in_ok-best.best.logs.items sound
    under.best.admissible in
    let added =
    moved (base_sheet own) c.deref-3.result.now e.stem c.deref-4.result.now e.logs c.as_slice.result.now
    c.add_logs.ensures.added.0 c.args.assortments.now.items c.add_logs.new.parts.items c.add_logs.result.unbought
    c.add_logs.result.volume c.add_logs.result.worth (sheet ∙ base) stem cut c.add_logs.ensures.added.1 in
    let added' =
    moved (base_sheet own) c.deref-6.result.now e.stem c.deref-7.result.now c.in_ok-best.best.logs.items
    c.as_slice-2.result.now c.add_logs-2.ensures.added.0 c.args.best_assortments.now.items c.add_logs-2.new.parts.items
    c.add_logs-2.result.unbought c.add_logs-2.result.volume c.add_logs-2.result.worth (sheet' ∙ base) stem' logs
    c.add_logs-2.ensures.added.1 in
    let number : c.add_logs.result.logs ≡ length e.logs = c.add_logs.ensures.number ∙ ap length cut in
    let number' : c.add_logs-2.result.logs ≡ length c.in_ok-best.best.logs.items =
    c.add_logs-2.ensures.number ∙ ap length logs in
    record {
      few = omega arith;
      few_logs = (omega (arith, number, few), omega (arith, number', few'));
      no_better_than_best =
          worth_no_more own e c.in_ok-best.best.logs.items c.add_logs.ensures.added.0 c.add_logs-2.ensures.added.0
          c.args.assortments.now.items c.add_logs.new.parts.items c.args.best_assortments.now.items
          c.add_logs-2.new.parts.items c.add_logs.result c.add_logs-2.result p first added added';
    }

pub returns-clause-accounted : goal.returns-clause-accounted
returns-clause-accounted c =
    let own = c.args.planner.now.instruction in
    let e = c.args.entry.now in
    let p = c.requires.passable in
    let base = c.requires.base in
    let cut : c.as_slice.result.now ≡ e.logs = search rules in
    let logs : c.as_slice-2.result.now ≡ c.in_ok-best.best.logs.items = search rules in
    let measured : c.deref.result.now ≡ e.stem = search rules in
    let planned : c.deref-2.result.now ≡ e.stem = search rules in
    let stem : c.deref-4.result.now ≡ e.stem = search rules in
    let stem' : c.deref-7.result.now ≡ e.stem = search rules in
    let sheet : c.deref-3.result.now ≡ c.args.planner.now = search rules in
    let sheet' : c.deref-6.result.now ≡ c.args.planner.now = search rules in
    let sound : IsStem e.stem = subst IsStem measured c.length-valid.ensures.valid in
    let under : IsFirstBest c.args.planner.now e.stem c.in_ok-best.best.logs.items =
    subst (λ (t : StemParts). IsFirstBest c.args.planner.now t c.in_ok-best.best.logs.items) planned
    c.in_ok-best.ensures.first in
    let first : IsFirstBest (base_sheet own) e.stem c.in_ok-best.best.logs.items =
    subst (λ (s : SheetParts). IsFirstBest s e.stem c.in_ok-best.best.logs.items) base under in
    let few = cutting_short p.0 own e.stem p.1 c.best.ensures.valid.valid e.logs sound p.2 in
    let few' =
    cutting_short own own e.stem (shape_of_itself own) c.best.ensures.valid.valid c.in_ok-best.best.logs.items sound
    under.best.admissible in
    let added =
    moved (base_sheet own) c.deref-3.result.now e.stem c.deref-4.result.now e.logs c.as_slice.result.now
    c.add_logs.ensures.added.0 c.args.assortments.now.items c.add_logs.new.parts.items c.add_logs.result.unbought
    c.add_logs.result.volume c.add_logs.result.worth (sheet ∙ base) stem cut c.add_logs.ensures.added.1 in
    let added' =
    moved (base_sheet own) c.deref-6.result.now e.stem c.deref-7.result.now c.in_ok-best.best.logs.items
    c.as_slice-2.result.now c.add_logs-2.ensures.added.0 c.args.best_assortments.now.items c.add_logs-2.new.parts.items
    c.add_logs-2.result.unbought c.add_logs-2.result.volume c.add_logs-2.result.worth (sheet' ∙ base) stem' logs
    c.add_logs-2.ensures.added.1 in
    let number : c.add_logs.result.logs ≡ length e.logs = c.add_logs.ensures.number ∙ ap length cut in
    let number' : c.add_logs-2.result.logs ≡ length c.in_ok-best.best.logs.items =
    c.add_logs-2.ensures.number ∙ ap length logs in
    accounted_cut own e c.in_ok-best.best.logs.items c.add_logs.ensures.added.0 c.add_logs-2.ensures.added.0
    c.args.assortments.now.items c.add_logs.new.parts.items c.args.best_assortments.now.items
    c.add_logs-2.new.parts.items c.add_logs.result c.add_logs-2.result _ first added added' number number' few few' refl
    refl refl

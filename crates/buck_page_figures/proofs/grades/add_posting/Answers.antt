use Rattle.std.proofs.Common.{◌≡◌, [], ◌∷◌, ◌++◌, refl, sym, ap, subst, ◌∙◌, arith, rules}
use Rattle.std.specs.Ordering.{nat_cmp}
use Rattle.std.specs.BTreeMap.{get}
use Rattle.std.proofs.lemmas.Result.{on_ok_weaker}
use Rattle.buck_stem_shape.specs.Stem.{StemParts}
use Rattle.buck_value.specs.Sheet.{SheetParts}
use Rattle.buck_dp.specs.Best.{IsFirstBest, cutting_worth}
use Rattle.buck_book_postings.specs.Entry.{EntryParts}
use Rattle.buck_page_figures.specs.Figures.{base_sheet}
use Rattle.buck_page_figures.specs.inner.Grades.{ArePassed, IsWithStem}
use Rattle.buck_page_figures.proofs.GradeLemmas.{all_ok, passed_cut, passed_demand, room_for}
use Rattle.buck_page_figures.proofs.grades.add_posting.Goals as goal

pub add-requires-clause-total : goal.add-requires-clause-total
add-requires-clause-total c =
    let r = c.requires.room in
    (room_for c.args.planner.now.instruction r.before c.args.free.now c.in_ok-worth-in-Cut.worth r.passed
    (omega (arith, r.few)) (omega (arith, c.in_ok-worth-in-Cut.ensures.high))).0

pub add-requires-clause-own : goal.add-requires-clause-own
add-requires-clause-own c =
    let r = c.requires.room in
    (room_for c.args.planner.now.instruction r.before c.args.free.now c.in_ok-worth-in-Cut.worth r.passed
    (omega (arith, r.few)) (omega (arith, c.in_ok-worth-in-Cut.ensures.high))).1 c.entry.inside.harvester

pub returns-in_ok-worth-in-Cut-clause-passed : goal.returns-in_ok-worth-in-Cut-clause-passed
returns-in_ok-worth-in-Cut-clause-passed c =
    let i = c.args.planner.now.instruction in
    let e : EntryParts = c.in-Cut.entry in
    let logs = c.in_ok-worth-in-Cut.field-0-0.logs.items in
    let u : EntryParts = record e { logs = logs; worth = c.in_ok-worth-in-Cut.worth } in
    let stem : c.deref.result.now ≡ e.stem = search rules in
    let harvester : c.entry.inside.harvester ≡ e.harvester = search rules in
    let first : IsFirstBest (base_sheet i) e.stem logs =
    subst (λ (s : SheetParts). IsFirstBest s e.stem logs) c.requires.base
    (subst (λ (t : StemParts). IsFirstBest c.args.planner.now t logs) stem c.in_ok-worth-in-Cut.ensures.first) in
    let worth : c.in_ok-worth-in-Cut.worth ≡ cutting_worth (base_sheet i) e.stem logs = c.in_ok-worth-in-Cut.ensures.worth
    ∙ ap (λ (t : StemParts). cutting_worth c.args.planner.now t logs) stem
    ∙ ap (λ (s : SheetParts). cutting_worth s e.stem logs) c.requires.base in
    on_ok_weaker c.add.result
    (λ added ps passed.
    subst (λ x. ArePassed i (ps ++ x ∷ []) c.add.new.self) (sym c.in-Cut.is)
    (passed_cut i ps e u c.in_ok-worth-in-Cut.worth c.args.free.now c.add.new.self (refl, refl, first, worth) refl
    (omega (arith, c.in_ok-worth-in-Cut.ensures.high)) passed added.0
    (subst (λ h. IsWithStem (get nat_cmp c.args.free.now.harvesters h) c.in_ok-worth-in-Cut.worth
    (get nat_cmp c.add.new.self.harvesters h)) harvester added.1)
    (λ h other. added.2 h (λ same. other (same ∙ harvester)))))
    (all_ok _ _ _ c.add.result c.add.ensures.total c.add.ensures.own c.add.ensures.others)

pub returns-in-Demand-clause-passed : goal.returns-in-Demand-clause-passed
returns-in-Demand-clause-passed c = λ ps passed.
    subst (λ x. ArePassed c.args.planner.now.instruction (ps ++ x ∷ []) c.args.free.now) (sym c.in-Demand.is)
    (passed_demand c.args.planner.now.instruction ps c.in-Demand.field-0 c.args.free.now passed)

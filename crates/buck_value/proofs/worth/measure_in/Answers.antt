use Rattle.std.proofs.Common.{◌≡◌, Some, position, ◌==◌, refl, sym, ◌∙◌, arith, true≢false}
use Rattle.buck_value.proofs.Classes.{column_is, column_some, ends_on}
use Rattle.buck_value.proofs.Grades.{mask_allows}
use Rattle.buck_value.proofs.worth.measure_in.Goals as goal

pub wood_between-grades-requires-clause-places : goal.wood_between-grades-requires-clause-places
wood_between-grades-requires-clause-places c = (
  c.if-log-step-ne0.false,
  ends_on c.args.step c.args.assortment.now c.args.log.now c.in_ok-column.column c.requires.lengths
      c.if-log-step-ne0.false (sym c.column_of.ensures ∙ c.in_ok-column.was),
)

pub returns-then-not-takes-clause-none : goal.returns-then-not-takes-clause-none
returns-then-not-takes-clause-none c = λ a.
    let grades = (mask_allows c.args.stem.now _ _ _ _ c.length.ensures.valid c.wood_between-grades.ensures.grades).1 in
    true≢false (sym (c.if-not-takes.ensures.1 (a.species ∙ sym c.species.ensures, grades a.grades)))

pub returns-clause-allowed : goal.returns-clause-allowed
returns-clause-allowed c =
    let a = c.args.assortment.now in let l = c.args.log.now.length in let column = c.in_ok-column.column in
    let at : position (λ x. x == l) a.lengths ≡ Some column = sym c.column_of.ensures ∙ c.in_ok-column.was in
    let taken = c.if-not-takes.ensures.0 refl in
    record {
      species = taken.0 ∙ c.species.ensures;
      on_module = c.if-log-step-ne0.false;
      length_offered = (column_some a.lengths l column at).1;
      within = omega arith;
      grades = (mask_allows c.args.stem.now _ _ _ _ c.length.ensures.valid c.wood_between-grades.ensures.grades).0
          taken.1;
      bought = rw (column_is a l column at, ← c.wood_between-grades.ensures.top) c.in_ok-row.ensures.bought;
    }

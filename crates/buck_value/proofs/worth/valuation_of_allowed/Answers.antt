use Rattle.std.proofs.Common.{◌≡◌, Contains, refl, sym, ◌∙◌, subst, rules, arith}
use Rattle.std.proofs.lemmas.Option.{same_Some, slice_get_within}
use Rattle.buck_apt_instruction.specs.Instruction.{AssortmentParts, IsAssortment}
use Rattle.buck_apt_instruction.specs.declared.class.Class.{Class}
use Rattle.buck_value.specs.Allowed.{class_of}
use Rattle.buck_value.proofs.Classes.{column_there, column_some, column_is, valid_of, class_is_class, allowed_low, worth_by_class}
use Rattle.buck_value.proofs.Stands.{stands}
use Rattle.buck_value.proofs.worth.valuation_of_allowed.Goals as goal
use Rattle.buck_value.proofs.worth.valuation_of_allowed.Goals.{After-row_of, After-unwrap}

-- the assortment that the code reads is the log's
same : (c : After-row_of) → c.requires.assortment ≡ c.index-assortments-log.result
same c =
    let i = c.args.sheet.now.instruction in let n = c.args.log.now.assortment in let a = c.requires in
    same_Some _ _ (sym a.exists ∙ stands i n c.index-assortments-log.result c.assortments.result.now (search rules)
    (slice_get_within i.assortments n a.assortment a.exists) c.index-assortments-log.is)

valid : (c : After-row_of) → IsAssortment c.index-assortments-log.result
valid c =
    subst IsAssortment (same c)
    (valid_of c.args.sheet.now.instruction c.args.stem.now c.args.log.now c.instruction.ensures.valid.valid c.requires)

-- the class that the code makes
made : (c : After-unwrap) → c.requires.assortment ≡ c.index-assortments-log.result
    → ◌≡◌ {A = Class}
    (record { assortment = c.args.log.now.assortment; row = c.row_of.result; column = c.unwrap.result })
    (class_of c.args.sheet.now.instruction c.args.stem.now c.args.log.now)
made c its =
    rw (
      c.requires.exists,
      its,
      c.row_of.ensures.row,
      c.diameter_at-top.ensures,
      column_is c.index-assortments-log.result c.args.log.now.length c.unwrap.result
          (sym c.column_of.ensures ∙ c.unwrap.ensures),
    ) refl

pub diameter_at-top-requires : goal.diameter_at-top-requires
diameter_at-top-requires c = omega (arith, c.requires.allows.within)

pub bounds-assortments-log : goal.bounds-assortments-log
bounds-assortments-log c =
    let i = c.args.sheet.now.instruction in let n = c.args.log.now.assortment in
    let read : c.assortments.result.now ≡ i.assortments = search rules in
    rw read (slice_get_within i.assortments n c.requires.assortment c.requires.exists)

pub overflow_cast-class : goal.overflow_cast-class
overflow_cast-class c =
    omega (arith, c.row_of.ensures.within, (valid (goal.at.overflow_cast-class c).After-row_of).rows)

pub unwrap-requires : goal.unwrap-requires
unwrap-requires c =
    let l = c.args.log.now.length in
    let has = subst (λ (a : AssortmentParts). Contains a.lengths l) (same (goal.at.unwrap-requires c).After-row_of)
    c.requires.allows.length_offered in
    rw (c.column_of.ensures, (column_there c.index-assortments-log.result.lengths l has).1) refl

pub overflow_cast-class-2 : goal.overflow_cast-class-2
overflow_cast-class-2 c =
    let x = c.index-assortments-log.result in
    omega (
      arith,
      (valid (goal.at.overflow_cast-class-2 c).After-row_of).columns,
      (column_some x.lengths c.args.log.now.length c.unwrap.result (sym c.column_of.ensures ∙ c.unwrap.ensures)).0,
    )

pub worth_in_class-worth-requires-clause-class : goal.worth_in_class-worth-requires-clause-class
worth_in_class-worth-requires-clause-class c =
    let at = goal.at.worth_in_class-worth-requires-clause-class c in
    rw (made at.After-unwrap (same at.After-row_of))
    (class_is_class _ _ _ c.instruction.ensures.valid.valid c.requires)

pub worth_in_class-worth-requires-clause-top : goal.worth_in_class-worth-requires-clause-top
worth_in_class-worth-requires-clause-top c =
    rw c.diameter_at-top.ensures (allowed_low _ _ _ c.instruction.ensures.valid.valid c.requires).2

pub worth_in_class-worth-requires-clause-length : goal.worth_in_class-worth-requires-clause-length
worth_in_class-worth-requires-clause-length c = (allowed_low _ _ _ c.instruction.ensures.valid.valid c.requires).1

pub returns-clause-class : goal.returns-clause-class
returns-clause-class c =
    let at = goal.at.returns-clause-class c in made at.After-unwrap (same at.After-row_of)

pub returns-clause-worth : goal.returns-clause-worth
returns-clause-worth c =
    let at = goal.at.returns-clause-worth c in
    c.worth_in_class-worth.ensures
    ∙ worth_by_class c.args.sheet.now c.args.stem.now c.args.log.now _ c.diameter_at-top.result
    (made at.After-unwrap (same at.After-row_of)) c.diameter_at-top.ensures

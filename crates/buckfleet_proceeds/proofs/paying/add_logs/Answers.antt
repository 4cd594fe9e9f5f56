use Rattle.std.proofs.Common.{◌≡◌, [], ◌+◌, ◌<◌, List, length, get_or, take, set, sym, subst, refl, arith, length-take-le}
use Rattle.std.specs.Prelude.{slice_get, Some}
use Rattle.std.proofs.lemmas.List.{take_all, take_more}
use Rattle.std.proofs.lemmas.Option.{slice_get_read}
use Rattle.buck_value.specs.declared.log.Log.{Log}
use Rattle.buckfleet_proceeds.specs.inner.Logs.{AreAdded}
use Rattle.buckfleet_proceeds.proofs.Logs.{few_more, log_more, none_added}
use Rattle.buckfleet_proceeds.proofs.paying.add_logs.Goals as goal

pub loop-log-init : goal.loop-log-init
loop-log-init c = record {
  added = ([], none_added c.args.sheet.now c.args.stem.now c.args.parts.now.items);
  few = omega arith;
  small_volume = omega arith;
  small_worth = omega arith;
}

pub index_mut-requires : goal.index_mut-requires
index_mut-requires c =
    let none : Log = record { start = 0; length = 0; assortment = 0 } in
    let fits = c.requires.fits c.loop-log.log-index none c.loop-log-test.true in
    omega (arith, fits.exists, c.requires.number, c.loop-log.invariant.added.1.same_number)

pub plus-requires : goal.plus-requires
plus-requires c =
    let none : Log = record { start = 0; length = 0; assortment = 0 } in
    let now = c.loop-log.parts.items in
    let k = c.loop-log.log-index in
    let g : Log = get_or c.args.logs.now k none in
    let added = c.loop-log.invariant.added in
    let fits = c.requires.fits k none c.loop-log-test.true in
    let within : g.assortment < length now = omega (arith, fits.exists, c.requires.number, added.1.same_number) in
    let there : slice_get now g.assortment ≡ Some c.index.result.now =
    slice_get_read now (length now) g.assortment c.index.result.now refl within c.index.ensures in
    let few =
    few_more c.args.sheet.now c.args.stem.now (take k c.args.logs.now) added.0 g.assortment c.args.parts.now.items now
    c.index.result.now c.loop-log.unbought c.loop-log.volume c.loop-log.worth added.1 c.requires.low there in
    omega (
      arith,
      few,
      length-take-le k c.args.logs.now (omega (arith, c.loop-log-test.true)),
      c.requires.few,
      c.loop-log-test.true,
      c.paid_for-paid.ensures.number,
    )

pub loop-log-preserved : goal.loop-log-preserved
loop-log-preserved c =
    let none : Log = record { start = 0; length = 0; assortment = 0 } in
    let now = c.loop-log.parts.items in
    let k = c.loop-log.log-index in
    let g : Log = get_or c.args.logs.now k none in
    let added = c.loop-log.invariant.added in
    let fits = c.requires.fits k none c.loop-log-test.true in
    let within : g.assortment < length now = omega (arith, fits.exists, c.requires.number, added.1.same_number) in
    let there : slice_get now g.assortment ≡ Some c.index.result.now =
    slice_get_read now (length now) g.assortment c.index.result.now refl within c.index.ensures in
    let more =
    log_more c.args.sheet.now c.args.stem.now (take k c.args.logs.now) added.0 g c.args.parts.now.items now
    c.index.result.now c.plus.result c.paid_for-paid.result c.loop-log.unbought c.loop-log.volume c.loop-log.worth there
    c.plus.ensures c.paid_for-paid.ensures.number c.paid_for-paid.ensures.cubic c.paid_for-paid.ensures.alone added.1 in
    let small = c.paid_for-paid.result.small in
    let one = c.paid_for-paid.ensures.number in
    let inv = c.loop-log.invariant in
    record {
      added = (
        more.0,
        subst (λ (l : List Log). AreAdded c.args.sheet.now c.args.stem.now l more.0 c.args.parts.now.items
            (set now g.assortment c.plus.result) (c.loop-log.unbought + c.paid_for-paid.result.unbought)
            (c.loop-log.volume + c.paid_for-paid.result.volume) (c.loop-log.worth + c.paid_for-paid.result.worth))
            (sym (take_more c.args.logs.now k none c.loop-log-test.true)) more.1,
      );
      few = omega (arith, inv.few, small, one);
      small_volume = omega (arith, inv.small_volume, small, one);
      small_worth = omega (arith, inv.small_worth, small, one);
    }

pub returns-clause-added : goal.returns-clause-added
returns-clause-added c =
    let added = c.loop-log.invariant.added in (
      added.0,
      subst (λ (l : List Log). AreAdded c.args.sheet.now c.args.stem.now l added.0 c.args.parts.now.items
          c.loop-log.parts.items c.loop-log.unbought c.loop-log.volume c.loop-log.worth)
          (take_all c.loop-log.log-index c.args.logs.now (omega (arith, c.loop-log-test.false))) added.1,
    )

use Rattle.std.proofs.Common.{◌≡◌, ◌<◌, length, get_or, refl, arith}
use Rattle.std.specs.Prelude.{slice_get, Some}
use Rattle.std.proofs.lemmas.List.{get_or_default}
use Rattle.std.proofs.lemmas.Option.{slice_get_read}
use Rattle.buck_value.specs.declared.log.Log.{Log}
use Rattle.buck_page_figures.proofs.AccountLemmas.{few_more, log_within, parts_more}
use Rattle.buck_page_figures.proofs.assorted.add_logs.Goals as goal

pub with-requires-clause-few : goal.with-requires-clause-few
with-requires-clause-few c =
    let now = c.loop-log.parts.items in
    let none : Log = record { start = 0; length = 0; assortment = 0 } in
    let p = (get_or c.args.logs.now c.loop-log.log-index none).assortment in
    let low =
    log_within c.args.base.now.instruction c.args.stem.now c.args.logs.now c.loop-log.log-index none
    c.requires.allowed c.loop-log-test.true in
    let within : p < length now = omega (arith, low, c.requires.number, c.loop-log.invariant.same_number) in
    let there : slice_get now p ≡ Some c.index.result.now =
    slice_get_read now (length now) p c.index.result.now refl within c.index.ensures in
    few_more c.args.base.now c.args.stem.now c.args.logs.now c.loop-log.log-index p c.args.parts.now.items now
    c.index.result.now c.loop-log.invariant
    c.requires.low c.requires.few c.loop-log-test.true there

pub index_mut-requires : goal.index_mut-requires
index_mut-requires c =
    let none : Log = record { start = 0; length = 0; assortment = 0 } in
    let low =
    log_within c.args.base.now.instruction c.args.stem.now c.args.logs.now c.loop-log.log-index none
    c.requires.allowed c.loop-log-test.true in
    omega (arith, low, c.requires.number, c.loop-log.invariant.same_number)

pub loop-log-preserved : goal.loop-log-preserved
loop-log-preserved c =
    let now = c.loop-log.parts.items in
    let none : Log = record { start = 0; length = 0; assortment = 0 } in
    let g : Log = get_or c.args.logs.now c.loop-log.log-index none in
    let low =
    log_within c.args.base.now.instruction c.args.stem.now c.args.logs.now c.loop-log.log-index none
    c.requires.allowed c.loop-log-test.true in
    let within : g.assortment < length now = omega (arith, low, c.requires.number, c.loop-log.invariant.same_number) in
    let there : slice_get now g.assortment ≡ Some c.index.result.now =
    slice_get_read now (length now) g.assortment c.index.result.now refl within c.index.ensures in
    parts_more c.args.base.now c.args.stem.now c.args.logs.now c.loop-log.log-index g.assortment g c.wood_in-wood.result
    c.args.parts.now.items now c.index.result.now c.with.result
    c.loop-log-test.true (get_or_default c.args.logs.now c.loop-log.log-index none g c.loop-log-test.true)
    refl there c.wood_in-wood.ensures.wood
    c.with.ensures.logs c.with.ensures.volume c.with.ensures.logged c.with.ensures.at_base c.loop-log.invariant

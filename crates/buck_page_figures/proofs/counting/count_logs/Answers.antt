use Rattle.std.proofs.Common.{◌≡◌, ◌<◌, length, get_or, arith}
use Rattle.std.proofs.lemmas.List.{get_or_read, get_or_default}
use Rattle.buck_value.specs.declared.log.Log.{Log}
use Rattle.buck_page_figures.proofs.CountLemmas.{count_more}
use Rattle.buck_page_figures.proofs.counting.count_logs.Goals as goal

pub loop-log-preserved : goal.loop-log-preserved
loop-log-preserved c =
    let k = c.loop-log.log-index in
    let p = c.place_of-place.result in
    let none : Log = record { start = 0; length = 0; assortment = 0 } in
    let g : Log = get_or c.args.logs.now k none in
    let now = c.loop-log.counts.items in
    let within : p < length now =
    omega (arith, c.place_of-place.ensures.within, c.requires.number, c.loop-log.invariant.same_number) in
    let value : c.index_mut.result.now ≡ get_or now p 0 =
    get_or_read now p c.index_mut.result.now within c.index_mut.ensures.value 0 in
    rw value
    (count_more c.args.base.now.instruction c.args.stem.now c.args.logs.now k p g c.args.counts.now.items now
    c.loop-log-test.true
    (get_or_default c.args.logs.now k none g c.loop-log-test.true)
    c.place_of-place.ensures.place c.place_of-place.ensures.class within c.loop-log.invariant)

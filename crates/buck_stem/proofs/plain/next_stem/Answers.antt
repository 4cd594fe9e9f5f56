use Rattle.buck_stem.specs.declared.draft.Draft.{Draft}
use Rattle.buck_stem.proofs.PassLemmas.{numbers_are}
use Rattle.buck_stem.proofs.PlainLemmas.{stem_leads}
use Rattle.buck_stem.proofs.plain.next_stem.Goals as goal

pub stem_from-requires : goal.stem_from-requires
stem_from-requires c = numbers_are _ c.in_ok-ready.ensures

pub returns : goal.returns
returns c = λ whole leads.
    let read : Draft =
    record { number = c.of.result; species = c.of-2.result; samples = c.of-3.result; zones = c.of-4.result } in
    stem_leads whole c.args.text.now c.in_ok-named.named.now c.in_ok-sampled.sampled.now
    c.in_ok-left.left.now read c.in_ok-stem.stem (c.args.first.now, rw c.of.ensures c.in_ok-read_numbers.ensures, leads)
    (rw c.of-2.ensures c.in_ok-named.ensures) (rw c.of-3.ensures c.in_ok-sampled.ensures)
    (rw c.of-4.ensures c.in_ok-left.ensures) c.in_ok-ready.ensures c.in_ok-stem.ensures

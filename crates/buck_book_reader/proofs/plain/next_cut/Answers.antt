use Rattle.buck_book_reader.proofs.Words.{ap, sym, ◌∙◌, says, call_form, head_form, samples_form, zones_form, logs_form}
use Rattle.buck_book_reader.proofs.OnePass.{cut_leads}
use Rattle.buck_book_reader.proofs.plain.next_cut.Goals as goal

pub returns : goal.returns
returns c =
    let left = c.in_ok-worth.left.now in
    rw (c.in_ok-cut.ensures, c.in_ok-stem.ensures)
    (cut_leads c.in_ok-call.call (c.in_ok-number.number, c.in_ok-number.species) c.in_ok-samples.samples.items
    c.in_ok-zones.zones.items c.in_ok-logs.logs.items c.in_ok-worth.worth
    c.args.text.now c.in_ok-called.called.now c.in_ok-named.named.now c.in_ok-sampled.sampled.now c.in_ok-zoned.zoned.now
    c.in_ok-logged.logged.now left
    _ _ _ _ _
    c.in_ok-called.ensures (ap (says call_form 1) (sym c.as_slice.ensures.value) ∙ sym c.in_ok-call.ensures)
    c.in_ok-named.ensures (ap (says head_form 1) (sym c.as_slice-2.ensures.value) ∙ sym c.in_ok-number.ensures.value)
    c.in_ok-sampled.ensures (ap (says samples_form 1) (sym c.as_slice-3.ensures.value) ∙ c.in_ok-samples.ensures.value)
    c.in_ok-zoned.ensures (ap (says zones_form 1) (sym c.as_slice-4.ensures.value) ∙ c.in_ok-zones.ensures.value)
    c.in_ok-logged.ensures (ap (says logs_form 1) (sym c.as_slice-5.ensures.value) ∙ c.in_ok-logs.ensures)
    c.in_ok-worth.ensures)

use Rattle.std.proofs.Common.{arith}
use Rattle.std.proofs.lemmas.List.{length-map}
use Rattle.buckfleet_engine_files.proofs.OpenLemmas.{as_many}
use Rattle.buckfleet_engine_page.proofs.showing.serve_view.Goals as goal

pub show_opened-requires-clause-number : goal.show_opened-requires-clause-number
show_opened-requires-clause-number g c =
    let opened = c.in_ok-instruction.ensures.others in
    let many = as_many g.O.Open.opens _ _ _ _ opened in
    let named = length-map c.as_slice-journals.result.now (λ s. s.now) in
    let number = c.args.task.now.number in (
      omega (arith, many, named, number, c.as_slice-journals.ensures.len, c.as_mut_slice.ensures.len),
      omega (arith, many, named, number, c.as_slice-journals.ensures.len, c.as_mut_slice.ensures.len),
    )

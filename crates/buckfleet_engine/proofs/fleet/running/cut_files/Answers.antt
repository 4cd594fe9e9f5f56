use Rattle.std.proofs.Common.{sym}
use Rattle.std.proofs.lemmas.List.{length-map}
use Rattle.buckfleet_engine_input.proofs.ListLemmas.{cut_fault}
use Rattle.buckfleet_engine.proofs.fleet.running.cut_files.Goals as goal

pub returns-clause-refused : goal.returns-clause-refused
returns-clause-refused g c =
    let read = c.in_ok-instruction.ensures in
    cut_fault _ _ _ _ _ read.accepted (sym (length-map c.args.stms.now g.R.Read.remaining))
    read.lists c.cut_lists.ensures.fault

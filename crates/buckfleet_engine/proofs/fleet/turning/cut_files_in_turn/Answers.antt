use Rattle.std.proofs.Common.{◌≡◌, ◌<◌, List, IfErr, sym, subst, ◌∙◌}
use Rattle.std.specs.declared.sync.Arc.{Arc}
use Rattle.std.specs.declared.vec.Vec.{Vec}
use Rattle.std.specs.declared.alloc.Global.{Global}
use Rattle.buck_stem_shape.specs.declared.stem.Stem.{Stem}
use Rattle.buck_fleet_round_robin.specs.Turn.{stems_in_all}
use Rattle.buckfleet_engine_files.specs.declared.fault.EngineFault.TheVariants.{Full}
use Rattle.std.proofs.lemmas.List.{length-map}
use Rattle.buckfleet_engine_input.proofs.ListLemmas.{cut_fault, too_many}
use Rattle.buckfleet_engine.proofs.fleet.turning.cut_files_in_turn.Goals as goal

pub returns-clause-refused : goal.returns-clause-refused
returns-clause-refused g c =
    let read = c.in_ok-instruction.ensures in
    cut_fault _ _ _ _ _ read.accepted (sym (length-map c.args.stms.now g.R.Read.remaining))
    read.lists c.cut_lists.ensures.fault

pub returns-clause-full : goal.returns-clause-full
returns-clause-full g c =
    let read = c.in_ok-instruction.ensures in
    too_many _ _ _ _ (read.number ∙ sym (length-map c.args.stms.now g.R.Read.remaining))
    (sym (length-map c.args.stms.now g.R.Read.remaining)) read.lists
    (subst (λ (l : List (Vec (Arc Stem Global) Global)). IfErr c.cut_lists.result
    (λ fault. fault ≡ Full → 1000000 < stems_in_all l)) c.as_slice-3.ensures.value c.cut_lists.ensures.full)

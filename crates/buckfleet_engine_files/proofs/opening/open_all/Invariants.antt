use Rattle.std.proofs.Common.{map, take}
use Rattle.buckfleet_engine_files.specs.Opening.{OpensEach}
use Rattle.buckfleet_engine_files.proofs.opening.open_all.Given as goal

abbrev pub invariant-loop-k : goal.invariant-loop-k
invariant-loop-k g l =
    OpensEach g.O.Open.opens l.initial.opener l.opener (take l.k (map (λ s. s.now) l.stms)) l.files.items

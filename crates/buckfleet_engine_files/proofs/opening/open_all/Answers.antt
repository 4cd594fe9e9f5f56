use Rattle.std.proofs.Common.{rules}
use Rattle.buckfleet_engine_files.proofs.OpenLemmas.{opens_next}
use Rattle.buckfleet_engine_files.proofs.opening.open_all.Goals as goal

pub loop-k-preserved : goal.loop-k-preserved
loop-k-preserved g c =
    opens_next g.O.Open.opens (λ s. s.now)
    _ _ _ c.args.stms.now _ c.loop-k.k c.loop-k.files.items c.push.new.self.items c.in-Some.file c.loop-k-test.true
    c.loop-k.invariant c.in-Some.ensures (search rules)

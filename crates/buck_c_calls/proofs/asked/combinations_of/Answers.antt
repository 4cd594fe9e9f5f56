use Rattle.std.proofs.Common.{inr, refl}
use Rattle.buck_c_calls.specs.Asked.{IsCombination}
use Rattle.buck_c_calls.proofs.Asking.{never_at, one_made}
use Rattle.buck_c_calls.proofs.asked.combinations_of.Goals as goal

pub returns-in_default-clause-refused : goal.returns-in_default-clause-refused
returns-in_default-clause-refused c =
    inr (
      refl,
      λ cs all. never_at IsCombination c.args.runs.now cs c.loop-run.run-index _ c.loop-run-test.true
          c.in_default.ensures.none all,
    )

pub loop-run-preserved : goal.loop-run-preserved
loop-run-preserved c =
    one_made IsCombination c.args.runs.now c.loop-run.made.items c.push.new.self.items c.loop-run.run-index _
    c.in-Some.combination c.loop-run-test.true c.loop-run.invariant c.in-Some.ensures.some c.in_ok-push.ensures.items

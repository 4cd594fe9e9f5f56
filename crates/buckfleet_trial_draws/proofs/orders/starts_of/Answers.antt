use Rattle.std.proofs.Common.{◌∙◌, ◌<◌, ◌^◌, ap, map, subst, sym}
use Rattle.std.specs.Int.{w64, from_le_bytes}
use Rattle.std.proofs.lemmas.Nat.{from_le_bytes-to_le_bytes_8}
use Rattle.buckfleet_trial_draws.proofs.Steps.{behind_low, start_step}
use Rattle.buckfleet_trial_draws.proofs.orders.starts_of.Goals as goal

pub loop-preserved : goal.loop-preserved
loop-preserved c = record {
  starts = start_step c.args.draws.now.number c.loop.counter c.loop.random c.pass_all.new.random
      c.from_le_bytes.result (map (λ list. list.items) c.args.lists.now) c.loop.starts.items c.push.new.self.items
      c.loop-test.true c.in_ok-push.ensures.items
      (c.from_le_bytes.ensures ∙ ap (λ bs. from_le_bytes w64 bs) c.state.ensures
      ∙ from_le_bytes-to_le_bytes_8 c.loop.random c.loop.invariant.low)
      c.pass_all.ensures
      ∙ c.loop.invariant.starts;
  low = subst (λ n. n < 2 ^ 64) (sym c.pass_all.ensures)
      (behind_low c.loop.random (map (λ list. list.items) c.args.lists.now) c.loop.invariant.low);
}

use Rattle.buckfleet_live.proofs.Words.{◌≡◌, ◌*◌, ◌+◌, arith, next_log}
use Rattle.std.proofs.lemmas.Grind.{common_steps}
use Rattle.buckfleet_live.proofs.OwnLemmas.{low_at}
use Rattle.buckfleet_live.proofs.request.logs_of.Goals as goal

pub overflow_cast-numbers : goal.overflow_cast-numbers
overflow_cast-numbers c =
    let low = low_at c.args.numbers.now (3 * c.loop-k.k) (omega arith) c.loop-k.invariant.low in omega (arith, low.0)

pub loop-k-preserved : goal.loop-k-preserved
loop-k-preserved c =
    let next : 3 * (c.loop-k.k + 1) ≡ 3 * c.loop-k.k + 3 = omega arith in
    let step = next_log c.args.numbers.now (3 * c.loop-k.k) (omega arith) in
    let low = low_at c.args.numbers.now (3 * c.loop-k.k) (omega arith) c.loop-k.invariant.low in
    rw next (grind (arith, common_steps, step, low))

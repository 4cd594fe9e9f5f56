use Rattle.buck_book_reader.proofs.Words.{◌≡◌, ◌*◌, ◌+◌, arith, common_steps}
use Rattle.buck_book_reader.proofs.Tuples.{next_log}
use Rattle.buck_book_reader.proofs.parts.logs_in.Goals as goal

pub loop-k-preserved : goal.loop-k-preserved
loop-k-preserved c =
    let next : 3 * (c.loop-k.k + 1) ≡ 3 * c.loop-k.k + 3 = omega arith in
    let step = next_log c.args.numbers.now (3 * c.loop-k.k) (omega arith) in
    rw next (grind (arith, common_steps, step))

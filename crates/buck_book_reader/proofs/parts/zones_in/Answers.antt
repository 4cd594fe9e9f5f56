use Rattle.buck_book_reader.proofs.Words.{◌≡◌, ◌*◌, ◌+◌, arith, length-drop, common_steps}
use Rattle.buck_book_reader.proofs.Limits.{zones_done}
use Rattle.buck_book_reader.proofs.Tuples.{next_zone}
use Rattle.buck_book_reader.proofs.parts.zones_in.Goals as goal

pub loop-k-preserved : goal.loop-k-preserved
loop-k-preserved c =
    let next : 2 * (c.loop-k.k + 1) ≡ 2 * c.loop-k.k + 2 = omega arith in
    let step = next_zone c.args.numbers.now (2 * c.loop-k.k) c.loop-k.low (omega arith) in
    rw next (grind (arith, common_steps, step))

pub returns-clause-valid : goal.returns-clause-valid
returns-clause-valid c =
    zones_done c.loop-k.zones.items c.loop-k.low c.args.numbers.now _ (simp length-drop (omega arith)) (omega arith)
    c.loop-k.invariant.so_far c.loop-k.invariant.right

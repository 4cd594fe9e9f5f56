use Rattle.std.proofs.Common.{refl, arith}
use Rattle.buck_stem_shape.proofs.RunLemmas.{steps_more, even_steps}
use Rattle.buck_stem_shape.proofs.points.runs.push_run.Goals as goal

pub returns-clause-right : goal.returns-clause-right
returns-clause-right c =
    let zones = c.args.stem.now.zones in
    let step = c.args.step in
    let first = c.len-first.result in
    let end = c.max-end.result in
    let mask = c.grades_between-mask.result in
    steps_more zones step first end mask c.args.steps.now.items c.resize.new.self.items c.requires.right
    (omega (arith, c.len-first.ensures)) (omega (arith, c.max-end.ensures)) (omega (arith, c.in_ok-resize.ensures.len))
    (λ k d lt. c.in_ok-resize.ensures.by_index.0 k d
    (omega (arith, c.max-end.ensures, c.len-first.ensures)) (omega arith))
    (λ k d le lt. c.in_ok-resize.ensures.by_index.1 k d refl (omega arith) lt)
    (even_steps zones step first end c.grade_end.result mask (omega arith) (rw c.zones.ensures at c.grade_end.ensures)
    (λ past. omega (arith, c.min-even.ensures, c.max-end.ensures)) c.grades_between-mask.ensures)

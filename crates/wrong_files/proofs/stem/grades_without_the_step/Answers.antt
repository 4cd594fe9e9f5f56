use Rattle.std.proofs.Common.{◌+◌, arith}
use Rattle.wrong_files.proofs.stem.grades_without_the_step.Goals as goal

pub prove-unreachable-requires : goal.prove-unreachable-requires
prove-unreachable-requires c =
    let mask = c.grades_from-right.ensures (c.args.i + 1) (omega arith) c.requires.points c.requires.rest in
    c.requires.lacks (rw c.if-prove.true at ((mask c.args.grade c.requires.shows.0).1 c.requires.shows.1))

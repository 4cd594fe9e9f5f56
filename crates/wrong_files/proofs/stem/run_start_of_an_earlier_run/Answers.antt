use Rattle.std.proofs.Common.{◌≤◌, arith}
use Rattle.wrong_files.proofs.stem.run_start_of_an_earlier_run.Goals as goal

pub prove-unreachable-requires : goal.prove-unreachable-requires
prove-unreachable-requires c =
    let low : c.run_start-right.result ≤ c.args.wrong = omega (arith, c.if-prove.true) in
    let one = c.run_start-right.ensures.even.1 in
    let wrong = one c.args.wrong low c.requires.points.0 c.args.grade c.requires.shows.0 in
    let right = one c.args.i c.run_start-right.ensures.low (omega arith) c.args.grade c.requires.shows.0 in
    c.requires.none (right.0 (wrong.1 c.requires.shows.1))

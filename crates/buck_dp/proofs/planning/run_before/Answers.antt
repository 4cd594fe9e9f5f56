use Rattle.buck_dp.proofs.Words.{arith}
use Rattle.buck_dp.proofs.GridLemmas.{kind_takers}
use Rattle.buck_dp.proofs.planning.run_before.Goals as goal

pub returns-clause-range : goal.returns-clause-range
returns-clause-range g c = λ top from within shown.
    let grid = c.requires.0 in
    let low = c.run_start-first.ensures.low in
    let each =
    c.run_start-first.ensures.same top c.args.grades (omega (arith, from, c.requires.1.0.0)) (rw grid.profile within)
    shown in (
      record {
        first = omega (arith, low, c.requires.1.0.0);
        takers = λ i at before.
            kind_takers g.p i top _ _ grid.sound (rw grid.profile at (each i at (omega (arith, before))))
            (rw (c.species.ensures, grid.stem, c.requires.1.1.0, c.of.ensures) at c.in_ok-set.ensures.takers);
      },
      each c.run_start-first.result (omega arith) low,
    )

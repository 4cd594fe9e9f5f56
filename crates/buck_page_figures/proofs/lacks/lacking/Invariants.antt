use Rattle.buck_page_figures.specs.inner.Lacking.{AreLacksBefore}
use Rattle.buck_page_figures.proofs.lacks.lacking.Given as goal

abbrev pub invariant-loop-at : goal.invariant-loop-at
invariant-loop-at l =
    AreLacksBefore l.figures.instruction.now l.figures.targets.value.items l.figures.counts.items
    l.figures.unsteered.items l.at 0 l.found.items

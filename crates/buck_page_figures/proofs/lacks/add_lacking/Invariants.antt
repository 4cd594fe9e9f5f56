use Rattle.buck_page_figures.specs.inner.Lacking.{AreLacksBefore}
use Rattle.buck_page_figures.proofs.lacks.add_lacking.Given as goal

abbrev pub invariant-loop-class : goal.invariant-loop-class
invariant-loop-class l =
    AreLacksBefore l.figures.instruction.now l.figures.targets.value.items l.figures.counts.items
    l.figures.unsteered.items l.at l.class l.found.items

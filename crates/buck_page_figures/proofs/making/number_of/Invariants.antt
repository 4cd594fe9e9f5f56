use Rattle.std.proofs.Common.{◌≡◌, length, take}
use Rattle.std.specs.Prelude.{sum_by}
use Rattle.buck_page_figures.proofs.making.number_of.Given as goal

abbrev pub invariant-loop-journal : goal.invariant-loop-journal
invariant-loop-journal l = l.number ≡ sum_by (λ j. length j.entries) (take l.journal-index l.journals)

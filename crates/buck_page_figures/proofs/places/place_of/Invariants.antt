use Rattle.std.proofs.Common.{◌≡◌, ◌+◌, length, take}
use Rattle.buck_page_figures.specs.Journals.{postings_of}
use Rattle.buck_page_figures.proofs.places.place_of.Given as goal

abbrev pub invariant-loop-journal : goal.invariant-loop-journal
invariant-loop-journal l = length (postings_of (take l.journal l.journals)) + l.at ≡ l.position

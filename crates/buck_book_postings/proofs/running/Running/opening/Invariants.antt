use Rattle.buck_book_postings.proofs.Words.{◌≡◌, take, flat_map}
use Rattle.buck_book_postings.proofs.running.Running.opening.Given as goal

abbrev pub invariant-loop-assortment : goal.invariant-loop-assortment
invariant-loop-assortment l = l.targets.items ≡ flat_map (λ a. a.targets) (take l.assortment-index l.assortment-items)

use Rattle.buck_book_postings.proofs.Words.{◌∙◌}
use Rattle.buck_book_postings.proofs.Told.{prices_can}
use Rattle.buck_book_postings.proofs.Standings.{no_price_fault, is_sheet}
use Rattle.buck_book_postings.proofs.running.Running.sheet.Goals as goal

pub prices_by-requires-clause-can : goal.prices_by-requires-clause-can
prices_by-requires-clause-can g c = rw c.deref.ensures (prices_can _ _ _ c.requires.told.1)

pub unreachable-requires : goal.unreachable-requires
unreachable-requires g c =
    no_price_fault g.F.Fn _ _ _ _ (rw c.deref.ensures at c.in_ok-prices.ensures)
    (rw c.in_ok-clone.ensures.cases at c.in_default.ensures.refused)

pub returns : goal.returns
returns g c = λ ps told.
    is_sheet g.F.Fn _ _ _ _ _ _ told (rw c.deref.ensures at c.in_ok-prices.ensures)
    (c.in_ok-new.ensures.ok ∙ (rw c.in_ok-clone.ensures.cases at c.in-Ok.ensures.made))

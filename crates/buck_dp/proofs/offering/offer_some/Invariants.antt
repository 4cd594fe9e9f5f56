use Rattle.buck_dp.proofs.Words.{ℕ, List, GroundParts, AreOffered, AreChosen}
use Rattle.buck_dp.proofs.offering.offer_some.Given as goal

abbrev pub invariant-loop-cell : goal.invariant-loop-cell
invariant-loop-cell l =
    (p : GroundParts) (ch : List ℕ) (first stop : ℕ) → AreOffered p ch l.top first stop l.row 0 l.fn.values
    → AreChosen p l.top first stop l.lengths.start l.lengths.«end» l.room l.row
    → AreOffered p ch l.top first stop l.row l.cell-index l.values

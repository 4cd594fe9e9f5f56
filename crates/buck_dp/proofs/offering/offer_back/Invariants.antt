use Rattle.buck_dp.proofs.Words.{ℕ, List, GroundParts, AllFit, AreOffered, BidParts, ◌+◌, ◌++◌, ◌≤◌, length}
use Rattle.buck_dp.proofs.offering.offer_back.Given as goal

abbrev pub invariant-loop-cell : goal.invariant-loop-cell
invariant-loop-cell l =
    (p : GroundParts) (choices : List ℕ) (front : List BidParts) (first : ℕ) → first ≤ length front
    → AllFit p l.far (length front + l.far) l.row
    → AreOffered p choices (length front + l.far) first (length front + l.far) l.row 0 (front ++ l.fn.values)
    → AreOffered p choices (length front + l.far) first (length front + l.far) l.row l.cell-index (front ++ l.values)

use Rattle.buck_book_postings.proofs.Words.{◌≡◌, ℕ, ◌*◌, ◌≤◌, take, min, sum_by, zip}
use Rattle.buck_book_postings.proofs.degree.shared.Given as goal

abbrev pub invariant-loop-i : goal.invariant-loop-i
invariant-loop-i l = record {
  all : l.all ≡ sum_by (λ (p : ℕ × ℕ). min (p.0 * l.cut) (p.1 * l.wanted)) (take l.i (zip l.targets l.counts));
  low : l.all ≤ l.i * (4294967296 * 4398046511104);
}

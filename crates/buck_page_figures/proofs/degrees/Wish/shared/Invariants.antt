use Rattle.std.proofs.Common.{◌≡◌, ℕ, ◌*◌, ◌≤◌, take, min}
use Rattle.std.specs.Prelude.{sum_by}
use Rattle.std.specs.List.{zip}
use Rattle.buck_page_figures.proofs.degrees.Wish.shared.Given as goal

abbrev pub invariant-loop-i : goal.invariant-loop-i
invariant-loop-i l = record {
  all : l.all ≡ sum_by (λ (p : ℕ × ℕ). min (p.0 * l.cut) (p.1 * l.wanted)) (take l.i (zip l.self.targets.now l.self.counts.now));
  low : l.all ≤ l.i * (4294967296 * 4398046511104);
}

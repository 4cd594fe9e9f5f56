use Rattle.buck_fleet.proofs.Words.{◌≡◌, ◌≤◌, ◌<◌, ◌-◌, ℕ, [], slice_index_or, replies_from, lists_of}
use Rattle.buck_fleet.proofs.close.Closed.fault.Given as goal

abbrev pub invariant-loop-i : goal.invariant-loop-i
invariant-loop-i l = (h : ℕ) → 0 < h → h ≤ l.i
    → slice_index_or (lists_of l.self-inside.kept.items) (h - 1) [] ≡ replies_from h 0 l.self-inside.parts.postings

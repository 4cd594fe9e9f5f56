-- The sheets that a book shows.
use Rattle.buck_fleet_world.proofs.Words.{◌≡◌, ℕ, ◌+◌, ◌<◌, ◌≤◌, List, [], length, map, get_or, sym, ap, ◌∙◌, arith, length-map, get_or-map, SheetParts, sheet_of, HistoryParts, IsLawful, version_of, sheet_at, sheets_from}
use Rattle.buck_fleet_world.proofs.Words.{length-sheets_from, get_or-sheets_from}

module _ {X : Type 0} (value : X → SheetParts) (xs : List X) (h : HistoryParts)
    (is : map value xs ≡ sheets_from 0 h.instruction h.sheets) where
  -- as many are shown as the history has
  pub shown_number : length xs ≡ length h.sheets
  shown_number = sym (length-map xs value) ∙ ap length is ∙ length-sheets_from 0 h.instruction h.sheets

  -- each version up to the one in force is shown
  pub shown_within : IsLawful h → (v : ℕ) → v ≤ version_of h → v < length xs
  shown_within l v low = let n = shown_number in let m = l.sheets_number in omega arith

  pub shown_is : (v : ℕ) (x : X) → v < length xs → x ≡ get_or xs v x → value x ≡ sheet_at h.instruction h.sheets v
  shown_is v x low at =
      let zero_more : 0 + v ≡ v = omega arith in
      ap value at
      ∙ sym (get_or-map value xs v x (value x) low)
      ∙ ap (λ (ys : List SheetParts). get_or ys v (value x)) is
      ∙ get_or-sheets_from 0 h.instruction h.sheets v (value x) (omega (arith, shown_number))
      ∙ ap (λ (k : ℕ). sheet_of k h.instruction (get_or h.sheets v [])) zero_more

-- Prices that are tuned.
use Rattle.std.proofs.Common.{◌≡◌, ◌∙◌, ℕ, ◌+◌, ◌<◌, ◌≤◌, List, [], Some, length, map, get_or, sym, ap, arith}
use Rattle.std.specs.Prelude.{slice_get, slice_index}
use Rattle.std.proofs.lemmas.List.{get_or-map, length-map}
use Rattle.buck_apt_instruction.specs.Instruction.{InstructionParts, IsInstruction}
use Rattle.buck_value.specs.Sheet.{SheetParts, base_prices, sheet_of}
use Rattle.buck_value.proofs.Prices.{base_price-le}
use Rattle.buck_book_postings.specs.declared.posting.Posting.{Posting}
use Rattle.buck_book_postings.specs.Book.{sheets_from}
use Rattle.buck_book_postings.specs.History.{HistoryParts, IsLawful, sheet_at, version_of}
use Rattle.buck_book_postings.specs.Posting.{planned_version}
use Rattle.buck_book_postings.proofs.Ends.{ends_take-le}
use Rattle.buck_book_postings.proofs.Sheets.{get_or-sheets_from, length-sheets_from}

module _ {X : Type 0} (value : X → SheetParts) (xs : List X) (h : HistoryParts)
    (is : map value xs ≡ sheets_from 0 h.instruction h.sheets) where
  -- as many are shown as the history has
  shown_number : length xs ≡ length h.sheets
  shown_number = sym (length-map xs value) ∙ ap length is ∙ length-sheets_from 0 h.instruction h.sheets

  -- each version up to the one in force is shown
  pub shown_within : IsLawful h → (v : ℕ) → v ≤ version_of h → v < length xs
  shown_within l v low = let n = shown_number in let m = l.sheets_number in omega arith

  pub shown_is : (v : ℕ) (x : X) → v < length xs → x ≡ get_or xs v x → value x ≡ sheet_at h.instruction h.sheets v
  shown_is v x low at =
      let zero_more : 0 + v ≡ v = omega arith in
      ap value at
      ∙ sym (get_or-map value xs v x (value x) low)
      ∙ ap (λ (ys : List SheetParts). get_or ys v (value x)) is
      ∙ get_or-sheets_from 0 h.instruction h.sheets v (value x) (omega (arith, shown_number))
      ∙ ap (λ (k : ℕ). sheet_of k h.instruction (get_or h.sheets v [])) zero_more

-- that of each posting is
pub version_shown : (h : HistoryParts) (k : ℕ) (x : Posting) → IsLawful h → slice_get h.postings k ≡ Some x
    → planned_version x ≤ version_of h
version_shown h k x lawful at =
    omega (arith, (lawful.postings_follow k x at).version_in_force, ends_take-le h.instruction h.postings k)

pub base_low : (i : InstructionParts) (at : ℕ) → IsInstruction i → slice_index (base_prices i) at ≤ 10000000
base_low i at valid = base_price-le i at valid

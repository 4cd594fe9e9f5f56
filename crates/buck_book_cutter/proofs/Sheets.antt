-- The sheet of a planner, and the one in force.
use Rattle.std.proofs.Common.{◌≡◌, refl, sym, ap, ◌∙◌, subst, arith}
use Rattle.buck_value.specs.Sheet.{SheetParts}
use Rattle.buck_book_postings.specs.History.{HistoryParts, IsLawful, in_force, sheet_at, version_of}
use Rattle.buck_book_cutter.specs.inner.Planned.{IsSheetOf}

-- of the version in force it is the sheet in force
pub is_in_force : (h : HistoryParts) (s : SheetParts) → IsSheetOf h s → s.version ≡ version_of h → s ≡ in_force h
is_in_force h s k e = k.is ∙ ap (λ v. sheet_at h.instruction h.sheets v) e

pub in_force_is : (h : HistoryParts) (s : SheetParts) → IsLawful h → s ≡ in_force h → IsSheetOf h s
in_force_is h s lawful e =
    subst (λ t. IsSheetOf h t) (sym e) (record { there = omega (arith, lawful.sheets_number); is = refl })

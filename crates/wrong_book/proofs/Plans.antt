-- What the first of the best isn't.
use Rattle.std.proofs.Common.{◌≡◌, ◌<◌, List, [], ◌∷◌, Option, None, Some, refl, subst, arith, rules}
use Rattle.buck_apt_instruction.specs.Instruction.{InstructionParts}
use Rattle.buck_book_postings.specs.declared.posting.Posting.{Posting}
use Rattle.buck_book_postings.specs.declared.posting.Posting.TheVariants.{Cut, Demand}
use Rattle.buck_book_postings.specs.Entry.{EntryParts, DemandParts}
use Rattle.buck_book_postings.specs.History.{HistoryParts, IsEnd}
use Rattle.buck_book_postings.specs.Book.{IsNext}
use Rattle.buck_stem_shape.specs.Stem.{StemParts}
use Rattle.buck_value.specs.declared.log.Log.{Log}
use Rattle.buck_value.specs.Sheet.{SheetParts}
use Rattle.buck_value.specs.Allowed.{IsAllowed, worth_of}
use Rattle.buck_dp.specs.Best.{IsFirstBest}

-- the best isn't empty if a log that is worth something is allowed
pub not_empty : (sheet : SheetParts) (stem : StemParts) (logs : List Log) (g : Log)
    → IsFirstBest sheet stem logs
    → logs ≡ []
    → IsAllowed sheet.instruction stem g
    → 0 < worth_of sheet stem g → ⊥
not_empty sheet stem logs g first same allowed dear =
    let best : IsFirstBest sheet stem [] = subst (λ x. IsFirstBest sheet stem x) same first in
    let most = best.best.none_outvalues (g ∷ []) (omega arith, allowed, tt) in omega (arith, most, dear)

-- no next sheet, if a posting is no end
pub no_sheet : (h : HistoryParts) (x : Posting) (next : Option SheetParts)
    → IsNext h x next
    → (IsEnd h.instruction h.postings x → ⊥)
    → next ≡ None
no_sheet h x None is_next no_end = refl
no_sheet h x (Some s) is_next no_end = absurd (no_end is_next.0)

-- a next sheet, if it is one
pub a_sheet : (h : HistoryParts) (x : Posting) (next : Option SheetParts)
    → IsNext h x next
    → IsEnd h.instruction h.postings x
    → next ≡ None → ⊥
a_sheet h x None is_next end none = is_next end
a_sheet h x (Some s) is_next end none = search rules

-- a cut after a demand alone is no end, if a period has two cuts
pub no_end_after_demand : (i : InstructionParts) (ps : List Posting) (d : DemandParts) (e : EntryParts)
    → i.period ≡ 2
    → ps ≡ Demand d ∷ []
    → IsEnd i ps (Cut e) → ⊥
no_end_after_demand i ps d e two same end =
    let end : IsEnd i (Demand d ∷ []) (Cut e) = subst (λ xs. IsEnd i xs (Cut e)) same end in grind arith

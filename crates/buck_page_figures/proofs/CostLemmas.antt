-- What steering cost is never below 0.
use Rattle.std.proofs.Common.{◌≡◌, ℕ, suc, ◌≤◌, List, [], ◌∷◌, length, refl, arith}
use Rattle.std.specs.Prelude.{slice_get, Some, sum_by}
use Rattle.std.proofs.lemmas.List.Sums.{sum_by-cons}
use Rattle.buck_apt_instruction.specs.Instruction.{InstructionParts}
use Rattle.buck_book_postings.specs.declared.posting.Posting.{Posting}
use Rattle.buck_book_postings.specs.declared.posting.Posting.TheVariants.{Cut, Demand}
use Rattle.buck_book_postings.specs.History.{IsLawful}
use Rattle.buck_book_journal.specs.Journal.{JournalParts, history_of}
use Rattle.buck_page_figures.specs.Figures.{IsUnsteered, AreUnsteered, at_base_in, worth_in}
use Rattle.buck_page_figures.specs.inner.Adding.{IsCuttable}
use Rattle.buck_page_figures.proofs.LawfulLemmas.{passable}

-- of one posting
one_no_better : (i : InstructionParts) (x u : Posting) → IsCuttable i x → IsUnsteered i x u
    → at_base_in i x ≤ worth_in u
one_no_better i (Cut e) (Cut u) cut is = omega (arith, is.2.best.none_outvalues e.logs cut, is.3)
one_no_better i (Demand d) (Demand u) cut is = omega arith
one_no_better i (Cut e) (Demand u) cut is = absurd is
one_no_better i (Demand d) (Cut u) cut is = absurd is

pub each_no_better : (i : InstructionParts) (j : JournalParts) (us : List Posting) → IsLawful (history_of i j)
    → AreUnsteered i j.entries us
    → (k : ℕ) (x u : Posting) → slice_get j.entries k ≡ Some x → slice_get us k ≡ Some u → at_base_in i x ≤ worth_in u
each_no_better i j us lawful unsteered k x u at at' =
    one_no_better i x u (passable i j lawful k x at).0 (unsteered.each k x u at at')

-- the sums of two lists, one of which has nowhere the greater number
pub sums_no_more : (n m : Posting → ℕ) (ps us : List Posting) → length us ≡ length ps
    → ((k : ℕ) (x u : Posting) → slice_get ps k ≡ Some x → slice_get us k ≡ Some u → n x ≤ m u)
    → sum_by n ps ≤ sum_by m us
sums_no_more n m [] us number each = omega arith
sums_no_more n m (x ∷ ps) [] number each = absurd (omega (arith, number))
sums_no_more n m (x ∷ ps) (u ∷ us) number each =
    omega (
      arith,
      sum_by-cons n x ps,
      sum_by-cons m u us,
      each 0 x u refl refl,
      sums_no_more n m ps us (omega (arith, number)) (λ k y v at at'. each (suc k) y v at at'),
    )

pub all_no_better : (i : InstructionParts) (j : JournalParts) (us : List Posting) → IsLawful (history_of i j)
    → AreUnsteered i j.entries us
    → sum_by (at_base_in i) j.entries ≤ sum_by worth_in us
all_no_better i j us lawful unsteered =
    sums_no_more (at_base_in i) worth_in j.entries us unsteered.same_number (each_no_better i j us lawful unsteered)

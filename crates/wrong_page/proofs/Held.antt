-- What one cut is worth without grades.
use Rattle.std.proofs.Common.{◌≡◌, ◌≢◌, ◌<◌, ◌≤◌, List, [], ◌∷◌, refl, sym, subst, ap, ◌∙◌, arith, eq-eqb}
use Rattle.std.specs.Prelude.{sum_by, None}
use Rattle.std.specs.BTreeMap.{get}
use Rattle.std.specs.Ordering.{nat_cmp}
use Rattle.buck_apt_instruction.specs.Grades.{grade_free}
use Rattle.buck_apt_instruction.specs.Instruction.{InstructionParts}
use Rattle.buck_dp.specs.Best.{IsAdmissible, cutting_worth}
use Rattle.buck_value.specs.declared.log.Log.{Log}
use Rattle.buck_book_postings.specs.declared.posting.Posting.{Posting}
use Rattle.buck_book_postings.specs.declared.posting.Posting.TheVariants.{Cut, Demand}
use Rattle.buck_book_postings.specs.Entry.{EntryParts}
use Rattle.buck_book_journal.specs.Journal.{JournalParts}
use Rattle.buck_page_figures.specs.Figures.{AreUnsteered, IsUnsteered, base_sheet, cuts_in, worth_in}
use Rattle.buck_page_figures.specs.Grades.{AreBestWorths, IsWorthOf}
use Rattle.buck_page_figures.specs.Journals.{postings_of}
use Rattle.buck_page_figures.specs.Owns.{own_of}
use Rattle.buck_page_figures.specs.Shown.{AreFigures}
use Rattle.buck_page_figures.specs.declared.figures.Figures.{Figures}
use Rattle.buck_page_figures.specs.declared.free.GradeFree.{GradeFree}
use Rattle.wrong_page.specs.Cuts.{IsHeldByGrades}
use Rattle.wrong_page.proofs.Postings.{one}

-- the best cutting of one stem
best_of : (i : InstructionParts) (e : EntryParts) (us : List Posting) → AreUnsteered i (Cut e ∷ []) us
    → (logs : List Log) × IsAdmissible (base_sheet i) e.stem logs
    × (sum_by worth_in us ≡ cutting_worth (base_sheet i) e.stem logs)
best_of i e [] all = absurd (omega (arith, all.same_number))
best_of i e (Demand w ∷ []) all = absurd (all.each 0 (Cut e) (Demand w) refl refl)
best_of i e (Cut w ∷ []) all =
    let is : IsUnsteered i (Cut e) (Cut w) = all.each 0 (Cut e) (Cut w) refl refl in
    (w.logs, is.2.best.admissible, omega (arith, one worth_in (Cut w), is.3))
best_of i e (u ∷ v ∷ us) all = absurd (omega (arith, all.same_number))

no_better : (i : InstructionParts) (e : EntryParts) (us : List Posting) → AreUnsteered i (Cut e ∷ []) us
    → (logs : List Log) → IsAdmissible (base_sheet i) e.stem logs
    → cutting_worth (base_sheet i) e.stem logs ≤ sum_by worth_in us
no_better i e [] all logs admissible = absurd (omega (arith, all.same_number))
no_better i e (Demand w ∷ []) all logs admissible = absurd (all.each 0 (Cut e) (Demand w) refl refl)
no_better i e (Cut w ∷ []) all logs admissible =
    let is : IsUnsteered i (Cut e) (Cut w) = all.each 0 (Cut e) (Cut w) refl refl in
    omega (arith, one worth_in (Cut w), is.3, is.2.best.none_outvalues logs admissible)
no_better i e (u ∷ v ∷ us) all logs admissible = absurd (omega (arith, all.same_number))

-- a stem that grades hold back is worth more without them
pub worth_more : (i : InstructionParts) (j : JournalParts) (js : List JournalParts) (e : EntryParts) (f : Figures)
    (g : GradeFree)
    → js ≡ j ∷ [] → j.entries ≡ Cut e ∷ [] → IsHeldByGrades i e → AreFigures i js f
    → AreBestWorths (grade_free f.instruction.now) (postings_of f.journals.now) g
    → f.total.best < g.total.worth
worth_more i j js e f g alone same held figures worths =
    let only : postings_of js ≡ Cut e ∷ [] = ap postings_of alone ∙ same in
    let with : AreUnsteered i (Cut e ∷ []) figures.without =
    subst (λ ps. AreUnsteered i ps figures.without) only figures.are_unsteered in
    let free : AreUnsteered (grade_free i) (Cut e ∷ []) worths.best =
    subst (λ ps. AreUnsteered (grade_free i) ps worths.best) only
    (subst (λ ks. AreUnsteered (grade_free i) (postings_of ks) worths.best) figures.journals
    (subst (λ k. AreUnsteered (grade_free k) (postings_of f.journals.now) worths.best) figures.instruction worths.are_best)) in
    let best = best_of i e figures.without with in
    omega (
      arith,
      figures.total.best,
      worths.total,
      best.2,
      held.more best.0 best.1,
      no_better (grade_free i) e worths.best free held.logs held.admissible,
    )

-- the harvester of a cut has its worth
own_is : (w : EntryParts) → sum_by cuts_in (own_of w.harvester (Cut w ∷ [])) ≡ 1
own_is w = rw (eq-eqb w.harvester w.harvester refl) refl

of_one : (i : InstructionParts) (e : EntryParts) (us : List Posting) → AreUnsteered i (Cut e ∷ []) us → e.harvester ≡ 1
    → sum_by cuts_in (own_of 1 us) ≡ 1
of_one i e [] all is = absurd (omega (arith, all.same_number))
of_one i e (Demand w ∷ []) all is = absurd (all.each 0 (Cut e) (Demand w) refl refl)
of_one i e (Cut w ∷ []) all is =
    let same : IsUnsteered i (Cut e) (Cut w) = all.each 0 (Cut e) (Cut w) refl refl in
    let own : w.harvester ≡ 1 = same.0 ∙ is in
    ap (λ h. sum_by cuts_in (own_of h (Cut w ∷ []))) (sym own) ∙ own_is w
of_one i e (u ∷ v ∷ us) all is = absurd (omega (arith, all.same_number))

pub harvester_there : (i : InstructionParts) (ps : List Posting) (e : EntryParts) (g : GradeFree)
    → ps ≡ Cut e ∷ [] → e.harvester ≡ 1 → AreBestWorths i ps g → get nat_cmp g.harvesters 1 ≢ None
harvester_there i ps e g only is worths none =
    let best : AreUnsteered i (Cut e ∷ []) worths.best = subst (λ xs. AreUnsteered i xs worths.best) only worths.are_best in
    let left : sum_by cuts_in (own_of 1 worths.best) ≡ 0 =
    subst (λ o. IsWorthOf 1 worths.best o) none (worths.harvesters 1) in
    omega (arith, left, of_one i e worths.best best is)

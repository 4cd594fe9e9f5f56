-- What the figures are of a few postings.
use Rattle.std.proofs.Common.{◌≡◌, ◌≢◌, ℕ, zero, suc, get_or, ◌+◌, ◌*◌, ◌<◌, ◌≤◌, ◌==◌, Bool, true, false, nat_lt, List, [], ◌∷◌, cond, drop, length, sum, take, refl, sym, subst, ap, ◌∙◌, inl, inr, arith}
use mathlib.Core.Bool.{beq, not}
use Rattle.std.specs.Prelude.{slice_get, slice_index, sum_by, Option, Some, None}
use Rattle.std.specs.Option.{is_some}
use Rattle.std.proofs.lemmas.Bool.{cases_lt, ltb-true}
use Rattle.std.proofs.lemmas.Option.{slice_get_read}
use Rattle.std.proofs.lemmas.List.Sums.{sum_by-cons}
use Rattle.buck_apt_instruction.specs.Instruction.{InstructionParts, classes, index_of}
use Rattle.buck_value.specs.Sheet.{SheetParts, price_of}
use Rattle.buck_value.specs.Allowed.{class_of}
use Rattle.buck_book_postings.specs.declared.posting.Posting.{Posting}
use Rattle.buck_book_postings.specs.declared.posting.Posting.TheVariants.{Cut, Demand}
use Rattle.buck_book_postings.specs.Entry.{EntryParts, DemandParts}
use Rattle.buck_book_postings.specs.Counts.{AreClassCounts, class_logs_in}
use Rattle.buck_book_postings.specs.Degree.{part_of}
use Rattle.buck_book_postings.specs.History.{prices_at}
use Rattle.buck_book_postings.specs.Posting.{ends_of}
use Rattle.buck_book_postings.proofs.Alone.{class_at}
use Rattle.buck_book_postings.proofs.Ends.{true_false}
use Rattle.buck_dp.specs.Best.{cutting_worth}
use Rattle.buck_book_journal.specs.Journal.{JournalParts}
use Rattle.buck_page_figures.specs.Figures.{base_sheet, as_posting, AreUnsteered, IsUnsteered, at_base_in, worth_in}
use Rattle.buck_page_figures.specs.Degrees.{AreDegreesBy}
use Rattle.buck_page_figures.specs.Journals.{entries_in, postings_of}
use Rattle.buck_page_figures.specs.Greatest.{IsFirstGreatest, lengths_of, costs_of}
use Rattle.buck_page_figures.specs.Pieces.{IsCut, IsToldAt}
use Rattle.buck_page_figures.specs.Points.{IsPoint, point_after}
use Rattle.buck_page_figures.specs.Shown.{AreFigures}
use Rattle.buck_page_figures.specs.declared.degrees.Degrees.{Degrees}
use Rattle.buck_page_figures.specs.declared.figures.Cut.{Cut as Told}
use Rattle.buck_page_figures.specs.declared.figures.Figures.{Figures}
use Rattle.buck_page_figures.specs.declared.figures.Piece.{Piece}
use Rattle.buck_page_figures.specs.declared.figures.Place.{Place}
use Rattle.buck_page_figures.specs.declared.figures.Point.{Point}
use Rattle.wrong_page.specs.Cuts.{AreAsLong, IsOffBase, IsOutvalued}

-- what a test tells
pub told_true : (b : Bool) → b ≡ true → not (beq b false) ≡ false → ⊥
told_true true is fails = true_false fails
told_true false is fails = true_false (sym is)

pub told_false : (b : Bool) → (b ≡ true → ⊥) → not (beq b true) ≡ false → ⊥
told_false true isnt fails = isnt refl
told_false false isnt fails = true_false fails

-- the journal with its postings told
abbrev pub journal_with : JournalParts → List Posting → JournalParts
journal_with j ps = record { sheets = j.sheets; entries = ps }

pub told : (i : InstructionParts) (j : JournalParts) (js : List JournalParts) (ps : List Posting) (f : Figures)
    → js ≡ j ∷ [] → j.entries ≡ ps → AreFigures i js f → AreFigures i (journal_with j ps ∷ []) f
told i j js ps f alone same figures =
    subst (λ xs. AreFigures i (journal_with j xs ∷ []) f) same (subst (λ ks. AreFigures i ks f) alone figures)

-- sums over one posting, and over two
pub one : (n : Posting → ℕ) (x : Posting) → sum_by n (x ∷ []) ≡ n x
one n x = omega (arith, sum_by-cons n x [])

pub two : (n : Posting → ℕ) (x y : Posting) → sum_by n (x ∷ y ∷ []) ≡ n x + n y
two n x y = omega (arith, sum_by-cons n x (y ∷ []), sum_by-cons n y [])

-- what was found stands there
pub found_there : {X : Type 0} (held shown : List X) (k : ℕ) (p : X) → shown ≡ held → true ≡ nat_lt k (length shown)
    → p ≡ get_or shown k p
    → slice_get held k ≡ Some p
found_there held shown k p same within is =
    rw (sym same) (slice_get_read shown (length shown) k p refl (ltb-true _ _ (sym within)) is)

-- what a point says
pub point_is : (i : InstructionParts) (j : JournalParts) (ps : List Posting) (f : Figures) (k before at : ℕ) (p : Point)
    → (figures : AreFigures i (journal_with j ps ∷ []) f) → slice_get f.points.items k ≡ Some p
    → point_after (length ps) k ≡ before → point_after (length ps) (k + 1) ≡ at
    → IsPoint i (journal_with j ps ∷ []) figures.without before at p
point_is i j ps f k before at p figures there is_before is_at =
    subst (λ b. IsPoint i (journal_with j ps ∷ []) figures.without b at p) is_before
    (subst (λ a. IsPoint i (journal_with j ps ∷ []) figures.without (point_after (length ps) k) a p) is_at (figures.points.each k p there))

pub version_is : (i : InstructionParts) (j : JournalParts) (us : List Posting) (before at : ℕ) (p : Point)
    → IsPoint i (j ∷ []) us before at p → p.version ≡ ends_of i (take at j.entries)
version_is i j us before at p is =
    let first : p.journal ≡ 0 = omega (arith, is.stands.0) in
    let none : 0 + is.here ≡ at = subst (λ k. length (postings_of (take k (j ∷ []))) + is.here ≡ at) first is.stands.2 in
    let here : is.here ≡ at = omega (arith, none) in
    is.version ∙ ap (λ k. ends_of i (take is.here (entries_in (slice_get (j ∷ []) k)))) first
    ∙ ap (λ n. ends_of i (take n j.entries)) here

-- the best cutting of the one stem that was cut is worth no less than another one
best_of_one : (i : InstructionParts) (d : DemandParts) (e : EntryParts) (us : List Posting) → IsOutvalued i e
    → AreUnsteered i (Demand d ∷ Cut e ∷ []) us → cutting_worth (base_sheet i) e.stem e.logs < sum_by worth_in us
best_of_one i d e [] out all = absurd (omega (arith, all.same_number))
best_of_one i d e (u ∷ []) out all = absurd (omega (arith, all.same_number))
best_of_one i d e (u ∷ Demand w ∷ []) out all = absurd (all.each 1 (Cut e) (Demand w) refl refl)
best_of_one i d e (u ∷ Cut w ∷ []) out all =
    let is : IsUnsteered i (Cut e) (Cut w) = all.each 1 (Cut e) (Cut w) refl refl in
    omega (arith, out.more, is.2.best.none_outvalues out.logs out.admissible, is.3, two worth_in u (Cut w))
best_of_one i d e (u ∷ v ∷ w ∷ us) out all = absurd (omega (arith, all.same_number))

pub outvalued : (i : InstructionParts) (j : JournalParts) (d : DemandParts) (e : EntryParts) (f : Figures)
    → IsOutvalued i e
    → AreFigures i (journal_with j (Demand d ∷ Cut e ∷ []) ∷ []) f → f.total.at_base < f.total.best
outvalued i j d e f out figures =
    omega (
      arith,
      figures.total.at_base,
      figures.total.best,
      two (at_base_in i) (Demand d) (Cut e),
      best_of_one i d e figures.without out figures.are_unsteered,
    )

-- before anything was cut there is no degree
none_at : (i : InstructionParts) (d : DemandParts) (counts : List ℕ) → AreClassCounts i (Demand d ∷ []) counts → (q : ℕ)
    → slice_index counts q ≡ 0
none_at i d counts are q = elim (cases_lt q (classes i)) [
  | inl lt ↦
      let c = class_at i q lt in
      ap (λ k. slice_index counts k) (sym c.place) ∙ are.each c.class c.is_class
      ∙ one (λ x. class_logs_in i c.class x) (Demand d)
  | inr le ↦ past counts q (omega (arith, le, are.one_each))
]
  where
    past : (ns : List ℕ) (k : ℕ) → length ns ≤ k → slice_index ns k ≡ 0
    past [] k le = refl
    past (n ∷ ns) zero le = absurd (omega (arith, le))
    past (n ∷ ns) (suc k) le = past ns k (omega (arith, le))

nothing_of : (n : ℕ) → sum (take n []) ≡ 0
nothing_of zero = refl
nothing_of (suc n) = refl

nothing : (n m : ℕ) (ns : List ℕ) → ((q : ℕ) → slice_index ns q ≡ 0) → sum (take n (drop m ns)) ≡ 0
nothing zero zero ns none = refl
nothing (suc n) zero [] none = refl
nothing (suc n) zero (x ∷ ns) none =
    omega (arith, none 0, sum_by-cons (λ k. k) x (take n ns), nothing n zero ns (λ q. none (suc q)))
nothing n (suc m) [] none = nothing_of n
nothing n (suc m) (x ∷ ns) none = nothing n m ns (λ q. none (suc q))

zero_whole : (wanted cut : ℕ) (degree : Option ℕ) → cut ≡ 0 → cond (wanted * cut == 0) None degree ≡ None
zero_whole wanted cut degree is =
    let zero : wanted * 0 ≡ 0 = omega arith in
    ap (λ k. cond (k == 0) None degree) (ap (λ k. wanted * k) is ∙ zero)

pub no_degree : (i : InstructionParts) (d : DemandParts) (targets counts : List ℕ) (at : ℕ) (degrees : Degrees)
    → AreClassCounts i (Demand d ∷ []) counts
    → AreDegreesBy i targets counts at degrees → degrees.whole ≡ None
no_degree i d targets counts at degrees are is =
    let none : sum (part_of i is.assortment at counts) ≡ 0 = nothing _ _ counts (none_at i d counts are) in
    is.degrees.whole
    ∙ zero_whole (sum (part_of i is.assortment at targets)) (sum (part_of i is.assortment at counts)) _ none

abbrev pub whole_of : Degrees → Option ℕ
whole_of d = d.whole

pub none_first : (degrees : List Degrees) → ((d : Degrees) → slice_get degrees 0 ≡ Some d → d.whole ≡ None)
    → whole_of (get_or degrees 0 (record { whole = None; diameter = None; length = None })) ≡ None
none_first [] none = refl
none_first (d ∷ degrees) none = none d refl

-- of two stems of one length the last isn't the longest
pub not_last : (i : InstructionParts) (j : JournalParts) (js : List JournalParts) (f : Figures) (two : AreAsLong j.entries)
    (at : ℕ)
    → js ≡ j ∷ [] → AreFigures i js f
    → f.longest ≡ Some at → at ≡ 1 → ⊥
not_last i j js f two at alone figures is last =
    let a = two.cuts.first in
    let b = two.cuts.second in
    let told : AreFigures i (journal_with j (Cut a ∷ Cut b ∷ []) ∷ []) f = told i j js _ f alone two.cuts.are figures in
    let greatest : IsFirstGreatest (lengths_of (Cut a ∷ Cut b ∷ [])) (Some 1) =
    subst (λ k. IsFirstGreatest (lengths_of (Cut a ∷ Cut b ∷ [])) (Some k)) last
    (subst (λ o. IsFirstGreatest (lengths_of (Cut a ∷ Cut b ∷ [])) o) is told.longest) in
    omega (arith, greatest.2 0 (omega arith), two.same)

-- if nothing was cut, steering cost nothing
no_cost : (i : InstructionParts) (d : DemandParts) (us : List Posting) → AreUnsteered i (Demand d ∷ []) us → (k : ℕ)
    → slice_index (costs_of i (Demand d ∷ []) us) k ≡ 0
no_cost i d [] all k = refl
no_cost i d (Cut w ∷ us) all k = absurd (all.each 0 (Demand d) (Cut w) refl refl)
no_cost i d (Demand w ∷ us) all zero = refl
no_cost i d (Demand w ∷ us) all (suc k) = refl

none_greatest : (ns : List ℕ) (at : Option ℕ) → ((k : ℕ) → slice_index ns k ≡ 0) → IsFirstGreatest ns at
    → is_some at ≡ true → ⊥
none_greatest ns None none first there = true_false (sym there)
none_greatest ns (Some at) none first there = omega (arith, none at, first.0)

pub no_dearest : (i : InstructionParts) (j : JournalParts) (js : List JournalParts) (d : DemandParts) (f : Figures)
    → js ≡ j ∷ [] → j.entries ≡ Demand d ∷ [] → AreFigures i js f → is_some f.dearest ≡ true → ⊥
no_dearest i j js d f alone only figures =
    let told : AreFigures i (journal_with j (Demand d ∷ []) ∷ []) f = told i j js _ f alone only figures in
    none_greatest _ f.dearest (no_cost i d told.without told.are_unsteered) told.dearest

-- the cut that stands behind a demand
abbrev entry_in : EntryParts → Option Posting → EntryParts
entry_in e None = e
entry_in e (Some (Cut f)) = f
entry_in e (Some (Demand d)) = e

pub is_entry : (ps : List Posting) (d : DemandParts) (e f : EntryParts) → ps ≡ Demand d ∷ Cut e ∷ []
    → slice_get ps 1 ≡ Some (as_posting f) → f ≡ e
is_entry ps d e f same there = ap (entry_in f) (sym there ∙ ap (λ qs. slice_get qs 1) same)

-- a cut that stands first is returned
pub told_there : (base : SheetParts) (j : JournalParts) (js : List JournalParts) (e : EntryParts) (o : Option Told)
    → js ≡ j ∷ [] → j.entries ≡ Cut e ∷ [] → IsToldAt base js (record { journal = 0; at = 0 }) o → is_some o ≡ true
told_there base j js e None alone only is =
    let first : Place = record { journal = 0; at = 0 } in
    let none : IsToldAt base (j ∷ []) first None = subst (λ ks. IsToldAt base ks first None) alone is in
    absurd (none e (ap (λ ps. slice_get ps 0) only))
told_there base j js e (Some cut) alone only is = refl

-- a log's price that was off its base
pub off_base : (i : InstructionParts) (sheets : List (List ℕ)) (e : EntryParts) (c : Told) (p : Piece)
    → IsOffBase i sheets e
    → IsCut (base_sheet i) (prices_at sheets e.version) e c → slice_get c.pieces.items 0 ≡ Some p
    → p.price ≢ p.base_price
off_base i sheets e c p off cut there same =
    let is = cut.pieces.each 0 off.log p (ap (λ gs. slice_get gs 0) off.only) there in
    let place : p.index ≡ index_of i (class_of i e.stem off.log) = is.index ∙ ap (λ k. index_of i k) is.class in
    off.off (sym (ap (λ k. slice_index (prices_at sheets e.version) k) place) ∙ sym is.price ∙ same ∙ is.base_price
    ∙ ap (λ k. price_of (base_sheet i) k) is.class)

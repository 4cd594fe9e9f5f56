-- Lists that are cut without a journal, and what that is worth.
use Rattle.std.proofs.Common.{◌≡◌, ℕ, ◌+◌, ◌*◌, ◌<◌, ◌≤◌, List, [], ◌∷◌, ◌++◌, length, take, get_or, sum, sum_by, Option, Some, Result, Ok, Err, IfOk, refl, sym, ap, subst, ◌∙◌, arith}
use Rattle.std.specs.Prelude.{slice_get}
use Rattle.std.specs.List.{AllZip}
use Rattle.std.specs.declared.sync.Arc.{Arc}
use Rattle.std.specs.declared.vec.Vec.{Vec}
use Rattle.std.specs.declared.alloc.Global.{Global}
use Rattle.std.proofs.lemmas.List.Sums.{sum_by_more, sum_by_push}
use Rattle.buck_apt_instruction.specs.Instruction.{InstructionParts}
use Rattle.buck_stem_shape.specs.declared.stem.Stem.{Stem}
use Rattle.buck_stem_shape.specs.Stem.{StemParts}
use Rattle.buck_value.specs.declared.log.Log.{Log}
use Rattle.buck_value.specs.Sheet.{SheetParts}
use Rattle.buck_dp.specs.Best.{IsFirstBest, cutting_worth}
use Rattle.buck_rule.specs.declared.named.NamedRule.{NamedRule}
use Rattle.buck_rule.specs.GivenBy.{GivesBy}
use Rattle.buck_book_postings.specs.declared.posting.Posting.{Posting}
use Rattle.buck_book_postings.specs.declared.posting.Posting.TheVariants.{Cut, Demand}
use Rattle.buck_book_postings.specs.Book.{BookParts, IsBook}
use Rattle.buck_book_postings.specs.History.{HistoryParts, IsLawful}
use Rattle.buck_book_postings.specs.Pricing.{AreSheetsBy, Calls}
use Rattle.buck_page_figures.specs.Figures.{base_sheet}
use Rattle.buck_fleet_round_robin.specs.Turn.{HasCutInTurn}
use Rattle.buckfleet_engine_files.specs.declared.fault.EngineFault.{EngineFault}
use Rattle.buckfleet_engine_files.proofs.Ruled.{follows_rule}
use Rattle.buckfleet_trial_sweep.specs.Runs.{HasCut}
use Rattle.buckfleet_trial_sweep.specs.Table.{IsLeast}
use Rattle.buckfleet_trial_sweep.proofs.Lesser.{least_more}
use Rattle.buckfleet_trial.specs.Light.{AreDrawn, AreOrdered, HasCutOf, IsBestWorth, lesser}
use Rattle.buckfleet_trial.specs.inner.Worth.{IsCutUnder}
use Rattle.buckfleet_trial.proofs.Each.{one_taken, zip_taken}

-- what a book has is what was cut
pub cut_is : {F : Type 0} (g : Calls F) (f : F) (rule : NamedRule) (lists : List (Vec (Arc Stem Global) Global))
    (b : BookParts F) (h : HistoryParts) → h ≡ b.history → IsBook b → HasCutInTurn lists b.history
    → GivesBy g f rule → AreSheetsBy g f b.history → HasCut rule lists h
cut_is g f rule lists b h same book cut gives by =
    subst (λ (x : HistoryParts). HasCut rule lists x) (sym same)
    (record {
      lawful = book.lawful;
      few = omega (arith, book.within, book.capacity_range);
      firsts = book.firsts;
      cut = cut;
      by_rule = follows_rule g f rule b.history gives book.lawful by;
    })

-- what is cut in the order of a draw
pub cut_drawn : (rule : NamedRule) (i : InstructionParts)
    (lists slice ordered other : List (Vec (Arc Stem Global) Global)) (start : ℕ) (order : Option ℕ)
    (r : Result HistoryParts EngineFault) → order ≡ Some start → slice ≡ lists
    → AreDrawn start slice ordered → other ≡ ordered → IfOk r (λ h. h.instruction ≡ i) → IfOk r (HasCut rule other)
    → IfOk r (HasCutOf rule i lists order)
cut_drawn rule i lists slice ordered other start order (Err e) is same drawn shown own cut = tt
cut_drawn rule i lists slice ordered other start order (Ok h) is same drawn shown own cut = record {
  ordered = ordered;
  are_ordered =
      subst (λ (o : Option ℕ). AreOrdered o lists ordered) (sym is)
      (subst (λ (l : List (Vec (Arc Stem Global) Global)). AreDrawn start l ordered) same drawn);
  instruction = own;
  has_cut = subst (λ (l : List (Vec (Arc Stem Global) Global)). HasCut rule l h) shown cut;
}

-- a posting of a lawful history may be cut at base prices
pub lawful_under : (h : HistoryParts) (base : SheetParts) (k : ℕ) (x : Posting) → IsLawful h
    → base ≡ base_sheet h.instruction → slice_get h.postings k ≡ Some x → IsCutUnder base x
lawful_under h base k (Cut e) lawful same there =
    subst (λ (s : SheetParts). IsCutUnder s (Cut e)) (sym same)
    (lawful.postings_follow k (Cut e) there).holds.0.admissible
lawful_under h base k (Demand d) lawful same there = tt

-- the least of one more
pub least_taken : (ds : List (Option ℕ)) (k : ℕ) (d least r : Option ℕ) → k < length ds → d ≡ get_or ds k d
    → r ≡ lesser least d → IsLeast (take k ds) least → IsLeast (take (k + 1) ds) r
least_taken ds k d least r lt there is so_far =
    subst (λ (o : Option ℕ). IsLeast (take (k + 1) ds) o) (sym is)
    (subst (λ (xs : List (Option ℕ)). IsLeast xs (lesser least d)) (sym (one_taken ds k d lt there))
    (least_more (take k ds) least d so_far))

-- numbers of items, one for each, together
abbrev pub SumTo : {X : Type 0} → (X → ℕ → Type 0) → List X → ℕ → Type 0
SumTo R xs n = (ns : List ℕ) × AllZip R xs ns × (n ≡ sum ns)

pub sum_taken : {X : Type 0} (R : X → ℕ → Type 0) (xs : List X) (k : ℕ) (x : X) (n m new : ℕ) → k < length xs
    → x ≡ get_or xs k x → SumTo R (take k xs) n → R x m → new ≡ n + m → SumTo R (take (k + 1) xs) new
sum_taken R xs k x n m new lt there (ns, each, is) one e = (
  ns ++ m ∷ [],
  zip_taken R xs k x ns (ns ++ m ∷ []) m lt there each one refl,
  e ∙ ap (λ (a : ℕ). a + m) is ∙ sym (sum_by_push (λ x. x) ns m),
)

-- the best cutting of a stem under a sheet, by other names of both
pub best_at : (p q : SheetParts) (s t : StemParts) (logs : List Log) (w : ℕ) → p ≡ q → s ≡ t → IsFirstBest p s logs
    → w ≡ cutting_worth p s logs → IsBestWorth q t w
best_at p q s t logs w sheet stem first worth =
    subst (λ (x : SheetParts). IsBestWorth x t w) sheet
    (subst (λ (x : StemParts). IsBestWorth p x w) stem (logs, first, worth))

-- the best cuttings of one list more are worth no more than they may be
pub list_low : (lists : List (Vec (Arc Stem Global) Global)) (k : ℕ) (list : Vec (Arc Stem Global) Global)
    (slice : List (Arc Stem Global)) (n w : ℕ) → k < length lists → list ≡ get_or lists k list → slice ≡ list.items
    → n ≤ sum_by (λ l. length l.items) (take k lists) * 2800000000000000 → w ≤ length slice * 2800000000000000
    → n + w ≤ sum_by (λ l. length l.items) (take (k + 1) lists) * 2800000000000000
list_low lists k list slice n w lt there same so_far low =
    let next = sum_by_more (λ (l : Vec (Arc Stem Global) Global). length l.items) lists k list lt in
    let is : length (get_or lists k list).items ≡ length list.items =
    ap (λ (l : Vec (Arc Stem Global) Global). length l.items) (sym there) in
    let long : length slice ≡ length list.items = ap (λ (l : List (Arc Stem Global)). length l) same in
    omega (arith, next, is, long, so_far, low)

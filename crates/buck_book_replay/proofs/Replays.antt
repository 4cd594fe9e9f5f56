-- What a walk through a history shows of its order, and that a history is lawful if each posting may follow and each
-- sheet is right.
use Rattle.buck_book_replay.proofs.Words.{◌≡◌, ◌≢◌, ℕ, ◌+◌, ◌<◌, ◌≤◌, inl, inr, List, [], ◌∷◌, ◌++◌, length, take, slice_get, Some, refl, sym, ◌∙◌, ap, subst, arith, rules, cases_eq, take_all}
use Rattle.buck_book_replay.proofs.Words.{slice_get_within, slice_get_cases, same_Some, InstructionParts, IsInstruction, SheetParts, SheetFault, Posting, planned_version, ends_of, cuts_since_end, HistoryParts, IsLawful}
use Rattle.buck_book_replay.proofs.Words.{PricesMeet, prices_at, sheet_at, Result, Ok, Err, None, IfOk, IfErr, OnOk, WalkParts, walk_of, ReplayFault, Memory, take_one_more, ends_with_end, cuts_with_end}
use Rattle.buck_book_replay.proofs.Words.{ends_without, no_fault, base_alone, meets_to_alone, Begins, IsSheetRight, IsFaultAt, IsFaultAtEnd, IsRightBefore, along, sheet_then, IsRightUnder}
use Rattle.buck_book_replay.proofs.Words.{IsPassed, IsInOrderBefore, IsEndRight, IsOrdered}
use Rattle.buck_value.specs.Sheet as sheet
use Rattle.buck_book_journal.proofs.Periods.{in_span}
use Rattle.std.proofs.Common.{below_more}

-- prices that keep the price relation somewhere make a sheet
pub is_sheet : (i : InstructionParts) (ps : List Posting) (prices : List ℕ) (fault : SheetFault) → IsInstruction i
    → PricesMeet i ps prices → sheet.IsSheetFault i prices fault → ⊥
is_sheet i ps prices fault v m wrong = no_fault i prices fault m.one_each (in_span i ps prices m) wrong

-- if no period begins after a posting, the version stays
version_stays : (i : InstructionParts) (ps : List Posting) (k : ℕ) (x : Posting) → slice_get ps k ≡ Some x
    → cuts_since_end i (take (k + 1) ps) ≢ 0
    → ends_of i (take (k + 1) ps) ≡ ends_of i (take k ps)
version_stays i ps k x at goes_on =
    let longer : take (k + 1) ps ≡ take k ps ++ x ∷ [] = take_one_more ps k x at in
    grind (arith, cuts_with_end, ends_without)

-- what holds of each posting before a place, and of the one there, holds of each before the next place
pub one_more : (ps : List Posting) (P : ℕ → Posting → Type 0) (k : ℕ) (x : Posting) → slice_get ps k ≡ Some x
    → ((j : ℕ) (y : Posting) → j < k → slice_get ps j ≡ Some y → P j y) → P k x
    → (j : ℕ) (y : Posting) → j < k + 1 → slice_get ps j ≡ Some y → P j y
one_more ps P k x at before here j y lt there = elim (cases_eq j k) [
  | inl same ↦
      let one : x ≡ y = same_Some x y (sym at ∙ ap (λ n. slice_get ps n) (sym same) ∙ there) in
      subst (λ n. P n y) (sym same) (subst (P k) one here)
  | inr other ↦ before j y (omega arith) there
]

-- the next posting was passed
one_passed : (h : HistoryParts) (k : ℕ) (x : Posting) → slice_get h.postings k ≡ Some x → IsInOrderBefore h k
    → IsPassed h k x → IsInOrderBefore h (k + 1)
one_passed h k x at before p =
    let Right : ℕ → ℕ → Posting → Type 0 =
    λ v j y. IsRightUnder (sheet_at h.instruction h.sheets v) (take j h.postings) y in
    record {
      sheets = below_more (λ j. Begins h j → IsSheetRight h j) k before.sheets p.sheet;
      postings = one_more h.postings (λ j y. Right (planned_version y) j y) k x at before.postings
          (subst (λ v. Right v k x) (sym p.posting.of_version) p.posting);
    }

-- and the sheet stays, if no period begins behind it
sheet_stays : (h : HistoryParts) (k : ℕ) (x : Posting) (s : SheetParts) → slice_get h.postings k ≡ Some x
    → s ≡ sheet_then h k → (Begins h (k + 1) → ⊥) → s ≡ sheet_then h (k + 1)
sheet_stays h k x s at is goes_on = search (rules, version_stays)

at_end : {X : Type 0} (xs : List X) (k : ℕ) → k ≤ length xs → None ≡ slice_get xs k → k ≡ length xs
at_end xs k le none = grind (arith, slice_get_cases)

-- the walk through a history, one further
module _ (h : HistoryParts) (w : WalkParts) (same : w ≡ walk_of h.instruction h.postings w.at) where
  pub along_is : along w h.sheets ≡ h
  along_is = ap (λ (v : WalkParts). along v h.sheets) same

  pub walk_on : (w' : WalkParts) (x : Posting) (s : SheetParts) → Some x ≡ slice_get w.postings w.at
      → IsInOrderBefore (along w h.sheets) w.at
      → IsPassed (along w h.sheets) w.at x
      → w' ≡ walk_of w.instruction w.postings (w.at + 1)
      → s ≡ sheet_then (along w h.sheets) w.at
      → (w' ≡ walk_of h.instruction h.postings w'.at)
      × IsInOrderBefore (along w' h.sheets) w'.at
      × ((Begins (along w' h.sheets) w'.at → ⊥) → s ≡ sheet_then (along w' h.sheets) w'.at)
  walk_on w' x s there before passed further is =
      subst (λ (v : WalkParts). (v ≡ walk_of h.instruction h.postings v.at)
      × IsInOrderBefore (along v h.sheets) v.at
      × ((Begins (along v h.sheets) v.at → ⊥) → s ≡ sheet_then (along v h.sheets) v.at)) (sym further) (
        cc,
        one_passed (along w h.sheets) w.at x (sym there) before passed,
        search (rules, sheet_stays),
      )

-- what comes of a walk: something is wrong at a posting, or else behind the last
stopped_at : (h : HistoryParts) (k : ℕ) (x : Posting) (fault : ReplayFault) → Some x ≡ slice_get h.postings k
    → IsInOrderBefore h k
    → IsFaultAt h k x fault
    → IsOrdered h k (Err fault)
stopped_at h k x fault there before wrong =
    record { right = before; ended = tt; stopped = inl (x, sym there, wrong) }

ended_at : (h : HistoryParts) (k : ℕ) (outcome : Result (Unit {0}) ReplayFault) → k ≤ length h.postings
    → None ≡ slice_get h.postings k
    → IsInOrderBefore h k
    → OnOk outcome (IsEndRight h k)
    → IfErr outcome (IsFaultAtEnd h k)
    → IsOrdered h k outcome
ended_at h k (Ok w) le none before right wrong =
    record { right = before; ended = (at_end h.postings k le none, right); stopped = tt }
ended_at h k (Err e) le none before right wrong =
    record { right = before; ended = tt; stopped = inr (at_end h.postings k le none, wrong) }

-- what comes of a walk through a history
module _ (h : HistoryParts) (w : WalkParts) (same : w ≡ walk_of h.instruction h.postings w.at)
    (before : IsInOrderBefore (along w h.sheets) w.at) where
  pub stopped_on : (x : Posting) (fault : ReplayFault) → Some x ≡ slice_get w.postings w.at
      → (fault ≢ Memory → IsFaultAt (along w h.sheets) w.at x fault) → fault ≢ Memory → IsOrdered h w.at (Err fault)
  stopped_on x fault there wrong told =
      subst (λ k. IsOrdered k w.at (Err fault)) (along_is h w same)
      (stopped_at (along w h.sheets) w.at x fault there before (wrong told))

  pub ended_on : (outcome : Result (Unit {0}) ReplayFault) → w.at ≤ length w.postings → None ≡ slice_get w.postings w.at
      → OnOk outcome (IsEndRight (along w h.sheets) w.at) → IfErr outcome (IsFaultAtEnd (along w h.sheets) w.at)
      → IsOrdered h w.at outcome
  ended_on outcome le none right wrong =
      subst (λ k. IsOrdered k w.at outcome) (along_is h w same)
      (ended_at (along w h.sheets) w.at outcome le none before right wrong)

-- what is known of what came of a walk
pub ok_then : {X E : Type 0} (P Q : X → Type 0) (r : Result X E) → IfOk r P → ((x : X) → P x → Q x) → IfOk r Q
ok_then P Q (Ok x) known more = more x known
ok_then P Q (Err e) known more = tt

-- it has come no further than to the end
pub ordered_within : (h : HistoryParts) (k : ℕ) (outcome : Result (Unit {0}) ReplayFault) → IsOrdered h k outcome
    → k ≤ length h.postings
ordered_within h k (Ok w) o = omega (arith, o.ended.0)
ordered_within h k (Err e) o = elim o.stopped [
  | inl w ↦ omega (arith, slice_get_within h.postings k w.0 w.1)
  | inr w ↦ omega (arith, w.0)
]

-- all postings may follow, and all sheets are right
pub lawful_when : (h : HistoryParts) → IsInstruction h.instruction → IsRightBefore h (length h.postings)
    → IsEndRight h (length h.postings) → IsLawful h
lawful_when h v before last =
    let i : InstructionParts = h.instruction in
    let whole : take (length h.postings) h.postings ≡ h.postings =
    take_all (length h.postings) h.postings (omega arith) in
    record {
      postings_follow = λ k x at. before.postings k x (slice_get_within h.postings k x at) at;
      sheets_number = last.number ∙ ap (λ ps. ends_of i ps + 1) whole;
      base_sheet =
          base_alone i (prices_at h.sheets 0) v
          (meets_to_alone i [] (prices_at h.sheets 0) v (right_at 0 (omega arith) refl).1);
      sheets_meet = λ k x at e.
          let longer : take (k + 1) h.postings ≡ take k h.postings ++ x ∷ [] = take_one_more h.postings k x at in
          let right = right_at (k + 1) (omega (arith, slice_get_within h.postings k x at)) in
          grind (arith, cuts_with_end, ends_with_end, right);
    }
  where
    right_at : (j : ℕ) → j ≤ length h.postings → Begins h j → IsSheetRight h j
    right_at j le b = elim (cases_eq j (length h.postings)) [
      | inl same ↦ subst (λ n. IsSheetRight h n) (sym same) (last.last_sheet (subst (λ n. Begins h n) same b))
      | inr other ↦ before.sheets j (omega arith) b
    ]

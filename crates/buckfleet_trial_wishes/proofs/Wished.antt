-- Runs of wishes, which classes are wishes, and what is known of them.
use Rattle.std.proofs.Common.{◌≡◌, mul-le-mul, ℕ, ◌+◌, ◌*◌, ◌<◌, ◌≤◌, inl, inr, List, [], ◌∷◌, ◌++◌, All, length, map, Option, Some, refl, sym, ap, subst, ◌∙◌, arith}
use Rattle.std.specs.Prelude.{slice_get, sum_by}
use Rattle.std.specs.List.{AllByRecursion, Contains, flat_map}
use Rattle.std.specs.List.Sorted.{IsPermutation, IsSortedBy, IsStableBy}
use Rattle.std.specs.declared.sync.Arc.{Arc}
use Rattle.std.specs.declared.vec.Vec.{Vec}
use Rattle.std.specs.declared.alloc.Global.{Global}
use Rattle.std.proofs.lemmas.Bool.{cases_lt}
use Rattle.std.proofs.lemmas.List.Elements.{All-cons, All-nil, All-push, All-weaker, Contains-append_left, Contains-append_right, recursion_from_All}
use Rattle.std.proofs.lemmas.List.Sorted.{All-permutation, Contains-permutation, IsPermutation-map}
use Rattle.std.proofs.lemmas.Option.{get_or_from_slice_get, slice_get_within}
use Rattle.buck_apt_instruction.specs.Instruction.{AssortmentParts, InstructionParts, IsAssortment, IsInstruction, classes_of}
use Rattle.buck_apt_instruction.specs.Wanted.{MayBeWanted, with_targets}
use Rattle.buck_stem_shape.specs.declared.stem.Stem.{Stem}
use Rattle.buck_rule.specs.declared.named.NamedRule.{NamedRule}
use Rattle.buck_book_postings.specs.Counts.{AreClassCounts}
use Rattle.buck_book_postings.specs.Degree.{part_of}
use Rattle.buck_book_postings.specs.History.{HistoryParts}
use Rattle.buck_book_postings.specs.Posting.{opening_targets}
use Rattle.buck_page_figures.specs.Figures.{at_base_in}
use Rattle.buckfleet_trial_sweep.specs.Table.{IsLeast}
use Rattle.buckfleet_trial_wishes.specs.declared.asking.Asking.{Asking}
use Rattle.buckfleet_trial_wishes.specs.declared.outcome.Outcome.{Outcome}
use Rattle.buckfleet_trial_wishes.specs.declared.outcome.Runs.{Runs}
use Rattle.buckfleet_trial_wishes.specs.declared.wish.Told.{Told}
use Rattle.buckfleet_trial_wishes.specs.declared.wish.Wish.{Wish}
use Rattle.buckfleet_trial.specs.Light.{AreDegrees, HasCutOf}
use Rattle.buckfleet_trial_wishes.specs.Wishes.{AreRunsOf, AreWishes, IsMoved, IsRunOf, IsTold, IsWish, IsWishAt, place_of, worth_in}
use Rattle.buckfleet_trial_wishes.specs.WishLine.{IsWishLine, whole_line, wishes_head}
use Rattle.buckfleet_trial_wishes.specs.inner.Asking.{AreBelow, AreRunsBy, AreTold, IsAsking, IsToldOf, Rises}
use Rattle.buckfleet_trial_wishes.proofs.Ranked.{above, ranked, rises_of}
use Rattle.buckfleet_trial_wishes.proofs.Pieces.{piece_length}
use Rattle.buckfleet_trial_wishes.proofs.Targets.{some_at}

-- what a run came to
pub is_run : (rule : NamedRule) (i : InstructionParts) (lists : List (Vec (Arc Stem Global) Global)) (targets : List ℕ)
    (order : Option ℕ) (run : Outcome) (h : HistoryParts) (counts : List ℕ)
    → HasCutOf rule i lists order h → run.at_base ≡ sum_by (at_base_in h.instruction) h.postings
    → AreClassCounts h.instruction h.postings counts → AreDegrees i targets counts run.degrees.items
    → IsLeast run.degrees.items run.least → IsRunOf rule i lists targets order run
is_run rule i lists targets order run h counts cut worth counted are least = record {
  ordered = cut.ordered;
  history = h;
  counts = counts;
  are_ordered = cut.are_ordered;
  instruction = cut.instruction;
  has_cut = cut.has_cut;
  at_base_is = worth ∙ ap (λ (x : InstructionParts). sum_by (at_base_in x) h.postings) cut.instruction;
  are_counts = subst (λ (x : InstructionParts). AreClassCounts x h.postings counts) cut.instruction counted;
  are_degrees = are;
  is_least = least;
}

-- an assortment has few classes
few_classes : (i : InstructionParts) (at : ℕ) (a : AssortmentParts) → IsInstruction i
    → slice_get i.assortments at ≡ Some a → classes_of a ≤ 1024
few_classes i at a valid there =
    let is = subst IsAssortment (get_or_from_slice_get i.assortments at a a there)
    (valid.assortments_valid at a (slice_get_within i.assortments at a there)) in
    mul-le-mul is.rows.1 is.columns.1

-- one more behind those that rise
below_push : {X : Type 0} (P : X → Type 0) (xs : List X) (y : X) → P y → AllByRecursion P xs
    → AllByRecursion P (xs ++ y ∷ [])
below_push P [] y one all = (one, tt)
below_push P (x ∷ xs) y one all = (all.0, below_push P xs y one all.1)

rises_push : {X : Type 0} (n : X → ℕ) (xs : List X) (y : X) → Rises n xs → AllByRecursion (λ x. n x < n y) xs
    → Rises n (xs ++ y ∷ [])
rises_push n [] y up low = (tt, tt)
rises_push n (x ∷ xs) y up low = (below_push (λ z. n x < n z) xs y low.0 up.0, rises_push n xs y up.1 low.1)

pub none_below : (i : InstructionParts) (us : List ℕ) → AreBelow i us 0 []
none_below i us = record {
  each = All-nil (λ w. IsWishAt i us w.assortment w.class);
  below = All-nil (λ w. place_of w < 0);
  rises = tt;
  all = λ at class lt w. absurd (omega (arith, lt));
}

module _ (i : InstructionParts) (us : List ℕ) (at : ℕ) (targets unsteered : List ℕ)
    (are_targets : (a : AssortmentParts) → slice_get i.assortments at ≡ Some a
    → targets ≡ part_of i a at (opening_targets i))
    (are_unsteered : (a : AssortmentParts) → slice_get i.assortments at ≡ Some a → unsteered ≡ part_of i a at us)
    (valid : IsInstruction i) (wanted : MayBeWanted i (opening_targets i)) (exists : at < length i.assortments) where
  -- as many targets as classes
  long_at : (a : AssortmentParts) → slice_get i.assortments at ≡ Some a → length targets ≡ classes_of a
  long_at a there =
      ap (λ (l : List ℕ). length l) (are_targets a there)
      ∙ piece_length classes_of i.assortments at a (opening_targets i) there wanted.one_each

  few_at : length targets ≤ 1024
  few_at =
      let found = some_at i.assortments at exists in
      omega (arith, long_at found.0 found.1, few_classes i at found.0 valid found.1)

  -- a class is a wish
  wish_at : (class : ℕ) → class < length targets → IsWish targets unsteered class → IsWishAt i us at class
  wish_at class within is =
      let found = some_at i.assortments at exists in
      let a = found.0 in
      let there = found.1 in
      record {
        assortment = a;
        exists = there;
        within = omega (arith, within, long_at a there);
        is_wish =
            subst (λ (l : List ℕ). IsWish l (part_of i a at us) class) (are_targets a there)
            (subst (λ (l : List ℕ). IsWish targets l class) (are_unsteered a there) is);
      }

  wish_of : (class : ℕ) → IsWishAt i us at class → IsWish targets unsteered class
  wish_of class w =
      subst (λ (l : List ℕ). IsWish targets l class) (sym (are_unsteered w.assortment w.exists))
      (subst (λ (l : List ℕ). IsWish l (part_of i w.assortment at us) class)
      (sym (are_targets w.assortment w.exists)) w.is_wish)

  -- the next one is
  pub one_below : (class : ℕ) (old new : List Wish) → class < length targets → IsWish targets unsteered class
      → new ≡ old ++ (record { assortment = at; class = class }) ∷ [] → AreBelow i us (at * 1024 + class) old
      → AreBelow i us (at * 1024 + (class + 1)) new
  one_below class old new within is put so_far =
      let wish : Wish = record { assortment = at; class = class } in
      subst (λ (l : List Wish). AreBelow i us (at * 1024 + (class + 1)) l) (sym put)
      (record {
        each = All-push (λ w. IsWishAt i us w.assortment w.class) old wish so_far.each (wish_at class within is);
        below = All-push (λ w. place_of w < at * 1024 + (class + 1)) old wish
            (All-weaker (λ w. place_of w < at * 1024 + class) (λ w. place_of w < at * 1024 + (class + 1))
            (λ w lt. omega (arith, lt)) old so_far.below) (omega arith);
        rises = rises_push place_of old wish so_far.rises
            (recursion_from_All (λ w. place_of w < at * 1024 + class) old so_far.below);
        all = λ k c lt w. elim (cases_lt (k * 1024 + c) (at * 1024 + class)) [
          | inl before ↦
              Contains-append_left old (wish ∷ []) (record { assortment = k; class = c }) (so_far.all k c before w)
          | inr past ↦ (
              let small = few_classes i k w.assortment valid w.exists in
              let same_at : at ≡ k = omega (arith, lt, past, small, w.within, within, few_at) in
              let same_class : class ≡ c = omega (arith, lt, past, small, w.within, within, few_at) in
              subst (λ n. Contains (old ++ wish ∷ []) (record { assortment = n; class = c })) same_at
              (subst (λ n. Contains (old ++ wish ∷ []) (record { assortment = at; class = n })) same_class
              (Contains-append_right old (wish ∷ []) wish (0, omega arith, refl))))
        ];
      })

  -- or isn't
  pub none_more : (class : ℕ) (old : List Wish) → class < length targets → (IsWish targets unsteered class → ⊥)
      → AreBelow i us (at * 1024 + class) old → AreBelow i us (at * 1024 + (class + 1)) old
  none_more class old within not_one so_far = record {
    each = so_far.each;
    below = All-weaker (λ w. place_of w < at * 1024 + class) (λ w. place_of w < at * 1024 + (class + 1))
        (λ w lt. omega (arith, lt)) old so_far.below;
    rises = so_far.rises;
    all = λ k c lt w. elim (cases_lt (k * 1024 + c) (at * 1024 + class)) [
      | inl before ↦ so_far.all k c before w
      | inr past ↦ (
          let small = few_classes i k w.assortment valid w.exists in
          let same_at : k ≡ at = omega (arith, lt, past, small, w.within, within, few_at) in
          let same_class : c ≡ class = omega (arith, lt, past, small, w.within, within, few_at) in
          absurd (not_one (wish_of class (subst (λ n. IsWishAt i us n class) same_at
          (subst (λ n. IsWishAt i us k n) same_class w)))))
    ];
  }

  -- and there are no more of the assortment
  pub all_below : (class : ℕ) (old : List Wish) → class ≡ length targets → AreBelow i us (at * 1024 + class) old
      → AreBelow i us ((at + 1) * 1024) old
  all_below class old is so_far = record {
    each = so_far.each;
    below = All-weaker (λ w. place_of w < at * 1024 + class) (λ w. place_of w < (at + 1) * 1024)
        (λ w lt. omega (arith, lt, is, few_at)) old so_far.below;
    rises = so_far.rises;
    all = λ k c lt w. elim (cases_lt (k * 1024 + c) (at * 1024 + class)) [
      | inl before ↦ so_far.all k c before w
      | inr past ↦ (
          let small = few_classes i k w.assortment valid w.exists in
          let same_at : k ≡ at = omega (arith, lt, past, small, w.within) in
          let there : slice_get i.assortments at ≡ Some w.assortment =
          ap (λ n. slice_get i.assortments n) (sym same_at) ∙ w.exists in
          absurd (omega (arith, past, same_at, w.within, is, long_at w.assortment there)))
    ];
  }

-- what is known of a wish whose runs were made with its target moved
pub told_is : (a : Asking) (i : InstructionParts) (whole runs : Runs) (wish : Wish) (moved : List ℕ) (told : Told)
    → IsWishAt a.instruction.value a.unsteered.items wish.assortment wish.class
    → IsMoved a.instruction.value (opening_targets a.instruction.value) a.unsteered.items wish.assortment wish.class
    moved
    → i ≡ with_targets moved a.instruction.value → AreRunsBy a i runs → told.wish ≡ wish
    → told.worth ≡ worth_in runs.own runs.drawn.items
    → IsWishLine a.instruction.value a.unsteered.items moved whole runs wish told.line.items
    → IsToldOf a whole wish told
told_is a i whole runs wish moved told is_wish is_moved same are is worth line =
    let there : (P : Wish → Type 0) → P wish → P told.wish = λ P p. subst P (sym is) p in
    record {
      wish_is = is;
      is_told = record {
        is_wish = there (λ w. IsWishAt a.instruction.value a.unsteered.items w.assortment w.class) is_wish;
        moved = moved;
        is_moved = there (λ w. IsMoved a.instruction.value (opening_targets a.instruction.value) a.unsteered.items
            w.assortment w.class moved) is_moved;
        runs = runs;
        are_runs =
            subst (λ (x : InstructionParts). AreRunsOf a.rule x a.input.lists.items
            (opening_targets a.instruction.value) a.starts.items runs) same are;
        worth_is = worth;
        is_line =
            there (λ w. IsWishLine a.instruction.value a.unsteered.items moved whole runs w told.line.items) line;
      };
    }

-- what is known of wishes is about these, in their order
pub told_wishes : (a : Asking) (whole : Runs) (wishes : List Wish) (told : List Told) → AreTold a whole wishes told
    → map (λ t. t.wish) told ≡ wishes
told_wishes a whole [] [] all = refl
told_wishes a whole [] (t ∷ more) all = absurd all
told_wishes a whole (w ∷ wishes) [] all = absurd all
told_wishes a whole (w ∷ wishes) (t ∷ more) all =
    ap (λ (x : Wish). x ∷ map (λ t. t.wish) more) all.0.wish_is
    ∙ ap (λ (l : List Wish). w ∷ l) (told_wishes a whole wishes more all.1)

pub all_told : (a : Asking) (whole : Runs) (wishes : List Wish) (told : List Told) → AreTold a whole wishes told
    → All (IsTold a.rule a.instruction.value a.input.lists.items a.starts.items a.unsteered.items whole) told
all_told a whole wishes [] all =
    All-nil (IsTold a.rule a.instruction.value a.input.lists.items a.starts.items a.unsteered.items whole)
all_told a whole [] (t ∷ more) all = absurd all
all_told a whole (w ∷ wishes) (t ∷ more) all =
    All-cons (IsTold a.rule a.instruction.value a.input.lists.items a.starts.items a.unsteered.items whole) t more
    all.0.is_told (all_told a whole wishes more all.1)

-- the table, given the runs, all wishes, and what is known of these in its order
pub are_wishes : (a : Asking) (whole : Runs) (wishes : List Wish) (told sorted : List Told) (text : List ℕ) → IsAsking a
    → IsInstruction a.instruction.value → AreRunsBy a a.instruction.value whole
    → AreBelow a.instruction.value a.unsteered.items (length a.instruction.value.assortments * 1024) wishes
    → AreTold a whole wishes told → IsPermutation told sorted → IsSortedBy (above (λ t. t.worth)) sorted
    → IsStableBy (above (λ t. t.worth)) told sorted
    → text ≡ wishes_head a.starts.items
    ++ (whole_line a.starts.items whole.own ++ flat_map (λ t. t.line.items) sorted)
    → AreWishes a.rule a.instruction.value a.input.lists.items a.starts.items text
are_wishes a whole wishes told sorted text asking valid runs below are moved order stable is =
    let i = a.instruction.value in
    let us = a.unsteered.items in
    let same = told_wishes a whole wishes told are in
    record {
      unsteered = us;
      are_unsteered = asking.unsteered;
      whole = whole;
      are_whole = runs;
      told = sorted;
      each =
          All-permutation (IsTold a.rule i a.input.lists.items a.starts.items us whole) told sorted moved
          (all_told a whole wishes told are);
      all = λ at class w. (
          let few = few_classes i at w.assortment valid w.exists in
          let lt = slice_get_within i.assortments at w.assortment w.exists in
          let wish : Wish = record { assortment = at; class = class } in
          Contains-permutation (map (λ t. t.wish) told) (map (λ t. t.wish) sorted) wish
          (IsPermutation-map (λ t. t.wish) told sorted moved)
          (subst (λ (l : List Wish). Contains l wish) (sym same)
          (below.all at class (omega (arith, w.within, few, lt)) w)));
      in_order =
          ranked (λ t. t.worth) (λ t. place_of t.wish) told sorted
          (rises_of place_of (λ t. t.wish) told (subst (Rises place_of) (sym same) below.rises)) order stable;
      text_is = is;
    }

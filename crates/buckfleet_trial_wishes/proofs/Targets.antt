-- Targets of which one is moved, assortment by assortment.
use Rattle.std.proofs.Common.{◌≡◌, ◌≢◌, ℕ, zero, suc, ◌+◌, ◌<◌, ◌≤◌, inl, inr, List, [], ◌∷◌, ◌++◌, All, length, take, drop, sum, sum_by, Some, refl, sym, ap, subst, ◌∙◌, arith, length-append}
use Rattle.std.specs.Prelude.{slice_get}
use Rattle.std.proofs.lemmas.Bool.{cases_eq, cases_lt}
use Rattle.std.proofs.lemmas.List.{take_all}
use Rattle.std.proofs.lemmas.List.Elements.{All-append, All-drop, All-take}
use Rattle.std.proofs.lemmas.List.Sums.{sum_by-cons}
use Rattle.std.proofs.lemmas.Option.{same_Some, slice_get_within}
use Rattle.buck_apt_instruction.specs.Instruction.{AssortmentParts, InstructionParts, classes, classes_before, classes_of}
use Rattle.buck_apt_instruction.specs.Wanted.{MayBeWanted, all_wanting, wanting, with_targets}
use Rattle.buck_book_postings.specs.Degree.{part_of}
use Rattle.buckfleet_trial_wishes.specs.Wishes.{IsMoved, moved_part}
use Rattle.buckfleet_trial_wishes.proofs.MovedLemmas.{moved_length, moved_low, moved_sum}
use Rattle.buckfleet_trial_wishes.proofs.Pieces.{before_next, piece_kept, piece_length, piece_next}

-- an element at a place
pub some_at : {X : Type 0} (xs : List X) (k : ℕ) → k < length xs → (x : X) × (slice_get xs k ≡ Some x)
some_at [] k lt = absurd (omega (arith, lt))
some_at (x ∷ xs) zero lt = (x, refl)
some_at (x ∷ xs) (suc k) lt = some_at xs k (omega (arith, lt))

-- as many classes with other targets
wanting_classes : (ts : List ℕ) (xs : List AssortmentParts)
    → sum_by classes_of (all_wanting ts xs) ≡ sum_by classes_of xs
wanting_classes ts [] = refl
wanting_classes ts (a ∷ more) =
    sum_by-cons classes_of (wanting (take (classes_of a) ts) a) (all_wanting (drop (classes_of a) ts) more)
    ∙ ap (λ n. classes_of a + n) (wanting_classes (drop (classes_of a) ts) more)
    ∙ sym (sum_by-cons classes_of a more)

pub same_classes : (i : InstructionParts) (ts : List ℕ) → classes (with_targets ts i) ≡ classes i
same_classes i ts = wanting_classes ts i.assortments

module _ (i : InstructionParts) (ts us : List ℕ) (at class : ℕ) where
  -- the targets of the assortment at a place, of which one is moved, or as they were
  pub record IsPiece (k : ℕ) (a : AssortmentParts) (moved : List ℕ) : Type 0 where
    pub here : k ≡ at → part_of i a k moved ≡ moved_part (part_of i a k ts) (part_of i a k us) class
    pub elsewhere : k ≢ at → part_of i a k moved ≡ part_of i a k ts

  -- those of the assortments before a place
  pub record UpTo (place : ℕ) (moved : List ℕ) : Type 0 where
    pub long : length moved ≡ classes_before i place
    pub low : All (λ t. t ≤ 1000000) moved
    pub pieces : (k : ℕ) (a : AssortmentParts) → k < place → slice_get i.assortments k ≡ Some a → IsPiece k a moved

  pub none_yet : UpTo 0 []
  none_yet = record {
    long = refl;
    low = λ k d lt. absurd (omega (arith, lt));
    pieces = λ k a lt. absurd (omega (arith, lt));
  }

  -- those of one more
  more : (place : ℕ) (a : AssortmentParts) (moved next new : List ℕ) → slice_get i.assortments place ≡ Some a
      → length next ≡ classes_of a → All (λ t. t ≤ 1000000) next
      → (place ≡ at → next ≡ moved_part (part_of i a place ts) (part_of i a place us) class)
      → (place ≢ at → next ≡ part_of i a place ts)
      → new ≡ moved ++ next → UpTo place moved → UpTo (place + 1) new
  more place a moved next new there full low here elsewhere is so_far =
      subst (λ l. UpTo (place + 1) l) (sym is)
      (record {
        long = length-append moved next
            ∙ omega (arith, so_far.long, full, before_next classes_of i.assortments place a there);
        low = All-append (λ t. t ≤ 1000000) moved next so_far.low low;
        pieces = λ k b lt there_too. elim (cases_lt k place) [
          | inl before ↦ (
              let kept = piece_kept classes_of i.assortments k place b moved next before there_too so_far.long in
              let piece = so_far.pieces k b before there_too in
              record { here = λ e. kept ∙ piece.here e; elsewhere = λ e. kept ∙ piece.elsewhere e })
          | inr past ↦ (
              let last : place ≡ k = omega (arith, lt, past) in
              let same : a ≡ b =
              same_Some a b (sym there ∙ ap (λ n. slice_get i.assortments n) last ∙ there_too) in
              let P : ℕ → AssortmentParts → Type 0 = λ n x. IsPiece n x (moved ++ next) in
              subst (λ n. P n b) last (subst (λ x. P place x) same
              (let new_one = piece_next classes_of i.assortments place a moved next so_far.long full in
              record { here = λ e. new_one ∙ here e; elsewhere = λ e. new_one ∙ elsewhere e })))
        ];
      })

  -- one of them moved
  pub moved_more : (place : ℕ) (moved new targets unsteered : List ℕ) → place < length i.assortments → MayBeWanted i ts
      → place ≡ at
      → ((a : AssortmentParts) → slice_get i.assortments place ≡ Some a → targets ≡ part_of i a place ts)
      → ((a : AssortmentParts) → slice_get i.assortments place ≡ Some a → unsteered ≡ part_of i a place us)
      → new ≡ moved ++ moved_part targets unsteered class → UpTo place moved → UpTo (place + 1) new
  moved_more place moved new targets unsteered lt wanted e are_targets are_unsteered is so_far =
      let found = some_at i.assortments place lt in
      let a = found.0 in
      let there = found.1 in
      let part = part_of i a place ts in
      let same : moved_part targets unsteered class ≡ moved_part part (part_of i a place us) class =
      ap (λ l. moved_part l unsteered class) (are_targets a there)
      ∙ ap (λ l. moved_part part l class) (are_unsteered a there) in
      more place a moved (moved_part part (part_of i a place us) class) new there
      (moved_length part (part_of i a place us) class
      ∙ piece_length classes_of i.assortments place a ts there wanted.one_each)
      (moved_low part (part_of i a place us) class
      (All-take (λ t. t ≤ 1000000) (classes_of a) (drop (classes_before i place) ts)
      (All-drop (λ t. t ≤ 1000000) (classes_before i place) ts wanted.low)))
      (λ _e. refl) (λ other. absurd (other e)) (is ∙ ap (λ l. moved ++ l) same) so_far

  -- or as they were
  pub kept_more : (place : ℕ) (moved new targets : List ℕ) → place < length i.assortments → MayBeWanted i ts
      → place ≢ at
      → ((a : AssortmentParts) → slice_get i.assortments place ≡ Some a → targets ≡ part_of i a place ts)
      → new ≡ moved ++ targets → UpTo place moved → UpTo (place + 1) new
  kept_more place moved new targets lt wanted other are_targets is so_far =
      let found = some_at i.assortments place lt in
      let a = found.0 in
      let there = found.1 in
      more place a moved (part_of i a place ts) new there
      (piece_length classes_of i.assortments place a ts there wanted.one_each)
      (All-take (λ t. t ≤ 1000000) (classes_of a) (drop (classes_before i place) ts)
      (All-drop (λ t. t ≤ 1000000) (classes_before i place) ts wanted.low))
      (λ e. absurd (other e)) (λ _e. refl) (is ∙ ap (λ l. moved ++ l) (are_targets a there)) so_far

  -- all of them
  pub all_moved : (place : ℕ) (moved : List ℕ) → length i.assortments ≤ place → MayBeWanted i ts → UpTo place moved
      → IsMoved i ts us at class moved
  all_moved place moved le wanted all = record {
    one_each = all.long ∙ ap (sum_by classes_of) (take_all place i.assortments le) ∙ sym wanted.one_each;
    here = λ a there.
        (all.pieces at a (omega (arith, le, slice_get_within i.assortments at a there)) there).here refl;
    elsewhere = λ k a other there.
        (all.pieces k a (omega (arith, le, slice_get_within i.assortments k a there)) there).elsewhere other;
  }

  pub still_wanted : (place : ℕ) (moved : List ℕ) → length i.assortments ≤ place → MayBeWanted i ts
      → ((a : AssortmentParts) → slice_get i.assortments at ≡ Some a → class < classes_of a)
      → UpTo place moved → MayBeWanted i moved
  still_wanted place moved le wanted within all = record {
    one_each = all.long ∙ ap (sum_by classes_of) (take_all place i.assortments le);
    low = all.low;
    low_sums = λ k lt a there. (
        let piece = all.pieces k a (omega (arith, lt, le)) there in
        let before = wanted.low_sums k lt a there in
        elim (cases_eq k at) [
          | inl e ↦ (
              let there_too : slice_get i.assortments at ≡ Some a =
              subst (λ n. slice_get i.assortments n ≡ Some a) e there in
              let long : length (part_of i a k ts) ≡ classes_of a =
              piece_length classes_of i.assortments k a ts there wanted.one_each in
              let low = moved_sum (part_of i a k ts) (part_of i a k us) class
              (omega (arith, within a there_too, long)) before in
              omega (arith, low, ap sum (piece.here e)))
          | inr other ↦ omega (arith, before, ap sum (piece.elsewhere other))
        ]);
  }

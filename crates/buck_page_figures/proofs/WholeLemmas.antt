-- The sums over assortments are the whole.
use Rattle.std.proofs.Common.{◌≡◌, ℕ, zero, suc, ◌+◌, ◌<◌, ◌≤◌, ◌==◌, cond, List, [], ◌∷◌, All, length, take, get_or, refl, sym, subst, ap, ◌∙◌, inl, inr, arith}
use Rattle.std.specs.Prelude.{slice_get, Some, sum_by}
use Rattle.std.proofs.Math.Seq.{take-length}
use Rattle.std.proofs.lemmas.Bool.Decides.{eqb_tells}
use Rattle.std.proofs.lemmas.Option.{slice_get_cases, slice_get_within, get_or_from_slice_get}
use Rattle.std.proofs.lemmas.List.Sums.{sum_by-cons, sum_by_more}
use Rattle.buck_apt_instruction.specs.Instruction.{InstructionParts}
use Rattle.buck_stem_shape.specs.Stem.{StemParts}
use Rattle.buck_value.specs.declared.log.Log.{Log}
use Rattle.buck_value.specs.Allowed.{IsAllowed, worth_of}
use Rattle.buck_dp.specs.Best.{IsAdmissible, cutting_worth}
use Rattle.buck_dp.proofs.Lists.{each_allowed}
use Rattle.buck_book_postings.specs.declared.posting.Posting.{Posting}
use Rattle.buck_book_postings.specs.declared.posting.Posting.TheVariants.{Cut, Demand}
use Rattle.buck_book_postings.specs.Counts.{assortment_logs_in}
use Rattle.buck_book_postings.specs.History.{IsLawful}
use Rattle.buck_book_journal.specs.Journal.{JournalParts, history_of}
use Rattle.buck_page_figures.specs.Journals.{postings_of}
use Rattle.buck_page_figures.specs.Assorted.{AreParts, sum_in_part, part_volume_in, part_logged_in, part_at_base_in}
use Rattle.buck_page_figures.specs.Figures.{base_sheet, log_volume, logs_in, volume_in, logged_in, at_base_in, worth_in, IsUnsteered, AreUnsteered}
use Rattle.buck_page_figures.specs.declared.figures.Part.{Part}
use Rattle.buck_page_figures.specs.inner.Adding.{IsCuttable}
use Rattle.buck_page_figures.proofs.LawfulLemmas.{all_passable}

-- the sum of the first n of some numbers
abbrev sum_below : (ℕ → ℕ) → ℕ → ℕ
sum_below f zero = 0
sum_below f (suc n) = sum_below f n + f n

-- of 0 alone
no_sum : (n : ℕ) → sum_below (λ k. 0) n ≡ 0
no_sum zero = refl
no_sum (suc n) = omega (arith, no_sum n)

-- of a number at one place, and 0 elsewhere
past_sum : (a v n : ℕ) → n ≤ a → sum_below (λ k. cond (a == k) v 0) n ≡ 0
past_sum a v zero le = refl
past_sum a v (suc n) le = elim (eqb_tells a n) [
  | inl e ↦ absurd (omega (arith, le, e.1))
  | inr e ↦ omega (arith, past_sum a v n (omega (arith, le)), ap (λ b. cond b v 0) e.0)
]

one_sum : (a v n : ℕ) → a < n → sum_below (λ k. cond (a == k) v 0) n ≡ v
one_sum a v zero lt = absurd (omega (arith, lt))
one_sum a v (suc n) lt = elim (eqb_tells a n) [
  | inl e ↦ omega (arith, past_sum a v n (omega (arith, e.1)), ap (λ b. cond b v 0) e.0)
  | inr e ↦ omega (arith, one_sum a v n (omega (arith, lt, e.1)), ap (λ b. cond b v 0) e.0)
]

-- the sum of sums is the sum over the list of each element's sum
module _ {X : Type 0} (f : ℕ → X → ℕ) where
  sums_of_none : (n : ℕ) → sum_below (λ k. sum_by (f k) []) n ≡ 0
  sums_of_none zero = refl
  sums_of_none (suc n) = omega (arith, sums_of_none n)

  sums_of_more : (n : ℕ) (x : X) (xs : List X)
      → sum_below (λ k. sum_by (f k) (x ∷ xs)) n ≡ sum_below (λ k. f k x) n + sum_below (λ k. sum_by (f k) xs) n
  sums_of_more zero x xs = refl
  sums_of_more (suc n) x xs = omega (arith, sums_of_more n x xs, sum_by-cons (f n) x xs)

  sum_of_sums : (whole : X → ℕ) (n : ℕ) (xs : List X)
      → ((k : ℕ) (x : X) → slice_get xs k ≡ Some x → sum_below (λ j. f j x) n ≡ whole x)
      → sum_below (λ k. sum_by (f k) xs) n ≡ sum_by whole xs
  sum_of_sums whole n [] each = sums_of_none n
  sum_of_sums whole n (x ∷ xs) each =
      omega (
        arith,
        sums_of_more n x xs,
        each 0 x refl,
        sum_of_sums whole n xs (λ k y at. each (suc k) y at),
        sum_by-cons whole x xs,
      )

-- each log is of one of the first n assortments
abbrev AreOfFirst : ℕ → List Log → Type 0
AreOfFirst n logs = (k : ℕ) (g : Log) → slice_get logs k ≡ Some g → g.assortment < n

-- a sum over logs is the sum over the assortments of the sums over the logs of each
sum_by_assortments : (of : Log → ℕ) (n : ℕ) (logs : List Log) → AreOfFirst n logs
    → sum_below (λ a. sum_in_part of a logs) n ≡ sum_by of logs
sum_by_assortments of n logs first =
    sum_of_sums (λ a g. cond (g.assortment == a) (of g) 0) of n logs
    (λ k g at. one_sum g.assortment (of g) n (first k g at))

-- how many there are
ones : (logs : List Log) → sum_by (λ (g : Log). 1) logs ≡ length logs
ones [] = refl
ones (g ∷ logs) = omega (arith, ones logs, sum_by-cons (λ (x : Log). 1) g logs)

-- of a posting
abbrev IsOfFirst : ℕ → Posting → Type 0
IsOfFirst n (Cut e) = AreOfFirst n e.logs
IsOfFirst n (Demand d) = Unit {0}

whole_logs : (n : ℕ) (x : Posting) → IsOfFirst n x → sum_below (λ a. assortment_logs_in a x) n ≡ logs_in x
whole_logs n (Cut e) first = sum_by_assortments (λ g. 1) n e.logs first ∙ ones e.logs
whole_logs n (Demand d) first = no_sum n

whole_volume : (n : ℕ) (x : Posting) → IsOfFirst n x → sum_below (λ a. part_volume_in a x) n ≡ volume_in x
whole_volume n (Cut e) first = sum_by_assortments (log_volume e.stem) n e.logs first
whole_volume n (Demand d) first = no_sum n

whole_logged : (n : ℕ) (x : Posting) → IsOfFirst n x → sum_below (λ a. part_logged_in a x) n ≡ logged_in x
whole_logged n (Cut e) first = sum_by_assortments (λ g. g.length) n e.logs first
whole_logged n (Demand d) first = no_sum n

whole_at_base : (i : InstructionParts) (n : ℕ) (x : Posting) → IsOfFirst n x
    → sum_below (λ a. part_at_base_in i a x) n ≡ at_base_in i x
whole_at_base i n (Cut e) first = sum_by_assortments (worth_of (base_sheet i) e.stem) n e.logs first
whole_at_base i n (Demand d) first = no_sum n

-- a number of each part, added up
sum_of_parts : (of : Part → ℕ) (f : ℕ → ℕ) (parts : List Part)
    → ((a : ℕ) (p : Part) → slice_get parts a ≡ Some p → of p ≡ f a)
    → (n : ℕ) → n ≤ length parts → sum_by of (take n parts) ≡ sum_below f n
sum_of_parts of f parts each zero le = refl
sum_of_parts of f parts each (suc n) le = elim (slice_get_cases parts n).1 [
  | inl x ↦ (
      let one : suc n ≡ n + 1 = omega arith in
      let last : of (get_or parts n x.0) ≡ f n = ap of (get_or_from_slice_get parts n x.0 x.0 x.2) ∙ each n x.0 x.2 in
      ap (λ m. sum_by of (take m parts)) one
      ∙ omega (arith, sum_by_more of parts n x.0 x.1, last, sum_of_parts of f parts each n (omega (arith, le))))
  | inr past ↦ absurd (omega (arith, past.0, le))
]

-- that is a sum over some postings, if of each posting the numbers of the assortments are the whole
parts_whole : (i : InstructionParts) (ps : List Posting) (parts : List Part) (of : Part → ℕ) (f : ℕ → Posting → ℕ)
    (whole : Posting → ℕ)
    → length parts ≡ length i.assortments
    → ((a : ℕ) (p : Part) → slice_get parts a ≡ Some p → of p ≡ sum_by (f a) ps)
    → ((k : ℕ) (x : Posting) → slice_get ps k ≡ Some x → sum_below (λ a. f a x) (length i.assortments) ≡ whole x)
    → sum_by of parts ≡ sum_by whole ps
parts_whole i ps parts of f whole number part each =
    ap (sum_by of) (sym (take-length parts))
    ∙ sum_of_parts of (λ a. sum_by (f a) ps) parts part (length parts) (omega arith)
    ∙ ap (sum_below (λ a. sum_by (f a) ps)) number
    ∙ sum_of_sums f whole (length i.assortments) ps each

-- the sums over the parts are those over the postings, of which each says what its logs are worth at base prices
abbrev AreWhole : (Posting → ℕ) → List Posting → List Part → Type 0
AreWhole worth ps parts =
    (sum_by (λ p. p.logs) parts ≡ sum_by logs_in ps)
    × (sum_by (λ p. p.volume) parts ≡ sum_by volume_in ps)
    × (sum_by (λ p. p.logged) parts ≡ sum_by logged_in ps)
    × (sum_by (λ p. p.at_base) parts ≡ sum_by worth ps)

are_whole : (i : InstructionParts) (ps : List Posting) (parts : List Part) (worth : Posting → ℕ)
    → AreParts i ps parts
    → ((k : ℕ) (x : Posting) → slice_get ps k ≡ Some x
    → IsOfFirst (length i.assortments) x × (at_base_in i x ≡ worth x))
    → AreWhole worth ps parts
are_whole i ps parts worth are each = (
  parts_whole i ps parts (λ p. p.logs) assortment_logs_in logs_in are.one_each (λ a p at. (are.each a p at).logs)
      (λ k x at. whole_logs (length i.assortments) x (each k x at).0),
  parts_whole i ps parts (λ p. p.volume) part_volume_in volume_in are.one_each (λ a p at. (are.each a p at).volume)
      (λ k x at. whole_volume (length i.assortments) x (each k x at).0),
  parts_whole i ps parts (λ p. p.logged) part_logged_in logged_in are.one_each (λ a p at. (are.each a p at).logged)
      (λ k x at. whole_logged (length i.assortments) x (each k x at).0),
  parts_whole i ps parts (λ p. p.at_base) (part_at_base_in i) worth are.one_each (λ a p at. (are.each a p at).at_base)
      (λ k x at. whole_at_base i (length i.assortments) x (each k x at).0 ∙ (each k x at).1),
)

-- the logs of a cutting are each of one of the instruction's assortments
logs_of_first : (i : InstructionParts) (stem : StemParts) (logs : List Log) → IsAdmissible (base_sheet i) stem logs
    → AreOfFirst (length i.assortments) logs
logs_of_first i stem logs cut k g at =
    let allowed : IsAllowed i stem g = subst (λ x. IsAllowed i stem x) (get_or_from_slice_get logs k g g at)
    (each_allowed (base_sheet i) stem 0 logs cut k g (slice_get_within logs k g at)) in
    slice_get_within i.assortments g.assortment allowed.assortment allowed.exists

cuttable_of_first : (i : InstructionParts) (x : Posting) → IsCuttable i x → IsOfFirst (length i.assortments) x
cuttable_of_first i (Cut e) cut = logs_of_first i e.stem e.logs cut
cuttable_of_first i (Demand d) cut = tt

unsteered_of_first : (i : InstructionParts) (x u : Posting) → IsUnsteered i x u
    → IsOfFirst (length i.assortments) u × (at_base_in i u ≡ worth_in u)
unsteered_of_first i (Cut e) (Cut u) is = (
  logs_of_first i e.stem u.logs is.2.best.admissible,
  ap (λ stem. cutting_worth (base_sheet i) stem u.logs) is.1 ∙ sym is.3,
)
unsteered_of_first i (Demand d) (Demand u) is = (tt, refl)
unsteered_of_first i (Cut e) (Demand u) is = absurd is
unsteered_of_first i (Demand d) (Cut u) is = absurd is

-- of what was cut
pub cut_whole : (i : InstructionParts) (js : List JournalParts) (parts : List Part)
    → All (λ j. IsLawful (history_of i j)) js → AreParts i (postings_of js) parts
    → AreWhole (at_base_in i) (postings_of js) parts
cut_whole i js parts lawful are =
    are_whole i (postings_of js) parts (at_base_in i) are
    (λ k x at. (cuttable_of_first i x (all_passable i js lawful k x at).0, refl))

-- and unsteered
pub unsteered_whole : (i : InstructionParts) (ps us : List Posting) (parts : List Part)
    → AreUnsteered i ps us → AreParts i us parts
    → AreWhole worth_in us parts
unsteered_whole i ps us parts unsteered are =
    are_whole i us parts worth_in are
    (λ k u at. elim (slice_get_cases ps k).1 [
      | inl x ↦ unsteered_of_first i x.0 u (unsteered.each k x.0 u x.2 at)
      | inr past ↦ absurd (omega (arith, past.0, unsteered.same_number, slice_get_within us k u at))
    ])

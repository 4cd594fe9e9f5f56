-- What postings come to, of all and of each harvester, with one more.
use Rattle.std.proofs.Common.{◌≡◌, ◌≢◌, ℕ, zero, suc, get_or, ◌+◌, ◌<◌, ◌≤◌, ◌==◌, List, Bool, [], ◌∷◌, ◌++◌, true, false, cond, length, refl, sym, subst, ap, ◌∙◌, inl, inr, arith}
use Rattle.std.specs.Prelude.{Option, Some, None, sum_by, IfSome, slice_index, replicate}
use Rattle.std.specs.List.{position, position_from}
use Rattle.std.specs.Option.{option_or}
use Rattle.std.proofs.lemmas.Iterator.Adapters.{position_from-zero}
use Rattle.std.proofs.lemmas.Bool.{cases_Bool}
use Rattle.std.specs.Ordering.{nat_cmp}
use Rattle.std.specs.BTreeMap.{get}
use Rattle.std.proofs.lemmas.List.Elements.{filter-append}
use Rattle.std.proofs.lemmas.List.Sums.{sum_by-cons, sum_by_push, length-filter, count_by-le-length}
use Rattle.std.proofs.lemmas.List.{length-replicate, get_or-replicate}
use Rattle.std.proofs.lemmas.Bool.Decides.{eqb_tells}
use Rattle.buck_apt_instruction.specs.Instruction.{InstructionParts}
use Rattle.buck_value.specs.declared.log.Log.{Log}
use Rattle.buck_book_postings.specs.declared.posting.Posting.{Posting}
use Rattle.buck_book_postings.specs.declared.posting.Posting.TheVariants.{Cut, Demand}
use Rattle.buck_book_postings.specs.Posting.{harvester_of}
use Rattle.buck_page_figures.specs.Figures.{IsUnsteered, cuts_in, demands_in}
use Rattle.buck_page_figures.specs.Sums.{AreSums}
use Rattle.buck_page_figures.specs.inner.Adding.{AreSumsTogether, IsPassed, logs_of}
use Rattle.buck_apt_instruction.specs.Instruction.{classes, index_of}
use Rattle.buck_stem_shape.specs.Stem.{StemParts}
use Rattle.buck_book_postings.specs.Counts.{AreClassCounts, class_logs_in}
use Rattle.buck_page_figures.specs.inner.Counted.{AreCountsOn, AreCountsWith}
use Rattle.buck_page_figures.specs.Owns.{IsOwn, own_of, is_cut_of}
use Rattle.buck_page_figures.specs.inner.Owned.{IsAdded, cut_place}
use Rattle.buck_page_figures.specs.inner.Tally.{IsTally, IsTallyWith, AreAtMost, IsBelow}
use Rattle.buck_page_figures.specs.declared.sums.Sums.{Sums}
use Rattle.buck_page_figures.specs.declared.owns.Own.{Own}
use Rattle.buck_page_figures.specs.declared.tally.Tally.{Tally}
use Rattle.buck_book_postings.proofs.Places.{place_lt}
use Rattle.buck_page_figures.proofs.SumLemmas.{sums_join}

-- the unsteered posting is the same harvester's
same_harvester : (i : InstructionParts) (x u : Posting) → IsUnsteered i x u → harvester_of u ≡ harvester_of x
same_harvester i (Cut e) (Cut u) h = h.0
same_harvester i (Demand d) (Demand u) h = ap (λ w. harvester_of (Demand w)) h
same_harvester i (Cut e) (Demand u) h = absurd h
same_harvester i (Demand d) (Cut u) h = absurd h

append_empty : (ps : List Posting) → ps ++ [] ≡ ps
append_empty [] = refl
append_empty (p ∷ ps) = ap (λ l. p ∷ l) (append_empty ps)

-- a harvester's postings with one more of it, or of another
pub own_more : (h : ℕ) (ps : List Posting) (x : Posting) → h ≡ harvester_of x
    → own_of h (ps ++ x ∷ []) ≡ own_of h ps ++ x ∷ []
own_more h ps x is = elim (eqb_tells (harvester_of x) h) [
  | inl e ↦ filter-append (λ y. harvester_of y == h) ps (x ∷ []) ∙ ap (λ b. own_of h ps ++ cond b (x ∷ []) []) e.0
  | inr e ↦ absurd (e.1 (sym is))
]

pub own_same : (h : ℕ) (ps : List Posting) (x : Posting) → h ≢ harvester_of x → own_of h (ps ++ x ∷ []) ≡ own_of h ps
own_same h ps x ne = elim (eqb_tells (harvester_of x) h) [
  | inl e ↦ absurd (ne (sym e.1))
  | inr e ↦ filter-append (λ y. harvester_of y == h) ps (x ∷ []) ∙ ap (λ b. own_of h ps ++ cond b (x ∷ []) []) e.0
      ∙ append_empty (own_of h ps)
]

-- the first place that passes with one posting more
first_step : (b : Bool) (n : ℕ) (more : Option ℕ) (rest last : Option ℕ) → more ≡ option_or rest last
    → cond b (Some n) more ≡ option_or (cond b (Some n) rest) last
first_step true n more rest last is = refl
first_step false n more rest last is = is

first_from : (p : Posting → Bool) (n : ℕ) (ps : List Posting) (x : Posting)
    → position_from p n (ps ++ x ∷ []) ≡ option_or (position_from p n ps) (cond (p x) (Some (n + length ps)) None)
first_from p n [] x = ap (λ k. cond (p x) (Some k) None) (omega arith)
first_from p n (y ∷ ps) x =
    let place : n + 1 + length ps ≡ n + length (y ∷ ps) = omega arith in
    first_step (p y) n (position_from p (n + 1) (ps ++ x ∷ [])) (position_from p (n + 1) ps)
    (cond (p x) (Some (n + length (y ∷ ps))) None)
    (first_from p (n + 1) ps x ∙ ap (λ k. option_or (position_from p (n + 1) ps) (cond (p x) (Some k) None)) place)

first_more : (p : Posting → Bool) (ps : List Posting) (x : Posting)
    → position p (ps ++ x ∷ []) ≡ option_or (position p ps) (cond (p x) (Some (length ps)) None)
first_more p ps x =
    let place : 0 + length ps ≡ length ps = omega arith in
    position_from-zero p (ps ++ x ∷ []) ∙ first_from p 0 ps x
    ∙ ap (λ n. option_or (position_from p 0 ps) (cond (p x) (Some n) None)) place
    ∙ ap (λ o. option_or o (cond (p x) (Some (length ps)) None)) (sym (position_from-zero p ps))

-- a posting more of another harvester is no cut of this one
cut_of_other : (h : ℕ) (x : Posting) → (harvester_of x == h) ≡ false → is_cut_of h x ≡ false
cut_of_other h (Cut e) other = other
cut_of_other h (Demand d) other = refl

-- a harvester that has no posting has no cut
no_cut : (h n : ℕ) (ps : List Posting) → own_of h ps ≡ [] → position_from (is_cut_of h) n ps ≡ None
no_cut h n [] none = refl
no_cut h n (x ∷ ps) none = elim (cases_Bool (harvester_of x == h)) [
  | inl own ↦ absurd (omega (arith, ap length (sym (ap (λ b. cond b (x ∷ own_of h ps) (own_of h ps)) own) ∙ none)))
  | inr other ↦
      ap (λ b. cond b (Some n) (position_from (is_cut_of h) (n + 1) ps)) (cut_of_other h x other)
      ∙ no_cut h (n + 1) ps (sym (ap (λ b. cond b (x ∷ own_of h ps) (own_of h ps)) other) ∙ none)
]

-- the place of a posting of this harvester, if it is a cut
place_of_own : (h at : ℕ) (x : Posting) → (harvester_of x == h) ≡ true
    → cond (is_cut_of h x) (Some at) None ≡ cut_place at x
place_of_own h at (Cut e) own = ap (λ b. cond b (Some at) None) own
place_of_own h at (Demand d) own = refl

or_none : (o : Option ℕ) → option_or o None ≡ o
or_none None = refl
or_none (Some n) = refl

own_first : (h : ℕ) (ps : List Posting) (x : Posting) → h ≡ harvester_of x
    → position (is_cut_of h) (ps ++ x ∷ []) ≡ option_or (position (is_cut_of h) ps) (cut_place (length ps) x)
own_first h ps x is = elim (eqb_tells (harvester_of x) h) [
  | inl e ↦ first_more (is_cut_of h) ps x
      ∙ ap (option_or (position (is_cut_of h) ps)) (place_of_own h (length ps) x e.0)
  | inr e ↦ absurd (e.1 (sym is))
]

other_first : (h : ℕ) (ps : List Posting) (x : Posting) → h ≢ harvester_of x
    → position (is_cut_of h) (ps ++ x ∷ []) ≡ position (is_cut_of h) ps
other_first h ps x ne = elim (eqb_tells (harvester_of x) h) [
  | inl e ↦ absurd (ne (sym e.1))
  | inr e ↦
      first_more (is_cut_of h) ps x
      ∙ ap (λ b. option_or (position (is_cut_of h) ps) (cond b (Some (length ps)) None)) (cut_of_other h x e.0)
      ∙ or_none (position (is_cut_of h) ps)
]

-- what is kept of the harvester of one posting more
own_added : (i : InstructionParts) (h : ℕ) (ps us : List Posting) (x u : Posting) (one : Sums) (cut : Option ℕ)
    (before after : Option Own)
    → cut ≡ cut_place (length ps) x → h ≡ harvester_of x → h ≡ harvester_of u → IsOwn i h ps us before
    → AreSums i (x ∷ []) (u ∷ []) one → IsAdded before h one cut after
    → IsOwn i h (ps ++ x ∷ []) (us ++ u ∷ []) after
own_added i h ps us x u one cut before None place is is' own sums added = absurd added
own_added i h ps us x u one cut None (Some o) place is is' own sums added =
    let p : own_of h (ps ++ x ∷ []) ≡ x ∷ [] = own_more h ps x is ∙ ap (λ l. l ++ x ∷ []) own.0 in
    let q : own_of h (us ++ u ∷ []) ≡ u ∷ [] = own_more h us u is' ∙ ap (λ l. l ++ u ∷ []) own.1 in
    let none : position (is_cut_of h) ps ≡ None = position_from-zero (is_cut_of h) ps ∙ no_cut h 0 ps own.0 in (
      added.0,
      rw (p, q) (subst (λ s. AreSums i (x ∷ []) (u ∷ []) s) (sym added.1) sums),
      added.2 ∙ place ∙ sym (own_first h ps x is ∙ ap (λ o. option_or o (cut_place (length ps) x)) none),
    )
own_added i h ps us x u one cut (Some b) (Some o) place is is' own sums added = (
  added.0,
  rw (own_more h ps x is, own_more h us u is')
      (sums_join i (own_of h ps) (x ∷ []) (own_of h us) (u ∷ []) b.sums one o.sums own.1 sums added.1),
  added.2 ∙ ap (option_or b.first) place ∙ ap (λ o. option_or o (cut_place (length ps) x)) own.2
      ∙ sym (own_first h ps x is),
)

-- and of the others
own_kept : (i : InstructionParts) (h : ℕ) (ps us : List Posting) (x u : Posting) (o : Option Own)
    → h ≢ harvester_of x → h ≢ harvester_of u → IsOwn i h ps us o → IsOwn i h (ps ++ x ∷ []) (us ++ u ∷ []) o
own_kept i h ps us x u None ne ne' own = (own_same h ps x ne ∙ own.0, own_same h us u ne' ∙ own.1)
own_kept i h ps us x u (Some o) ne ne' own =
    (own.0, rw (own_same h ps x ne, own_same h us u ne') own.1, own.2 ∙ sym (other_first h ps x ne))

-- the class counts with one posting more
counted : (i : InstructionParts) (ps : List Posting) (x : Posting) (before after : List ℕ)
    → AreClassCounts i ps before → AreCountsOn i x (logs_of x) before after → AreClassCounts i (ps ++ x ∷ []) after
counted i ps (Cut e) before after counts more = record {
  one_each = more.same_number ∙ counts.one_each;
  each = λ c k. omega (arith, more.each c k, counts.each c k, sum_by_push (λ x. class_logs_in i c x) ps (Cut e));
}
counted i ps (Demand d) before after counts more = record {
  one_each = ap length more ∙ counts.one_each;
  each = λ c k.
      (let same : slice_index after (index_of i c) ≡ slice_index before (index_of i c) =
      ap (λ l. slice_index l (index_of i c)) more in
      omega (arith, same, counts.each c k, sum_by_push (λ x. class_logs_in i c x) ps (Demand d)));
}

-- what is counted unsteered is the unsteered posting's
unsteered_counts : (i : InstructionParts) (x u : Posting) (logs : List Log) (before after : List ℕ) → IsUnsteered i x u
    → logs ≡ logs_of u
    → AreCountsOn i x logs before after → AreCountsOn i u (logs_of u) before after
unsteered_counts i (Cut e) (Cut u) logs before after is same counts =
    subst (λ (t : StemParts). AreCountsWith i t u.logs before after) (sym is.1)
    (subst (λ l. AreCountsWith i e.stem l before after) same counts)
unsteered_counts i (Demand d) (Demand u) logs before after is same counts = counts
unsteered_counts i (Cut e) (Demand u) logs before after is same counts = absurd is
unsteered_counts i (Demand d) (Cut u) logs before after is same counts = absurd is

-- one posting more
pub tally_more : (i : InstructionParts) (ps us : List Posting) (x : Posting) (at h : ℕ) (one : Sums) (logs : List Log)
    (cut : Option ℕ) (before after : Tally)
    → length ps ≡ at → cut ≡ cut_place at x → h ≡ harvester_of x → IsTally i ps us before → IsPassed i x one logs
    → AreSumsTogether before.total one after.total
    → IsAdded (get nat_cmp before.owns h) h one cut (get nat_cmp after.owns h)
    → ((k : ℕ) → k ≢ h → get nat_cmp after.owns k ≡ get nat_cmp before.owns k)
    → AreCountsOn i x (logs_of x) before.counts.items after.counts.items
    → AreCountsOn i x logs before.unsteered.items after.unsteered.items
    → IsTallyWith i ps us x one logs after
tally_more i ps us x at h one logs cut before after number place is tally passed together added others counts
    unsteered =
    let u = passed.unsteered in
    let is' : h ≡ harvester_of u = is ∙ sym (same_harvester i x u passed.is_unsteered) in
    let there : cut ≡ cut_place (length ps) x = place ∙ ap (λ k. cut_place k x) (sym number) in
    record {
      unsteered = u;
      is_unsteered = passed.is_unsteered;
      logs_are = passed.logs_are;
      sums = passed.sums;
      tally = record {
        total = sums_join i ps (x ∷ []) us (u ∷ []) before.total one after.total tally.total passed.sums together;
        owns = λ k. elim (eqb_tells k h) [
          | inl e ↦ subst (λ n. IsOwn i n (ps ++ x ∷ []) (us ++ u ∷ []) (get nat_cmp after.owns n)) (sym e.1)
              (own_added i h ps us x u one cut (get nat_cmp before.owns h) (get nat_cmp after.owns h) there is is'
              (tally.owns h) passed.sums added)
          | inr e ↦ subst (λ o. IsOwn i k (ps ++ x ∷ []) (us ++ u ∷ []) o) (sym (others k e.1))
              (own_kept i k ps us x u (get nat_cmp before.owns k) (λ q. e.1 (q ∙ sym is)) (λ q. e.1 (q ∙ sym is'))
              (tally.owns k))
        ];
        counts = counted i ps x before.counts.items after.counts.items tally.counts counts;
        unsteered = counted i us u before.unsteered.items after.unsteered.items tally.unsteered
            (unsteered_counts i x u logs before.unsteered.items after.unsteered.items passed.is_unsteered
            passed.logs_are unsteered);
      };
    }

-- as few cuts and demands as postings
few_cuts : (ps : List Posting) → (sum_by cuts_in ps ≤ length ps) × (sum_by demands_in ps ≤ length ps)
few_cuts [] = (omega arith, omega arith)
few_cuts (Cut e ∷ ps) = (
  omega (arith, (few_cuts ps).0, sum_by-cons cuts_in (Cut e) ps),
  omega (arith, (few_cuts ps).1, sum_by-cons demands_in (Cut e) ps),
)
few_cuts (Demand d ∷ ps) = (
  omega (arith, (few_cuts ps).0, sum_by-cons cuts_in (Demand d) ps),
  omega (arith, (few_cuts ps).1, sum_by-cons demands_in (Demand d) ps),
)

-- there is room for one more in all sums
pub below_total : (i : InstructionParts) (ps us : List Posting) (t : Tally) → length ps < 1000000 → IsTally i ps us t
    → IsBelow t.total
below_total i ps us t few tally = record {
  stems = omega (arith, few, tally.total.stems, (few_cuts ps).0);
  demands = omega (arith, few, tally.total.demands, (few_cuts ps).1);
}

below_own : (i : InstructionParts) (h : ℕ) (ps us : List Posting) (o : Option Own) → length ps < 1000000
    → IsOwn i h ps us o → IfSome o (λ w. IsBelow w.sums)
below_own i h ps us None few own = tt
below_own i h ps us (Some o) few own =
    let less : length (own_of h ps) ≤ length ps =
    omega (
      arith,
      length-filter (λ (x : Posting). harvester_of x == h) ps,
      count_by-le-length (λ (x : Posting). harvester_of x == h) ps,
    ) in
    record {
      stems = omega (arith, few, less, own.1.stems, (few_cuts (own_of h ps)).0);
      demands = omega (arith, few, less, own.1.demands, (few_cuts (own_of h ps)).1);
    }

pub below_owns : (i : InstructionParts) (ps us : List Posting) (t : Tally) → length ps < 1000000 → IsTally i ps us t
    → (h : ℕ) → IfSome (get nat_cmp t.owns h) (λ o. IsBelow o.sums)
below_owns i ps us t few tally h = below_own i h ps us (get nat_cmp t.owns h) few (tally.owns h)

-- nothing was passed
pub tally_none : (i : InstructionParts) (t : Tally) → AreSums i [] [] t.total → ((h : ℕ) → get nat_cmp t.owns h ≡ None)
    → t.counts.items ≡ replicate (classes i) 0 → t.unsteered.items ≡ replicate (classes i) 0 → IsTally i [] [] t
tally_none i t sums none counts unsteered = record {
  total = sums;
  owns = λ h. subst (λ o. IsOwn i h [] [] o) (sym (none h)) (refl, refl);
  counts = zeros t.counts.items counts;
  unsteered = zeros t.unsteered.items unsteered;
}
  where
    zeros : (l : List ℕ) → l ≡ replicate (classes i) 0 → AreClassCounts i [] l
    zeros l e = record {
      one_each = ap length e ∙ length-replicate (classes i) 0;
      each = λ c k. ap (λ m. slice_index m (index_of i c)) e
          ∙ get_or-replicate (classes i) (index_of i c) 0 0 (place_lt i c k);
    }

-- no class has a log
pub none_high : (n : ℕ) (l : List ℕ) → l ≡ replicate n 0 → AreAtMost 0 l
none_high n l e = λ p. rw e (zero_at n p)
  where
    zero_at : (n p : ℕ) → get_or (replicate {A = ℕ} n 0) p 0 ≤ 0
    zero_at zero p = omega arith
    zero_at (suc n) zero = omega arith
    zero_at (suc n) (suc p) = zero_at n p

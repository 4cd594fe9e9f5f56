-- Each step on the front keeps its rule.
use Rattle.std.proofs.Common.{◌≡◌, ℕ, zero, suc, ◌<◌, ◌≤◌, ◌^◌, List, [], ◌∷◌, ◌++◌, All, Contains, length, slice_index, slice_index_or, slice_set, max, sym, refl, ap, subst, ◌∙◌, inl, inr, le_trans, arith, length-set}
use Rattle.std.proofs.lemmas.List.Elements.{All-set, All-append, Contains-push, Contains-append_left}
use Rattle.std.proofs.lemmas.List.{get_or-set_same, get_or-set_other, get_or_default}
use Rattle.std.proofs.lemmas.Bool.{cases_eq}
use mathlib.Core.Option.{none, some, some-injective, some-ne-none}
use lib.ListN.{get_elem?}
use Rattle.atomic_table.specs.Table.{Me, keeps, step, Allows, Splits}
use Rattle.buck_board.specs.Front.{IsSeenUpTo, IsFront, Reads, Raises}

-- one view that is at most the front
one : {front : ℕ} (seen : ℕ) → seen ≤ front → All (λ v. v ≤ front) (seen ∷ [])
one seen below zero d within = below
one seen below (suc k) d within = absurd (omega arith)

-- if a view is found, it is one of the views
elem_at : (views : List ℕ) (seat seen : ℕ) → get_elem? views seat ≡ some seen → (seat < length views)
    × (slice_index_or views seat seen ≡ seen)
elem_at [] seat seen is = absurd (some-ne-none seen (sym is))
elem_at (v ∷ views) zero seen is = (omega arith, some-injective v seen is)
elem_at (v ∷ views) (suc seat) seen is = let rest = elem_at views seat seen is in (omega (arith, rest.0), rest.1)

-- a version that a seat has seen is at most the front
seen_below : (front : ℕ) (views : List ℕ) (seat seen : ℕ) → IsSeenUpTo front views → get_elem? views seat ≡ some seen
    → seen ≤ front
seen_below front views seat seen rule is =
    let at = elem_at views seat seen is in subst (λ (n : ℕ). n ≤ front) at.1 (rule.newest seat seen at.0)

-- the front becomes a number that is no less, and one seat has seen it
raised : (front next : ℕ) (views : List ℕ) (seat : ℕ) → front ≤ next → next < 2 ^ 32 → IsSeenUpTo front views
    → IsSeenUpTo next (slice_set views seat next)
raised front next views seat up small rule =
    record {
      bounded = small;
      newest = All-set (λ v. v ≤ next) views seat next (omega arith)
          (λ k d within. le_trans (rule.newest k d within) up);
    }

-- the seat that took the step has seen it
has_seen : (views : List ℕ) (seat seen next : ℕ) → get_elem? views seat ≡ some seen
    → Contains (slice_set views seat next) next
has_seen views seat seen next is =
    let at = elem_at views seat seen is in
    (seat, rw length-set at.0, get_or-set_same views seat next next at.0)

-- after a seat becomes two, the front is still seen
still_seen : (views : List ℕ) (seat seen front : ℕ) → get_elem? views seat ≡ some seen → Contains views front
    → Contains (slice_set views seat seen ++ seen ∷ []) front
still_seen views seat seen front is there =
    let at = elem_at views seat seen is in elim (cases_eq there.0 seat) [
      | inl same ↦
          let own : seen ≡ front = sym at.1 ∙ get_or_default views seat seen front at.0
          ∙ ap (λ (k : ℕ). slice_index_or views k front) (sym same) ∙ there.2 in
          subst (λ v. Contains (slice_set views seat seen ++ seen ∷ []) v) own (Contains-push _ seen)
      | inr other ↦
          Contains-append_left _ _ front (
            there.0,
            rw length-set there.1,
            get_or-set_other views seat there.0 seen front other ∙ there.2,
          )
    ]

-- a step that doesn't lower the front and keeps it below 2 ^ 32
pub step_keeps : (slots id : ℕ) (me : Me (Unit {0}) ℕ) (f : ℕ → ℕ) (then : ℕ → Me (Unit {0}) ℕ → Type 0)
    → ((n : ℕ) → n < 2 ^ 32 → (n ≤ f n) × (f n < 2 ^ 32))
    → ((n : ℕ) → me.0 ≤ n → n < 2 ^ 32 → then n (f n, me.1)) → Allows IsFront slots id me 0 f then
step_keeps slots id me f then up told s rule homes mine fits =
    let word : slice_index s.words 0 ≡ rule.0 = ap (λ (ws : List ℕ). slice_index ws 0) rule.1 in
    let n = slice_index s.words 0 in
    let seen : IsSeenUpTo n s.views = subst (λ (m : ℕ). IsSeenUpTo m s.views) (sym word) rule.2 in
    let rises : (n ≤ f n) × (f n < 2 ^ 32) = up n seen.bounded in
    let words : slice_set s.words 0 (f n) ≡ f n ∷ [] = ap (λ (ws : List ℕ). slice_set ws 0 (f n)) rule.1 in (
      f n,
      keeps,
      tt,
      (f n, words, raised n (f n) s.views id rises.0 rises.1 seen, has_seen s.views id me.0 (f n) mine),
      told n (seen_below n s.views id me.0 seen mine) seen.bounded,
    )

-- Read
pub read_keeps : (slots id : ℕ) (me : Me (Unit {0}) ℕ)
    → Allows IsFront slots id me 0 (λ n. n) (Reads (step slots 0 0 0 none) me)
read_keeps slots id me =
    step_keeps slots id me (λ n. n) (Reads (step slots 0 0 0 none) me) (λ n small. (omega arith, small))
    (λ n seen small. (seen, small, refl))

-- Raise
pub raise_keeps : (slots id : ℕ) (me : Me (Unit {0}) ℕ) (version : ℕ) → version < 2 ^ 32
    → Allows IsFront slots id me 0 (λ n. max n version) (Raises (step slots 0 version 0 none) me)
raise_keeps slots id me version fits =
    step_keeps slots id me (λ n. max n version) (Raises (step slots 0 version 0 none) me)
    (λ n small. (omega arith, omega arith)) (λ n seen small. (seen, small, refl))

-- what a store in place of a raise would owe: no front may be above what is stored. The edit that tries one cites it
pub store_keeps : (slots id : ℕ) (me : Me (Unit {0}) ℕ) (new : ℕ) → ((n : ℕ) → n < 2 ^ 32 → (n ≤ new) × (new < 2 ^ 32))
    → Allows IsFront slots id me 0 (λ _. new) (λ _. Raises (step slots 0 new 0 none) me new)
store_keeps slots id me new up =
    step_keeps slots id me (λ _. new) (λ _. Raises (step slots 0 new 0 none) me new) up
    (λ n seen small. (le_trans seen (up n small).0, (up n small).1, omega arith))

-- a further seat that has seen as much
pub split_keeps : (id seen : ℕ) → Splits IsFront id seen seen seen
split_keeps id seen s rule mine =
    let below : seen ≤ rule.0 = seen_below rule.0 s.views id seen rule.2 mine in
    let all : All (λ v. v ≤ rule.0) (slice_set s.views id seen ++ seen ∷ []) = All-append (λ v. v ≤ rule.0)
    (slice_set s.views id seen) (seen ∷ []) (All-set (λ v. v ≤ rule.0) s.views id seen below rule.2.newest)
    (one seen below) in
    (rule.0, rule.1, record { bounded = rule.2.bounded; newest = all }, still_seen s.views id seen rule.0 mine rule.3)

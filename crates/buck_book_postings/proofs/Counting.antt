-- Running counts of entries, one entry on.
use Rattle.buck_book_postings.proofs.Words.{map, count_by, refl, sum_by-cons, length-map, StemParts, ArePlaces, class_place, ◌≡◌, ℕ, ◌+◌, ◌-◌, ◌<◌, ◌≤◌, ◌==◌, cond, List, [], ◌∷◌, ◌++◌, length, get_or, set, take, replicate, ◌^◌, sym, ◌∙◌}
use Rattle.buck_book_postings.proofs.Words.{ap, inl, inr, arith, eq-eqb, rules, common_steps, ne_eqb, cases_eq, get_or-set_same, get_or-set_other, length-set, get_or_past, get_or-replicate, length-replicate, sum_by-le-sum_by, sum_by_push}
use Rattle.buck_book_postings.proofs.Words.{count_by-le-length, Class, InstructionParts, classes, Log, Posting, Cut, Demand, harvester_of, class_logs_in, assortment_logs_in, count_of, assortment_count_of, calls_of, AreCounts, AreAtMost}
use Rattle.buck_book_postings.proofs.Words.{AreCalls, AreGrownBy, AreGrownAt}
use Rattle.buck_book_postings.proofs.Cuts.{class_logs-le}

zeros : (n k : ℕ) → get_or (replicate {A = ℕ} n 0) k 0 ≡ 0
zeros n k = grind (arith, get_or-replicate, get_or_past, length-replicate)

-- all counts are 0 before the first entry
pub none_counted : (i : InstructionParts) (n m : ℕ) → n ≡ classes i → m ≡ length i.assortments
    → AreCounts i [] (replicate {A = ℕ} n 0) (replicate {A = ℕ} m 0)
none_counted i n m e f = grind (arith, length-replicate, zeros)

pub none_low : (n m : ℕ) → AreAtMost 0 (replicate {A = ℕ} n 0) (replicate {A = ℕ} m 0)
none_low n m = grind (arith, zeros)

logs_in-le : (i : InstructionParts) (c : Class) (x : Posting) → class_logs_in i c x ≤ assortment_logs_in c.assortment x
logs_in-le i c (Cut e) = class_logs-le i c e.stem e.logs
logs_in-le i c (Demand d) = omega arith

pub count_of-le : (i : InstructionParts) (c : Class) (ps : List Posting)
    → count_of i c ps ≤ assortment_count_of c.assortment ps
count_of-le i c ps = search (rules, sum_by-le-sum_by, logs_in-le)

-- the numbers of calls after one posting more
pub calls_more : (ps : List Posting) (x : Posting) (calls : List ℕ) (h number : ℕ)
    → AreCalls ps calls → harvester_of x ≡ h → 0 < h → h ≤ 64 → number ≡ calls_of h ps + 1
    → AreCalls (ps ++ x ∷ []) (set calls (h - 1) number)
calls_more ps x calls h number are is pos most next = record {
  number = length-set calls (h - 1) number ∙ are.number;
  each = λ k lt. elim (cases_eq k (h - 1)) [
    | inl same ↦
        let here : k + 1 ≡ h = omega arith in
        let value = get_or-set_same calls (h - 1) number 0 (omega (arith, are.number)) in
        let pushed = sum_by_push (λ y. cond (harvester_of y == h) 1 0) ps x in
        rw (here, same, value)
        (next ∙ sym (pushed ∙ ap (λ b. calls_of h ps + cond b 1 0) (eq-eqb (harvester_of x) h is)))
    | inr other ↦ search (rules, ne_eqb, sum_by_push, get_or-set_other)
  ];
}

pub calls-le : (h : ℕ) (ps : List Posting) → calls_of h ps ≤ length ps
calls-le h ps = count_by-le-length (λ x. harvester_of x == h) ps

-- one thing more
pub grown_more : {X : Type 0} (place : X → ℕ) (before after : List ℕ) (xs : List X) (i p : ℕ) (d : X)
    → i < length xs → p ≡ place (get_or xs i d) → p < length after → AreGrownAt place before (take i xs) after
    → AreGrownAt place before (take (i + 1) xs) (set after p (get_or after p 0 + 1))
grown_more place before after xs i p d lt is within grown = grind (arith, common_steps)

-- things are counted by their places
mapped : {X : Type 0} (place : X → ℕ) (k : ℕ) (xs : List X)
    → count_by (λ p. p == k) (map place xs) ≡ count_by (λ x. place x == k) xs
mapped place k [] = refl
mapped place k (x ∷ xs) =
    sum_by-cons (λ (p : ℕ). cond (p == k) 1 0) (place x) (map place xs)
    ∙ ap (λ n. cond (place x == k) 1 0 + n) (mapped place k xs)
    ∙ sym (sum_by-cons (λ y. cond (place y == k) 1 0) x xs)

pub grown_placed : {X : Type 0} (place : X → ℕ) (before : List ℕ) (xs : List X) (places after : List ℕ)
    → places ≡ map place xs → AreGrownAt (λ p. p) before places after → AreGrownAt place before xs after
grown_placed place before xs places after is grown = record {
  number = grown.number;
  each = λ k. grown.each k ∙ ap (λ (ps : List ℕ). get_or before k 0 + count_by (λ p. p == k) ps) is
      ∙ ap (λ n. get_or before k 0 + n) (mapped place k xs);
}

pub length_places : (i : InstructionParts) (stem : StemParts) (logs : List Log) (places : List ℕ)
    → ArePlaces i stem logs places → length places ≡ length logs
length_places i stem logs places p = ap length p.are ∙ length-map logs (class_place i stem)

-- one log more
pub grown_by_more : (before after : List ℕ) (logs : List Log) (i n : ℕ) (g : Log) → i < length logs
    → g ≡ get_or logs i g → g.assortment < length after → n ≡ get_or after g.assortment 0
    → AreGrownBy before (take i logs) after → AreGrownBy before (take (i + 1) logs) (set after g.assortment (n + 1))
grown_by_more before after logs i n g lt is within value grown =
    rw value
    (grown_more (λ x. x.assortment) before after logs i g.assortment g lt (ap (λ (x : Log). x.assortment) is) within
    grown)

pub grown_by_fits : (before after : List ℕ) (logs : List Log) (i a n : ℕ) → i < length logs → n ≡ get_or after a 0
    → AreGrownBy before (take i logs) after → get_or before a 0 + length logs < 2 ^ 32 → n + 1 < 2 ^ 32
grown_by_fits before after logs i a n lt value grown low = grind (arith, common_steps)

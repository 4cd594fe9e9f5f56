-- kept lists that are put in their places, one by one
use Rattle.buck_fleet.proofs.Words.{append-nil, sym, common_steps, sum_by-le, ◌≡◌, ◌≢◌, ℕ, ◌+◌, ◌-◌, ◌<◌, ◌≤◌, ◌==◌, List, [], ◌∷◌, ◌++◌, length, get_or, set, inl, inr, ap, ◌∙◌, arith, append_assoc, cond, length-set, length-append, rules}
use Rattle.buck_fleet.proofs.Words.{cases_eq, nat_tests, All, sum_by, sum_by-cons, sum_by-set, get_or-le-sum_by, get_or-set_other, get_or-set_same, get_or-append_seam, Kept, SeatParts, parts_of, IsCrew}

-- no two seats are one harvester's
apart : (n i j : ℕ) (all : List SeatParts) (d : SeatParts) → IsCrew n all → i < length all → j < length all → j ≢ i
    → (get_or all j d).harvester ≢ (get_or all i d).harvester
apart n i j all d crew li lj other same =
    let h = (get_or all i d).harvester in
    let w = crew.within i d li in
    let o = crew.once h w.0 w.1 in
    let f = λ (s : SeatParts). cond (s.harvester == h) 1 0 in
    let nobody : SeatParts = record d { harvester = 0 } in
    let a = sum_by-set f all i nobody d li in
    let b = get_or-le-sum_by f (set all i nobody) j d in
    let k = ap (λ s. s.harvester) (get_or-set_other all i j nobody d other) in
    grind (arith, nat_tests, a, b, k, length-set)

-- the first of all seats, those in `rest`, are still to be taken in
pub record Places (all rest : List SeatParts) (lists : List (List Kept)) (parts amount : ℕ) : Type 0 where
  pub done : List SeatParts
  pub split : all ≡ rest ++ done
  pub crew : IsCrew (length lists) all
  pub in_place : (k : ℕ) (d : SeatParts) → length rest ≤ k → k < length all
      → get_or lists ((get_or all k d).harvester - 1) [] ≡ (get_or all k d).kept
  pub empty : (k : ℕ) (d : SeatParts) → k < length rest → get_or lists ((get_or all k d).harvester - 1) [] ≡ []
  pub parts_are : parts ≡ parts_of done
  pub amount_is : amount ≡ sum_by length lists

-- none is taken in yet
pub none_in : (all : List SeatParts) (lists : List (List Kept)) (parts amount : ℕ) → IsCrew (length lists) all
    → All (λ l. l ≡ []) lists → parts ≡ 0 → amount ≡ 0 → Places all all lists parts amount
none_in all lists parts amount crew blank none nothing = record {
  done = [];
  split = sym (append-nil all);
  crew = crew;
  in_place = λ k d low lt. absurd (omega arith);
  empty = λ k d lt. blank_at lists _ blank;
  parts_are = none;
  amount_is = omega (arith, sum_by-le length 0 lists (λ k d lt. omega (arith, ap length (blank k d lt))));
}
  where
    blank_at : (lists : List (List Kept)) (k : ℕ) → All (λ l. l ≡ []) lists → get_or lists k [] ≡ []
    blank_at lists k blank = grind (arith, common_steps)

-- the last of those that are left is taken in
module _ (all rest rest' : List SeatParts) (s : SeatParts) (lists : List (List Kept)) (parts amount : ℕ)
    (p : Places all rest lists parts amount) (last : rest ≡ rest' ++ s ∷ []) where
  split : all ≡ rest' ++ s ∷ p.done
  split = search (rules, append_assoc)

  long : (length all ≡ length rest' + 1 + length p.done) × (length rest ≡ length rest' + 1)
  long = (
    omega (arith, ap length split, length-append rest' (s ∷ p.done)),
    omega (arith, ap length last, length-append rest' (s ∷ [])),
  )

  here : (d : SeatParts) → get_or all (length rest') d ≡ s
  here d = rw split (get_or-append_seam rest' s p.done d)

  pub in_range : (0 < s.harvester) × (s.harvester ≤ length lists)
  in_range = rw (here s) at (p.crew.within (length rest') s (omega (arith, long)))

  other : (k : ℕ) (d : SeatParts) (l : List Kept) → k < length all → k ≢ length rest'
      → get_or (set lists (s.harvester - 1) l) ((get_or all k d).harvester - 1) []
      ≡ get_or lists ((get_or all k d).harvester - 1) []
  other k d l lt ne =
      let own = ap (λ x. x.harvester) (here d) in
      let low = (p.crew.within k d lt).0 in
      get_or-set_other lists _ _ l [] (λ e. apart _ (length rest') k all d p.crew (omega (arith, long)) lt ne
      (omega (arith, in_range)))

  pub one_more_in : (own : ℕ) (lists' : List (List Kept)) (parts' amount' : ℕ)
      → lists' ≡ set lists (s.harvester - 1) s.kept → parts' ≡ parts + s.parts → amount' ≡ amount + own
      → own ≡ length s.kept → Places all rest' lists' parts' amount'
  one_more_in own lists' parts' amount' set_ more longer is = record {
    done = s ∷ p.done;
    split = split;
    crew = rw (set_, length-set) p.crew;
    in_place = λ k d low lt. elim (cases_eq k (length rest')) [
      | inl same ↦
          rw (set_, same, here d) (get_or-set_same lists (s.harvester - 1) s.kept [] (omega (arith, in_range)))
      | inr ne ↦ rw set_ (other k d s.kept lt ne ∙ p.in_place k d (omega (arith, long)) lt)
    ];
    empty = λ k d lt. rw set_ (other k d s.kept (omega (arith, long)) (λ e. absurd (omega arith))
        ∙ p.empty k d (omega (arith, long)));
    parts_are = omega (arith, sum_by-cons (λ (x : SeatParts). x.parts) s p.done);
    amount_is = let none = rw (here s) at (p.empty (length rest') s (omega (arith, long))) in
        let set = sum_by-set length lists (s.harvester - 1) s.kept [] (omega (arith, in_range)) in
        omega (arith, ap (sum_by length) set_, set, ap length none);
  }

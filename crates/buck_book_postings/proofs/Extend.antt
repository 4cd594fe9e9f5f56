-- Prefixes of lawful histories, and lawful histories one posting longer.
use Rattle.buck_book_postings.proofs.Words.{◌≡◌, ℕ, zero, suc, ◌+◌, ◌<◌, ◌≤◌, ◌⊎◌, inl, inr, List, [], ◌∷◌, ◌++◌, length, take, get_or, slice_get, Option, Some, None, refl, sym, ap, ◌∙◌, arith, rules, common_steps, take_all, take-append-le}
use Rattle.buck_book_postings.proofs.Words.{take-take, length-take-le, length_push, get_or-take, get_or_append_left, get_or_push, slice_get_within, slice_get-get_or, get_or_from_slice_get, InstructionParts, SheetParts, Posting, ends_of}
use Rattle.buck_book_postings.proofs.Words.{planned_version, HistoryParts, IsLawful, Follows, IsEnd, PricesMeet, prices_at, sheets_with, history_with, first_of, IsNext}
use Rattle.buck_book_postings.proofs.Ends.{ends_with_end, ends_without, ends_take-le, ends_past}

-- an element of a list one longer
pub slice_get-push : {X : Type 0} (xs : List X) (y x : X) (i : ℕ) → slice_get (xs ++ y ∷ []) i ≡ Some x
    → ((i < length xs) × (slice_get xs i ≡ Some x)) ⊎ ((i ≡ length xs) × (x ≡ y))
slice_get-push [] y x zero e = inr (refl, (cc))
slice_get-push [] y x (suc i) e = absurd (cc)
slice_get-push (z ∷ xs) y x zero e = inl (omega arith, e)
slice_get-push (z ∷ xs) y x (suc i) e = grind (arith, (slice_get-push xs y x i e))

-- an element of a shorter list
pub slice_get-take : {X : Type 0} (xs : List X) (n i : ℕ) (x : X) → n ≤ length xs → slice_get (take n xs) i ≡ Some x
    → (i < n) × (slice_get xs i ≡ Some x)
slice_get-take xs n i x le e =
    let within : i < length (take n xs) = slice_get_within (take n xs) i x e in
    let lt : i < n = omega (arith, length-take-le n xs le) in
    let is : get_or xs i x ≡ x = sym (get_or-take n xs i x lt) ∙ get_or_from_slice_get (take n xs) i x x e in
    grind (arith, slice_get-get_or)

-- a posting follows if the prices of its version are the same
pub follows_same : (i : InstructionParts) (these those : List (List ℕ)) (before : List Posting) (x : Posting)
    → prices_at those (planned_version x) ≡ prices_at these (planned_version x)
    → Follows i these before x → Follows i those before x
follows_same i these those before x same f = grind (arith, common_steps)

-- the sheet of a posting is there
pub version_within : (h : HistoryParts) (k : ℕ) (x : Posting) → IsLawful h → slice_get h.postings k ≡ Some x
    → (planned_version x ≡ ends_of h.instruction (take k h.postings)) × (planned_version x < length h.sheets)
version_within h k x l at =
    let w = (l.postings_follow k x at).version_in_force in
    search (rules, ends_take-le)

pub prefix : (h : HistoryParts) (k : ℕ) → IsLawful h → k ≤ length h.postings → IsLawful (first_of k h)
prefix h k l le =
    let i = h.instruction in
    let n : ℕ = ends_of i (take k h.postings) + 1 in
    record {
      postings_follow = λ j x at.
          let here = slice_get-take h.postings k j x le at in
          let one = take-take j k h.postings (omega (arith, here.0)) in
          let low : planned_version x < n =
          omega (
            arith,
            (version_within h j x l here.1).0,
            ends_take-le i (take k h.postings) j,
            ap (λ xs. ends_of i xs) one,
          ) in
          rw one
          (follows_same i h.sheets (take n h.sheets) (take j h.postings) x
          (get_or-take n h.sheets (planned_version x) [] low) (l.postings_follow j x here.1));
      sheets_number = search (rules, length-take-le, ends_take-le);
      base_sheet = get_or-take n h.sheets 0 [] (omega arith) ∙ l.base_sheet;
      sheets_meet = λ j x at e.
          let here = slice_get-take h.postings k j x le at in
          let one = take-take j k h.postings (omega (arith, here.0)) in
          let low : ends_of i (take j h.postings) + 1 < n =
          omega (arith, ends_past i (take k h.postings) j x at e, ap (λ xs. ends_of i xs) one) in
          rw (one, take-take (j + 1) k h.postings (omega (arith, here.0)), get_or-take n h.sheets _ [] low)
          (l.sheets_meet j x here.1 (rw one at e));
    }

-- what a list of sheets says of an older version stays with more sheets
pub prices_stay : (sheets : List (List ℕ)) (next : Option SheetParts) (v : ℕ) → v < length sheets
    → prices_at (sheets_with sheets next) v ≡ prices_at sheets v
prices_stay sheets None v lt = refl
prices_stay sheets (Some s) v lt = get_or_append_left sheets (s.prices ∷ []) [] v lt

-- the next sheet, if there is one, is there as it should be
next_meets : (h : HistoryParts) (x : Posting) (next : Option SheetParts) → IsLawful h → IsNext h x next
    → IsEnd h.instruction h.postings x
    → PricesMeet h.instruction (h.postings ++ x ∷ [])
    (prices_at (sheets_with h.sheets next) (ends_of h.instruction h.postings + 1))
next_meets h x next l n last = grind (arith, get_or_push)

pub one_more : (h : HistoryParts) (x : Posting) (next : Option SheetParts) → IsLawful h
    → Follows h.instruction h.sheets h.postings x → IsNext h x next → IsLawful (history_with h x next)
one_more h x next l follows n =
    let i = h.instruction in
    let whole : take (length h.postings) (h.postings ++ x ∷ []) ≡ h.postings =
    take-append-le (length h.postings) h.postings (x ∷ []) (omega arith)
    ∙ take_all (length h.postings) h.postings (omega arith) in
    let with_it : take (length h.postings + 1) (h.postings ++ x ∷ []) ≡ h.postings ++ x ∷ [] =
    take_all (length h.postings + 1) (h.postings ++ x ∷ []) (omega (arith, length_push h.postings x)) in
    record {
      postings_follow = λ k y at. elim (slice_get-push h.postings x y k at) [
        | inl old ↦
            rw (take-append-le k h.postings (x ∷ []) (omega (arith, old.0)))
            (follows_same i h.sheets (sheets_with h.sheets next) (take k h.postings) y
            (prices_stay h.sheets next (planned_version y) (version_within h k y l old.1).1)
            (l.postings_follow k y old.1))
        | inr new ↦
            let w : planned_version x < length h.sheets = omega (arith, follows.version_in_force, l.sheets_number) in
            rw (new.0, new.1, whole)
            (follows_same i h.sheets (sheets_with h.sheets next) h.postings x
            (prices_stay h.sheets next (planned_version x) w) follows)
      ];
      sheets_number = grind (arith, ends_without, length_push, ends_with_end);
      base_sheet = prices_stay h.sheets next 0 (omega (arith, l.sheets_number)) ∙ l.base_sheet;
      sheets_meet = λ k y at e. elim (slice_get-push h.postings x y k at) [
        | inl old ↦
            let before = take-append-le k h.postings (x ∷ []) (omega (arith, old.0)) in
            let e' = rw before at e in
            let low : ends_of i (take k h.postings) + 1 < length h.sheets =
            omega (arith, l.sheets_number, ends_past i h.postings k y old.1 e') in
            rw (before, take-append-le (k + 1) h.postings (x ∷ []) (omega (arith, old.0)), prices_stay h.sheets next _ low)
            (l.sheets_meet k y old.1 e')
        | inr new ↦ rw (new.0, whole, with_it) (next_meets h x next l n (rw (new.0, new.1, whole) at e))
      ];
    }

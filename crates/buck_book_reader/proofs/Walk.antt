-- Going over the items of a journal, as the loops do.
use Rattle.buck_book_reader.proofs.Words.{◌≡◌, ℕ, ◌+◌, ◌-◌, ◌<◌, ◌≤◌, true, false, List, [], ◌∷◌, ◌++◌, Result, Ok, Err, Some, length, map, take, drop, length-drop, get_or, refl, sym, ap, ◌∙◌, drop-cons, add-one, append_assoc, arith}
use Rattle.buck_book_reader.proofs.Words.{drop_all, take_all, append-nil, length_push, ItemParts, Posting, ◌>>=◌, after_front, JournalFault, is_first, posting_at, sheets_from, postings_from}
use Rattle.buck_book_journal.specs.Reading.{sheet_at}

regroup : {X : Type 0} (made : List X) (x : X) (read : Result (List X) JournalFault)
    → after_front made (read >>= λ xs. Ok (x ∷ xs)) ≡ after_front (made ++ x ∷ []) read
regroup made x (Ok xs) = ap (λ ys. Ok ys) (simp append_assoc)
regroup made x (Err e) = refl

module _ (items : List ItemParts) (k : ℕ) where
  here : (x : ItemParts) → k < length items → x ≡ get_or items k x → drop k items ≡ x ∷ drop (k + 1) items
  here x lt at = rw add-one (drop-cons items k x lt) ∙ ap (λ y. y ∷ drop (k + 1) items) (sym at)

  -- what a loop has made so far, if the items from its place on are read as the rest
  module _ (made : List (List ℕ)) (all : Result (List (List ℕ)) JournalFault)
      (so_far : after_front made (sheets_from k (drop k items)) ≡ all) where
    pub sheets_end : length items ≤ k → all ≡ Ok made
    unfolding sheets_from
    sheets_end le = sym (rw (drop_all k items le, append-nil made) at so_far)

    pub sheets_stop : (x : ItemParts) → k < length items → x ≡ get_or items k x → is_first x ≡ true → all ≡ Ok made
    unfolding sheets_from
    sheets_stop x lt at h = sym (rw (here x lt at, h, append-nil made) at so_far)

    module _ (x : ItemParts) (lt : k < length items) (at : x ≡ get_or items k x) (h : is_first x ≡ false) where
      pub sheet_wrong : (e : JournalFault) → sheet_at (k + 1) (Some x) ≡ Err e → all ≡ Err e
      unfolding sheets_from
      sheet_wrong e r = sym (rw (here x lt at, h, r) at so_far)

      pub sheet_more : (prices : List ℕ) → sheet_at (k + 1) (Some x) ≡ Ok prices
          → after_front (made ++ prices ∷ []) (sheets_from (k + 1) (drop (k + 1) items)) ≡ all
      unfolding sheets_from
      sheet_more prices r = sym (regroup made prices _) ∙ (rw (here x lt at, h, r) at so_far)

  module _ (made : List Posting) (all : Result (List Posting) JournalFault)
      (so_far : after_front made (postings_from k (length made) (drop k items)) ≡ all) where
    pub postings_stop : length items ≤ k → all ≡ Ok made
    unfolding postings_from
    postings_stop le = sym (rw (drop_all k items le, append-nil made) at so_far)

    module _ (x : ItemParts) (lt : k < length items) (at : x ≡ get_or items k x) where
      pub no_posting : is_first x ≡ false
          → after_front made (postings_from (k + 1) (length made) (drop (k + 1) items)) ≡ all
      unfolding postings_from
      no_posting h = rw (here x lt at, h) at so_far

      those : take (length items - k) (drop k items) ≡ x ∷ drop (k + 1) items
      those = take_all (length items - k) (drop k items) (simp length-drop (omega arith)) ∙ here x lt at

      pub posting_wrong : is_first x ≡ true → (e : JournalFault)
          → posting_at x (take (length items - k) (drop k items)) k (length made) ≡ Err e → all ≡ Err e
      unfolding postings_from
      posting_wrong h e r = sym (rw (here x lt at, h, rw those at r) at so_far)

      pub posting_more : is_first x ≡ true → (p : Posting)
          → posting_at x (take (length items - k) (drop k items)) k (length made) ≡ Ok p
          → after_front (made ++ p ∷ []) (postings_from (k + 1) (length (made ++ p ∷ [])) (drop (k + 1) items)) ≡ all
      unfolding postings_from
      posting_more h p r =
          rw (length_push made p) (sym (regroup made p _) ∙ (rw (here x lt at, h, rw those at r) at so_far))

-- a list with one element more, each seen by f
pub pushed : {A : Type 0} (f : A → List ℕ) (xs : List A) (x : A) (ys : List ℕ) → f x ≡ ys
    → map f (xs ++ x ∷ []) ≡ map f xs ++ ys ∷ []
pushed f [] x ys e = ap (λ z. z ∷ []) e
pushed f (y ∷ more) x ys e = ap (λ zs. f y ∷ zs) (pushed f more x ys e)

-- Where the stems that a harvester cut and those of its file differ.
use Rattle.std.proofs.Common.{◌≡◌, ◌≢◌, ℕ, zero, suc, ◌+◌, ◌-◌, ◌<◌, ◌≤◌, ◌==◌, true, false, cond, inl, inr, List, [], ◌∷◌, ◌++◌, length, map, take, drop, get_or, drop-cons, add-one, refl, sym, ap, ◌∙◌, arith, length-append, length-take-le}
use Rattle.std.proofs.Common.{append_assoc, take_all, eqb-true}
use Rattle.std.specs.Prelude.{slice_get, Some, None}
use Rattle.std.specs.List.{flat_map}
use Rattle.std.specs.Option.{option_to_list}
use Rattle.std.proofs.lemmas.Bool.{cases_Bool}
use Rattle.std.proofs.lemmas.List.Concat.{flat_map-cons}
use Rattle.std.proofs.lemmas.List.{take_more}
use Rattle.std.proofs.lemmas.Option.{same_Some, slice_get-get_or}
use Rattle.buck_stem_shape.specs.Stem.{StemParts}
use Rattle.buck_book_postings.specs.declared.posting.Posting.{Posting}
use Rattle.buck_book_postings.specs.declared.posting.Posting.TheVariants.{Cut, Demand}
use Rattle.buck_book_postings.specs.Posting.{harvester_of}
use Rattle.buck_book_postings.specs.History.{HistoryParts}
use Rattle.buck_book_postings.specs.Replies.{stem_cut, replies_from}
use Rattle.buckfleet_engine_files.specs.declared.check_fault.CheckFault.TheVariants.{Other}
use Rattle.buckfleet_engine_cross_check.specs.Ties.{AreAlikeBefore, DifferBy, stems_by}
use Rattle.buckfleet_engine_cross_check.specs.inner.Tie.{stem_of_own, stems_cut_in}

take_seam : (k : ℕ) (xs ys : List StemParts) → k ≤ length xs → take k (take k xs ++ ys) ≡ take k xs
take_seam zero xs ys le = refl
take_seam (suc k) [] ys le = absurd (omega arith)
take_seam (suc k) (x ∷ xs) ys le = ap (λ (l : List StemParts). x ∷ l) (take_seam k xs ys (omega arith))

get_seam : (k : ℕ) (xs : List StemParts) (y : StemParts) (ys : List StemParts) → k ≤ length xs
    → slice_get (take k xs ++ y ∷ ys) k ≡ Some y
get_seam zero xs y ys le = refl
get_seam (suc k) [] y ys le = absurd (omega arith)
get_seam (suc k) (x ∷ xs) y ys le = get_seam k xs y ys (omega arith)

-- up to k they are alike
alike : (k : ℕ) (cut file rest : List StemParts) → k ≤ length file → cut ≡ take k file ++ rest
    → AreAlikeBefore (k + 1) cut file
alike k cut file rest le is =
    let back : k + 1 - 1 ≡ k = omega arith in
    (omega arith, rw (back, is) (take_seam k file rest le))

so_long : (k : ℕ) (cut file rest : List StemParts) → k ≤ length file → cut ≡ take k file ++ rest
    → length cut ≡ k + length rest
so_long k cut file rest le is = ap (λ (l : List StemParts). length l) is
    ∙ omega (arith, length-append (take k file) rest, length-take-le k file le)

-- both have another stem there
pub differ_other : (h k : ℕ) (cut file rest : List StemParts) (x y : StemParts) → k < length file
    → cut ≡ take k file ++ x ∷ rest → y ≡ get_or file k y → x ≢ y
    → DifferBy h cut file (Other h (k + 1))
differ_other h k cut file rest x y lt is at ne =
    let back : k + 1 - 1 ≡ k = omega arith in
    let le : k ≤ length file = omega (arith, lt) in (
      refl,
      alike k cut file (x ∷ rest) le is,
      omega (arith, so_long k cut file (x ∷ rest) le is),
      omega (arith, lt),
      rw back (λ e. ne
          (same_Some x y
          (sym (ap (λ (l : List StemParts). slice_get l k) is ∙ get_seam k file x rest le) ∙ e
          ∙ slice_get-get_or file k y lt ∙ ap Some (sym at)))),
    )

-- one stem more is the same
pub one_more : (k : ℕ) (cut file rest : List StemParts) (x : StemParts) → k < length file
    → cut ≡ take k file ++ x ∷ rest → x ≡ get_or file k x → cut ≡ take (k + 1) file ++ rest
one_more k cut file rest x lt is at =
    is ∙ sym (append_assoc (take k file) (x ∷ []) rest)
    ∙ ap (λ (l : List StemParts). l ++ rest) (ap (λ y. take k file ++ y ∷ []) at ∙ sym (take_more file k x lt))

-- and all are the same
pub all_same : (k : ℕ) (cut file : List StemParts) → length file ≤ k → cut ≡ take k file ++ [] → cut ≡ file
all_same k cut file past is = is ∙ append_nil (take k file) ∙ take_all k file past
  where
    append_nil : (xs : List StemParts) → xs ++ [] ≡ xs
    append_nil [] = refl
    append_nil (x ∷ xs) = ap (λ l. x ∷ l) (append_nil xs)

-- what a harvester cut from posting i on
module _ (h i k : ℕ) (ps : List Posting) (cut file : List StemParts)
    (so_far : cut ≡ take k file ++ stems_cut_in h (drop i ps)) where
  next : (x : Posting) → i < length ps → x ≡ get_or ps i x
      → stems_cut_in h (drop i ps) ≡ option_to_list (stem_of_own h x) ++ stems_cut_in h (drop (i + 1) ps)
  next x lt at =
      let here : drop i ps ≡ x ∷ drop (i + 1) ps = rw add-one (drop-cons ps i x lt)
      ∙ ap (λ z. z ∷ drop (i + 1) ps) (sym at) in
      ap (stems_cut_in h) here ∙ flat_map-cons (λ y. option_to_list (stem_of_own h y)) x (drop (i + 1) ps)

  pub own_some : (x : Posting) (s : StemParts) → i < length ps → x ≡ get_or ps i x → Some s ≡ stem_of_own h x
      → cut ≡ take k file ++ s ∷ stems_cut_in h (drop (i + 1) ps)
  own_some x s lt at own =
      so_far ∙ ap (λ l. take k file ++ l)
      (next x lt at ∙ ap (λ o. option_to_list o ++ stems_cut_in h (drop (i + 1) ps)) (sym own))

  pub own_none : (x : Posting) → i < length ps → x ≡ get_or ps i x → None ≡ stem_of_own h x
      → cut ≡ take k file ++ stems_cut_in h (drop (i + 1) ps)
  own_none x lt at own =
      so_far ∙ ap (λ l. take k file ++ l)
      (next x lt at ∙ ap (λ o. option_to_list o ++ stems_cut_in h (drop (i + 1) ps)) (sym own))

  pub own_past : length ps ≤ i → cut ≡ take k file ++ []
  own_past past = so_far ∙ ap (λ l. take k file ++ stems_cut_in h l) (drop_past i ps past)
    where
      drop_past : (i : ℕ) (xs : List Posting) → length xs ≤ i → drop i xs ≡ []
      drop_past zero [] le = refl
      drop_past zero (x ∷ xs) le = absurd (omega arith)
      drop_past (suc i) [] le = refl
      drop_past (suc i) (x ∷ xs) le = drop_past i xs (omega arith)

not_own : (h : ℕ) (x : Posting) → harvester_of x < h → stem_of_own h x ≡ None
not_own h (Cut e) lt = elim (cases_Bool (e.harvester == h)) [
  | inl yes_ ↦ absurd (let same : e.harvester ≡ h = eqb-true e.harvester h yes_ in omega (arith, same, lt))
  | inr no_ ↦ ap (λ b. cond b (Some e.stem) None) no_
]
not_own h (Demand d) lt = refl

-- whose number is greater than all has cut nothing
pub cut_nothing : (h last : ℕ) (ps : List Posting)
    → ((i : ℕ) (d : Posting) → i < length ps → harvester_of (get_or ps i d) ≤ last) → last < h → stems_cut_in h ps ≡ []
cut_nothing h last [] all lt = refl
cut_nothing h last (x ∷ ps) all lt =
    flat_map-cons (λ y. option_to_list (stem_of_own h y)) x ps
    ∙ ap (λ o. option_to_list o ++ stems_cut_in h ps) (not_own h x (omega (arith, all 0 x (omega arith), lt)))
    ∙ cut_nothing h last ps (λ i d below. all (suc i) d (omega (arith, below))) lt

one_cut : (h at : ℕ) (x : Posting) (ps : List Posting) (b : _) → (harvester_of x == h) ≡ b
    → flat_map option_to_list (map (λ k. stem_cut k.entry) (replies_from h (at + 1) ps)) ≡ stems_cut_in h ps
    → flat_map option_to_list (map (λ k. stem_cut k.entry) (replies_from h at (x ∷ ps)))
    ≡ option_to_list (stem_of_own h x) ++ stems_cut_in h ps
one_cut h at (Cut e) ps true own rest = rw own (ap (λ l. e.stem ∷ l) rest)
one_cut h at (Cut e) ps false own rest = rw own rest
one_cut h at (Demand d) ps true own rest = rw own rest
one_cut h at (Demand d) ps false own rest = rw own rest

cut_from : (h at : ℕ) (ps : List Posting)
    → flat_map option_to_list (map (λ k. stem_cut k.entry) (replies_from h at ps)) ≡ stems_cut_in h ps
cut_from h at [] = refl
cut_from h at (x ∷ ps) =
    one_cut h at x ps (harvester_of x == h) refl (cut_from h (at + 1) ps)
    ∙ sym (flat_map-cons (λ y. option_to_list (stem_of_own h y)) x ps)

-- what a harvester cut of a history
pub cut_of_history : (h : ℕ) (history : HistoryParts) (ps : List Posting) → history.postings ≡ ps
    → stems_by h history ≡ stems_cut_in h ps
cut_of_history h history ps is = cut_from h 0 history.postings ∙ ap (stems_cut_in h) is

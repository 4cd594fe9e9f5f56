-- A text that is cut in two at a tilde.
use Rattle.std.proofs.Common.{◌≡◌, ℕ, suc, ◌+◌, ◌*◌, ◌/◌, ◌<◌, ◌≤◌, Bool, true, false, cond, List, [], ◌∷◌, ◌++◌, map, filter, Option, None, Some, Result, Ok, Err, length, take, drop, get_or, refl, sym, ap, ◌∙◌, arith, length-drop}
use Rattle.std.proofs.Common.{take_all, ◌-◌}
use Rattle.std.specs.List.{slice_split, onto_first}
use Rattle.std.proofs.Math.Nat.{div-mul-le_self, mul-le-mul_left}
use Rattle.std.proofs.Math.Seq.{split_at}
use Rattle.std.proofs.lemmas.List.{map-append}
use Rattle.std.proofs.lemmas.List.Elements.{filter-append}
use Rattle.std.proofs.lemmas.List.Splits.{slice_split-cons_yes, length-slice_split}
use Rattle.buck_record.specs.Item.{ItemParts}
use Rattle.buck_record.specs.bytes.White.{is_filled, trim}
use Rattle.buck_record.specs.Reading.{each_from, put_front}
use Rattle.buck_record.specs.bytes.Record.{item_of, is_tilde, filled_parts, pieces}
use Rattle.buck_record.specs.pass.Cursor.{HasItems, Joins}

-- ---- the pieces
push : (x : ℕ) (b : Bool) (parts more : List (List ℕ)) → 0 < length parts
    → cond b ([] ∷ (parts ++ more)) (onto_first x (parts ++ more)) ≡ cond b ([] ∷ parts) (onto_first x parts) ++ more
push x true parts more some = refl
push x false [] more some = absurd (omega arith)
push x false (part ∷ parts) more some = refl

split_both : (p : ℕ → Bool) (xs : List ℕ) (y : ℕ) (ys : List ℕ)
    → p y ≡ true → slice_split p (xs ++ y ∷ ys) ≡ slice_split p xs ++ slice_split p ys
split_both p [] y ys e = slice_split-cons_yes p y ys e
split_both p (x ∷ xs) y ys e =
    rw (split_both p xs y ys e)
    (push x (p x) (slice_split p xs) (slice_split p ys) (omega (arith, length-slice_split p xs)))

pieces_both : (front back : List ℕ) (y : ℕ)
    → is_tilde y ≡ true → pieces (front ++ y ∷ back) ≡ pieces front ++ pieces back
pieces_both front back y e =
    ap filled_parts (split_both is_tilde front y back e)
    ∙ ap (filter is_filled) (map-append trim (slice_split is_tilde front) (slice_split is_tilde back))
    ∙ filter-append is_filled (map trim (slice_split is_tilde front)) (map trim (slice_split is_tilde back))

-- ---- the items
module _ {X Y : Type 0} (f : X → Option Y) (qs : List X) (ys : List Y) (back : (k : ℕ) → each_from f k qs ≡ Ok ys) where
  abbrev with_end : Result (List Y) ℕ → Result (List Y) ℕ
  with_end (Ok xs) = Ok (xs ++ ys)
  with_end (Err place) = Err place

  put_end : (o : Option Y) (k : ℕ) (read : Result (List Y) ℕ)
      → put_front o k (with_end read) ≡ with_end (put_front o k read)
  put_end None k read = refl
  put_end (Some y) k (Ok xs) = refl
  put_end (Some y) k (Err place) = refl

  each_both : (k : ℕ) (ps : List X) → each_from f k (ps ++ qs) ≡ with_end (each_from f k ps)
  unfolding each_from
  each_both k [] = back k
  each_both k (p ∷ ps) = rw (each_both (k + 1) ps) (put_end (f p) k (each_from f (k + 1) ps))

pub joined : (text front back : List ℕ) (xs ys : List ItemParts)
    → Joins text front back → HasItems front xs → HasItems back ys → HasItems text (xs ++ ys)
joined text front back xs ys is before behind = λ k.
    ap (each_from item_of k) is ∙ rw (before k) at (each_both item_of (pieces back) ys behind k (pieces front))

-- a text that is cut at a place
pub joins_at : (text : List ℕ) (at : ℕ)
    → at < length text
    → is_tilde (get_or text at 0) ≡ true
    → Joins text (take at text) (take (length text - (at + 1)) (drop (at + 1) text))
joins_at text at within tilde =
    let behind : drop (suc at) text ≡ take (length text - (at + 1)) (drop (at + 1) text) =
    ap (λ n. drop n text) (let e : suc at ≡ at + 1 = omega arith in e)
    ∙ sym (take_all (length text - (at + 1)) (drop (at + 1) text) (omega (arith, length-drop (at + 1) text))) in
    ap pieces (split_at text at 0 within ∙ ap (λ back. take at text ++ get_or text at 0 ∷ back) behind)
    ∙ pieces_both (take at text) (take (length text - (at + 1)) (drop (at + 1) text)) (get_or text at 0) tilde

-- the first part's share lies in the text
pub share_within : (n threads : ℕ) → n / threads * (threads / 2) ≤ n
share_within n threads =
    let half : threads / 2 ≤ threads = omega arith in
    omega (arith, mul-le-mul_left (n / threads) half, div-mul-le_self n threads)

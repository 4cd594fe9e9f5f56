-- One result for each of some items, made one after the other or in parts.
use Rattle.std.proofs.Common.{◌≡◌, ℕ, zero, suc, ◌+◌, ◌<◌, ◌≤◌, ◌*◌, ◌/◌, ◌%◌, ◌⊎◌, inl, inr, min, vec_len, List, [], ◌∷◌, ◌++◌, length, take, drop, get_or, map, Result, Ok, Err, IfOk, IfErr}
use Rattle.std.proofs.Common.{refl, sym, ap, subst, ◌∙◌, arith, append_assoc, append-nil, add-one}
use denote.Ref.{Bor}
use denote.Param.Members.{Shared}
use Rattle.std.specs.Prelude.{slice_index_or}
use Rattle.std.specs.Fork.{GivesChunks}
use Rattle.std.proofs.lemmas.Grind.{div_ceil_times}
use Rattle.std.specs.List.{AllZip, Contains}
use Rattle.std.specs.declared.vec.Vec.{Vec}
use Rattle.std.specs.declared.alloc.Global.{Global}
use Rattle.std.proofs.Math.Seq.{take-suc}
use Rattle.std.proofs.lemmas.List.{drop-drop, length-drop, map_more, take-append-drop}
use Rattle.buckfleet_trial.specs.Parts.{AreJoined}

-- one more is taken
pub one_taken : {X : Type 0} (xs : List X) (n : ℕ) (x : X) → n < length xs → x ≡ get_or xs n x
    → take (n + 1) xs ≡ take n xs ++ x ∷ []
one_taken xs n x lt is = rw add-one (take-suc xs n x lt) ∙ ap (λ y. take n xs ++ y ∷ []) (sym is)

-- one more
pub zip_more : {A B : Type 0} (R : A → B → Type 0) (xs : List A) (ys : List B) (x : A) (y : B)
    → AllZip R xs ys → R x y → AllZip R (xs ++ x ∷ []) (ys ++ y ∷ [])
zip_more R [] [] x y all one = (one, tt)
zip_more R [] (b ∷ ys) x y all one = absurd all
zip_more R (a ∷ xs) [] x y all one = absurd all
zip_more R (a ∷ xs) (b ∷ ys) x y all one = (all.0, zip_more R xs ys x y all.1 one)

-- both, one after the other
pub zip_both : {A B : Type 0} (R : A → B → Type 0) (xs as_ : List A) (ys bs : List B)
    → AllZip R xs ys → AllZip R as_ bs → AllZip R (xs ++ as_) (ys ++ bs)
zip_both R [] as_ [] bs all more = more
zip_both R [] as_ (b ∷ ys) bs all more = absurd all
zip_both R (a ∷ xs) as_ [] bs all more = absurd all
zip_both R (a ∷ xs) as_ (b ∷ ys) bs all more = (all.0, zip_both R xs as_ ys bs all.1 more)

-- as many as items
pub zip_length : {A B : Type 0} (R : A → B → Type 0) (xs : List A) (ys : List B) → AllZip R xs ys
    → length ys ≡ length xs
zip_length R [] [] all = refl
zip_length R [] (b ∷ ys) all = absurd all
zip_length R (a ∷ xs) [] all = absurd all
zip_length R (a ∷ xs) (b ∷ ys) all = ap suc (zip_length R xs ys all.1)

-- of the first ones, and of the rest
pub zip_split : {A B : Type 0} (R : A → B → Type 0) (xs as_ : List A) (ys : List B) → AllZip R (xs ++ as_) ys
    → AllZip R xs (take (length xs) ys) × AllZip R as_ (drop (length xs) ys)
zip_split R [] as_ ys all = (tt, all)
zip_split R (a ∷ xs) as_ [] all = absurd all
zip_split R (a ∷ xs) as_ (b ∷ ys) all =
    let rest = zip_split R xs as_ ys all.1 in ((all.0, rest.0), rest.1)

pub zip_drop : {A B : Type 0} (R : A → B → Type 0) (k : ℕ) (xs : List A) (ys : List B) → AllZip R xs ys
    → AllZip R (drop k xs) (drop k ys)
zip_drop R zero xs ys all = all
zip_drop R (suc k) [] [] all = tt
zip_drop R (suc k) [] (b ∷ ys) all = absurd all
zip_drop R (suc k) (a ∷ xs) [] all = absurd all
zip_drop R (suc k) (a ∷ xs) (b ∷ ys) all = zip_drop R k xs ys all.1

-- of items that are made of others
pub zip_of_made : {A B C : Type 0} (R : B → C → Type 0) (f : A → B) (xs : List A) (ys : List C)
    → AllZip R (map f xs) ys → AllZip (λ x. R (f x)) xs ys
zip_of_made R f [] [] all = tt
zip_of_made R f [] (y ∷ ys) all = absurd all
zip_of_made R f (x ∷ xs) [] all = absurd all
zip_of_made R f (x ∷ xs) (y ∷ ys) all = (all.0, zip_of_made R f xs ys all.1)

pub zip_made : {A B C : Type 0} (R : B → C → Type 0) (f : A → B) (xs : List A) (ys : List C)
    → AllZip (λ x. R (f x)) xs ys → AllZip R (map f xs) ys
zip_made R f [] [] all = tt
zip_made R f [] (y ∷ ys) all = absurd all
zip_made R f (x ∷ xs) [] all = absurd all
zip_made R f (x ∷ xs) (y ∷ ys) all = (all.0, zip_made R f xs ys all.1)

-- of one item more that is taken
pub zip_taken : {A B : Type 0} (R : A → B → Type 0) (xs : List A) (k : ℕ) (x : A) (ys new : List B) (y : B)
    → k < length xs → x ≡ get_or xs k x → AllZip R (take k xs) ys → R x y → new ≡ ys ++ y ∷ []
    → AllZip R (take (k + 1) xs) new
zip_taken R xs k x ys new y lt is so_far one e =
    subst (λ (l : List _). AllZip R (take (k + 1) xs) l) (sym e)
    (subst (λ (l : List _). AllZip R l (ys ++ y ∷ [])) (sym (one_taken xs k x lt is)) (zip_more R (take k xs) ys x y so_far one))

-- of one made of one item more that is taken
pub zip_made_taken : {A B C : Type 0} (R : B → C → Type 0) (f : A → B) (xs : List A) (k : ℕ) (d : A) (ys new : List C)
    (y : C) → k < length xs → AllZip R (map f (take k xs)) ys → R (f (get_or xs k d)) y → new ≡ ys ++ y ∷ []
    → AllZip R (map f (take (k + 1) xs)) new
zip_made_taken R f xs k d ys new y lt so_far one e =
    subst (λ (l : List _). AllZip R (map f (take (k + 1) xs)) l) (sym e)
    (subst (λ (l : List _). AllZip R l (ys ++ y ∷ [])) (sym (map_more f xs k d lt))
    (zip_more R (map f (take k xs)) ys (f (get_or xs k d)) y so_far one))

-- what parts of some size came to, joined
pub zip_in_parts : {A B E : Type 0} (R : A → B → Type 0) (size : ℕ) (xs : List A)
    (parts : List (Result (Vec B Global) E)) (all : List B) → length xs ≤ length parts * size
    → ((n : ℕ) (d : Result (Vec B Global) E) → n < length parts
    → IfOk (slice_index_or parts n d) (λ made. AllZip R (take size (drop (n * size) xs)) made.items))
    → AreJoined parts all → AllZip R xs all
zip_in_parts R size [] [] all le each joined = subst (λ (l : List _). AllZip R [] l) (sym joined) tt
zip_in_parts R size (x ∷ xs) [] all le each joined = absurd (omega (arith, le))
zip_in_parts R size xs (Err e ∷ more) all le each joined = absurd joined
zip_in_parts {A} {B} {E} R size xs (Ok part ∷ more) all le each (rest, is, next) =
    let none : 0 * size ≡ 0 = omega arith in
    let first : AllZip R (take size xs) part.items =
    subst (λ (k : ℕ). AllZip R (take size (drop k xs)) part.items) none (each 0 (Ok part) (omega arith)) in
    let further : (n : ℕ) → drop (suc n * size) xs ≡ drop (n * size) (drop size xs) =
    λ n. (let e : suc n * size ≡ size + n * size = omega arith in
    ap (λ (k : ℕ). drop k xs) e ∙ sym (drop-drop (n * size) size xs)) in
    let others : AllZip R (drop size xs) rest =
    zip_in_parts R size (drop size xs) more rest (omega (arith, le, length-drop size xs))
    (λ n d lt. subst (λ (l : List A). IfOk (slice_index_or more n d) (λ made. AllZip R (take size l) made.items))
    (further n) (each (suc n) d (omega (arith, lt)))) next in
    subst (λ (l : List B). AllZip R xs l) (sym is)
    (subst (λ (l : List A). AllZip R l (part.items ++ rest)) (take-append-drop size xs)
    (zip_both R (take size xs) (drop size xs) part.items rest first others))

-- what came of one part more
pub joined_more : {X E : Type 0} (parts : List (Result (Vec X Global) E)) (part : Vec X Global) (all : List X)
    → AreJoined parts all → AreJoined (parts ++ Ok part ∷ []) (all ++ part.items)
joined_more {X} [] part all none =
    ([], ap (λ (l : List X). l ++ part.items) none ∙ sym (append-nil part.items), refl)
joined_more (Err e ∷ more) part all joined = absurd joined
joined_more {X} (Ok first ∷ more) part all (rest, is, next) = (
  rest ++ part.items,
  ap (λ (l : List X). l ++ part.items) is ∙ append_assoc first.items rest part.items,
  joined_more more part rest next,
)

module _ {F A B E : Type 0} (g : Shared F (ℕ × (Bor (List A) × Unit {0})) (Result (Vec B Global) E)) (f : F)
    (R : A → B → Type 0) (Stop : E → Type 0) (size : ℕ) (xs : List A)
    (parts : Vec (Result (Vec B Global) E) Global) where
  -- what a call with a part of the items may give
  abbrev pub GivesPart : Type 0
  GivesPart = (start : ℕ) (p : Bor (List A)) (r : Result (Vec B Global) E) → g.post f (start, (p, tt)) r
      → IfOk r (λ made. AllZip R p.now made.items) × IfErr r Stop

  -- what threads gave for parts of the items, joined
  pub all_given : (all : Result (Vec B Global) E) → 0 < size
      → vec_len parts ≡ length xs / size + min 1 (length xs % size) → GivesChunks g f size xs parts.items → GivesPart
      → IfOk all (λ made. AreJoined parts.items made.items) → IfOk all (λ made. AllZip R xs made.items)
  all_given (Err e) some number gives says joined = tt
  all_given (Ok all) some number gives says joined =
      let enough = (div_ceil_times (length xs) size some).0 in
      zip_in_parts R size xs parts.items all.items
      (subst (λ (n : ℕ). length xs ≤ n * size) (sym number ∙ parts.ok.0) enough)
      (λ n d lt. let one = (gives n d lt).1 in
      subst (λ (l : List A). IfOk (slice_index_or parts.items n d) (λ made. AllZip R l made.items))
      one.argument_is.value (says (n * size) one.argument (slice_index_or parts.items n d) one.call).0) joined

  -- or why one gave nothing
  pub one_stopped : (all : Result (Vec B Global) E) (memory : E) → Stop memory
      → GivesChunks g f size xs parts.items → GivesPart
      → IfErr all (λ e. (e ≡ memory) ⊎ Contains parts.items (Err e)) → IfErr all Stop
  one_stopped (Ok all) memory stop gives says fault = tt
  one_stopped (Err e) memory stop gives says (inl is) = subst Stop (sym is) stop
  one_stopped (Err e) memory stop gives says (inr (k, lt, is)) =
      let one = (gives k (Err e) lt).1 in
      subst (λ (r : Result (Vec B Global) E). IfErr r Stop) is
      (says (k * size) one.argument (slice_index_or parts.items k (Err e)) one.call).1

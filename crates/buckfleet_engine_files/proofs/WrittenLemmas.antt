-- Texts, one after the other.
use Rattle.std.proofs.Common.{◌≡◌, ℕ, Bool, true, false, ◌+◌, ◌-◌, ◌<◌, ◌≤◌, List, [], ◌∷◌, ◌++◌, Option, Result, Ok, Err, length, take, drop, codes, refl, sym, ap, ◌∙◌, subst, arith, take_all, take-append-drop, length-take-le, length-drop}
use Rattle.std.proofs.Common.{get_or, add-one, drop-cons, length-append}
use Rattle.std.proofs.lemmas.List.{take-append-le}
use Rattle.std.proofs.lemmas.Grind.{flat_map-append}
use Rattle.std.specs.List.{flat_map}
use Rattle.buck_record.specs.writing.Written.{spelled}
use Rattle.buck_record.specs.writing.Line.{line_of}
use Rattle.buckfleet_engine_files.specs.Faults.{memory_line, numbered_line}
use Rattle.std.proofs.Math.Seq.{take-append-add}
use Rattle.std.proofs.KnownBytes.{Appends-trans}
use Rattle.std.specs.Io.KnownBytes.{Appends}
use Rattle.std.specs.Result.{IsErrAnd}
use Rattle.buckfleet_engine_files.specs.declared.fault.EngineFault.{EngineFault}
use Rattle.buckfleet_engine_files.specs.Written.{IsWritten, TellsWritten, AppendsFirst}

-- a text, and then another
pub then_written : (a b c : Option (List ℕ)) (s t : List ℕ) (r : Result (Unit {0}) EngineFault) → Appends a b s
    → IsWritten b c t r → IsWritten a c (s ++ t) r
then_written a b c s t (Ok u) p q = Appends-trans a b c s t p q
then_written a b c s t (Err e) p (w, (k, lt, q)) = (
  w,
  (
    length s + k,
    omega (arith, lt, length-append s t),
    subst (Appends a c) (sym (take-append-add s t k)) (Appends-trans a b c s (take k t) p q),
  ),
)

-- if the first stops, all stops
pub stopped : (a b : Option (List ℕ)) (s t : List ℕ) (f : EngineFault) (r : Result (Unit {0}) EngineFault)
    → IsErrAnd r (λ e. e ≡ f) → IsWritten a b s (Err f) → IsWritten a b (s ++ t) r
stopped a b s t f (Ok u) h q = absurd h
stopped a b s t f (Err e) h (w, (k, lt, q)) = (
  h ∙ w,
  (
    k,
    omega (arith, lt, length-append s t),
    subst (Appends a b) (sym (take-append-le k s t (omega (arith, lt)))) q,
  ),
)

pub ruleset steps = (then_written, stopped)

-- the line of a fault with a number, and of one with none
pub told : (a b : Option (List ℕ)) (kind file numbers found : List ℕ) (r : Result (Unit {0}) EngineFault)
    → found ≡ numbers → 0 < length found
    → IsWritten a b (kind ++ (spelled file ++ line_of (codes " fault") found)) r
    → IsWritten a b (numbered_line kind file numbers) r
told a b kind file numbers [] r e h w = absurd (omega (arith, h))
told a b kind file numbers (n ∷ ns) r e h w = subst (λ (l : List ℕ). IsWritten a b (numbered_line kind file l) r) e w

pub unnumbered : (kind file numbers : List ℕ) → length numbers ≡ 0 → numbered_line kind file numbers ≡ memory_line
unnumbered kind file [] h = refl
unnumbered kind file (n ∷ ns) h = absurd (omega (arith, h))

-- a write of what is left of a text
pub fits : (text : List ℕ) (at n : ℕ) → at ≤ length text → n ≤ length (take (length text - at) (drop at text))
    → at + n ≤ length text
fits text at n le h =
    omega (arith, h, length-take-le (length text - at) (drop at text) (omega (arith, length-drop at text)))

pub taken : (text : List ℕ) (at n : ℕ) → at ≤ length text → n ≤ length (take (length text - at) (drop at text))
    → take at text ++ take n (take (length text - at) (drop at text)) ≡ take (at + n) text
taken text at n le h =
    let len : length (take at text) ≡ at = length-take-le at text le in
    let rest : take (length text - at) (drop at text) ≡ drop at text =
    take_all _ (drop at text) (omega (arith, length-drop at text)) in
    let whole = take-append-add (take at text) (drop at text) n in
    ap (λ xs. take at text ++ take n xs) rest
    ∙ sym whole
    ∙ ap (λ k. take (k + n) (take at text ++ drop at text)) len
    ∙ ap (take (at + n)) (take-append-drop at text)

-- a list from its place i on, if i is in it
pub parts_at : {X Y : Type 0} (f : X → List Y) (xs : List X) (i : ℕ) (d : X) → i < length xs
    → flat_map f xs ≡ flat_map f (take i xs) ++ (f (get_or xs i d) ++ flat_map f (drop (i + 1) xs))
parts_at f xs i d lt =
    let here : drop i xs ≡ get_or xs i d ∷ drop (i + 1) xs = rw add-one (drop-cons xs i d lt) in
    ap (flat_map f) (sym (take-append-drop i xs))
    ∙ flat_map-append f (take i xs) (drop i xs)
    ∙ ap (λ l. flat_map f (take i xs) ++ flat_map f l) here

-- one of many that could not be written
pub part_stopped : {X : Type 0} (a b c : Option (List ℕ)) (text_of : X → List ℕ) (xs : List X) (i : ℕ) (d : X)
    (f : EngineFault) (r : Result (Unit {0}) EngineFault) → i < length xs
    → IsErrAnd r (λ e. e ≡ f) → Appends a b (flat_map text_of (take i xs))
    → IsWritten b c (text_of (get_or xs i d)) (Err f)
    → IsWritten a c (flat_map text_of xs) r
part_stopped a b c text_of xs i d f r lt h p q =
    subst (λ l. IsWritten a c l r) (sym (parts_at text_of xs i d lt))
    (then_written a b c (flat_map text_of (take i xs)) _ r p
    (stopped b c (text_of (get_or xs i d)) (flat_map text_of (drop (i + 1) xs)) f r h q))

-- all of a text is the first bytes of it
first_all : (a b : Option (List ℕ)) (text : List ℕ) → Appends a b text → AppendsFirst a b text
first_all a b text p =
    (length text, omega arith, subst (Appends a b) (sym (take_all (length text) text (omega arith))) p)

-- what was written of a text is first bytes of it
pub first_written : (a b : Option (List ℕ)) (text : List ℕ) (r : Result (Unit {0}) EngineFault) → IsWritten a b text r
    → AppendsFirst a b text
first_written a b text (Ok u) p = first_all a b text p
first_written a b text (Err e) (w, (k, lt, p)) = (k, omega (arith, lt), p)

pub first_told : (a b : Option (List ℕ)) (text : List ℕ) (all : Bool) → TellsWritten a b text all
    → AppendsFirst a b text
first_told a b text true p = first_all a b text p
first_told a b text false (k, lt, p) = (k, omega (arith, lt), p)

-- Files that are opened one after the other.
use Rattle.std.proofs.Common.{◌≡◌, ℕ, suc, ◌+◌, ◌<◌, List, [], ◌∷◌, ◌++◌, length, take, get_or, Option, Some, map, arith, ap, ◌∙◌, refl, sym, subst}
use Rattle.std.proofs.lemmas.List.{get_or-map, length-map, take_more}
use Rattle.buckfleet_engine_files.specs.Opening.{OpensEach}

-- one file more
opens_more : {O F : Type 0} (opens : O → List ℕ → Option F → O → Type 0) (old mid new : O) (names : List (List ℕ))
    (name : List ℕ) (files : List F) (file : F)
    → OpensEach opens old mid names files → opens mid name (Some file) new
    → OpensEach opens old new (names ++ name ∷ []) (files ++ file ∷ [])
opens_more opens old mid new [] name [] file is one =
    (new, subst (λ (o : _). opens o name (Some file) new) is one, refl)
opens_more opens old mid new [] name (f ∷ files) file is one = absurd is
opens_more opens old mid new (n ∷ names) name [] file is one = absurd is
opens_more opens old mid new (n ∷ names) name (f ∷ files) file (between, first, rest) one =
    (between, first, opens_more opens between mid new names name files file rest one)

pub opens_next : {O F A : Type 0} (opens : O → List ℕ → Option F → O → Type 0) (text : A → List ℕ) (old mid new : O)
    (xs : List A) (d : A) (k : ℕ) (files after : List F) (file : F)
    → k < length xs → OpensEach opens old mid (take k (map text xs)) files
    → opens mid (text (get_or xs k d)) (Some file) new → after ≡ files ++ file ∷ []
    → OpensEach opens old new (take (k + 1) (map text xs)) after
opens_next opens text old mid new xs d k files after file lt is one more =
    let names = map text xs in
    let there : get_or names k [] ≡ text (get_or xs k d) = get_or-map text xs k d [] lt in
    let next : take (k + 1) names ≡ take k names ++ text (get_or xs k d) ∷ [] =
    take_more names k [] (omega (arith, lt, length-map xs text))
    ∙ ap (λ (n : List ℕ). take k names ++ n ∷ []) there in
    subst (λ (ns : List (List ℕ)). OpensEach opens old new ns after) (sym next)
    (subst (OpensEach opens old new (take k names ++ text (get_or xs k d) ∷ [])) (sym more)
    (opens_more opens old mid new (take k names) (text (get_or xs k d)) files file is one))

-- there are as many files as names
pub as_many : {O F : Type 0} (opens : O → List ℕ → Option F → O → Type 0) (old new : O) (names : List (List ℕ))
    (files : List F)
    → OpensEach opens old new names files → length files ≡ length names
as_many opens old new [] [] each = refl
as_many opens old new [] (f ∷ files) each = absurd each
as_many opens old new (n ∷ names) [] each = absurd each
as_many opens old new (n ∷ names) (f ∷ files) (between, first, rest) =
    ap suc (as_many opens between new names files rest)

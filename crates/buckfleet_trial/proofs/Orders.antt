-- An order that is drawn has as many lists, and as many stems together.
use Rattle.std.proofs.Common.{◌≡◌, ℕ, zero, suc, ◌<◌, ◌≤◌, List, [], ◌∷◌, length, sum_by, Result, Ok, Err, IfErr, IfOk, refl, sym, ap, subst, ◌∙◌, arith}
use Rattle.std.specs.Result.{IsErrAnd}
use Rattle.buckfleet_engine_files.specs.declared.fault.EngineFault.{EngineFault}
use Rattle.buckfleet_trial_sweep.specs.Runs.{IsStop}
use Rattle.std.specs.declared.sync.Arc.{Arc}
use Rattle.std.specs.declared.vec.Vec.{Vec}
use Rattle.std.specs.declared.alloc.Global.{Global}
use Rattle.std.specs.List.{swap}
use Rattle.std.specs.Arc.{arc_value}
use Rattle.std.proofs.lemmas.List.{length-map}
use Rattle.std.proofs.lemmas.List.Edits.{length-swap}
use Rattle.std.proofs.lemmas.List.Sums.{sum_by-cons}
use Rattle.buck_stem_shape.specs.declared.stem.Stem.{Stem}
use Rattle.buck_stem_shape.specs.Stem.{StemParts}
use Rattle.buck_book_postings.specs.Replies.{stems_of}
use Rattle.buck_fleet_round_robin.specs.Turn.{stems_in_all}
use Rattle.buckfleet_trial_draws.specs.Draws.{drawn_below, order_of, shuffled_from, starts_from, state_after, state_behind}
use Rattle.buckfleet_trial.specs.Light.{AreDrawn, all_stems}

shuffled_length : {X : Type 0} (k state : ℕ) (xs : List X) → length (shuffled_from k state xs) ≡ length xs
shuffled_length zero state xs = refl
shuffled_length (suc zero) state xs = refl
shuffled_length (suc (suc k)) state xs =
    shuffled_length (suc k) _ (swap xs (suc k) (drawn_below (suc (suc k)) state))
    ∙ length-swap xs (suc k) (drawn_below (suc (suc k)) state)

order_length : {X : Type 0} (state : ℕ) (lists : List (List X)) → length (order_of state lists) ≡ length lists
order_length state [] = refl
order_length state (xs ∷ more) = ap suc (order_length (state_after (length xs) state) more)

order_sum : {X : Type 0} (state : ℕ) (lists : List (List X))
    → sum_by (λ (l : List X). length l) (order_of state lists) ≡ sum_by (λ (l : List X). length l) lists
order_sum state [] = refl
order_sum {X} state (xs ∷ more) =
    let after = state_after (length xs) state in
    let here = shuffled_length (length xs) state xs in
    let rest = order_sum after more in
    sum_by-cons (λ (l : List X). length l) (shuffled_from (length xs) state xs) (order_of after more)
    ∙ omega (arith, here, rest) ∙ sym (sum_by-cons (λ (l : List X). length l) xs more)

stems_all : (lists : List (Vec (Arc Stem Global) Global))
    → sum_by (λ (l : List StemParts). length l) (all_stems lists) ≡ stems_in_all lists
stems_all [] = refl
stems_all (x ∷ xs) =
    let same : length (stems_of x.items) ≡ length x.items = length-map x.items arc_value in
    let rest = stems_all xs in
    sum_by-cons (λ (l : List StemParts). length l) (stems_of x.items) (all_stems xs) ∙ omega (arith, same, rest)
    ∙ sym (sum_by-cons (λ (v : Vec (Arc Stem Global) Global). length v.items) x xs)

pub drawn_stems : (start : ℕ) (lists order : List (Vec (Arc Stem Global) Global)) → AreDrawn start lists order
    → stems_in_all order ≡ stems_in_all lists
drawn_stems start lists order are =
    sym (stems_all order) ∙ ap (sum_by (λ (l : List StemParts). length l)) are
    ∙ order_sum start (all_stems lists) ∙ stems_all lists

pub drawn_length : (start : ℕ) (lists order : List (Vec (Arc Stem Global) Global)) → AreDrawn start lists order
    → length order ≡ length lists
drawn_length start lists order are =
    sym (length-map order (λ (v : Vec (Arc Stem Global) Global). stems_of v.items))
    ∙ ap (λ (l : List (List StemParts)). length l) are ∙ order_length start (all_stems lists)
    ∙ length-map lists (λ (v : Vec (Arc Stem Global) Global). stems_of v.items)

-- as many states as draws
pub starts_length : {X : Type 0} (number state : ℕ) (lists : List (List X))
    → length (starts_from number state lists) ≡ number
starts_length zero state lists = refl
starts_length (suc k) state lists = ap suc (starts_length k (state_behind state lists) lists)

pub few_starts : {X E : Type 0} (number seed : ℕ) (lists : List (List X)) (r : Result (Vec ℕ Global) E)
    → number < 65536 → IfOk r (λ s. s.items ≡ starts_from number seed lists) → IfOk r (λ s. length s.items ≤ 65535)
few_starts number seed lists (Err e) low is = tt
few_starts number seed lists (Ok starts) low is =
    omega (arith, low, ap (λ (l : List ℕ). length l) is, starts_length number seed lists)

-- an order that can't be cut is one of lists that can't
pub drawn_stop : {X : Type 0} (start : ℕ) (lists slice order other : List (Vec (Arc Stem Global) Global))
    (fault : EngineFault) (r : Result X EngineFault) → slice ≡ lists → AreDrawn start slice order → other ≡ order
    → IsStop other fault → IsErrAnd r (λ x. x ≡ fault) → IfErr r (IsStop lists)
drawn_stop start lists slice order other fault (Ok x) same are is stop err = absurd err
drawn_stop start lists slice order other fault (Err e) same are is stop err =
    let equal : stems_in_all other ≡ stems_in_all lists =
    ap stems_in_all is ∙ drawn_stems start slice order are ∙ ap stems_in_all same in
    subst (λ (x : EngineFault). IsStop lists x) (sym err)
    (stop.0, λ full. subst (λ (n : ℕ). 1000000 < n) equal (stop.1 full))

pub drawn_stops : {X : Type 0} (start : ℕ) (lists slice order other : List (Vec (Arc Stem Global) Global))
    (r : Result X EngineFault) → slice ≡ lists → AreDrawn start slice order → other ≡ order
    → IfErr r (IsStop other) → IfErr r (IsStop lists)
drawn_stops start lists slice order other (Ok x) same are is stop = tt
drawn_stops {X} start lists slice order other (Err e) same are is stop =
    drawn_stop {X = X} start lists slice order other e (Err e) same are is stop refl

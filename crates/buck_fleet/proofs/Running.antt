-- a run goes on
use Rattle.buck_fleet.proofs.Words.{◌≡◌, ℕ, zero, suc, ◌+◌, ◌<◌, List, [], ◌∷◌, ◌++◌, length, take, get_or, map, sym, ap, ◌∙◌, arith, append_assoc, rules, Some, slice_get, map-append, All-append, All-cons, StemParts, take_one_more, Kept}
use Rattle.buck_fleet.proofs.Words.{Reply, SeatParts, IsReplyFor, kept_of, harvester_of, HasCut, IsFirstBestCut, stem_cut}

pub got : {A : Type 0} (f : A → StemParts) (xs : List A) (n : ℕ) (x : A) → n < length xs → x ≡ get_or xs n x
    → slice_get (map f xs) n ≡ Some (f x)
got f [] n x lt is = absurd (omega arith)
got f (y ∷ ys) zero x lt is = ap (λ z. Some (f z)) (sym is)
got f (y ∷ ys) (suc n) x lt is = got f ys n x (omega arith) is

pub one_more_cut : (n : ℕ) (stems : List StemParts) (a b c : SeatParts) (r : Reply) (stem : StemParts)
    → HasCut n stems a b → IsReplyFor b c stem r → slice_get stems n ≡ Some stem → n < length stems
    → HasCut (n + 1) stems a c
one_more_cut n stems a b c r stem cut reply at lt = record {
  more = cut.more ++ kept_of r ∷ [];
  kept = search (rules, append_assoc);
  within = omega arith;
  each = map-append (λ (k : Kept). stem_cut k.entry) cut.more (kept_of r ∷ [])
      ∙ (λ t. cut.each t ++ Some (reply.same_stem t) ∷ [])
      ∙ sym (map-append (λ (s : StemParts). Some s) (take n stems) (stem ∷ []))
      ∙ ap (λ (l : List StemParts). map (λ (s : StemParts). Some s) l) (sym (take_one_more stems n stem at));
  own = All-append (λ (k : Kept). harvester_of k.entry ≡ a.harvester) cut.more (kept_of r ∷ []) cut.own
      (search (rules, All-cons));
  best = All-append (λ (k : Kept). IsFirstBestCut k.entry) cut.more (kept_of r ∷ []) cut.best
      (search (rules, All-cons));
}

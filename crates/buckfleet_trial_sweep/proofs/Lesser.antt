-- The least of some degrees, and of one more.
use Rattle.buckfleet_trial_sweep.proofs.Words.{◌≡◌, ℕ, ◌+◌, ◌≤◌, ◌<◌, inl, inr, length, take, get_or, List, [], ◌∷◌, ◌++◌, Option, Some, None, IfSome, true, false, nat_le, refl, sym, ap, subst, ◌∙◌, arith, IfSome_then, map-append}
use Rattle.buckfleet_trial_sweep.proofs.Words.{take_more, Degrees}
use Rattle.buckfleet_trial_sweep.proofs.Words.{IsLeast, wholes_of, lesser}
use Rattle.std.proofs.lemmas.Bool.{cases_lt}
use Rattle.std.specs.List.{AllByRecursion}
use Rattle.std.proofs.lemmas.List.Elements.{Contains-append_left, Contains-push}
use Rattle.std.proofs.lemmas.Bool.Decides.{nat_tests}

-- one more, of which it holds
one_more : (P Q : Option ℕ → Type 0) (ds : List (Option ℕ)) (d : Option ℕ) → ((x : Option ℕ) → P x → Q x)
    → AllByRecursion P ds → Q d → AllByRecursion Q (ds ++ d ∷ [])
one_more P Q [] d less all is = (is, tt)
one_more P Q (x ∷ ds) d less (first, more) is = (less x first, one_more P Q ds d less more is)

abbrev AtLeast : ℕ → Option ℕ → Type 0
AtLeast m d = IfSome d (λ n. m ≤ n)

-- the least stays, or the one more is it
stays : (ds : List (Option ℕ)) (a : ℕ) (d : Option ℕ) → IsLeast ds (Some a) → AtLeast a d
    → IsLeast (ds ++ d ∷ []) (Some a)
stays ds a d (there, all) low =
    (Contains-append_left ds (d ∷ []) (Some a) there, one_more (AtLeast a) (AtLeast a) ds d (λ x is. is) all low)

falls : (P : Option ℕ → Type 0) (ds : List (Option ℕ)) (b : ℕ) → ((x : Option ℕ) → P x → AtLeast b x)
    → AllByRecursion P ds → IsLeast (ds ++ Some b ∷ []) (Some b)
falls P ds b low all = (Contains-push ds (Some b), one_more P (AtLeast b) ds (Some b) low all (omega arith))

pub least_more : (ds : List (Option ℕ)) (one other : Option ℕ) → IsLeast ds one
    → IsLeast (ds ++ other ∷ []) (lesser one other)
least_more ds None None is = one_more (λ d. d ≡ None) (λ d. d ≡ None) ds None (λ x none. none) is refl
least_more ds None (Some b) is = falls (λ d. d ≡ None) ds b (λ x none. subst (AtLeast b) (sym none) tt) is
least_more ds (Some a) None is = stays ds a None is tt
least_more ds (Some a) (Some b) (there, all) = elim (cases_lt b a) [
  | inl lt ↦
      let no : nat_le a b ≡ false = grind (arith, nat_tests, lt) in
      rw no (falls (AtLeast a) ds b (λ x low. IfSome_then x low (λ n le. omega (arith, le, lt))) all)
  | inr le ↦
      let yes : nat_le a b ≡ true = grind (arith, nat_tests, le) in
      rw yes (stays ds a (Some b) (there, all) le)
]

-- the next one is taken
pub least_taken : (ds : List Degrees) (k : ℕ) (d : Degrees) (least r : Option ℕ) → k < length ds
    → r ≡ lesser least (get_or ds k d).whole → IsLeast (wholes_of (take k ds)) least
    → IsLeast (wholes_of (take (k + 1) ds)) r
least_taken ds k d least r lt is so_far =
    let one = (get_or ds k d).whole in
    let next : wholes_of (take (k + 1) ds) ≡ wholes_of (take k ds) ++ one ∷ [] =
    ap wholes_of (take_more ds k d lt) ∙ map-append (λ x. x.whole) (take k ds) (get_or ds k d ∷ []) in
    rw (is, next) (least_more (wholes_of (take k ds)) least one so_far)

-- What the draws of a wish come to beside those with all wishes.
use Rattle.std.proofs.Common.{◌≡◌, ℕ, suc, ◌+◌, ◌<◌, List, [], ◌∷◌, ◌++◌, length, take, get_or, map, Option, Some, None, Result, Ok, Err, refl, sym, ap, subst, ◌∙◌, arith, append-nil, append_assoc}
use Rattle.std.specs.Prelude.{codes}
use Rattle.std.specs.Result.{OnOk}
use Rattle.std.specs.List.{AllZip, flat_map, zip}
use Rattle.std.proofs.lemmas.List.Concat.{flat_map-append}
use Rattle.std.proofs.lemmas.List.{length-take-le, map-append}
use Rattle.buck_page_text.specs.Names.{quoted}
use Rattle.buck_page_cells.specs.declared.change.Change.{Change}
use Rattle.buck_page_cells.specs.declared.spread.Spread.{Spread}
use Rattle.buck_page_cells.specs.Cells.{change_cell, spread_cells}
use Rattle.buck_page_cells.specs.Spread.{IsSpread}
use Rattle.buckfleet_trial_wishes.specs.declared.outcome.Outcome.{Outcome}
use Rattle.buckfleet_trial_wishes.specs.WishLine.{AreGains, IsChangeOf, both, change_cell_of, changes_in, empty_end, gains_head, gains_in}
use Rattle.buckfleet_trial_wishes.specs.declared.wish.Told.{Told}
use Rattle.buckfleet_trial.proofs.Each.{one_taken, zip_length, zip_more}

-- the cell of a change, and of one that may be missing
pub change_cell_is : (before after : Option ℕ) (c : Option Change) → IsChangeOf (both before after) c
    → change_cell c ≡ change_cell_of before after
change_cell_is None after None is = refl
change_cell_is None after (Some c) is = absurd is
change_cell_is (Some b) None None is = refl
change_cell_is (Some b) None (Some c) is = absurd is
change_cell_is (Some b) (Some a) None is = absurd is
change_cell_is (Some b) (Some a) (Some c) is = rw (is.0, is.1) refl

-- pairs with one more
zip_push : {A B : Type 0} (xs : List A) (ys : List B) (x : A) (y : B) → length ys ≡ length xs
    → zip (xs ++ x ∷ []) (ys ++ y ∷ []) ≡ zip xs ys ++ (x, y) ∷ []
zip_push [] [] x y same = refl
zip_push [] (b ∷ ys) x y same = absurd (omega (arith, same))
zip_push (a ∷ xs) [] x y same = absurd (omega (arith, same))
zip_push (a ∷ xs) (b ∷ ys) x y same = ap (λ l. (a, b) ∷ l) (zip_push xs ys x y (omega (arith, same)))

pub pair_taken : {A B C D : Type 0} (R : C → D → Type 0) (f : A × B → C) (xs : List A) (ys : List B) (k : ℕ) (x : A)
    (y : B) (ds new : List D) (d : D) → length ys ≡ length xs → k < length xs → x ≡ get_or xs k x → y ≡ get_or ys k y
    → AllZip R (map f (zip (take k xs) (take k ys))) ds → R (f (x, y)) d → new ≡ ds ++ d ∷ []
    → AllZip R (map f (zip (take (k + 1) xs) (take (k + 1) ys))) new
pair_taken R f xs ys k x y ds new d same lt x_is y_is so_far one put =
    let xs_next = one_taken xs k x lt x_is in
    let ys_next = one_taken ys k y (omega (arith, same, lt)) y_is in
    let long : length (take k ys) ≡ length (take k xs) =
    length-take-le k ys (omega (arith, same, lt)) ∙ sym (length-take-le k xs (omega (arith, lt))) in
    let pairs : map f (zip (take (k + 1) xs) (take (k + 1) ys)) ≡ map f (zip (take k xs) (take k ys)) ++ f (x, y) ∷ [] =
    ap (λ l. map f (zip l (take (k + 1) ys))) xs_next ∙ ap (λ l. map f (zip (take k xs ++ x ∷ []) l)) ys_next
    ∙ ap (map f) (zip_push (take k xs) (take k ys) x y long)
    ∙ map-append f (zip (take k xs) (take k ys)) ((x, y) ∷ []) in
    subst (λ (l : List _). AllZip R (map f (zip (take (k + 1) xs) (take (k + 1) ys))) l) (sym put)
    (subst (λ (l : List _). AllZip R l (ds ++ d ∷ [])) (sym pairs)
    (zip_more R (map f (zip (take k xs) (take k ys))) ds (f (x, y)) d so_far one))

-- as many changes as runs
pub as_many_pairs : {A B : Type 0} (f : A × B → Option (ℕ × ℕ)) (xs : List A) (ys : List B)
    (changes slice : List (Option Change)) → length ys ≡ length xs → slice ≡ changes
    → AllZip IsChangeOf (map f (zip xs ys)) changes → length slice ≡ length xs
as_many_pairs f xs ys changes slice same is all =
    ap (λ (l : List (Option Change)). length l) is ∙ zip_length IsChangeOf (map f (zip xs ys)) changes all
    ∙ long xs ys same
  where
    long : (xs : List _) (ys : List _) → length ys ≡ length xs → length (map f (zip xs ys)) ≡ length xs
    long [] ys same = refl
    long (x ∷ xs) [] same = absurd (omega (arith, same))
    long (x ∷ xs) (y ∷ ys) same = ap suc (long xs ys (omega (arith, same)))

some_gains : (at : ℕ) (wholes runs : List Outcome) (gs cs : List (Option Change)) (s t : Option Spread)
    → 0 < length runs → AllZip IsChangeOf (gains_in wholes runs) gs → AllZip IsChangeOf (changes_in at wholes runs) cs
    → IsSpread gs s → IsSpread cs t → AreGains at wholes runs (spread_cells s ++ spread_cells t)
some_gains at wholes [] gs cs s t some gains changes is_s is_t = absurd (omega (arith, some))
some_gains at wholes (run ∷ more) gs cs s t some gains changes is_s is_t = (
  spread_cells s,
  spread_cells t,
  record { changes = gs; are_changes = gains; spread = s; is_spread = is_s; text_is = refl },
  record { changes = cs; are_changes = changes; spread = t; is_spread = is_t; text_is = refl },
  refl,
)

-- both spreads were put
pub put_both : {E : Type 0} (at : ℕ) (wholes runs : List Outcome) (gs cs gl cl : List (Option Change))
    (s t : Option Spread) (old mid new : List ℕ) (r : Result (Unit {0}) E) → 0 < length runs
    → AllZip IsChangeOf (gains_in wholes runs) gs → AllZip IsChangeOf (changes_in at wholes runs) cs
    → gl ≡ gs → cl ≡ cs → IsSpread gl s → IsSpread cl t
    → mid ≡ old ++ spread_cells s → OnOk r (new ≡ mid ++ spread_cells t)
    → OnOk r ((x : List ℕ) × AreGains at wholes runs x × (new ≡ old ++ x))
put_both at wholes runs gs cs gl cl s t old mid new (Err e) some gains changes g_is c_is is_s is_t first put = tt
put_both at wholes runs gs cs gl cl s t old mid new (Ok u) some gains changes g_is c_is is_s is_t first put = (
  spread_cells s ++ spread_cells t,
  some_gains at wholes runs gs cs s t some gains changes
      (subst (λ (l : List (Option Change)). IsSpread l s) g_is is_s)
      (subst (λ (l : List (Option Change)). IsSpread l t) c_is is_t),
  put ∙ ap (λ (l : List ℕ). l ++ spread_cells t) first ∙ append_assoc old (spread_cells s) (spread_cells t),
)

-- what stands for draws, if there are some, and if there are none
pub some_ends : (starts : List ℕ) → 0 < length starts → (gains_head starts
    ≡ codes ",gain_min,gain_mean,gain_max,degree_change_min,degree_change_mean,degree_change_max")
    × (empty_end starts ≡ codes ",,,,,,,\n")
some_ends [] some = absurd (omega (arith, some))
some_ends (start ∷ more) some = (refl, refl)

pub no_ends : (starts : List ℕ) → length starts ≡ 0 → (gains_head starts ≡ []) × (empty_end starts ≡ codes ",\n")
no_ends [] none = (refl, refl)
no_ends (start ∷ more) none = absurd (omega (arith, none))

-- the pieces of a line, one behind the other
pub line_put : (none one two three four five six line first second third name shown gains : List ℕ)
    → none ≡ [] → one ≡ none ++ first → two ≡ one ++ second → three ≡ two ++ third → four ≡ three ++ codes ","
    → shown ≡ name → five ≡ four ++ quoted shown → six ≡ five ++ gains → line ≡ six ++ codes "\n"
    → line ≡ first ++ (second ++ (third ++ (codes "," ++ (quoted name ++ (gains ++ codes "\n")))))
line_put none one two three four five six line first second third name shown gains e a b c d is f g h =
    h ∙ ap (λ l. l ++ codes "\n") (g ∙ ap (λ l. l ++ gains) (f ∙ ap (λ l. l ++ quoted shown) (d
    ∙ ap (λ l. l ++ codes ",") (c ∙ ap (λ l. l ++ third) (b ∙ ap (λ l. l ++ second) (a ∙ ap (λ l. l ++ first) e))))
    ∙ ap (λ l. (((first ++ second) ++ third) ++ codes ",") ++ quoted l) is)) ∙ simp append_assoc

pub five_put : (old one two three four new a b c d e : List ℕ) → one ≡ old ++ a → two ≡ one ++ b → three ≡ two ++ c
    → four ≡ three ++ d → new ≡ four ++ e → new ≡ old ++ (a ++ (b ++ (c ++ (d ++ e))))
five_put old one two three four new a b c d e p q r s t =
    t ∙ ap (λ l. l ++ e) (s ∙ ap (λ l. l ++ d) (r ∙ ap (λ l. l ++ c) (q ∙ ap (λ l. l ++ b) p)))
    ∙ simp append_assoc

-- one line more
pub line_more : (first second : List ℕ) (told : List Told) (k : ℕ) (t : Told) (old shown new : List ℕ)
    → k < length told → t ≡ get_or told k t → old ≡ first ++ (second ++ flat_map (λ t. t.line.items) (take k told))
    → shown ≡ t.line.items → new ≡ old ++ shown
    → new ≡ first ++ (second ++ flat_map (λ t. t.line.items) (take (k + 1) told))
line_more first second told k t old shown new lt is so_far same put =
    let lines : List Told → List ℕ = flat_map (λ t. t.line.items) in
    let next : lines (take (k + 1) told) ≡ lines (take k told) ++ t.line.items =
    ap lines (one_taken told k t lt is) ∙ flat_map-append (λ t. t.line.items) (take k told) (t ∷ [])
    ∙ ap (λ l. lines (take k told) ++ l) (append-nil t.line.items) in
    put ∙ ap (λ l. l ++ shown) so_far
    ∙ ap (λ l. (first ++ (second ++ lines (take k told))) ++ l) same
    ∙ append_assoc first (second ++ lines (take k told)) t.line.items
    ∙ ap (λ l. first ++ l) (append_assoc second (lines (take k told)) t.line.items ∙ ap (λ l. second ++ l) (sym next))

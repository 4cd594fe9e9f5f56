-- The first bar of an input.
use Rattle.std.proofs.Common.{◌≡◌, ℕ, ◌+◌, ◌-◌, Bool, true, false, List, [], Some, None, length, take, drop, refl, sym, ap, ◌∙◌, arith, take_all, length-drop}
use Rattle.std.specs.List.{position_or_len, before_first, after_first}
use Rattle.std.proofs.lemmas.List.{drop_all}
use Rattle.std.proofs.lemmas.List.Sums.{position_or_len_is}
use Rattle.bstr.specs.Find.{IsFirstByte, is_byte}
use Rattle.buckfleet_engine.specs.run.Bucking.{is_bar}

no_true : (b : Bool) → (b ≡ true → ⊥) → b ≡ false
no_true true h = absurd (h refl)
no_true false h = refl

bar-found : (bs : List ℕ) (k : ℕ) → IsFirstByte (is_byte 124) bs (Some k) → position_or_len is_bar bs ≡ k
bar-found bs k h =
    position_or_len_is is_bar bs k 0 (omega (arith, h.0.high)) (λ j lt. no_true _ (h.0.before j (omega arith) lt))
    (λ lt. h.1)

bar-none : (bs : List ℕ) → IsFirstByte (is_byte 124) bs None → position_or_len is_bar bs ≡ length bs
bar-none bs h =
    position_or_len_is is_bar bs (length bs) 0 (omega arith) (λ j lt. no_true _ (h j (omega arith) lt))
    (λ lt. absurd (omega arith))

pub before-found : (bs : List ℕ) (k : ℕ) → IsFirstByte (is_byte 124) bs (Some k) → take k bs ≡ before_first is_bar bs
before-found bs k h = ap (λ n. take n bs) (sym (bar-found bs k h))

pub before-none : (bs : List ℕ) → IsFirstByte (is_byte 124) bs None → bs ≡ before_first is_bar bs
before-none bs h = sym (ap (λ n. take n bs) (bar-none bs h) ∙ take_all _ bs (omega arith))

pub after-found : (bs : List ℕ) (k : ℕ) → IsFirstByte (is_byte 124) bs (Some k)
    → take (length bs - (k + 1)) (drop (k + 1) bs) ≡ after_first is_bar bs
after-found bs k h = take_all _ (drop (k + 1) bs) (omega (arith, length-drop (k + 1) bs))
    ∙ ap (λ n. drop (n + 1) bs) (sym (bar-found bs k h))

pub after-none : (bs : List ℕ) → IsFirstByte (is_byte 124) bs None → [] ≡ after_first is_bar bs
after-none bs h = sym (ap (λ n. drop (n + 1) bs) (bar-none bs h) ∙ drop_all (length bs + 1) bs (omega arith))

-- Texts that differ in one part differ.
use Rattle.std.proofs.Common.{◌≡◌, ◌≢◌, ℕ, ◌<◌, ◌+◌, min, List, ◌++◌, length, take, sym, ◌∙◌, ap, refl, arith, length-append}
use Rattle.std.proofs.lemmas.List.{append_cancel_left, append_cancel_right, length-take, take_all}
use Rattle.buck_book_postings.specs.declared.posting.Posting.{Posting}
use Rattle.buck_book_journal.specs.Written.{journal_text}

-- in what stands first
pub unlike_front : (a b c x y : List ℕ) → x ≡ a ++ c → y ≡ b ++ c → b ≢ a → x ≡ y → ⊥
unlike_front a b c x y p q differ e = differ (sym (append_cancel_right a b c (sym p ∙ e ∙ q)))

-- in what stands last
pub unlike_back : (a b c x y : List ℕ) → x ≡ c ++ a → y ≡ c ++ b → b ≢ a → x ≡ y → ⊥
unlike_back a b c x y p q differ e = differ (sym (append_cancel_left c a b (sym p ∙ e ∙ q)))

-- in what stands in the middle
pub unlike_middle : (a b c d x y : List ℕ) → x ≡ c ++ (a ++ d) → y ≡ c ++ (b ++ d) → b ≢ a → x ≡ y → ⊥
unlike_middle a b c d x y p q differ e =
    unlike_front a b d (a ++ d) (b ++ d) refl refl differ (append_cancel_left c (a ++ d) (b ++ d) (sym p ∙ e ∙ q))

-- behind two parts
pub unlike_end : (a b c d x y : List ℕ) → x ≡ c ++ (d ++ a) → y ≡ c ++ (d ++ b) → b ≢ a → x ≡ y → ⊥
unlike_end a b c d x y p q differ e =
    unlike_back a b d (d ++ a) (d ++ b) refl refl differ (append_cancel_left c (d ++ a) (d ++ b) (sym p ∙ e ∙ q))

-- first bytes of a text that are as long as it are all of it
pub taken_whole : (k : ℕ) (xs ys : List ℕ) → length xs ≡ length ys → take k xs ≡ ys → xs ≡ ys
taken_whole k xs ys same e =
    let long : min k (length xs) ≡ length xs = sym (length-take k xs) ∙ ap length e ∙ sym same in
    sym (take_all k xs (omega (arith, long))) ∙ e

-- if the text of a journal was written, something was
pub journal_written : (sheets : List (List ℕ)) (ps : List Posting) (old new : List ℕ)
    → new ≡ old ++ journal_text sheets ps
    → length new ≡ 0 → ⊥
unfolding journal_text
journal_written sheets ps old new e none =
    let long : length new ≡ length old + length (journal_text sheets ps) = ap length e
    ∙ length-append old (journal_text sheets ps) in
    let begins : 0 < length (journal_text sheets ps) = omega arith in
    omega (arith, long, begins)

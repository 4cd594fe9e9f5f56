-- Lines, byte by byte.
use Rattle.buckfleet_live.proofs.Words.{◌≡◌, ℕ, zero, suc, ◌+◌, Bool, false, cond, ◌<◌, inl, inr, List, [], ◌∷◌, ◌++◌, Option, Some, None, length, take, refl, sym, ap, ◌∙◌, arith, append-nil, take_all, cases_lt, length-take, Consumes-trans}
use Rattle.buckfleet_live.proofs.Words.{slice_split, nat_le, ◌&&◌, is_feed, is_finished, longest_line, ended_line, last_line, lines_in, lines_of, AreTaken, HasLines, HasRead, ReadsByte}
use Rattle.std.proofs.lemmas.Bool.Decides.{nat_tests}
use Rattle.std.proofs.lemmas.List.Elements.{All-nil, All-append, All-cons}
use Rattle.std.proofs.lemmas.List.Splits.{slice_split_none, slice_split_at, length-slice_split}

take_again : (n : ℕ) (xs ys : List ℕ) → take n (take n xs ++ ys) ≡ take n (xs ++ ys)
take_again zero xs ys = refl
take_again (suc n) [] ys = refl
take_again (suc n) (x ∷ xs) ys = ap (λ (l : List ℕ). x ∷ l) (take_again n xs ys)

pub one_more : (old mid new : Option (List ℕ)) (held more : List ℕ) (b : ℕ) → (b ≡ 10 → ⊥)
    → HasRead old mid held → ReadsByte mid new (Some b) → more ≡ take (longest_line + 1) (held ++ b ∷ [])
    → HasRead old new more
one_more old mid new held more b other read next is =
    let plain : is_feed b ≡ false = grind (arith, nat_tests, other) in
    record {
      bytes = read.bytes ++ b ∷ [];
      no_feed =
          All-append (λ x. is_feed x ≡ false) read.bytes (b ∷ []) read.no_feed
          (All-cons (λ x. is_feed x ≡ false) b [] plain (All-nil _));
      taken = Consumes-trans old mid new read.bytes (b ∷ []) read.taken next;
      held_is = is ∙ ap (λ (l : List ℕ). take (longest_line + 1) (l ++ b ∷ [])) read.held_is
          ∙ take_again (longest_line + 1) read.bytes (b ∷ []);
    }

-- a line, and the others after it
lines_more : (bytes : List ℕ) (parts : List (List ℕ)) → 0 < length parts
    → lines_in (bytes ∷ parts) ≡ ended_line bytes ∷ lines_in parts
lines_more bytes [] some = absurd (omega (arith, some))
lines_more bytes (part ∷ parts) some = refl

-- a line that is too long is none, by what is held of it too
too_long : (bytes : List ℕ) → longest_line < length bytes → nat_le (length bytes) longest_line ≡ false
too_long bytes lt = grind (arith, nat_tests, lt)

held_so : (line : List ℕ → Option (List ℕ)) → ((l : List ℕ) → longest_line < length l → line l ≡ None)
    → (held bytes : List ℕ) → held ≡ take (longest_line + 1) bytes → line bytes ≡ line held
held_so line none held bytes is = elim (cases_lt longest_line (length bytes)) [
  | inl lt ↦ none bytes lt ∙ sym (none held (omega (arith, lt, ap length is, length-take (longest_line + 1) bytes)))
  | inr le ↦ ap line (sym (is ∙ take_all (longest_line + 1) bytes (omega (arith, le))))
]

ended_so : (held bytes : List ℕ) → held ≡ take (longest_line + 1) bytes → ended_line bytes ≡ ended_line held
ended_so = held_so ended_line (λ l lt. ap (λ (b : Bool). cond b (Some l) None) (too_long l lt))

last_so : (held bytes : List ℕ) → held ≡ take (longest_line + 1) bytes → last_line bytes ≡ last_line held
last_so = held_so last_line (λ l lt. ap (λ (b : Bool). cond (b && is_finished l) (Some l) None) (too_long l lt))

-- a line feed comes
pub feed_comes : (old mid new : Option (List ℕ)) (held : List ℕ) → HasRead old mid held
    → ReadsByte mid new (Some 10) → AreTaken old (ended_line held ∷ []) new
feed_comes None mid new held read next = λ more left. tt
feed_comes (Some xs) None new held read next = absurd read.taken
feed_comes (Some xs) (Some ys) None held read next = absurd next
feed_comes (Some xs) (Some ys) (Some zs) held read next = λ more left.
    let whole : xs ≡ read.bytes ++ 10 ∷ zs = read.taken ∙ ap (λ (l : List ℕ). read.bytes ++ l) next in
    ap lines_of whole
    ∙ ap lines_in (slice_split_at is_feed read.bytes 10 zs read.no_feed refl)
    ∙ lines_more read.bytes (slice_split is_feed zs) (omega (arith, length-slice_split is_feed zs))
    ∙ ap (λ (l : Option (List ℕ)). l ∷ lines_of zs) (ended_so held read.bytes read.held_is)
    ∙ ap (λ (ls : List (Option (List ℕ))). ended_line held ∷ ls) left

-- the input ends
pub input_ends : (old mid new : Option (List ℕ)) (held : List ℕ) → HasRead old mid held
    → ReadsByte mid new None → HasLines old (last_line held ∷ [])
input_ends None mid new held read next = tt
input_ends (Some xs) None new held read next = absurd read.taken
input_ends (Some xs) (Some ys) None held read next = absurd next.0
input_ends (Some xs) (Some ys) (Some zs) held read next =
    let whole : xs ≡ read.bytes = read.taken ∙ ap (λ (l : List ℕ). read.bytes ++ l) (next.0 ∙ next.1)
    ∙ append-nil read.bytes in
    ap lines_of whole
    ∙ ap lines_in (slice_split_none is_feed read.bytes read.no_feed)
    ∙ ap (λ (l : Option (List ℕ)). l ∷ []) (last_so held read.bytes read.held_is)

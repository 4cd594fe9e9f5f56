-- Reading a list one element after the other, as a loop does.
use Rattle.std.proofs.Common.{◌≡◌, ℕ, ◌<◌, ◌+◌, ◌*◌, Bool, true, false, List, [], ◌∷◌, ◌++◌, Some, None, Option, cond, if◌then◌else◌, Result, Ok, Err}
use Rattle.std.proofs.Common.{length, get_or, take, drop, filter, ◌≤◌, ◌-◌, get_or-drop, drop-drop, length-take-le, length-drop, refl, sym, ap, ◌∙◌, arith, append_assoc, ◌||◌}
use Rattle.std.proofs.Math.Nat.{add-zero}
use Rattle.std.proofs.lemmas.Bool.Decides.{nat_tests}
use Rattle.std.proofs.lemmas.Int.Digits.{digits_value_more}
use Rattle.std.proofs.lemmas.List.{append-nil, length_push, take_rest, drop_all}
use Rattle.std.specs.Char.{is_ascii_digit, digit_value}
use Rattle.std.specs.Str.Parse.{digits_value}
use Rattle.buck_record.specs.Item.{ItemParts}
use Rattle.buck_record.specs.declared.slot.Slot.{Slot}
use Rattle.buck_record.specs.Reading.{with_front, put_front}
unfoldable use Rattle.buck_record.specs.Reading.{each_from}
use Rattle.buck_record.specs.bytes.White.{is_white}
use Rattle.buck_record.specs.bytes.White.{first_word, after_word}
use Rattle.buck_record.specs.bytes.Record.{number_at_most, item_of, pieces}
unfoldable use Rattle.buck_record.specs.bytes.Record.{items_of, numbers_of}
use Rattle.buck_record.specs.checking.Table.{is_in}
use Rattle.buck_record.specs.inner.Front.{kept, HasFronts, four_of}
unfoldable use Rattle.buck_record.specs.inner.Front.{adds_on, span}
use Rattle.buck_record.proofs.NumberLemmas.{AreDigits, number-some, number-other, number-large, digit_dark, digits_more, word_goes_on, word_ends, word_fails, word_worth}
use Rattle.buck_record.proofs.WordLemmas.{words-none_left, words-cons_white, words-more}

start : {X E : Type 0} (read : Result (List X) E) → with_front [] read ≡ read
start (Ok xs) = refl
start (Err e) = refl

regroup : {X E : Type 0} (front : List X) (x : X) (read : Result (List X) E)
    → with_front front (with_front (x ∷ []) read) ≡ with_front (front ++ x ∷ []) read
regroup front x (Ok xs) = ap (λ ys. Ok ys) (simp append_assoc)
regroup front x (Err e) = refl

-- ---- numbers, word by word
pub none_yet : (text : List ℕ) → adds_on [] text ≡ numbers_of text
unfolding adds_on numbers_of
none_yet text = start _

add : (now rest : List ℕ) (v : ℕ) → 0 < length (first_word rest)
    → number_at_most 4294967295 (first_word rest) ≡ Some v
    → adds_on (now ++ v ∷ []) (after_word rest) ≡ adds_on now rest
unfolding adds_on each_from
add now rest v filled value = rw (words-more rest _ filled refl, value, length_push now v) (sym (regroup now v _))

pass : (now rest : List ℕ) → 0 < length rest → is_white (get_or rest 0 0) ≡ true
    → adds_on now (drop 1 rest) ≡ adds_on now rest
unfolding adds_on
pass now [] some white = absurd (omega arith)
pass now (b ∷ bs) some white = rw (words-cons_white b bs white) refl

-- no word is begun, and a whitespace byte is next
pub pass_at : (now text : List ℕ) (i : ℕ) → i < length text → is_white (get_or text i 0) ≡ true
    → adds_on now (drop (i + 1) text) ≡ adds_on now (drop i text)
pass_at now text i lt white =
    ap (adds_on now) (sym (drop-drop 1 i text))
    ∙ pass now (drop i text) (omega (arith, length-drop i text)) (rw (get_or-drop i text 0 0, add-zero) white)

stuck : (now rest : List ℕ) → 0 < length (first_word rest) → number_at_most 4294967295 (first_word rest) ≡ None
    → adds_on now rest ≡ Err (length now + 1)
unfolding adds_on each_from
stuck now rest filled wrong = rw (words-more rest _ filled refl, wrong) refl

pub all_read : (now rest : List ℕ) → length rest ≡ 0 → adds_on now rest ≡ Ok now
unfolding adds_on each_from
all_read now rest empty = rw (words-none_left rest empty) (ap (λ ys. Ok ys) (append-nil now))

-- four numbers at once
pub add_four : (now rest values : List ℕ) → HasFronts rest values
    → adds_on (now ++ four_of values) (take (length rest - 16) (drop 16 rest)) ≡ adds_on now rest
add_four now rest values f =
    let add_one : (i : ℕ) → i < 4 → (ns : List ℕ)
    → adds_on (ns ++ get_or values i 0 ∷ []) (drop (4 * i + 4) rest) ≡ adds_on ns (drop (4 * i) rest) =
    λ i lt ns. rw (f.fronts i lt).after
    (add ns (drop (4 * i) rest) (get_or values i 0) (f.fronts i lt).filled (f.fronts i lt).value) in
    let whole : now ++ four_of values ≡ (((now ++ get_or values 0 0 ∷ []) ++ get_or values 1 0 ∷ [])
    ++ get_or values 2 0 ∷ []) ++ get_or values 3 0 ∷ [] = simp append_assoc in
    rw (take_rest rest 16, whole)
    (add_one 3 (omega arith) _ ∙ add_one 2 (omega arith) _ ∙ add_one 1 (omega arith) _ ∙ add_one 0 (omega arith) now)

-- byte by byte: a word begins at `start`, and what is read of it so far are digits
pub fresh : (text : List ℕ) (i : ℕ) → (span text i i ≡ span text i i) × AreDigits (span text i i)
    × (digits_value 10 (span text i i) ≡ 0)
unfolding span
fresh text i =
    let none : i - i ≡ 0 = omega arith in
    (refl, rw none refl, rw none refl)

module _ (text : List ℕ) (start i : ℕ) (digits : AreDigits (span text start i)) (begun : start ≤ i) where
  here : get_or (drop start text) (i - start) 0 ≡ get_or text i 0
  here = get_or-drop start text (i - start) 0 ∙ ap (λ k. get_or text k 0) (omega arith)

  inside : i < length text → i - start < length (drop start text)
  inside lt = omega (arith, length-drop start text)

  front : AreDigits (take (i - start) (drop start text))
  unfolding span
  front = digits

  -- the next byte is a digit, and the value with it
  pub digit_more : i < length text → is_ascii_digit (get_or text i 0) ≡ true
      → (span text start i ≡ span text start i) × AreDigits (span text start (i + 1))
      × (digits_value 10 (span text start (i + 1))
      ≡ digits_value 10 (span text start i) * 10 + digit_value (get_or text i 0))
  unfolding span
  digit_more lt digit =
      let next : i + 1 - start ≡ i - start + 1 = omega arith in (
        refl,
        rw next (digits_more (drop start text) (i - start) front (inside lt) (rw here digit)),
        rw (next, ← here) (digits_value_more 10 (drop start text) (i - start) (inside lt)),
      )

  -- the next byte makes the word too large, or belongs to no number
  pub too_large : (now : List ℕ) → i < length text → is_ascii_digit (get_or text i 0) ≡ true
      → 4294967295 < digits_value 10 (span text start i) * 10 + digit_value (get_or text i 0)
      → (span text start i ≡ span text start i) × (adds_on now (drop start text) ≡ Err (length now + 1))
  unfolding span
  too_large now lt digit large =
      let size = inside lt in
      let is_digit : is_ascii_digit (get_or (drop start text) (i - start) 0) ≡ true = rw here digit in
      let dark = digit_dark (get_or (drop start text) (i - start) 0) is_digit in
      let worth = (word_worth (drop start text) (i - start) front size is_digit).1 in
      let filled : 0 < length (first_word (drop start text)) =
      omega (arith, (word_goes_on (drop start text) (i - start) front size dark).1) in
      let above : 4294967295 < digits_value 10 (first_word (drop start text)) =
      omega (arith, large, rw here at worth) in (
        refl,
        stuck now (drop start text) filled (number-large 4294967295 (first_word (drop start text)) above),
      )

  pub no_digit : (now : List ℕ) → i < length text → is_ascii_digit (get_or text i 0) ≡ false
      → is_white (get_or text i 0) ≡ false
      → (span text start i ≡ span text start i) × (adds_on now (drop start text) ≡ Err (length now + 1))
  unfolding span
  no_digit now lt fails other =
      let size = inside lt in
      let is_none : is_ascii_digit (get_or (drop start text) (i - start) 0) ≡ false = rw here fails in
      let dark : is_white (get_or (drop start text) (i - start) 0) ≡ false = rw here other in
      let filled : 0 < length (first_word (drop start text)) =
      omega (arith, (word_goes_on (drop start text) (i - start) front size dark).1) in (
        refl,
        stuck now (drop start text) filled (number-other 4294967295 (first_word (drop start text))
            (word_fails (drop start text) (i - start) front size is_none dark).1),
      )

  -- the word ends
  pub word_added : (now : List ℕ) → start < i → i ≤ length text
      → (i < length text → is_white (get_or text i 0) ≡ true) → digits_value 10 (span text start i) ≤ 4294967295
      → adds_on (now ++ digits_value 10 (span text start i) ∷ []) (drop (i + 1) text) ≡ adds_on now (drop start text)
  unfolding span
  word_added now some within end small =
      let size : i - start ≤ length (drop start text) = omega (arith, length-drop start text) in
      let ends = word_ends (drop start text) (i - start) front size
      (λ lt. rw here (end (omega (arith, lt, length-drop start text)))) in
      let past : drop (i - start + 1) (drop start text) ≡ drop (i + 1) text =
      drop-drop (i - start + 1) start text ∙ ap (λ k. drop k text) (omega arith) in
      let filled : 0 < length (take (i - start) (drop start text)) =
      omega (arith, length-take-le (i - start) (drop start text) size) in
      rw (← past, ← ends.2, ← ends.1) (add now (drop start text) _ (rw ends.1 filled)
      (rw ends.1 (number-some 4294967295 (take (i - start) (drop start text)) front filled small)))

  pub last_added : (now : List ℕ) → start < i → i ≡ length text → digits_value 10 (span text start i) ≤ 4294967295
      → adds_on (now ++ digits_value 10 (span text start i) ∷ []) (drop i text) ≡ adds_on now (drop start text)
  last_added now some end small =
      ap (adds_on _) (drop_all i text (omega (arith, end)) ∙ sym (drop_all (i + 1) text (omega (arith, end))))
      ∙ word_added now some (omega (arith, end)) (λ lt. absurd (omega (arith, lt, end))) small

pub ruleset word_steps =
    (fresh, digit_more, too_large, no_digit, word_added, last_added, pass_at, nat_tests, drop_all, take_rest)

pub ruleset steps = (none_yet, add_four, all_read)

-- ---- items, piece by piece
-- what is held, and what is still to be read after so many items
unfoldable pub reads_at : Bool → List Slot → List ItemParts → ℕ → List (List ℕ) → Result (List ItemParts) ℕ
reads_at every slots held read rest = with_front held (kept every slots (each_from item_of (read + 1) rest))

-- the same after one item more, if the piece is one
abbrev pub reads_next : Bool → List Slot → List ItemParts → ℕ → List (List ℕ) → Option ItemParts
    → Result (List ItemParts) ℕ
reads_next every slots held read rest None = Err (read + 1)
reads_next every slots held read rest (Some item) =
    reads_at every slots (if every || is_in slots item then held ++ item ∷ [] else held) (read + 1) rest

put : (b : Bool) (held : List ItemParts) (item : ItemParts) (items : List ItemParts)
    → held ++ cond b (item ∷ items) items ≡ cond b (held ++ item ∷ []) held ++ items
put true held item items = simp append_assoc
put false held item items = refl

kept_front : (every : Bool) (slots : List Slot) (held : List ItemParts) (item : ItemParts)
    (read : Result (List ItemParts) ℕ) → with_front held (kept every slots (with_front (item ∷ []) read))
    ≡ with_front (if every || is_in slots item then held ++ item ∷ [] else held) (kept every slots read)
kept_front true slots held item read = regroup held item read
kept_front false slots held item (Ok items) =
    ap (λ ys. Ok ys) (put (is_in slots item) held item (filter (is_in slots) items))
kept_front false slots held item (Err place) = refl

pub at_start : (every : Bool) (slots : List Slot) (bytes : List ℕ)
    → reads_at every slots [] 0 (pieces bytes) ≡ kept every slots (items_of bytes)
unfolding reads_at items_of
at_start every slots bytes = start _

pub at_done : (every : Bool) (slots : List Slot) (held : List ItemParts) (read : ℕ)
    → reads_at every slots held read [] ≡ Ok held
unfolding reads_at each_from
at_done true slots held read = ap (λ is. Ok is) (append-nil held)
at_done false slots held read = ap (λ is. Ok is) (append-nil held)

at_piece : (every : Bool) (slots : List Slot) (held : List ItemParts) (read : ℕ) (rest : List (List ℕ))
    (o : Option ItemParts)
    → with_front held (kept every slots (put_front o (read + 1) (each_from item_of (read + 1 + 1) rest)))
    ≡ reads_next every slots held read rest o
unfolding reads_at
at_piece true slots held read rest None = refl
at_piece false slots held read rest None = refl
at_piece every slots held read rest (Some item) =
    kept_front every slots held item (each_from item_of (read + 1 + 1) rest)

pub at_next : (every : Bool) (slots : List Slot) (held : List ItemParts) (read : ℕ) (piece : List ℕ)
    (rest : List (List ℕ))
    → reads_at every slots held read (piece ∷ rest) ≡ reads_next every slots held read rest (item_of piece)
unfolding reads_at each_from
at_next every slots held read piece rest = at_piece every slots held read rest (item_of piece)

pub ruleset piece_steps = (at_start, at_done, at_next)

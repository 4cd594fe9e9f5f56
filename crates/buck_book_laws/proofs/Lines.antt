-- Lines of a file as they are written, and the items that are read of them.
use Rattle.buck_book_laws.proofs.Words.{◌≡◌, ℕ, suc, ◌+◌, ◌-◌, ◌<◌, ◌≤◌, ◌^◌, true, false, List, [], ◌∷◌, ◌++◌, All, Some, Ok, get_or, length, take, drop, map, refl, sym, ap, ◌∙◌, subst, arith, append_assoc, codes, rules, common_steps}
use Rattle.buck_book_laws.proofs.Words.{position_or_len, AllByRecursion, is_ascii_digit, decimal, digits_decimal, decimal_nonempty, cond-true, lt-ltb, nat_tests, append-nil, take_all, length-append, All-append, All-cons, All-nil}
use Rattle.buck_book_laws.proofs.Words.{All-from_recursion, recursion_from_All, slice_split_at, AllPass-from_list_all, suffix_len_is, ItemParts, Slot, Leads, item_in, slot, file_slot, LeadsNumbers, LeadsWorth, is_white, trim, trim_start}
use Rattle.buck_book_laws.proofs.Words.{trim_end, first_word, after_word, words, each_from, number_at_most, is_tilde, pieces, item_of, numbers_of, number_of, HasItems, spelled, numeral, number-decimal, numbers_again, words-spelled}
use Rattle.buck_book_laws.proofs.Words.{words-trim_start, item_text}

-- a text whose last byte isn't white, and one whose first isn't
abbrev EndsDark : List ℕ → Type 0
EndsDark xs = (0 < length xs) × (is_white (get_or xs (length xs - 1) 0) ≡ false)

-- a byte that isn't a tilde
abbrev IsPlain : ℕ → Type 0
IsPlain b = is_tilde b ≡ false

abbrev StartsDark : List ℕ → Type 0
StartsDark xs = (0 < length xs) × (is_white (get_or xs 0 0) ≡ false)

digit_dark : (c : ℕ) → is_ascii_digit c ≡ true → is_white c ≡ false
digit_dark c h = grind (arith, nat_tests)

digit_plain : (c : ℕ) → is_ascii_digit c ≡ true → is_tilde c ≡ false
digit_plain c h = grind (arith, nat_tests)

module _ (n : ℕ) (lt : n < 2 ^ 64) where
  digits : (k : ℕ) → k < length (decimal n) → is_ascii_digit (get_or (decimal n) k 0) ≡ true
  digits k l = AllPass-from_list_all is_ascii_digit (decimal n) (digits_decimal numeral n lt) k 0 l

  ends_decimal : EndsDark (decimal n)
  ends_decimal = grind (arith, decimal_nonempty, digit_dark, digits)

  starts_decimal : StartsDark (decimal n)
  starts_decimal = (decimal_nonempty n lt, digit_dark (get_or (decimal n) 0 0) (digits 0 (decimal_nonempty n lt)))

  plain_decimal : All IsPlain (decimal n)
  plain_decimal = grind (arith, common_steps, digit_plain, digits_decimal, numeral)

ends_append : (xs zs : List ℕ) → EndsDark zs → EndsDark (xs ++ zs)
ends_append xs zs h = grind (arith, common_steps)

ends_spelled : (xs ns : List ℕ) → AllByRecursion (λ n. n < 2 ^ 64) ns → EndsDark xs → EndsDark (xs ++ spelled ns)
ends_spelled xs [] h e = subst EndsDark (sym (append-nil xs)) e
ends_spelled xs (n ∷ ns) h e =
    search (rules, ends_append, ends_decimal, append_assoc, (ends_spelled (xs ++ 32 ∷ decimal n) ns h.1 (ends_append xs (32 ∷ decimal n) (ends_append (32 ∷ []) (decimal n) (ends_decimal n h.0)))))

starts_append : (xs zs : List ℕ) → StartsDark xs → StartsDark (xs ++ zs)
starts_append [] zs h = absurd (let pos = h.0 in omega arith)
starts_append (x ∷ xs) zs h = (omega arith, h.1)

start_dark : (xs : List ℕ) → StartsDark xs → trim_start xs ≡ xs
unfolding trim_start
start_dark [] h = refl
start_dark (x ∷ xs) h = rw h.1 refl

end_dark : (xs : List ℕ) → EndsDark xs → trim_end xs ≡ xs
unfolding trim_end
end_dark xs h = search (rules, suffix_len_is, take_all)

trim_dark : (xs : List ℕ) → StartsDark xs → EndsDark xs → trim xs ≡ xs
trim_dark xs s e = ap trim_end (start_dark xs s) ∙ end_dark xs e

start_white : (w : ℕ) (xs : List ℕ) → is_white w ≡ true → trim_start (w ∷ xs) ≡ trim_start xs
unfolding trim_start
start_white w xs h = grind (arith, common_steps)

-- numbers as they stand after a head
told : List ℕ → List ℕ
told [] = []
told (n ∷ ns) = decimal n ++ spelled ns

told_trimmed : (ns : List ℕ) → AllByRecursion (λ n. n < 2 ^ 64) ns → trim (told ns) ≡ told ns
unfolding told trim_start trim_end
told_trimmed ns h = grind (arith, trim_dark, starts_append, starts_decimal, ends_spelled, ends_decimal)

told_words : (ns : List ℕ) → AllByRecursion (λ n. n < 2 ^ 64) ns → words (told ns) ≡ map decimal ns
unfolding told
told_words [] h = words-spelled [] h
told_words (n ∷ ns) h =
    let own : trim_start (32 ∷ (decimal n ++ spelled ns)) ≡ decimal n ++ spelled ns =
    search (rules, start_white, start_dark, starts_append, starts_decimal) in
    ap words (sym own) ∙ words-trim_start (32 ∷ (decimal n ++ spelled ns)) ∙ words-spelled (n ∷ ns) h

smaller : (ns : List ℕ) → AllByRecursion (λ n. n ≤ 4294967295) ns → AllByRecursion (λ n. n < 2 ^ 64) ns
smaller [] h = tt
smaller (n ∷ ns) h = (omega (arith, h.0), smaller ns h.1)

numbers_by_words : (xs ys : List ℕ) → words xs ≡ words ys → numbers_of xs ≡ numbers_of ys
unfolding numbers_of
numbers_by_words xs ys e = ap (λ ws. each_from (number_at_most 4294967295) 1 ws) e

-- numbers after a head are read again
numbers_told : (ns : List ℕ) → AllByRecursion (λ n. n ≤ 4294967295) ns → numbers_of (told ns) ≡ Ok ns
numbers_told ns h = search (rules, numbers_by_words, told, told_words, smaller, words-spelled, numbers_again)

-- one wide number after a head is read again
worth_told : (n : ℕ) → n ≤ 18446744073709551615 → number_of 18446744073709551615 (told (n ∷ [])) ≡ Ok n
unfolding number_of
worth_told n le = grind (arith, told_words, number-decimal)

one_past : (n x : ℕ) (xs : List ℕ)
    → (take (1 + n) (x ∷ xs) ≡ x ∷ take n xs) × (drop (1 + n + 1) (x ∷ xs) ≡ drop (n + 1) xs)
one_past n x xs =
    let one : 1 + n ≡ suc n = omega arith in let two : 1 + n + 1 ≡ suc (n + 1) = omega arith in (rw one refl, rw two refl)

-- the first word of a text that begins with no whitespace byte, and what is after it
word_of : (xs ns : List ℕ) → AllByRecursion (λ b. is_white b ≡ false) xs
    → (first_word (xs ++ spelled ns) ≡ xs) × (after_word (xs ++ spelled ns) ≡ told ns)
unfolding first_word after_word told
word_of [] [] h = (refl, refl)
word_of [] (n ∷ ns) h = (refl, refl)
word_of (x ∷ xs) ns h =
    let more = word_of xs ns h.1 in
    let n : ℕ = position_or_len is_white (xs ++ spelled ns) in (
      rw h.0 ((one_past n x (xs ++ spelled ns)).0 ∙ ap (λ ys. x ∷ ys) more.0),
      rw h.0 ((one_past n x (xs ++ spelled ns)).1 ∙ more.1),
    )

number_word : (n : ℕ) (ns : List ℕ) → n < 2 ^ 64
    → (first_word (told (n ∷ ns)) ≡ decimal n) × (after_word (told (n ∷ ns)) ≡ told ns)
unfolding told
number_word n ns lt =
    word_of (decimal n) ns
    (recursion_from_All _ (decimal n) (λ k d l. digit_dark (get_or (decimal n) k d)
    (AllPass-from_list_all is_ascii_digit (decimal n) (digits_decimal numeral n lt) k d l)))

-- an item is its number, its kind and then other numbers
item_told : (number kind : ℕ) (ns : List ℕ) → number ≤ 65535 → kind ≤ 65535 → AllByRecursion (λ n. n < 2 ^ 64) ns
    → item_of (told (number ∷ kind ∷ ns)) ≡ Some (record { number = number; kind = kind; rest = told ns })
unfolding item_of
item_told number kind ns n k small =
    rw (
      (number_word number (kind ∷ ns) (omega arith)).0,
      number-decimal 65535 number n (omega arith),
      (number_word number (kind ∷ ns) (omega arith)).1,
      told_trimmed (kind ∷ ns) (omega arith, small),
      (number_word kind ns (omega arith)).0,
      number-decimal 65535 kind k (omega arith),
      (number_word kind ns (omega arith)).1,
      told_trimmed ns small,
    ) refl

plain_spelled : (ns : List ℕ) → AllByRecursion (λ n. n < 2 ^ 64) ns → All IsPlain (spelled ns)
plain_spelled [] h = All-nil IsPlain
plain_spelled (n ∷ ns) h = search (rules, All-cons, All-append, plain_decimal, (plain_spelled ns h.1))

-- a part that is an item, and a tilde, before the others
part_first : (part piece left : List ℕ) → All IsPlain part → trim part ≡ piece → 0 < length piece
    → pieces (part ++ 126 ∷ left) ≡ piece ∷ pieces left
part_first part piece left plain trimmed some = grind (arith, slice_split_at, cond-true, lt-ltb)

-- the line of an item, and its numbers
line_leads : (s : Slot) (head ns rest : List ℕ) → head ≡ decimal s.number ++ 32 ∷ decimal s.kind → s.number ≤ 65535
    → s.kind ≤ 65535 → AllByRecursion (λ n. n < 2 ^ 64) ns
    → Leads (10 ∷ (item_text head ns ++ rest)) (item_in s (told ns)) (10 ∷ rest)
unfolding told
line_leads s head ns rest is n k small =
    let piece : List ℕ = told (s.number ∷ s.kind ∷ ns) in
    let all : AllByRecursion (λ n. n < 2 ^ 64) (s.number ∷ s.kind ∷ ns) = (omega arith, (omega arith, small)) in
    let text : (10 ∷ piece) ++ 126 ∷ 10 ∷ rest ≡ 10 ∷ (item_text head ns ++ rest) = rw is (simp append_assoc) in
    record {
      piece = piece;
      first =
          subst (λ t. pieces t ≡ piece ∷ pieces (10 ∷ rest)) text
          (part_first (10 ∷ piece) piece (10 ∷ rest)
          (All-cons IsPlain 10 piece refl
          (All-append IsPlain (decimal s.number) (spelled (s.kind ∷ ns)) (plain_decimal s.number (omega arith))
          (plain_spelled (s.kind ∷ ns) all.1)))
          (ap trim_end (start_white 10 piece refl) ∙ told_trimmed (s.number ∷ s.kind ∷ ns) all)
          (omega (arith, decimal_nonempty s.number (omega arith), length-append (decimal s.number) (spelled (s.kind ∷ ns)))));
      head = item_told s.number s.kind ns n k small;
      shorter = subst (λ t. length (10 ∷ rest) < length t) text (omega (arith, length-append piece (126 ∷ 10 ∷ rest)));
    }

pub numbers_lead : (s : Slot) (head ns rest : List ℕ) → head ≡ decimal s.number ++ 32 ∷ decimal s.kind
    → s.number ≤ 65535 → s.kind ≤ 65535 → AllByRecursion (λ n. n ≤ 4294967295) ns
    → LeadsNumbers s (10 ∷ (item_text head ns ++ rest)) ns (10 ∷ rest)
numbers_lead s head ns rest is n k small = record {
  rest = told ns;
  read = numbers_told ns small;
  leads = line_leads s head ns rest is n k (smaller ns small);
}

pub worth_leads : (head rest : List ℕ) (n : ℕ) → head ≡ decimal 981 ++ 32 ∷ decimal 6 → n ≤ 18446744073709551615
    → LeadsWorth (10 ∷ (item_text head (n ∷ []) ++ rest)) n (10 ∷ rest)
worth_leads head rest n is le = record {
  rest = told (n ∷ []);
  read = worth_told n le;
  leads = line_leads (slot 981 6) head (n ∷ []) rest is (omega arith) (omega arith) (omega arith, tt);
}

-- the first item, which says the kind of file
kind_piece : (trim (codes "1 2 JRN") ≡ codes "1 2 JRN")
    × (item_of (codes "1 2 JRN") ≡ Some (item_in file_slot (codes "JRN")))
unfolding item_of first_word after_word trim_start trim_end number_at_most
kind_piece = (refl, refl)

pub kind_leads : (text : List ℕ)
    → Leads (item_text (codes "1 2 JRN") [] ++ text) (item_in file_slot (codes "JRN")) (10 ∷ text)
kind_leads text = record {
  piece = codes "1 2 JRN";
  first =
      part_first (codes "1 2 JRN") (codes "1 2 JRN") (10 ∷ text)
      (All-from_recursion IsPlain (codes "1 2 JRN") (refl, (refl, (refl, (refl, (refl, (refl, (refl, tt))))))))
      kind_piece.0 (omega arith);
  head = kind_piece.1;
  shorter = omega arith;
}

pub nothing_left : HasItems (10 ∷ []) []
unfolding each_from trim_start trim_end
nothing_left k = refl

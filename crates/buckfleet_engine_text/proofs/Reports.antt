-- A report that grows by a line at a time.
use Rattle.std.proofs.Common.{◌≡◌, ℕ, zero, suc, ◌+◌, ◌<◌, List, [], ◌∷◌, ◌++◌, length, take, get_or, sym, ap, ◌∙◌, arith, append_assoc, append-nil, add-one, length-take-le}
use Rattle.std.proofs.Math.Seq.{take-suc}
use Rattle.std.specs.List.{flat_map, range_with_len}
use Rattle.std.proofs.lemmas.List.{flat_map_more}
use Rattle.buck_apt_instruction.specs.Instruction.{AssortmentParts}
use Rattle.buck_book_postings.specs.declared.posting.Posting.{Posting}
use Rattle.buckfleet_engine_text.specs.Report.{EndingParts, posting_line, posting_lines, assortment_lines, all_lines}

range_more : (a n : ℕ) → range_with_len a (suc n) ≡ range_with_len a n ++ (a + n) ∷ []
range_more a zero = let e : a ≡ a + 0 = omega arith in ap (λ x. x ∷ []) e
range_more a (suc n) = let e : a + 1 + n ≡ a + suc n = omega arith in
    ap (λ l. a ∷ l) (range_more (a + 1) n ∙ ap (λ x. range_with_len (a + 1) n ++ x ∷ []) e)

-- a line more of a row, or a row more
pub line_more : (f : ℕ → List ℕ) (n : ℕ) (old mid new : List ℕ) → mid ≡ old ++ flat_map f (range_with_len 0 n)
    → new ≡ mid ++ f n → new ≡ old ++ flat_map f (range_with_len 0 (n + 1))
line_more f n old mid new so_far e =
    let next : n + 1 ≡ suc n = omega arith in
    let itself : 0 + n ≡ n = omega arith in
    let more : range_with_len 0 (n + 1) ≡ range_with_len 0 n ++ n ∷ [] = ap (range_with_len 0) next ∙ range_more 0 n
    ∙ ap (λ x. range_with_len 0 n ++ x ∷ []) itself in
    e ∙ ap (λ l. l ++ f n) so_far ∙ flat_map_more f old (range_with_len 0 n) n
    ∙ ap (λ l. old ++ flat_map f l) (sym more)

posting_last : (at : ℕ) (xs : List Posting) (x : Posting)
    → posting_lines at (xs ++ x ∷ []) ≡ posting_lines at xs ++ posting_line (at + length xs) x
posting_last at [] x = let e : at ≡ at + 0 = omega arith in append-nil (posting_line at x)
    ∙ ap (λ n. posting_line n x) e
posting_last at (y ∷ ys) x =
    let e : at + 1 + length ys ≡ at + suc (length ys) = omega arith in
    ap (λ l. posting_line at y ++ l)
    (posting_last (at + 1) ys x ∙ ap (λ n. posting_lines (at + 1) ys ++ posting_line n x) e)
    ∙ sym (append_assoc (posting_line at y) (posting_lines (at + 1) ys) (posting_line (at + suc (length ys)) x))

one_taken : {X : Type 0} (xs : List X) (n : ℕ) (x : X) → n < length xs → x ≡ get_or xs n x
    → take (n + 1) xs ≡ take n xs ++ x ∷ []
one_taken xs n x lt is = rw add-one (take-suc xs n x lt) ∙ ap (λ y. take n xs ++ y ∷ []) (sym is)

-- a posting more
pub posting_more : (ps : List Posting) (n : ℕ) (x : Posting) (old mid new : List ℕ) → n < length ps → x ≡ get_or ps n x
    → mid ≡ old ++ posting_lines 0 (take n ps) → new ≡ mid ++ posting_line n x
    → new ≡ old ++ posting_lines 0 (take (n + 1) ps)
posting_more ps n x old mid new lt is so_far e =
    let long : length (take n ps) ≡ n = length-take-le n ps (omega (arith, lt)) in
    let place : 0 + length (take n ps) ≡ n = omega (arith, long) in
    e
    ∙ ap (λ l. l ++ posting_line n x) so_far
    ∙ append_assoc old (posting_lines 0 (take n ps)) (posting_line n x)
    ∙ ap (λ l. old ++ l)
    (ap (λ k. posting_lines 0 (take n ps) ++ posting_line k x) (sym place) ∙ sym (posting_last 0 (take n ps) x)
    ∙ ap (posting_lines 0) (sym (one_taken ps n x lt is)))

lines_last : (e : EndingParts) (at : ℕ) (xs : List AssortmentParts) (x : AssortmentParts)
    → all_lines e at (xs ++ x ∷ []) ≡ all_lines e at xs ++ assortment_lines e (at + length xs) x
lines_last e at [] x = let same : at ≡ at + 0 = omega arith in append-nil (assortment_lines e at x)
    ∙ ap (λ n. assortment_lines e n x) same
lines_last e at (y ∷ ys) x =
    let same : at + 1 + length ys ≡ at + suc (length ys) = omega arith in
    ap (λ l. assortment_lines e at y ++ l)
    (lines_last e (at + 1) ys x ∙ ap (λ n. all_lines e (at + 1) ys ++ assortment_lines e n x) same)
    ∙ sym (append_assoc (assortment_lines e at y) (all_lines e (at + 1) ys)
    (assortment_lines e (at + suc (length ys)) x))

-- an assortment more
pub assortment_more : (e : EndingParts) (xs : List AssortmentParts) (n : ℕ) (x : AssortmentParts) (old mid new : List ℕ)
    → n < length xs → x ≡ get_or xs n x
    → mid ≡ old ++ all_lines e 0 (take n xs) → new ≡ mid ++ assortment_lines e n x
    → new ≡ old ++ all_lines e 0 (take (n + 1) xs)
assortment_more e xs n x old mid new lt is so_far put =
    let long : length (take n xs) ≡ n = length-take-le n xs (omega (arith, lt)) in
    let place : 0 + length (take n xs) ≡ n = omega (arith, long) in
    put
    ∙ ap (λ l. l ++ assortment_lines e n x) so_far
    ∙ append_assoc old (all_lines e 0 (take n xs)) (assortment_lines e n x)
    ∙ ap (λ l. old ++ l)
    (ap (λ k. all_lines e 0 (take n xs) ++ assortment_lines e k x) (sym place) ∙ sym (lines_last e 0 (take n xs) x)
    ∙ ap (all_lines e 0) (sym (one_taken xs n x lt is)))

-- How many items a journal has.
use Rattle.buck_book_laws.proofs.Words.{◌≡◌, ℕ, zero, suc, ◌+◌, ◌<◌, Bool, true, false, List, [], ◌∷◌, Option, Some, None, Result, Ok, Err, inl, inr, length, drop, slice_get, sum_by, refl, sym, ap, ◌∙◌, subst, arith, rules, common_steps}
use Rattle.buck_book_laws.proofs.Words.{if◌then◌else◌, cases_Bool, with_fault, sum_by-cons, ItemParts, ◌>>=◌, items_of, is_at, slot, both, check_ok, Posting, JournalFault, Shape, JournalParts, Form, says, wanted, numbers_at, item_at}
use Rattle.buck_book_laws.proofs.Words.{stem_at, worth_at, is_first, follows, cut_at, demand_at, posting_at, sheets_from, postings_from, says_journal, journal_in, journal_of, number_of_items, begins}
use Rattle.buck_book_journal.specs.Reading.{sheet_at}

ok_of : {X E : Type 0} (fault : ℕ → E) (r : Result X ℕ) (x : X) → with_fault fault r ≡ Ok x → r ≡ Ok x
ok_of fault (Ok y) x h = cc
ok_of fault (Err e) x h = cc

-- a step that passed
step_ok : {A B E : Type 0} (r : Result A E) (f : A → Result B E) (y : B) → (r >>= f) ≡ Ok y
    → (x : A) × (r ≡ Ok x) × (f x ≡ Ok y)
step_ok (Ok x) f y h = (x, refl, h)
step_ok (Err e) f y h = cc

ok_same : {A E : Type 0} (x y : A) → (let left : Result A E = Ok x in left ≡ Ok y) → x ≡ y
ok_same x y h = cc

then_of : {A : Type 0} (b : Bool) (p q y : A) → b ≡ true → (if b then p else q) ≡ y → p ≡ y
then_of true p q y is h = h
then_of false p q y is h = cc

else_of : {A : Type 0} (b : Bool) (p q y : A) → b ≡ false → (if b then p else q) ≡ y → q ≡ y
else_of true p q y is h = cc
else_of false p q y is h = h

-- an item is there, and begins no posting
abbrev Inside : Option ItemParts → Type 0
Inside None = ⊥
Inside (Some x) = is_first x ≡ false

other_kind : (number kind : ℕ) (x : ItemParts) → (kind ≡ 1 → ⊥) → is_at (slot number kind) x ≡ true → is_first x ≡ false
other_kind number kind x other h = grind (arith, common_steps)

wanted_right : (b : Bool) (rest read : List ℕ) (fault : JournalFault) → (if b then Ok rest else Err fault) ≡ Ok read
    → b ≡ true
wanted_right true rest read fault h = refl
wanted_right false rest read fault h = cc

module _ (number kind place : ℕ) (o : Option ItemParts) (other : kind ≡ 1 → ⊥) where
  wanted_inside : (read : List ℕ) → wanted (slot number kind) place o ≡ Ok read → Inside o
  wanted_inside read h = grind (arith, other_kind, wanted_right)

  item_inside : {A : Type 0} (form : Form A) (x : A) → item_at (slot number kind) form place o ≡ Ok x → Inside o
  unfolding item_at numbers_at
  item_inside form x h = grind (arith, step_ok, wanted_inside)

worth_inside : (place : ℕ) (o : Option ItemParts) (worth : ℕ) → worth_at place o ≡ Ok worth → Inside o
unfolding worth_at
worth_inside place o worth h = grind (arith, wanted_inside, step_ok)

-- behind some items as many are those of a posting that began before, and after them comes the next one, or the end
abbrev Owes : ℕ → ℕ → List ItemParts → Type 0
Owes i zero rest = begins (drop i rest) ≡ true
Owes i (suc n) rest = Inside (slice_get rest i) × Owes (suc i) n rest

one_behind : (i n : ℕ) (x : ItemParts) (more : List ItemParts) → Owes (suc i) n (x ∷ more) → Owes i n more
one_behind i zero x more o = o
one_behind i (suc n) x more o = (o.0, one_behind (suc i) n x more o.1)

then_begins : (n place : ℕ) (rest : List ItemParts) → follows place (slice_get rest n) ≡ Ok tt
    → begins (drop n rest) ≡ true
then_begins zero place [] h = refl
then_begins zero place (x ∷ more) h = check_ok (is_first x) (Shape place) h
then_begins (suc n) place [] h = refl
then_begins (suc n) place (x ∷ more) h = then_begins n place more h

cut_owes : (x : ItemParts) (more : List ItemParts) (k before : ℕ) (p : Posting)
    → cut_at (x ∷ more) k before ≡ Ok p → (number_of_items p ≡ 6) × Owes 0 5 more
unfolding cut_at stem_at
cut_owes x more k before p h = grind (arith, step_ok, ok_same, item_inside, worth_inside, then_begins)

demand_owes : (x : ItemParts) (more : List ItemParts) (k before : ℕ) (p : Posting)
    → demand_at (x ∷ more) k before ≡ Ok p → (number_of_items p ≡ 2) × Owes 0 1 more
unfolding demand_at
demand_owes x more k before p h = grind (arith, step_ok, ok_same, item_inside, then_begins)

posting_owes : (x : ItemParts) (more : List ItemParts) (k before : ℕ) (p : Posting)
    → posting_at x (x ∷ more) k before ≡ Ok p → (n : ℕ) × (number_of_items p ≡ n + 1) × Owes 0 n more
unfolding posting_at
posting_owes x more k before p h = elim (cases_Bool (is_at (slot 981 1) x)) [
  | inl cut ↦ let o = cut_owes x more k before p (then_of _ _ _ _ cut h) in (5, o.0, o.1)
  | inr other ↦ let o = demand_owes x more k before p (else_of _ _ _ _ other h) in (1, o.0, o.1)
]

postings_counted : (k before n : ℕ) (rest : List ItemParts) (ps : List Posting) → Owes 0 n rest
    → postings_from k before rest ≡ Ok ps → length rest ≡ n + sum_by number_of_items ps
unfolding postings_from
postings_counted k before zero [] ps o h = subst (λ qs. 0 ≡ 0 + sum_by number_of_items qs) (ok_same [] ps h) refl
postings_counted k before (suc n) [] ps o h = absurd o.0
postings_counted k before (suc n) (x ∷ more) ps o h =
    search (rules, (postings_counted (k + 1) before n more ps (one_behind 0 n x more o.1) (else_of (is_first x) _ _ _ o.0 h)))
postings_counted k before zero (x ∷ more) ps o h =
    let a = step_ok (posting_at x (x ∷ more) k before) _ ps (then_of (is_first x) _ _ _ o h) in
    let b = step_ok (postings_from (k + 1) (before + 1) more) _ ps a.2 in
    let w = posting_owes x more k before a.0 a.1 in
    let later : length more ≡ w.0 + sum_by number_of_items b.0 =
    postings_counted (k + 1) (before + 1) w.0 more b.0 w.2 b.1 in
    let all : number_of_items a.0 + sum_by number_of_items b.0 ≡ sum_by number_of_items ps =
    sym (sum_by-cons number_of_items a.0 b.0) ∙ ap (λ qs. sum_by number_of_items qs) (ok_same (a.0 ∷ b.0) ps b.2) in
    omega (arith, all, later, w.1)

sheets_counted : (k before : ℕ) (rest : List ItemParts) (sheets : List (List ℕ)) (ps : List Posting)
    → sheets_from k rest ≡ Ok sheets → postings_from k before rest ≡ Ok ps
    → length rest ≡ length sheets + sum_by number_of_items ps
unfolding sheets_from postings_from
sheets_counted k before [] sheets ps s h = cc
sheets_counted k before (x ∷ more) sheets ps s h = elim (cases_Bool (is_first x)) [
  | inl first ↦
      let few : 0 ≡ length sheets = ap (λ xs. length xs) (ok_same [] sheets (then_of (is_first x) _ _ _ first s)) in
      let counted : suc (length more) ≡ 0 + sum_by number_of_items ps =
      postings_counted k before 0 (x ∷ more) ps first h in
      omega arith
  | inr other ↦
      let a = step_ok (sheet_at (k + 1) (Some x)) _ sheets (else_of (is_first x) _ _ _ other s) in
      let b = step_ok (sheets_from (k + 1) more) _ sheets a.2 in
      let one : suc (length b.0) ≡ length sheets = ap (λ xs. length xs) (ok_same (a.0 ∷ b.0) sheets b.2) in
      let later : length more ≡ length b.0 + sum_by number_of_items ps =
      sheets_counted (k + 1) before more b.0 ps b.1 (else_of (is_first x) _ _ _ other h) in
      omega arith
]

file_counted : (items : List ItemParts) (sheets : List (List ℕ)) (ps : List Posting) → says_journal items ≡ true
    → sheets_from 1 (drop 1 items) ≡ Ok sheets → postings_from 0 0 items ≡ Ok ps
    → length items ≡ 1 + length sheets + sum_by number_of_items ps
unfolding postings_from
file_counted items sheets ps says s h = grind (arith, both, other_kind, sheets_counted, else_of)

pub none_skipped : (bytes : List ℕ) (j : JournalParts) → journal_of bytes ≡ Ok j
    → (items : List ItemParts)
    × (items_of bytes ≡ Ok items)
    × (length items ≡ 1 + length j.sheets + sum_by number_of_items j.entries)
unfolding journal_of journal_in
none_skipped bytes j h = grind (arith, step_ok, ok_same, ok_of, file_counted, check_ok)

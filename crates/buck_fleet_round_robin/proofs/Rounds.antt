-- Lists that are cut in turn, one turn on.
use Rattle.std.proofs.Common.{◌≡◌, ◌≢◌, ℕ, true, false, ◌+◌, ◌-◌, ◌<◌, ◌≤◌, ◌==◌, ◌⊎◌, inl, inr, min, sum_by, List, [], ◌∷◌, ◌++◌, length, map, take, drop, get_or, All, refl, sym, ap, ◌∙◌, arith, take_all, append-nil}
use Rattle.std.proofs.lemmas.Bool.{cases_Bool, cases_eq}
use Rattle.std.proofs.lemmas.Bool.Decides.{nat_tests}
use Rattle.std.proofs.lemmas.List.{drop_all, get_or-map, length-map, length-take, length_push, map-append, take_more}
use Rattle.std.proofs.lemmas.List.Elements.{All-from_recursion, All-map, All-nil, All-push, All-tail, filter-append, recursion_from_All}
use Rattle.std.proofs.lemmas.List.Sums.{length-filter, sum_by-drop_more, sum_by_more}
use native.Mathlib.Numerals.{unary_clauses}
use Rattle.std.specs.Prelude.{Option, Some}
use Rattle.std.specs.List.{filter}
use Rattle.std.specs.Arc.{arc_value}
use Rattle.buck_apt_instruction.specs.Instruction.{InstructionParts}
use Rattle.buck_stem_shape.specs.Stem.{StemParts}
use Rattle.buck_book_postings.specs.declared.posting.Posting.{Posting}
use Rattle.buck_book_postings.specs.declared.posting.Posting.TheVariants.{Cut}
use Rattle.buck_book_postings.specs.declared.posting.TheConstants.{MOST_POSTINGS}
use Rattle.buck_book_postings.specs.Book.{BookParts, entry_of}
use Rattle.buck_book_postings.specs.Posting.{harvester_of, number_of}
use Rattle.buck_book_postings.specs.Pricing.{AreSheetsBy, Calls}
use Rattle.buck_book_postings.specs.Counts.{calls_of}
use Rattle.buck_book_postings.specs.History.{HistoryParts}
use Rattle.buck_book_postings.specs.Replies.{replies_from, stem_cut, stems_at, stems_of}
use Rattle.buck_book_cutter.specs.Cut.{OfPrices, HasCut}
use Rattle.buck_fleet_round_robin.specs.Turn.{StemList, ComesBefore, AreInTurn, HasCutInTurn, stems_in_all}

abbrev pub size : StemList → ℕ
size list = length list.items

-- the stems that a harvester cut
abbrev stems_by : ℕ → List Posting → List (Option StemParts)
stems_by harvester ps = map stem_cut (filter (λ x. harvester_of x == harvester) ps)

-- how many stems are left after so many rounds, and a turn of each of the first k harvesters
abbrev pub left_after : ℕ → ℕ → List StemList → ℕ
left_after rounds k lists =
    sum_by (λ list. size list - (rounds + 1)) (take k lists) + sum_by (λ list. size list - rounds) (drop k lists)

-- a posting is of one of the harvesters, in one of the rounds that are done, or by one of the first k in the next
abbrev IsWithin : ℕ → ℕ → List StemList → Posting → Type 0
IsWithin rounds k lists x =
    (0 < harvester_of x) × (harvester_of x ≤ length lists)
    × ((number_of x < rounds + 1) ⊎ ((number_of x ≡ rounds + 1) × (harvester_of x < k + 1)))

-- what was cut in so many rounds, and by the first k harvesters in the next: each cut the first stems of its list, as
-- many as it had turns, or all
pub record HasCutRounds (rounds k : ℕ) (lists : List StemList) (ps : List Posting) : Type 0 where
  pub stems : (j turns : ℕ) → j < length lists → turns ≡ rounds + min 1 (k - j)
      → stems_by (j + 1) ps ≡ map Some (take turns (stems_at lists j))
  pub left : length ps + left_after rounds k lists ≡ stems_in_all lists
  pub within : All (IsWithin rounds k lists) ps
  pub in_turn : AreInTurn ps

-- a book of one thread that was opened by an instruction and a closure: the prices of its sheets are its answers
pub record IsOpened {F : Type 0} (g : Calls F) (f : F) (i : InstructionParts) (b : BookParts F) : Type 0 where
  pub rule : b.rule ≡ f
  pub instruction : b.history.instruction ≡ i
  pub capacity : b.capacity ≡ MOST_POSTINGS
  pub given : AreSheetsBy g b.rule b.history

-- the stems that a harvester cut, as its replies have them
replies : (h p : ℕ) (ps : List Posting)
    → map (λ y. stem_cut y.entry) (replies_from h p ps) ≡ stems_by h ps
replies h p [] = refl
replies h p (x ∷ ps) = elim (cases_Bool (harvester_of x == h)) [
  | inl own ↦ rw own (ap (λ (l : List (Option StemParts)). stem_cut x ∷ l) (replies h (p + 1) ps))
  | inr other ↦ rw other (replies h (p + 1) ps)
]

-- with one posting more, of this harvester, or of another one
stems_more : (h : ℕ) (ps : List Posting) (x : Posting) → harvester_of x ≡ h
    → stems_by h (ps ++ x ∷ []) ≡ stems_by h ps ++ stem_cut x ∷ []
stems_more h ps x own =
    let test : (harvester_of x == h) ≡ true = grind (arith, nat_tests, own) in
    rw (filter-append (λ y. harvester_of y == h) ps (x ∷ []), test) (map-append stem_cut _ _)

stems_same : (h : ℕ) (ps : List Posting) (x : Posting) → harvester_of x ≢ h
    → stems_by h (ps ++ x ∷ []) ≡ stems_by h ps
stems_same h ps x other =
    let test : (harvester_of x == h) ≡ false = grind (arith, nat_tests, other) in
    rw (filter-append (λ y. harvester_of y == h) ps (x ∷ []), test) (ap (map stem_cut) (append-nil _))

in_turn_with : (ps : List Posting) (z : Posting) → AreInTurn ps → All (λ x. ComesBefore x z) ps
    → AreInTurn (ps ++ z ∷ [])
in_turn_with [] z are before = (tt, tt)
in_turn_with (x ∷ ps) z (first, are) before = (
  recursion_from_All (ComesBefore x) (ps ++ z ∷ [])
      (All-push (ComesBefore x) ps z (All-from_recursion (ComesBefore x) ps first) (before 0 x (omega arith))),
  in_turn_with ps z are (All-tail (λ y. ComesBefore y z) x ps before),
)

-- the stems of the list at a place, and how many they are
list_at : (lists : List StemList) (k : ℕ) (list : StemList) → k < length lists → list ≡ get_or lists k list
    → stems_at lists k ≡ stems_of list.items
list_at lists k list lt is =
    get_or-map (λ (v : StemList). stems_of v.items) lists k list [] lt ∙ ap (λ (v : StemList). stems_of v.items) (sym is)

size_at : (lists : List StemList) (k : ℕ) (list : StemList) → k < length lists → list ≡ get_or lists k list
    → length (stems_at lists k) ≡ size list
size_at lists k list lt is = ap length (list_at lists k list lt is) ∙ length-map list.items arc_value

-- how many postings a harvester has that cut these stems
calls_are : (h : ℕ) (ps : List Posting) (stems : List StemParts) → stems_by h ps ≡ map Some stems
    → calls_of h ps ≡ length stems
calls_are h ps stems is =
    let own = filter (λ x. harvester_of x == h) ps in
    sym (length-filter (λ x. harvester_of x == h) ps) ∙ sym (length-map own stem_cut) ∙ ap length is
    ∙ length-map stems Some

-- how many stems are left, one turn on
pub left_with : (rounds k : ℕ) (lists : List StemList) (list : StemList) → k < length lists → list ≡ get_or lists k list
    → left_after rounds (k + 1) lists + (size list - rounds) ≡ left_after rounds k lists + (size list - (rounds + 1))
left_with rounds k lists list lt is =
    let done = sum_by_more (λ l. size l - (rounds + 1)) lists k list lt in
    let rest = sum_by-drop_more (λ l. size l - rounds) lists k list lt in
    omega (arith, done, rest, ap size is)

-- before the first round
pub nothing_cut : (lists : List StemList) → HasCutRounds 0 0 lists []
nothing_cut lists = record {
  stems = λ j turns lt is. (let none : turns ≡ 0 = omega (arith, is) in rw none refl);
  left = simp unary_clauses (omega arith);
  within = All-nil _;
  in_turn = tt;
}

-- the harvester at place k cut the next stem of its list
pub taken : {P : OfPrices} {h after : HistoryParts} {stem : StemParts} {e : _} (rounds k : ℕ) (lists : List StemList)
    (list : StemList) (a : _)
    → HasCut P (k + 1) stem h after e → stem ≡ arc_value a
    → k < length lists → list ≡ get_or lists k list → rounds < size list → a ≡ get_or list.items rounds a
    → HasCutRounds rounds k lists h.postings → HasCutRounds rounds (k + 1) lists after.postings
taken {h = h} {stem = stem} rounds k lists list a cut stem_is lt is long there so_far =
    let ps = h.postings in
    let new : Posting = Cut (entry_of h (k + 1) cut.plan) in
    let s = stems_at lists k in
    let longer : rounds < length s = omega (arith, long, size_at lists k list lt is) in
    let next : cut.plan.stem ≡ get_or s rounds stem = cut.same_stem ∙ stem_is ∙ ap (λ b. arc_value b) there
    ∙ sym (get_or-map arc_value list.items rounds a stem long)
    ∙ ap (λ (l : List StemParts). get_or l rounds stem) (sym (list_at lists k list lt is)) in
    let mine = so_far.stems k rounds lt (omega arith) in
    let number : calls_of (k + 1) ps ≡ rounds =
    omega (arith, calls_are (k + 1) ps (take rounds s) mine, length-take rounds s, longer) in
    let now : stems_by (k + 1) (ps ++ new ∷ []) ≡ map Some (take (rounds + 1) s) = cc (
      stems_more (k + 1) ps new refl,
      mine,
      next,
      map-append Some (take rounds s) (get_or s rounds stem ∷ []),
      take_more s rounds stem longer,
    ) in
    rw (cut.added.after_is, cut.entry_is) (record {
      stems = λ j turns low turns_are. elim (cases_eq j k) [
        | inl here ↦
            let all : turns ≡ rounds + 1 = omega (arith, turns_are, here) in
            rw (here, all) now
        | inr other ↦
            stems_same (j + 1) ps new (λ e. other (omega (arith, e)))
            ∙ so_far.stems j turns low (omega (arith, turns_are, other))
      ];
      left = omega (arith, length_push ps new, so_far.left, left_with rounds k lists list lt is, long);
      within = All-push (IsWithin rounds (k + 1) lists) ps new (λ i d low. grind (arith, so_far.within i d low))
          (omega arith, omega (arith, lt), inr (omega (arith, number), omega arith));
      in_turn = in_turn_with ps new so_far.in_turn (rw number (λ i d low. (so_far.within i d low).2));
    })

-- the harvester at place k has no stem left
pub passed : (rounds k : ℕ) (lists : List StemList) (ps : List Posting) (list : StemList)
    → k < length lists → list ≡ get_or lists k list → size list ≤ rounds → HasCutRounds rounds k lists ps
    → HasCutRounds rounds (k + 1) lists ps
passed rounds k lists ps list lt is short so_far =
    let low : length (stems_at lists k) ≤ rounds = omega (arith, short, size_at lists k list lt is) in
    record {
      stems = λ j turns lt_j turns_are. elim (cases_eq j k) [
        | inl here ↦ rw here (so_far.stems k rounds lt (omega arith) ∙ ap (map Some)
            (take_all rounds (stems_at lists k) low
            ∙ sym (take_all turns (stems_at lists k) (omega (arith, turns_are, low)))))
        | inr other ↦ so_far.stems j turns lt_j (omega (arith, turns_are, other))
      ];
      left = omega (arith, so_far.left, short, left_with rounds k lists list lt is);
      within = λ i d low. grind (arith, so_far.within i d low);
      in_turn = so_far.in_turn;
    }

-- all had their turn
pub round_done : (rounds k : ℕ) (lists : List StemList) (ps : List Posting) → length lists ≤ k
    → HasCutRounds rounds k lists ps → HasCutRounds (rounds + 1) 0 lists ps
round_done rounds k lists ps all done =
    let left = rw (take_all k lists all, drop_all k lists all) at done.left in
    record {
      stems = λ j turns lt turns_are. done.stems j turns lt (omega (arith, turns_are, lt, all));
      left = omega (arith, left);
      within = λ i d low. grind (arith, done.within i d low);
      in_turn = done.in_turn;
    }

-- no list is longer
pub all_cut : (rounds : ℕ) (lists : List StemList) (h : HistoryParts) → All (λ list. size list ≤ rounds) lists
    → HasCutRounds rounds 0 lists h.postings → HasCutInTurn lists h
all_cut rounds lists h long done =
    let short = All-map (λ (l : List StemParts). length l ≤ rounds) (λ (v : StemList). stems_of v.items) lists
    (λ k d lt. omega (arith, long k d lt, length-map (get_or lists k d).items arc_value)) in
    record {
      stems = λ k lt. replies (k + 1) 0 h.postings ∙ done.stems k rounds lt (omega arith)
          ∙ ap (map Some) (take_all rounds (stems_at lists k)
          (short k [] (omega (arith, lt, length-map lists (λ (v : StemList). stems_of v.items)))));
      nobody_else = λ i d lt. ((done.within i d lt).0, (done.within i d lt).1);
      in_turn = done.in_turn;
    }

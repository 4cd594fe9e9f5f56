-- What stems are worth, with one more.
use Rattle.std.proofs.Common.{◌≡◌, ◌≢◌, ℕ, ◌+◌, ◌*◌, ◌≤◌, ◌==◌, ◌^◌, List, [], ◌∷◌, ◌++◌, length, take, get_or, refl, sym, ap, subst, ◌∙◌, inl, inr, arith, zero, suc, ◌<◌, append_assoc, length-append, length-take-le}
use Rattle.std.specs.Prelude.{Option, Some, None, Result, Ok, Err, OnOk, sum_by}
use Rattle.std.specs.Ordering.{nat_cmp}
use Rattle.std.specs.BTreeMap.{get}
use Rattle.std.proofs.lemmas.Bool.{cases_Bool}
use Rattle.std.proofs.lemmas.Bool.Decides.{eqb_tells}
use Rattle.std.proofs.lemmas.List.{take_more}
use Rattle.std.proofs.lemmas.List.Elements.{All-nil, All-push}
use Rattle.std.proofs.lemmas.List.Sums.{sum_by-cons, sum_by_push, sum_by-le}
use Rattle.buck_apt_instruction.specs.Instruction.{InstructionParts}
use Rattle.buck_book_postings.specs.declared.posting.Posting.{Posting}
use Rattle.buck_book_postings.specs.declared.posting.Posting.TheVariants.{Cut, Demand}
use Rattle.buck_book_postings.specs.declared.posting.TheConstants.{MOST_POSTINGS}
use Rattle.buck_book_postings.specs.Entry.{EntryParts, DemandParts}
use Rattle.buck_book_postings.specs.Posting.{harvester_of}
use Rattle.buck_book_journal.specs.Journal.{JournalParts}
use Rattle.buck_page_figures.specs.Figures.{IsUnsteered, cuts_in, worth_in}
use Rattle.buck_page_figures.specs.Owns.{own_of}
use Rattle.buck_page_figures.specs.Grades.{IsWorthOf}
use Rattle.buck_page_figures.specs.inner.Grades.{ArePassed, HasRoom, IsWithStem, worth_so_far}
use Rattle.buck_page_figures.specs.Journals.{postings_of}
use Rattle.buck_page_figures.specs.declared.free.Free.{Free}
use Rattle.buck_page_figures.specs.declared.free.GradeFree.{GradeFree}
use Rattle.buck_page_figures.proofs.SumLemmas.{unsteered_more}
use Rattle.buck_page_figures.proofs.TallyLemmas.{own_more, own_same}
use Rattle.buck_page_figures.proofs.JournalLemmas.{postings-cons}

-- three facts of what succeeds
pub all_ok : {T E : Type 0} (A B C : Type 0) (r : Result T E) → OnOk r A → OnOk r B → OnOk r C → OnOk r (A × B × C)
all_ok A B C (Ok x) a b c = (a, b, c)
all_ok A B C (Err e) a b c = tt

-- if nothing was cut, nothing is worth anything
no_worth : (us : List Posting) → sum_by cuts_in us ≡ 0 → sum_by worth_in us ≡ 0
no_worth [] none = refl
no_worth (Cut e ∷ us) none = absurd (omega (arith, none, sum_by-cons cuts_in (Cut e) us))
no_worth (Demand d ∷ us) none =
    let rest : sum_by cuts_in us ≡ 0 = omega (arith, none, sum_by-cons cuts_in (Demand d) us) in
    omega (arith, no_worth us rest, sum_by-cons worth_in (Demand d) us)

-- a harvester's stems are worth no more than all
own_low : (h : ℕ) (us : List Posting) → sum_by worth_in (own_of h us) ≤ sum_by worth_in us
own_low h [] = omega arith
own_low h (u ∷ us) = elim (cases_Bool (harvester_of u == h)) [
  | inl hit ↦ rw hit (omega (arith, own_low h us, sum_by-cons worth_in u us, sum_by-cons worth_in u (own_of h us)))
  | inr miss ↦ rw miss (omega (arith, own_low h us, sum_by-cons worth_in u us))
]

worth_is : (h : ℕ) (best : List Posting) (o : Option Free) → IsWorthOf h best o → worth_so_far o ≡ sum_by worth_in (own_of h best)
worth_is h best None none = sym (no_worth (own_of h best) none)
worth_is h best (Some own) is = is.1

-- few stems leave room for one more
pub room_for : (i : InstructionParts) (ps : List Posting) (g : GradeFree) (worth : ℕ) → ArePassed i ps g
    → length ps + 1 ≤ MOST_POSTINGS → worth ≤ 2 ^ 64
    → (g.total.worth + worth ≤ MOST_POSTINGS * 2 ^ 64)
    × ((h : ℕ) → worth_so_far (get nat_cmp g.harvesters h) + worth ≤ MOST_POSTINGS * 2 ^ 64)
room_for i ps g worth passed few low =
    let w = passed.worths in
    let all = sum_by-le worth_in (2 ^ 64) w.best passed.low in
    let number = w.are_best.same_number in (
      omega (arith, w.total, all, number, few, low),
      λ h. omega (
        arith,
        worth_is h w.best (get nat_cmp g.harvesters h) (w.harvesters h),
        own_low h w.best,
        all,
        number,
        few,
        low,
      ),
    )

-- a harvester with a stem more, or without
worth_more : (h : ℕ) (best : List Posting) (u : EntryParts) (worth : ℕ) (before after : Option Free) → h ≡ u.harvester
    → worth ≡ u.worth
    → IsWorthOf h best before → IsWithStem before worth after
    → IsWorthOf h (best ++ Cut u ∷ []) after
worth_more h best u worth before None is same was one = absurd one
worth_more h best u worth before (Some own) is same was one = rw (own_more h best (Cut u) is) (
  omega (arith, sum_by_push cuts_in (own_of h best) (Cut u)),
  omega (arith, sum_by_push worth_in (own_of h best) (Cut u), worth_is h best before was, one, same),
)

worth_same : (h : ℕ) (best : List Posting) (u : Posting) (o : Option Free) → h ≢ harvester_of u → IsWorthOf h best o
    → IsWorthOf h (best ++ u ∷ []) o
worth_same h best u None other was = rw (own_same h best u other) was
worth_same h best u (Some own) other was = rw (own_same h best u other) was

worth_with_demand : (h : ℕ) (best : List Posting) (d : DemandParts) (o : Option Free) → h ≡ d.harvester → IsWorthOf h best o
    → IsWorthOf h (best ++ Demand d ∷ []) o
worth_with_demand h best d None is was =
    rw (own_more h best (Demand d) is) (omega (arith, was, sum_by_push cuts_in (own_of h best) (Demand d)))
worth_with_demand h best d (Some own) is was = rw (own_more h best (Demand d) is) (
  omega (arith, was.0, sum_by_push cuts_in (own_of h best) (Demand d)),
  omega (arith, was.1, sum_by_push worth_in (own_of h best) (Demand d)),
)

-- with a cut more
pub passed_cut : (i : InstructionParts) (ps : List Posting) (e u : EntryParts) (worth : ℕ) (before after : GradeFree)
    → IsUnsteered i (Cut e) (Cut u) → worth ≡ u.worth → worth ≤ 2 ^ 64
    → ArePassed i ps before
    → after.total.worth ≡ before.total.worth + worth
    → IsWithStem (get nat_cmp before.harvesters e.harvester) worth (get nat_cmp after.harvesters e.harvester)
    → ((h : ℕ) → h ≢ e.harvester → get nat_cmp after.harvesters h ≡ get nat_cmp before.harvesters h)
    → ArePassed i (ps ++ Cut e ∷ []) after
passed_cut i ps e u worth before after is same low passed total own others =
    let w = passed.worths in
    record {
      worths = record {
        best = w.best ++ Cut u ∷ [];
        are_best = unsteered_more i ps w.best (Cut e) (Cut u) w.are_best is;
        total = omega (arith, total, w.total, same, sum_by_push worth_in w.best (Cut u));
        harvesters = λ h. elim (eqb_tells h e.harvester) [
          | inl hit ↦
              worth_more h w.best u worth (get nat_cmp before.harvesters h) (get nat_cmp after.harvesters h)
              (hit.1 ∙ sym is.0) same (w.harvesters h)
              (subst (λ k. IsWithStem (get nat_cmp before.harvesters k) worth (get nat_cmp after.harvesters k)) (sym hit.1) own)
          | inr miss ↦
              subst (IsWorthOf h (w.best ++ Cut u ∷ [])) (sym (others h miss.1))
              (worth_same h w.best (Cut u) (get nat_cmp before.harvesters h) (λ e'. miss.1 (e' ∙ is.0)) (w.harvesters h))
        ];
      };
      low = All-push (λ (x : Posting). worth_in x ≤ 2 ^ 64) w.best (Cut u) passed.low (omega (arith, same, low));
    }

-- with a demand more
pub passed_demand : (i : InstructionParts) (ps : List Posting) (d : DemandParts) (g : GradeFree) → ArePassed i ps g
    → ArePassed i (ps ++ Demand d ∷ []) g
passed_demand i ps d g passed =
    let w = passed.worths in
    record {
      worths = record {
        best = w.best ++ Demand d ∷ [];
        are_best = unsteered_more i ps w.best (Demand d) (Demand d) w.are_best refl;
        total = omega (arith, w.total, sum_by_push worth_in w.best (Demand d));
        harvesters = λ h. elim (eqb_tells h d.harvester) [
          | inl hit ↦ worth_with_demand h w.best d (get nat_cmp g.harvesters h) hit.1 (w.harvesters h)
          | inr miss ↦ worth_same h w.best (Demand d) (get nat_cmp g.harvesters h) miss.1 (w.harvesters h)
        ];
      };
      low = All-push (λ (x : Posting). worth_in x ≤ 2 ^ 64) w.best (Demand d) passed.low (omega arith);
    }

-- nothing was passed
pub passed_none : (i : InstructionParts) (g : GradeFree) → g.total.worth ≡ 0
    → ((h : ℕ) → get nat_cmp g.harvesters h ≡ None)
    → ArePassed i [] g
passed_none i g total none = record {
  worths = record {
    best = [];
    are_best = record { same_number = refl; each = λ k x u at at'. absurd (cc at) };
    total = total;
    harvesters = λ h. subst (IsWorthOf h []) (sym (none h)) refl;
  };
  low = All-nil (λ (x : Posting). worth_in x ≤ 2 ^ 64);
}

-- with a journal more
pub postings_next : (js : List JournalParts) (k : ℕ) (j : JournalParts) → k < length js → j ≡ get_or js k j
    → postings_of (take (k + 1) js) ≡ postings_of (take k js) ++ j.entries
postings_next [] k j lt is = absurd (omega (arith, lt))
postings_next (i ∷ js) zero j lt is = ap (λ (x : JournalParts). x.entries) (sym is)
postings_next (i ∷ js) (suc k) j lt is =
    let one : suc k + 1 ≡ suc (k + 1) = omega arith in
    ap (λ n. postings_of (take n (i ∷ js))) one ∙ postings-cons i (take (k + 1) js)
    ∙ ap (λ ps. i.entries ++ ps) (postings_next js k j (omega (arith, lt)) is)
    ∙ sym (append_assoc i.entries (postings_of (take k js)) j.entries)
    ∙ ap (λ ps. ps ++ j.entries) (sym (postings-cons i (take k js)))

-- there is room for the next posting, and for the next journal
pub room_next : (i : InstructionParts) (more : List Posting) (k : ℕ) (x : Posting) (before after : GradeFree) → k < length more
    → HasRoom i more before
    → ((ps : List Posting) → ArePassed i ps before → ArePassed i (ps ++ take k more) after)
    → HasRoom i (x ∷ []) after
room_next i more k x before after lt room passed = record {
  before = room.before ++ take k more;
  passed = passed room.before room.passed;
  few = omega (
    arith,
    room.few,
    lt,
    length-append room.before (take k more),
    length-take-le k more (omega (arith, lt)),
  );
}

pub posting_next : (ps more : List Posting) (k : ℕ) (x : Posting) → k < length more → x ≡ get_or more k x
    → (ps ++ take k more) ++ x ∷ [] ≡ ps ++ take (k + 1) more
posting_next ps more k x lt is =
    append_assoc ps (take k more) (x ∷ [])
    ∙ ap (λ l. ps ++ l) (ap (λ y. take k more ++ y ∷ []) is ∙ sym (take_more more k x lt))

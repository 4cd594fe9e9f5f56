-- A way through the postings of some journals, and the points on it.
use Rattle.std.proofs.Common.{◌≡◌, ℕ, ◌+◌, ◌*◌, ◌/◌, ◌<◌, ◌≤◌, ◌↔◌, ◌⊎◌, cond, List, [], ◌∷◌, ◌++◌, length, take, sym, subst, ap, ◌∙◌, inl, inr, arith, length-take-le, length-append, mul-le-mul_right}
use Rattle.std.specs.Prelude.{slice_get, Some, None, sum_by, min, IsTrue}
use Rattle.std.proofs.lemmas.Bool.{cases_lt, le-leb, lt-leb}
use Rattle.std.proofs.lemmas.Nat.{le-div}
use Rattle.std.proofs.lemmas.Option.{slice_get_cases, slice_get_within}
use Rattle.std.proofs.lemmas.List.{take-append-le}
use Rattle.std.proofs.Math.Nat.{div-mul-le_self, mul-div_cancel_left}
use Rattle.std.proofs.Math.Seq.{take-length}
use mathlib.Core.List.{append_assoc}
use Rattle.buck_apt_instruction.specs.Instruction.{InstructionParts, classes}
use Rattle.buck_book_postings.specs.declared.posting.Posting.{Posting}
use Rattle.buck_book_postings.specs.declared.posting.Posting.TheVariants.{Cut, Demand}
use Rattle.buck_book_postings.specs.Posting.{ends_of, opening_targets, targets_after, targets_of}
use Rattle.buck_book_postings.specs.Counts.{AreClassCounts}
use Rattle.buck_book_postings.specs.Walk.{WalkParts, walk_of, passed, IsCountable}
use Rattle.buck_book_postings.proofs.Ends.{take_one_more, targets-append}
use Rattle.buck_book_postings.proofs.Extend.{slice_get-push}
use Rattle.buck_book_journal.specs.Journal.{JournalParts}
use Rattle.buck_page_figures.specs.Degrees.{AreDegreesBy}
use Rattle.buck_page_figures.specs.Figures.{demands_in}
use Rattle.buck_page_figures.specs.Journals.{StandsAt, entries_in, postings_of}
use Rattle.buck_page_figures.specs.Points.{point_after, IsPoint, AreDegrees}
use Rattle.buck_page_figures.specs.inner.Account.{IsAccount, IsAccountWith}
use Rattle.buck_page_figures.specs.inner.Course.{IsCourse, IsFurther, IsOver, HasCourse}
use Rattle.buck_page_figures.specs.inner.Making.{AreAllDegrees, IsPointOf, AreCurves}
use Rattle.buck_page_figures.specs.declared.course.Course.{Course}
use Rattle.buck_page_figures.specs.declared.degrees.Degrees.{Degrees}
use Rattle.buck_page_figures.specs.declared.figures.Point.{Point}
use Rattle.buck_page_figures.proofs.JournalLemmas.{before_next, posting_there, whole_all, within_all}

-- where a way stands
pub place_is : (i : InstructionParts) (js : List JournalParts) (at : ℕ) (us : List Posting) (c : Course)
    → IsCourse i js at us c → c.before + c.walk.at ≡ at
place_is i js at us c course = omega (arith, course.before, course.stands.2)

pub place_within : (i : InstructionParts) (js : List JournalParts) (at : ℕ) (us : List Posting) (c : Course)
    → IsCourse i js at us c → at ≤ length (postings_of js)
place_within i js at us c course = omega (arith, course.stands, within_all js c.journal course.stands.0)

pub has_course : (i : InstructionParts) (js : List JournalParts) (at : ℕ) (us : List Posting) (c : Course)
    → IsCourse i js at us c → HasCourse i js c
has_course i js at us c course = record {
  unsteered = us;
  course = subst (λ n. IsCourse i js n us c) (sym (place_is i js at us c course)) course;
}

-- the postings of the journal in which a way stands
pub postings_there : (i : InstructionParts) (js : List JournalParts) (c : Course) → HasCourse i js c
    → c.walk.postings ≡ entries_in (slice_get js c.journal)
postings_there i js c has = ap (λ (w : WalkParts). w.postings) has.course.walk

walk_there : (i : InstructionParts) (js : List JournalParts) (c : Course) (k n : ℕ) → c.journal ≡ k
    → c.walk ≡ walk_of i (entries_in (slice_get js k)) n
    → c.walk ≡ walk_of i (entries_in (slice_get js c.journal)) c.walk.at
walk_there i js c k n is walk =
    walk ∙ ap (λ m. walk_of i (entries_in (slice_get js m)) n) (sym is)
    ∙ ap (λ m. walk_of i (entries_in (slice_get js c.journal)) m) (sym (ap (λ (w : WalkParts). w.at) walk))

-- a way at the opening of the first journal
pub at_opening : (i : InstructionParts) (js : List JournalParts) (c : Course) → 0 < length js
    → c.journal ≡ 0 → c.before ≡ 0 → c.walk ≡ walk_of i (entries_in (slice_get js 0)) 0
    → IsAccount i [] [] c.account
    → c.targets.value.items ≡ opening_targets i → length (opening_targets i) ≡ classes i
    → IsCourse i js 0 [] c
at_opening i js c some first none walk account targets number =
    let at : c.walk.at ≡ 0 = ap (λ (w : WalkParts). w.at) walk in
    let before : length (postings_of (take c.journal js)) ≡ 0 = ap (λ n. length (postings_of (take n js))) first in
    record {
      walk = walk_there i js c 0 0 first walk;
      stands = (omega arith, omega arith, omega arith);
      before = omega arith;
      account = account;
      targets = targets ∙ ap (λ n. targets_of i (take n (entries_in (slice_get js c.journal)))) (sym at);
      wanted = ap length targets ∙ number;
    }

-- a way over the end of a journal
pub over_end : (i : InstructionParts) (js : List JournalParts) (c d : Course) → c.journal + 1 < length js
    → c.walk.at ≡ length (entries_in (slice_get js c.journal))
    → d.journal ≡ c.journal + 1 → d.before ≡ c.before + c.walk.at
    → d.walk ≡ walk_of i (entries_in (slice_get js (c.journal + 1))) 0 → d.account ≡ c.account
    → d.targets.value.items ≡ opening_targets i → length (opening_targets i) ≡ classes i
    → IsOver i js c d
over_end i js c d lt end next before walk account targets number = λ at us course.
    let start : d.walk.at ≡ 0 = ap (λ (w : WalkParts). w.at) walk in
    let far : length (postings_of (take d.journal js))
    ≡ length (postings_of (take c.journal js)) + length (entries_in (slice_get js c.journal)) =
    ap (λ n. length (postings_of (take n js))) next ∙ before_next js c.journal (omega arith) in
    record {
      walk = walk_there i js d (c.journal + 1) 0 next walk;
      stands = (omega arith, omega arith, omega (arith, course.stands));
      before = omega (arith, course.before);
      account = subst (λ a. IsAccount i (take at (postings_of js)) us a) (sym account) course.account;
      targets = targets ∙ ap (λ n. targets_of i (take n (entries_in (slice_get js d.journal)))) (sym start);
      wanted = ap length targets ∙ number;
    }

-- the posting that comes next
pub next_there : (i : InstructionParts) (js : List JournalParts) (at : ℕ) (us : List Posting) (x : Posting) (c : Course)
    → IsCourse i js at us c → slice_get c.walk.postings c.walk.at ≡ Some x
    → slice_get (entries_in (slice_get js c.journal)) c.walk.at ≡ Some x
next_there i js at us x c course there =
    ap (λ ps. slice_get ps c.walk.at) (sym (ap (λ (w : WalkParts). w.postings) course.walk)) ∙ there

pub next_among : (i : InstructionParts) (js : List JournalParts) (at : ℕ) (us : List Posting) (x : Posting) (c : Course)
    → IsCourse i js at us c → slice_get (entries_in (slice_get js c.journal)) c.walk.at ≡ Some x
    → slice_get (postings_of js) at ≡ Some x
next_among i js at us x c course there =
    let lt : c.walk.at < length (entries_in (slice_get js c.journal)) = slice_get_within _ c.walk.at x there in
    ap (λ n. slice_get (postings_of js) n) (sym course.stands.2)
    ∙ posting_there js c.journal c.walk.at course.stands.0 lt ∙ there

pub not_none : (ps : List Posting) (k : ℕ) → k < length ps → slice_get ps k ≡ None → ⊥
not_none ps k lt none = elim (slice_get_cases ps k).1 [
  | inl x ↦ absurd (let is = x.2 in cc)
  | inr past ↦ absurd (omega (arith, past.0))
]

-- a way past one posting more
still_wanted : (i : InstructionParts) (x : Posting) (targets : List ℕ) → IsCountable i x
    → length targets ≡ classes i
    → length (targets_after targets (x ∷ [])) ≡ classes i
still_wanted i (Cut e) targets countable before = before
still_wanted i (Demand d) targets countable before = countable.one_each

pub one_further : (i : InstructionParts) (js : List JournalParts) (at : ℕ) (x : Posting) (c d : Course)
    → slice_get (entries_in (slice_get js c.journal)) c.walk.at ≡ Some x
    → d.journal ≡ c.journal → d.before ≡ c.before
    → d.walk ≡ walk_of i (entries_in (slice_get js c.journal)) (c.walk.at + 1)
    → ((qs us : List Posting) → length qs ≡ at → IsAccount i qs us c.account → IsAccountWith i qs us x d.account)
    → d.targets.value.items ≡ targets_after c.targets.value.items (x ∷ []) → IsCountable i x
    → IsFurther i js at c (at + 1) d
one_further i js at x c d there same before walk account targets countable = λ us course.
    let here = entries_in (slice_get js c.journal) in
    let lt : c.walk.at < length (entries_in (slice_get js c.journal)) = slice_get_within _ c.walk.at x there in
    let among : slice_get (postings_of js) at ≡ Some x = next_among i js at us x c course there in
    let longer : take (at + 1) (postings_of js) ≡ take at (postings_of js) ++ x ∷ [] =
    take_one_more (postings_of js) at x among in
    let number : length (take at (postings_of js)) ≡ at =
    length-take-le at (postings_of js) (place_within i js at us c course) in
    let w = account (take at (postings_of js)) us number course.account in
    let on : d.walk.at ≡ c.walk.at + 1 = ap (λ (v : WalkParts). v.at) walk in
    let far : length (postings_of (take d.journal js)) ≡ length (postings_of (take c.journal js)) =
    ap (λ n. length (postings_of (take n js))) same in
    let size : length (entries_in (slice_get js d.journal)) ≡ length (entries_in (slice_get js c.journal)) =
    ap (λ n. length (entries_in (slice_get js n))) same in
    record {
      more = w.unsteered ∷ [];
      course = record {
        walk = walk_there i js d c.journal (c.walk.at + 1) same walk;
        stands = (omega (arith, course.stands), omega arith, omega (arith, course.stands));
        before = omega (arith, course.before);
        account = subst (λ qs. IsAccount i qs (us ++ w.unsteered ∷ []) d.account) (sym longer) w.account;
        targets = targets
            ∙ ap (λ ts. targets_after ts (x ∷ [])) course.targets
            ∙ sym (targets-append (opening_targets i) (take c.walk.at here) (x ∷ []))
            ∙ ap (λ qs. targets_of i qs) (sym (take_one_more here c.walk.at x there))
            ∙ ap (λ n. targets_of i (take n here)) (sym on)
            ∙ ap (λ n. targets_of i (take d.walk.at (entries_in (slice_get js n)))) (sym same);
        wanted = ap length targets ∙ still_wanted i x c.targets.value.items countable course.wanted;
      };
    }

-- a way on from a way
pub further_on : (i : InstructionParts) (js : List JournalParts) (from at to : ℕ) (c d e : Course)
    → IsFurther i js from c at d → IsFurther i js at d to e → IsFurther i js from c to e
further_on i js from at to c d e first second = λ us course.
    let m = first us course in
    let n = second (us ++ m.more) m.course in
    record {
      more = m.more ++ n.more;
      course =
          subst (λ vs. IsCourse i js to vs e) (append_assoc us m.more n.more) n.course;
    }

pub further_over : (i : InstructionParts) (js : List JournalParts) (at to : ℕ) (c d e : Course)
    → IsOver i js c d → IsFurther i js at d to e → IsFurther i js at c to e
further_over i js at to c d e over further = λ us course. further us (over at us course)

-- a way that doesn't go on has come to the end of the last journal
pub at_last : (i : InstructionParts) (js : List JournalParts) (us : List Posting) (c : Course)
    → IsCourse i js (length (postings_of js)) us c
    → c.walk.at < length c.walk.postings ⊎ (c.journal + 1 ≡ length js)
    → c.journal + 1 ≡ length js
at_last i js us c course (inr last) = last
at_last i js us c course (inl more) =
    let here : length c.walk.postings ≡ length (entries_in (slice_get js c.journal)) =
    ap (λ (w : WalkParts). length w.postings) course.walk in
    absurd (omega (arith, course.stands, within_all js c.journal course.stands.0))

-- a way that has not come to the end of all stands before a posting, once it has gone on
pub before_one : (i : InstructionParts) (js : List JournalParts) (at : ℕ) (us : List Posting) (c : Course)
    → IsCourse i js at us c → at < length (postings_of js)
    → c.walk.at < length c.walk.postings ⊎ (c.journal + 1 ≡ length js)
    → c.walk.at < length c.walk.postings
before_one i js at us c course lt (inl more) = more
before_one i js at us c course lt (inr last) =
    let here : length c.walk.postings ≡ length (entries_in (slice_get js c.journal)) =
    ap (λ (w : WalkParts). length w.postings) course.walk in
    omega (arith, course.stands, whole_all js c.journal last)

-- the points come one after the other, and the last stands at the end
point_few : (n k : ℕ) → n ≤ 200 → point_after n k ≡ k
point_few n k le = ap (λ b. cond b k (k * n / 200)) (le-leb n 200 le)

point_many : (n k : ℕ) → 200 < n → point_after n k ≡ k * n / 200
point_many n k lt = ap (λ b. cond b k (k * n / 200)) (lt-leb n 200 lt)

div_rise : (a b d : ℕ) → 0 < d → a ≤ b → a / d ≤ b / d
div_rise a b d pos le = le-div (a / d) b d pos (omega (arith, div-mul-le_self a d))

pub points_rise : (n j k : ℕ) → j ≤ k → point_after n j ≤ point_after n k
points_rise n j k le = elim (cases_lt 200 n) [
  | inl many ↦
      let less : j * n ≤ k * n = mul-le-mul_right n le in
      omega (arith, point_many n j many, point_many n k many, div_rise (j * n) (k * n) 200 (omega arith) less)
  | inr few ↦ omega (arith, point_few n j few, point_few n k few)
]

pub point_within : (n k : ℕ) → k ≤ min n 200 → point_after n k ≤ n
point_within n k le = elim (cases_lt 200 n) [
  | inl many ↦
      let less : k * n ≤ 200 * n = mul-le-mul_right n (omega (arith, le)) in
      let whole : 200 * n / 200 ≡ n = mul-div_cancel_left n (omega arith) in
      omega (arith, point_many n k many, whole, div_rise (k * n) (200 * n) 200 (omega arith) less)
  | inr few ↦ omega (arith, point_few n k few, le)
]

pub last_point : (n : ℕ) → point_after n (min n 200) ≡ n
last_point n = elim (cases_lt 200 n) [
  | inl many ↦
      let whole : 200 * n / 200 ≡ n = mul-div_cancel_left n (omega arith) in
      let is : min n 200 ≡ 200 = omega (arith, many) in
      point_many n (min n 200) many ∙ ap (λ m. m * n / 200) is ∙ whole
  | inr few ↦ point_few n (min n 200) few ∙ omega (arith, few)
]

-- and no two at one place
pub points_apart : (n k : ℕ) → k + 1 ≤ min n 200 → point_after n k < point_after n (k + 1)
points_apart n k le = elim (cases_lt 200 n) [
  | inl many ↦
      let step : (k + 1) * n ≡ k * n + n = omega arith in
      let pair : (point_after n k + 1) * 200 ≤ (k + 1) * n =
      omega (arith, point_many n k many, div-mul-le_self (k * n) 200, step) in
      omega (arith, point_many n (k + 1) many, le-div (point_after n k + 1) ((k + 1) * n) 200 (omega arith) pair)
  | inr few ↦ omega (arith, point_few n k few, point_few n (k + 1) few)
]

-- the degrees at a point
degrees_at : (i : InstructionParts) (ps cut : List Posting) (targets counts : List ℕ) (degrees : List Degrees)
    → targets ≡ targets_of i ps
    → AreClassCounts i cut counts → AreAllDegrees i targets counts degrees → AreDegrees i ps cut degrees
degrees_at i ps cut targets counts degrees targets_are are by = record {
  counts = counts;
  are_counts = are;
  one_each = by.one_each;
  each = λ a d there. subst (λ ts. AreDegreesBy i ts counts a d) targets_are (by.each a d there);
}

take_whole : (us : List Posting) (n : ℕ) → length us ≡ n → take n us ≡ us
take_whole us n is = ap (λ m. take m us) (sym is) ∙ take-length us

-- the point at which a way stands
point_there : (i : InstructionParts) (js : List JournalParts) (us : List Posting) (before after demands : ℕ) (c : Course)
    (p : Point)
    → IsCourse i js after us c → 0 < c.walk.at → IsPointOf i js c demands p
    → demands ≡ sum_by demands_in (take before (postings_of js))
    → IsPoint i js us before after p
point_there i js us before after demands c p course begun point told =
    let ps = postings_of js in
    let number : length us ≡ after = course.account.are_unsteered.same_number
    ∙ length-take-le after ps (place_within i js after us c course) in
    let total : c.account.tally.total.demands ≡ sum_by demands_in (take after ps) =
    course.account.tally.total.demands in
    let here : take c.walk.at (entries_in (slice_get js c.journal))
    ≡ take c.walk.at (entries_in (slice_get js p.journal)) =
    ap (λ k. take c.walk.at (entries_in (slice_get js k))) (sym point.journal) in
    let targets : c.targets.value.items ≡ targets_of i (take c.walk.at (entries_in (slice_get js p.journal))) =
    course.targets ∙ ap (λ qs. targets_of i qs) here in
    record {
      after = point.after ∙ place_is i js after us c course;
      here = c.walk.at;
      begun = begun;
      stands = subst (λ k. StandsAt js k c.walk.at after) (sym point.journal) course.stands;
      version = point.version ∙ ap (λ (w : WalkParts). ends_of w.instruction (passed w)) course.walk
          ∙ ap (λ qs. ends_of i qs) here;
      prices = point.prices;
      degrees =
          degrees_at i (take c.walk.at (entries_in (slice_get js p.journal))) (take after ps)
          c.targets.value.items c.account.tally.counts.items p.degrees.items targets course.account.tally.counts
          point.degrees;
      unsteered =
          degrees_at i (take c.walk.at (entries_in (slice_get js p.journal))) (take after us)
          c.targets.value.items c.account.tally.unsteered.items p.unsteered.items targets
          (subst (λ vs. AreClassCounts i vs c.account.tally.unsteered.items) (sym (take_whole us after number))
          course.account.tally.unsteered) point.unsteered;
      demand = subst (λ n. IsTrue p.demand ↔ (sum_by demands_in (take before ps) < n)) total
          (subst (λ n. IsTrue p.demand ↔ (n < c.account.tally.total.demands)) told point.demand);
    }

-- a point stays what it is if more postings come after it
point_stays : (i : InstructionParts) (js : List JournalParts) (us vs : List Posting) (before after : ℕ) (p : Point)
    → after ≤ length us → IsPoint i js us before after p → IsPoint i js (us ++ vs) before after p
point_stays i js us vs before after p le point = record {
  after = point.after;
  here = point.here;
  begun = point.begun;
  stands = point.stands;
  version = point.version;
  prices = point.prices;
  degrees = point.degrees;
  unsteered =
      subst (λ cut. AreDegrees i (take point.here (entries_in (slice_get js p.journal))) cut p.unsteered.items)
      (sym (take-append-le after us vs le))
      point.unsteered;
  demand = point.demand;
}

-- the curves with one point more
pub curves_more : (i : InstructionParts) (js : List JournalParts) (k demands : ℕ) (c d : Course) (points : List Point)
    (p : Point)
    → AreCurves i js k c points
    → IsFurther i js (point_after (length (postings_of js)) k) c (point_after (length (postings_of js)) (k + 1)) d
    → 0 < d.walk.at → demands ≡ c.account.tally.total.demands → IsPointOf i js d demands p
    → AreCurves i js (k + 1) d (points ++ p ∷ [])
curves_more i js k demands c d points p curves further begun told point =
    let n = length (postings_of js) in
    let us = curves.unsteered in
    let m = further us curves.course in
    let at : ℕ = point_after n k in
    let reached : length us ≡ at = curves.course.account.are_unsteered.same_number
    ∙ length-take-le at (postings_of js) (place_within i js at us c curves.course) in
    record {
      unsteered = us ++ m.more;
      course = m.course;
      so_many = length-append points (p ∷ []) ∙ omega (arith, curves.so_many);
      points = λ j q there. elim (slice_get-push points p q j there) [
        | inl h ↦
            point_stays i js us m.more (point_after n j) (point_after n (j + 1)) q
            (omega (arith, reached, points_rise n (j + 1) k (omega (arith, h.0, curves.so_many))))
            (curves.points j q h.1)
        | inr h ↦
            let is : j ≡ k = h.0 ∙ curves.so_many in
            subst (λ (x : Point). IsPoint i js (us ++ m.more) (point_after n j) (point_after n (j + 1)) x) (sym h.1)
            (subst (λ g. IsPoint i js (us ++ m.more) (point_after n g) (point_after n (g + 1)) p) (sym is)
            (point_there i js (us ++ m.more) at (point_after n (k + 1)) demands d p m.course begun point
            (told ∙ curves.course.account.tally.total.demands)))
      ];
    }

-- the same curves, over the ends of journals
pub curves_over : (i : InstructionParts) (js : List JournalParts) (k : ℕ) (c d : Course) (points : List Point)
    → AreCurves i js k c points → IsOver i js c d → AreCurves i js k d points
curves_over i js k c d points curves over = record {
  unsteered = curves.unsteered;
  course = over (point_after (length (postings_of js)) k) curves.unsteered curves.course;
  so_many = curves.so_many;
  points = curves.points;
}

-- An appraisal with one posting more.
use Rattle.std.proofs.Common.{◌≡◌, ◌≢◌, ℕ, ◌+◌, ◌*◌, ◌≤◌, ◌==◌, List, [], ◌∷◌, ◌++◌, length, take, get_or, refl, sym, subst, ap, ◌∙◌, inl, inr, arith, length-append, length-take-le}
use Rattle.std.specs.Prelude.{slice_get, Option, Some, None, IfSome}
use Rattle.std.specs.BTreeMap.{get}
use Rattle.std.specs.Ordering.{nat_cmp}
use Rattle.std.proofs.lemmas.Bool.Decides.{eqb_tells}
use Rattle.std.proofs.lemmas.List.Sums.{sum_by-append, sum_by-cons, sum_by_push, count_by-le-length}
use Rattle.std.proofs.lemmas.Option.{slice_get_within, slice_get-get_or}
use Rattle.buck_apt_instruction.specs.Instruction.{InstructionParts}
use Rattle.buck_value.specs.declared.log.Log.{Log}
use Rattle.buck_book_postings.specs.declared.posting.Posting.{Posting}
use Rattle.buck_book_postings.specs.declared.posting.Posting.TheVariants.{Cut, Demand}
use Rattle.buck_book_postings.specs.declared.posting.TheConstants.{MOST_POSTINGS}
use Rattle.buck_book_postings.specs.Counts.{assortment_logs_in}
use Rattle.buck_book_postings.specs.Posting.{harvester_of}
use Rattle.buck_book_postings.proofs.Extend.{slice_get-push}
use Rattle.buck_page_figures.specs.Figures.{IsUnsteered, at_base_in, cuts_in, logs_in, volume_in}
use Rattle.buck_page_figures.specs.Assorted.{part_at_base_in, part_volume_in}
use Rattle.buck_page_figures.specs.Owns.{own_of}
use Rattle.buck_page_figures.proofs.SumLemmas.{unsteered_more}
use Rattle.buck_page_figures.proofs.TallyLemmas.{own_more, own_same}
use Rattle.buckfleet_proceeds.specs.declared.appraisal.Appraisal.{Appraisal}
use Rattle.buckfleet_proceeds.specs.declared.paid.Account.{Account}
use Rattle.buckfleet_proceeds.specs.declared.paid.Paid.{Paid}
use Rattle.buckfleet_proceeds.specs.Paid.{AreAllBought, IsBought, IsPaid, IsPaidFor}
use Rattle.buckfleet_proceeds.specs.Appraisal.{AreEachPaid, IsAccount, IsAccountOf}
use Rattle.buckfleet_proceeds.specs.inner.Logs.{AreFew, AreNone, IsNone}
use Rattle.buckfleet_proceeds.specs.inner.Passed.{AreEachPaidWith, ArePassed, HasRoom, IsAccounted, IsLow}
use Rattle.buckfleet_proceeds.specs.inner.Together.{ArePaidTogether, AreTogether, IsAdded}

-- what postings come to, and then some more
paid_join : (logs volume worth : Posting → ℕ) (ps bs qs cs : List Posting) (p q r : Paid)
    → IsPaid logs volume worth ps bs p → IsPaid logs volume worth qs cs q → ArePaidTogether p q r
    → IsPaid logs volume worth (ps ++ qs) (bs ++ cs) r
paid_join logs volume worth ps bs qs cs p q r one other t = record {
  number = omega (arith, t.logs, one.number, other.number, sum_by-append logs ps qs);
  unbought = omega (
    arith,
    t.unbought,
    one.unbought,
    other.unbought,
    sum_by-append logs ps qs,
    sum_by-append logs bs cs,
  );
  cubic = omega (arith, t.volume, one.cubic, other.cubic, sum_by-append volume ps qs);
  money = omega (arith, t.worth, one.money, other.money, sum_by-append worth bs cs);
}

account_join : (own : InstructionParts) (ps bs us qs cs vs : List Posting) (a b c : Account)
    → IsAccount own ps bs us a → IsAccount own qs cs vs b → AreTogether a b c
    → IsAccount own (ps ++ qs) (bs ++ cs) (us ++ vs) c
account_join own ps bs us qs cs vs a b c one other t = record {
  number = omega (arith, t.stems, one.number, other.number, sum_by-append cuts_in ps qs);
  as_cut = paid_join logs_in volume_in (at_base_in own) ps bs qs cs a.cut b.cut c.cut one.as_cut other.as_cut t.cut;
  at_best = paid_join logs_in volume_in (at_base_in own) us us vs vs a.best b.best c.best one.at_best other.at_best
      t.best;
}

-- one posting more with its bought logs
bought_more : (own : InstructionParts) (ps bs : List Posting) (x b : Posting)
    → AreAllBought own ps bs → IsBought own x b → AreAllBought own (ps ++ x ∷ []) (bs ++ b ∷ [])
bought_more own ps bs x b all one = record {
  same_number = grind (arith, length-append, all.same_number);
  each = λ k y v hy hv.
      elim (slice_get-push ps x y k hy) [
        | inl h ↦ elim (slice_get-push bs b v k hv) [
          | inl w ↦ all.each k y v h.1 w.1
          | inr w ↦ absurd (omega (arith, h.0, w.0, all.same_number))
        ]
        | inr h ↦ elim (slice_get-push bs b v k hv) [
          | inl w ↦ absurd (omega (arith, h.0, w.0, all.same_number))
          | inr w ↦ subst (λ a. IsBought own a v) (sym h.1) (subst (λ c. IsBought own x c) (sym w.1) one)
        ]
      ];
}

-- it is the same harvester's
bought_harvester : (own : InstructionParts) (x b : Posting) → IsBought own x b → harvester_of b ≡ harvester_of x
bought_harvester own (Cut e) (Cut b) is = is.0
bought_harvester own (Demand d) (Demand b) is = ap (λ y. harvester_of (Demand y)) is
bought_harvester own (Cut e) (Demand b) is = absurd is
bought_harvester own (Demand d) (Cut b) is = absurd is

best_harvester : (own : InstructionParts) (x u : Posting) → IsUnsteered own x u → harvester_of u ≡ harvester_of x
best_harvester own (Cut e) (Cut u) is = is.0
best_harvester own (Demand d) (Demand u) is = ap (λ y. harvester_of (Demand y)) is
best_harvester own (Cut e) (Demand u) is = absurd is
best_harvester own (Demand d) (Cut u) is = absurd is

some_pushed : (ps : List Posting) (x : Posting) → ps ++ x ∷ [] ≢ []
some_pushed ps x none = absurd (omega (arith, ap length none, length-append ps (x ∷ [])))

-- what is kept of a harvester with a posting more
own_added : (own : InstructionParts) (h : ℕ) (ps bs us : List Posting) (x b u : Posting) (one : Account)
    (before after : Option Account)
    → h ≡ harvester_of x → h ≡ harvester_of b → h ≡ harvester_of u
    → IsAccount own (x ∷ []) (b ∷ []) (u ∷ []) one
    → IsAccountOf own h ps bs us before → IsAdded before one after
    → IsAccountOf own h (ps ++ x ∷ []) (bs ++ b ∷ []) (us ++ u ∷ []) after
own_added own h ps bs us x b u one before None is is_b is_u alone was added = absurd added
own_added own h ps bs us x b u one None (Some a) is is_b is_u alone was added =
    let p : own_of h (ps ++ x ∷ []) ≡ x ∷ [] = own_more h ps x is ∙ ap (λ l. l ++ x ∷ []) was.0 in
    let q : own_of h (bs ++ b ∷ []) ≡ b ∷ [] = own_more h bs b is_b ∙ ap (λ l. l ++ b ∷ []) was.1 in
    let r : own_of h (us ++ u ∷ []) ≡ u ∷ [] = own_more h us u is_u ∙ ap (λ l. l ++ u ∷ []) was.2 in (
      rw p (some_pushed [] x),
      rw (p, q, r) (subst (λ y. IsAccount own (x ∷ []) (b ∷ []) (u ∷ []) y) (sym added) alone),
    )
own_added own h ps bs us x b u one (Some o) (Some a) is is_b is_u alone was added = (
  rw (own_more h ps x is) (some_pushed (own_of h ps) x),
  rw (own_more h ps x is, own_more h bs b is_b, own_more h us u is_u)
      (account_join own (own_of h ps) (own_of h bs) (own_of h us) (x ∷ []) (b ∷ []) (u ∷ []) o one a was.1 alone added),
)

-- and of the others
own_kept : (own : InstructionParts) (h : ℕ) (ps bs us : List Posting) (x b u : Posting) (o : Option Account)
    → h ≢ harvester_of x → h ≢ harvester_of b → h ≢ harvester_of u → IsAccountOf own h ps bs us o
    → IsAccountOf own h (ps ++ x ∷ []) (bs ++ b ∷ []) (us ++ u ∷ []) o
own_kept own h ps bs us x b u None ne ne_b ne_u was =
    (own_same h ps x ne ∙ was.0, own_same h bs b ne_b ∙ was.1, own_same h us u ne_u ∙ was.2)
own_kept own h ps bs us x b u (Some a) ne ne_b ne_u was =
    rw (own_same h ps x ne, own_same h bs b ne_b, own_same h us u ne_u) was

-- each assortment
found_before : (before after : List Paid) (a : ℕ) (q : Paid) → length after ≡ length before → slice_get after a ≡ Some q
    → slice_get before a ≡ Some (get_or before a q)
found_before before after a q number there =
    slice_get-get_or before a q (omega (arith, slice_get_within after a q there, number))

each_more : (own : InstructionParts) (ps bs : List Posting) (x b : Posting) (before after : List Paid)
    → AreEachPaid own ps bs before → AreEachPaidWith own x b before after
    → AreEachPaid own (ps ++ x ∷ []) (bs ++ b ∷ []) after
each_more own ps bs x b before after were more = record {
  one_each = more.same_number ∙ were.one_each;
  each = λ a q there.
      let was = found_before before after a q more.same_number there in
      let old = were.each a (get_or before a q) was in
      let on = more.each a (get_or before a q) q was there in
      record {
        number = omega (arith, on.number, old.number, sum_by_push (assortment_logs_in a) ps x);
        unbought = omega (
          arith,
          on.unbought,
          old.unbought,
          sum_by_push (assortment_logs_in a) ps x,
          sum_by_push (assortment_logs_in a) bs b,
        );
        cubic = omega (arith, on.cubic, old.cubic, sum_by_push (part_volume_in a) ps x);
        money = omega (arith, on.money, old.money, sum_by_push (part_at_base_in own a) bs b);
      };
}

-- few postings
assortment_logs_few : (a : ℕ) (x : Posting) → assortment_logs_in a x ≤ logs_in x
assortment_logs_few a (Cut e) = count_by-le-length (λ (g : Log). g.assortment == a) e.logs
assortment_logs_few a (Demand d) = omega arith

one_cut : (x : Posting) → cuts_in x ≤ 1
one_cut (Cut e) = omega arith
one_cut (Demand d) = omega arith

pub few_stems : (own : InstructionParts) (x b u : Posting) (a : Account) → IsAccount own (x ∷ []) (b ∷ []) (u ∷ []) a
    → a.stems ≤ 1
few_stems own x b u a is = omega (arith, is.number, sum_by-cons cuts_in x [], one_cut x)

few_more : (own : InstructionParts) (most : ℕ) (x b : Posting) (before after : List Paid)
    → AreEachPaidWith own x b before after
    → logs_in x ≤ 80 → AreFew (80 * most) before → AreFew (80 * (most + 1)) after
few_more own most x b before after more short few = λ a q there.
    let was = found_before before after a q more.same_number there in
    omega (
      arith,
      few a (get_or before a q) was,
      (more.each a (get_or before a q) q was there).number,
      assortment_logs_few a x,
      short,
    )

low_own : (most : ℕ) (one : Account) (before after : Option Account) → one.stems ≤ 1 → IsAdded before one after
    → IfSome before (λ a. a.stems ≤ most) → IfSome after (λ a. a.stems ≤ most + 1)
low_own most one before None few added low = tt
low_own most one None (Some a) few added low = omega (arith, few, ap (λ (y : Account). y.stems) added)
low_own most one (Some o) (Some a) few added low = omega (arith, few, low, added.stems)

low_kept : (most : ℕ) (o : Option Account) → IfSome o (λ a. a.stems ≤ most) → IfSome o (λ a. a.stems ≤ most + 1)
low_kept most None low = tt
low_kept most (Some a) low = omega (arith, low)

-- with a posting more
pub passed_more : (own : InstructionParts) (ps : List Posting) (x : Posting) (h : ℕ) (one : Account)
    (before after : Appraisal)
    → h ≡ harvester_of x
    → IsAccounted own x before.assortments.items after.assortments.items before.best_assortments.items
    after.best_assortments.items one
    → AreTogether before.total one after.total
    → IsAdded (get nat_cmp before.harvesters h) one (get nat_cmp after.harvesters h)
    → ((k : ℕ) → k ≢ h → get nat_cmp after.harvesters k ≡ get nat_cmp before.harvesters k)
    → ArePassed own ps before → ArePassed own (ps ++ x ∷ []) after
passed_more own ps x h one before after is acc total added others passed =
    let w = passed.appraisal in
    let b = acc.bought in
    let u = acc.best_of in
    let few = few_stems own x b u one acc.alone in
    let longer : length (ps ++ x ∷ []) ≡ length ps + 1 = length-append ps (x ∷ []) in
    let same_b = bought_harvester own x b acc.is_bought in
    let same_u = best_harvester own x u acc.is_best in
    record {
      appraisal = record {
        bought = w.bought ++ b ∷ [];
        best = w.best ++ u ∷ [];
        are_bought = bought_more own ps w.bought x b w.are_bought acc.is_bought;
        are_best = unsteered_more own ps w.best x u w.are_best acc.is_best;
        appraised = record {
          whole = account_join own ps w.bought w.best (x ∷ []) (b ∷ []) (u ∷ []) before.total one after.total
              w.appraised.whole acc.alone total;
          owns = λ k. elim (eqb_tells k h) [
            | inl hit ↦
                own_added own k ps w.bought w.best x b u one (get nat_cmp before.harvesters k)
                (get nat_cmp after.harvesters k) (hit.1 ∙ is) (hit.1 ∙ is ∙ sym same_b) (hit.1 ∙ is ∙ sym same_u)
                acc.alone (w.appraised.owns k)
                (subst (λ n. IsAdded (get nat_cmp before.harvesters n) one (get nat_cmp after.harvesters n)) (sym hit.1)
                added)
            | inr miss ↦
                subst (IsAccountOf own k (ps ++ x ∷ []) (w.bought ++ b ∷ []) (w.best ++ u ∷ []))
                (sym (others k miss.1))
                (own_kept own k ps w.bought w.best x b u (get nat_cmp before.harvesters k)
                (λ e. miss.1 (e ∙ sym is)) (λ e. miss.1 (e ∙ same_b ∙ sym is)) (λ e. miss.1 (e ∙ same_u ∙ sym is))
                (w.appraised.owns k))
          ];
          as_cut = each_more own ps w.bought x b before.assortments.items after.assortments.items w.appraised.as_cut
              acc.as_cut;
          at_best = each_more own w.best w.best u u before.best_assortments.items after.best_assortments.items
              w.appraised.at_best acc.at_best;
        };
      };
      low = subst (λ n. IsLow n after) (sym longer) (record {
        whole = omega (arith, total.stems, few, passed.low.whole);
        owns = λ k. elim (eqb_tells k h) [
          | inl hit ↦
              low_own (length ps) one (get nat_cmp before.harvesters k) (get nat_cmp after.harvesters k) few
              (subst (λ n. IsAdded (get nat_cmp before.harvesters n) one (get nat_cmp after.harvesters n)) (sym hit.1)
              added)
              (passed.low.owns k)
          | inr miss ↦
              subst (λ o. IfSome o (λ a. a.stems ≤ length ps + 1)) (sym (others k miss.1))
              (low_kept (length ps) (get nat_cmp before.harvesters k) (passed.low.owns k))
        ];
        as_cut = few_more own (length ps) x b before.assortments.items after.assortments.items acc.as_cut acc.few.0
            passed.low.as_cut;
        at_best = few_more own (length ps) u u before.best_assortments.items after.best_assortments.items acc.at_best
            acc.few.1 passed.low.at_best;
      });
    }

-- there is room
low_room : (most : ℕ) (one : Account) (o : Option Account) → one.stems ≤ 1 → most + 1 ≤ MOST_POSTINGS
    → IfSome o (λ a. a.stems ≤ most) → IfSome o (λ a. a.stems + one.stems ≤ MOST_POSTINGS)
low_room most one None few room low = tt
low_room most one (Some a) few room low = omega (arith, few, room, low)

pub room_own : (own : InstructionParts) (x : Posting) (p : Appraisal) (one : Account) (h : ℕ) → HasRoom own (x ∷ []) p
    → one.stems ≤ 1 → IfSome (get nat_cmp p.harvesters h) (λ a. a.stems + one.stems ≤ MOST_POSTINGS)
room_own own x p one h room few =
    low_room (length room.before) one (get nat_cmp p.harvesters h) few (omega (arith, room.few))
    (room.passed.low.owns h)

pub room_total : (own : InstructionParts) (x : Posting) (p : Appraisal) (one : Account) → HasRoom own (x ∷ []) p
    → one.stems ≤ 1 → p.total.stems + one.stems ≤ MOST_POSTINGS
room_total own x p one room few = omega (arith, room.few, few, room.passed.low.whole)

few_in : (most : ℕ) (parts : List Paid) → most + 1 ≤ MOST_POSTINGS → AreFew (80 * most) parts → AreFew 80000000 parts
few_in most parts room few = λ a p there. omega (arith, room, few a p there)

pub room_parts : (own : InstructionParts) (x : Posting) (p : Appraisal) → HasRoom own (x ∷ []) p
    → ((length p.assortments.items ≡ length own.assortments) × AreFew 80000000 p.assortments.items)
    × ((length p.best_assortments.items ≡ length own.assortments) × AreFew 80000000 p.best_assortments.items)
room_parts own x p room =
    let w = room.passed.appraisal.appraised in (
      (
        w.as_cut.one_each,
        few_in (length room.before) p.assortments.items (omega (arith, room.few)) room.passed.low.as_cut,
      ),
      (
        w.at_best.one_each,
        few_in (length room.before) p.best_assortments.items (omega (arith, room.few)) room.passed.low.at_best,
      ),
    )

-- for the next of some postings
pub room_next : (own : InstructionParts) (more : List Posting) (k : ℕ) (x : Posting) (before after : Appraisal)
    → k + 1 ≤ length more → HasRoom own more before
    → ((ps : List Posting) → ArePassed own ps before → ArePassed own (ps ++ take k more) after)
    → HasRoom own (x ∷ []) after
room_next own more k x before after lt room passed = record {
  before = room.before ++ take k more;
  passed = passed room.before room.passed;
  few = omega (
    arith,
    room.few,
    lt,
    length-append room.before (take k more),
    length-take-le k more (omega (arith, lt)),
  );
}

-- nothing was passed
none_paid : (own : InstructionParts) (p : Paid) → IsNone p → IsPaidFor own [] [] p
none_paid own p none = record {
  number = none.0;
  unbought = omega (arith, none.1);
  cubic = none.2;
  money = none.3;
}

none_each : (own : InstructionParts) (parts : List Paid) → AreNone own parts → AreEachPaid own [] [] parts
none_each own parts none = record {
  one_each = none.one_each;
  each = λ a p there.
      let is = none.each a p there in
      record { number = is.0; unbought = omega (arith, is.1); cubic = is.2; money = is.3 };
}

none_few : (own : InstructionParts) (parts : List Paid) → AreNone own parts → AreFew 0 parts
none_few own parts none = λ a p there. omega (arith, (none.each a p there).0)

pub passed_none : (own : InstructionParts) (p : Appraisal)
    → p.total.stems ≡ 0 → IsNone p.total.cut → IsNone p.total.best
    → ((h : ℕ) → get nat_cmp p.harvesters h ≡ None)
    → AreNone own p.assortments.items → AreNone own p.best_assortments.items
    → ArePassed own [] p
passed_none own p stems no_cut no_best owns cut best = record {
  appraisal = record {
    bought = [];
    best = [];
    are_bought = record { same_number = refl; each = λ k x u at at'. absurd (cc at) };
    are_best = record { same_number = refl; each = λ k x u at at'. absurd (cc at) };
    appraised = record {
      whole = record {
        number = stems;
        as_cut = none_paid own p.total.cut no_cut;
        at_best = none_paid own p.total.best no_best;
      };
      owns = λ h. subst (IsAccountOf own h [] [] []) (sym (owns h)) (refl, refl, refl);
      as_cut = none_each own p.assortments.items cut;
      at_best = none_each own p.best_assortments.items best;
    };
  };
  low = record {
    whole = omega (arith, stems);
    owns = λ h. subst (λ o. IfSome o (λ a. a.stems ≤ 0)) (sym (owns h)) tt;
    as_cut = none_few own p.assortments.items cut;
    at_best = none_few own p.best_assortments.items best;
  };
}

-- no harvester's loss is below 0
pub none_lost : (o : Option Account) → IfSome o (λ a. a.cut.worth ≤ a.best.worth)
none_lost None = tt
none_lost (Some a) = a.no_better_than_best

-- What a posting comes to, and its logs.
use Rattle.std.proofs.Common.{◌≡◌, ℕ, ◌+◌, ◌≤◌, List, [], ◌∷◌, All, length, get_or, refl, sym, subst, ap, ◌∙◌, inl, inr, arith}
use Rattle.std.proofs.lemmas.List.Sums.{sum_by-cons}
use Rattle.std.proofs.lemmas.Option.{same_Some, slice_get-get_or}
use Rattle.buck_apt_instruction.specs.Instruction.{InstructionParts}
use Rattle.buck_stem_shape.specs.Stem.{StemParts}
use Rattle.buck_value.specs.declared.log.Log.{Log}
use Rattle.buck_value.specs.Sheet.{SheetParts}
use Rattle.buck_value.specs.Allowed.{IsAllowed, end_of}
use Rattle.buck_dp.specs.Cutting.{IsCutFrom}
use Rattle.buck_dp.specs.Best.{IsFirstBest, cutting_worth}
use Rattle.buck_book_postings.specs.declared.posting.Posting.{Posting}
use Rattle.buck_book_postings.specs.declared.posting.Posting.TheVariants.{Cut, Demand}
use Rattle.buck_book_postings.specs.Entry.{DemandParts, EntryParts}
use Rattle.buck_book_postings.specs.History.{Holds, IsLawful}
use Rattle.buck_book_journal.specs.Journal.{JournalParts, history_of}
use Rattle.buck_page_figures.specs.Figures.{at_base_in, base_sheet, cuts_in, logs_in, volume_in}
use Rattle.buck_page_figures.specs.Assorted.{part_at_base_in}
use Rattle.buckfleet_terms_files.specs.Own.{HasShapeOf}
use Rattle.buckfleet_proceeds.specs.declared.paid.Account.{Account}
use Rattle.buckfleet_proceeds.specs.declared.paid.Paid.{Paid}
use Rattle.buckfleet_proceeds.specs.Paid.{AreBought, IsPaidFor}
use Rattle.buckfleet_proceeds.specs.inner.Logs.{AreAdded, AreAll, IsNone}
use Rattle.buckfleet_proceeds.proofs.Bought.{none_lost}
use Rattle.buckfleet_proceeds.specs.inner.Passed.{AreEachPaidWith, IsAccounted, IsPassable, IsPaidWith}

-- all logs of a cutting under the owner's instruction are bought
all_bought : (own : InstructionParts) (stem : StemParts) (from : ℕ) (gs bought : List Log)
    → IsCutFrom (IsAllowed own stem) (end_of own) from gs → AreBought own stem gs bought → bought ≡ gs
all_bought own stem from [] bought cut are = are
all_bought own stem from (g ∷ gs) bought cut (inl are) =
    are.2 ∙ ap (λ l. g ∷ l) (all_bought own stem (end_of own g) gs are.0 cut.2 are.3)
all_bought own stem from (g ∷ gs) bought cut (inr are) = absurd (are.0 cut.1)

-- what one cut comes to
paid_alone : (own : InstructionParts) (e b : EntryParts) (p : Paid) → b.stem ≡ e.stem → p.logs ≡ length e.logs
    → AreAll (base_sheet own) e.stem e.logs b.logs p.unbought p.volume p.worth
    → IsPaidFor own (Cut e ∷ []) (Cut b ∷ []) p
paid_alone own e b p same number all = record {
  number = omega (arith, number, sum_by-cons logs_in (Cut e) []);
  unbought = omega (arith, all.unbought, sum_by-cons logs_in (Cut e) [], sum_by-cons logs_in (Cut b) []);
  cubic = omega (arith, all.cubic, sum_by-cons volume_in (Cut e) []);
  money = omega (
    arith,
    all.money,
    sum_by-cons (at_base_in own) (Cut b) [],
    ap (λ (t : StemParts). cutting_worth (base_sheet own) t b.logs) same,
  );
}

each_with : (own : InstructionParts) (e b : EntryParts) (before after : List Paid) (u v w : ℕ) → b.stem ≡ e.stem
    → AreAdded (base_sheet own) e.stem e.logs b.logs before after u v w
    → AreEachPaidWith own (Cut e) (Cut b) before after
each_with own e b before after u v w same added = record {
  same_number = added.same_number;
  each = λ a p q hp hq.
      let is = added.each a p q hp hq in
      record {
        number = is.number;
        unbought = is.unbought;
        cubic = is.cubic;
        money = is.money
            ∙ ap (λ (t : StemParts). p.worth + part_at_base_in own a (Cut (record b { stem = t }))) (sym same);
      };
}

-- over equal values
pub moved : (s t : SheetParts) (stem other : StemParts) (gs hs bought : List Log) (before after : List Paid)
    (u v w : ℕ) → t ≡ s → other ≡ stem → hs ≡ gs
    → AreAdded t other hs bought before after u v w → AreAdded s stem gs bought before after u v w
moved s t stem other gs hs bought before after u v w same_sheet same_stem same_logs added =
    subst (λ (x : SheetParts). AreAdded x stem gs bought before after u v w) same_sheet
    (subst (λ (x : StemParts). AreAdded t x gs bought before after u v w) same_stem
    (subst (λ (x : List Log). AreAdded t other x bought before after u v w) same_logs added))

pub accounted_cut : (own : InstructionParts) (e : EntryParts) (logs bought best_bought : List Log)
    (cut cut_after best best_after : List Paid) (p q : Paid) (a : Account)
    → IsFirstBest (base_sheet own) e.stem logs
    → AreAdded (base_sheet own) e.stem e.logs bought cut cut_after p.unbought p.volume p.worth
    → AreAdded (base_sheet own) e.stem logs best_bought best best_after q.unbought q.volume q.worth
    → p.logs ≡ length e.logs → q.logs ≡ length logs
    → length e.logs ≤ 80 → length logs ≤ 80
    → a.stems ≡ 1 → a.cut ≡ p → a.best ≡ q
    → IsAccounted own (Cut e) cut cut_after best best_after a
accounted_cut own e logs bought best_bought cut cut_after best best_after p q a first added best_added number
    best_number few best_few one is_cut is_best =
    let b : EntryParts = record e { logs = bought } in
    let u : EntryParts = record e { logs = logs; worth = cutting_worth (base_sheet own) e.stem logs } in
    let all : best_bought ≡ logs =
    all_bought own e.stem 0 logs best_bought first.best.admissible best_added.are_bought in
    let best_added' : AreAdded (base_sheet own) e.stem logs logs best best_after q.unbought q.volume q.worth =
    subst (λ l. AreAdded (base_sheet own) e.stem logs l best best_after q.unbought q.volume q.worth) all best_added in
    record {
      bought = Cut b;
      best_of = Cut u;
      is_bought = (refl, refl, added.are_bought);
      is_best = (refl, refl, first, refl);
      alone = record {
        number = omega (arith, one, sum_by-cons cuts_in (Cut e) []);
        as_cut = subst (IsPaidFor own (Cut e ∷ []) (Cut b ∷ [])) (sym is_cut)
            (paid_alone own e b p refl number added.together);
        at_best = subst (IsPaidFor own (Cut u ∷ []) (Cut u ∷ [])) (sym is_best)
            (paid_alone own u u q refl best_number best_added'.together);
      };
      as_cut = each_with own e b cut cut_after p.unbought p.volume p.worth refl added;
      at_best = each_with own u u best best_after q.unbought q.volume q.worth refl best_added';
      few = (few, best_few);
    }

-- what is bought is worth no more than the best cutting
pub worth_no_more : (own : InstructionParts) (e : EntryParts) (logs bought best_bought : List Log)
    (cut cut_after best best_after : List Paid) (p q : Paid)
    → IsPassable own (Cut e) → IsFirstBest (base_sheet own) e.stem logs
    → AreAdded (base_sheet own) e.stem e.logs bought cut cut_after p.unbought p.volume p.worth
    → AreAdded (base_sheet own) e.stem logs best_bought best best_after q.unbought q.volume q.worth
    → p.worth ≤ q.worth
worth_no_more own e logs bought best_bought cut cut_after best best_after p q (i, shape, admissible) first added
    best_added =
    let all : best_bought ≡ logs =
    all_bought own e.stem 0 logs best_bought first.best.admissible best_added.are_bought in
    omega (
      arith,
      added.together.money,
      best_added.together.money,
      ap (λ l. cutting_worth (base_sheet own) e.stem l) all,
      none_lost i own e.stem e.logs bought logs shape admissible added.are_bought first.best,
    )

-- a demand comes to nothing
nothing_with : (own : InstructionParts) (d : DemandParts) (parts : List Paid)
    → AreEachPaidWith own (Demand d) (Demand d) parts parts
nothing_with own d parts = record {
  same_number = refl;
  each = λ a p q hp hq.
      let same : p ≡ q = same_Some p q (sym hp ∙ hq) in
      subst (IsPaidWith own a (Demand d) (Demand d) p) same
      (record { number = omega arith; unbought = omega arith; cubic = omega arith; money = omega arith });
}

none_alone : (own : InstructionParts) (d : DemandParts) (p : Paid) → IsNone p
    → IsPaidFor own (Demand d ∷ []) (Demand d ∷ []) p
none_alone own d p none = record {
  number = omega (arith, none.0, sum_by-cons logs_in (Demand d) []);
  unbought = omega (arith, none.1, sum_by-cons logs_in (Demand d) []);
  cubic = omega (arith, none.2, sum_by-cons volume_in (Demand d) []);
  money = omega (arith, none.3, sum_by-cons (at_base_in own) (Demand d) []);
}

pub accounted_demand : (own : InstructionParts) (d : DemandParts) (cut best : List Paid) (a : Account)
    → a.stems ≡ 0 → IsNone a.cut → IsNone a.best
    → IsAccounted own (Demand d) cut cut best best a
accounted_demand own d cut best a none no_cut no_best = record {
  bought = Demand d;
  best_of = Demand d;
  is_bought = refl;
  is_best = refl;
  alone = record {
    number = omega (arith, none, sum_by-cons cuts_in (Demand d) []);
    as_cut = none_alone own d a.cut no_cut;
    at_best = none_alone own d a.best no_best;
  };
  as_cut = nothing_with own d cut;
  at_best = nothing_with own d best;
  few = (omega arith, omega arith);
}

-- the postings of a lawful journal can be passed
passable_by : (i own : InstructionParts) (sheets : List (List ℕ)) (x : Posting) → HasShapeOf i own → Holds i sheets x
    → IsPassable own x
passable_by i own sheets (Cut e) shape holds = (i, shape, holds.0.admissible)
passable_by i own sheets (Demand d) shape holds = tt

pub all_passable : (i own : InstructionParts) (j : JournalParts) → HasShapeOf i own → IsLawful (history_of i j)
    → All (λ x. IsPassable own x) j.entries
all_passable i own j shape lawful = λ k d lt.
    let x = get_or j.entries k d in
    passable_by i own j.sheets x shape
    (lawful.postings_follow k x (slice_get-get_or j.entries k d lt)).holds

-- What postings come to, with one more: the parts of the assortments, the longest stem and the dearest.
use Rattle.std.proofs.Common.{◌≡◌, ℕ, suc, get_or, ◌+◌, ◌-◌, ◌*◌, ◌<◌, ◌≤◌, ◌==◌, List, [], ◌∷◌, ◌++◌, true, false, cond, All, length, take, set, map, refl, sym, subst, ap, ◌∙◌, inl, inr, arith, length-set, length-append, length-take-le}
use Rattle.std.proofs.Common.{get_or-set_same, get_or-set_other}
use Rattle.std.specs.Prelude.{slice_get, Some}
use Rattle.std.specs.List.{zip}
use Rattle.std.proofs.lemmas.Option.{slice_get_within, slice_get-get_or, get_or_from_slice_get}
use Rattle.std.proofs.lemmas.Bool.Decides.{eqb_tells}
use Rattle.std.proofs.lemmas.List.{map-append}
use Rattle.std.proofs.lemmas.List.Elements.{All-get_or}
use Rattle.std.proofs.lemmas.List.Sums.{sum_by-cons, sum_by_push, sum_by_more, count_by-le-length}
use Rattle.buck_apt_instruction.specs.Instruction.{InstructionParts}
use Rattle.buck_stem_shape.specs.Stem.{StemParts}
use Rattle.buck_value.specs.declared.log.Log.{Log}
use Rattle.buck_value.specs.Sheet.{SheetParts}
use Rattle.buck_value.specs.Allowed.{IsAllowed, worth_of}
use Rattle.buck_book_postings.specs.declared.posting.Posting.{Posting}
use Rattle.buck_book_postings.specs.declared.posting.Posting.TheVariants.{Cut, Demand}
use Rattle.buck_book_postings.specs.Counts.{assortment_logs_in}
use Rattle.buck_page_figures.specs.Figures.{IsUnsteered, base_sheet, log_volume, cuts_in, length_in, worth_in, at_base_in}
use Rattle.buck_page_figures.specs.Sums.{AreSums}
use Rattle.buck_page_figures.specs.Assorted.{AreParts, part_volume_in, part_logged_in, part_at_base_in, sum_in_part}
use Rattle.buck_page_figures.specs.Greatest.{lengths_of, costs_of}
use Rattle.buck_page_figures.specs.declared.figures.Part.{Part}
use Rattle.buck_page_figures.specs.declared.sums.Sums.{Sums}
use Rattle.buck_page_figures.specs.declared.adding.Wood.{Wood}
use Rattle.buck_page_figures.specs.declared.account.Account.{Account}
use Rattle.buck_page_figures.specs.inner.Adding.{IsWoodOf, logs_of}
use Rattle.buck_page_figures.specs.inner.Counted.{AreOfPosting}
use Rattle.buck_page_figures.specs.inner.Tally.{IsTallyWith, AreAtMost}
use Rattle.buck_page_figures.specs.inner.Assorted.{ArePartsWith, ArePartsOn, AreFew}
use Rattle.buck_page_figures.specs.inner.Greatest.{IsGreatest}
use Rattle.buck_page_figures.specs.inner.Account.{IsAccount, IsAccountWith}
use Rattle.buck_page_figures.proofs.SumLemmas.{unsteered_more}

-- the assortment of an allowed log is there
pub log_within : (i : InstructionParts) (stem : StemParts) (logs : List Log) (k : ℕ) (d : Log)
    → All (λ g. IsAllowed i stem g) logs → k < length logs
    → (get_or logs k d).assortment < length i.assortments
log_within i stem logs k d all lt =
    let a : IsAllowed i stem (get_or logs k d) = All-get_or (λ g. IsAllowed i stem g) logs k d lt all in
    slice_get_within i.assortments (get_or logs k d).assortment a.assortment a.exists

-- an element of the list before an element of the list after
found_before : (before after : List Part) (a : ℕ) (q : Part) → length after ≡ length before → slice_get after a ≡ Some q
    → slice_get before a ≡ Some (get_or before a q)
found_before before after a q number there =
    slice_get-get_or before a q (omega (arith, slice_get_within after a q there, number))

-- few logs, and few more
pub few_more : (s : SheetParts) (stem : StemParts) (logs : List Log) (k a : ℕ) (before now : List Part) (p : Part)
    → ArePartsWith s stem (take k logs) before now
    → AreFew 80000000 before → length logs ≤ 80 → k < length logs → slice_get now a ≡ Some p → p.logs + 1 < 4294967296
few_more s stem logs k a before now p parts few short lt there =
    let was = found_before before now a p parts.same_number there in
    omega (
      arith,
      few a (get_or before a p) was,
      (parts.each a (get_or before a p) p was there).logs,
      count_by-le-length (λ (g : Log). g.assortment == a) (take k logs),
      length-take-le k logs (omega arith),
    )

-- one log more: a number of it counts if it is of the assortment
part_step : (n : Log → ℕ) (a : ℕ) (logs : List Log) (k : ℕ) (g : Log) → k < length logs → g ≡ get_or logs k g
    → sum_in_part n a (take (k + 1) logs) ≡ sum_in_part n a (take k logs) + cond (g.assortment == a) (n g) 0
part_step n a logs k g lt is =
    sum_by_more (λ (x : Log). cond (x.assortment == a) (n x) 0) logs k g lt
    ∙ ap (λ (x : Log). sum_in_part n a (take k logs) + cond (x.assortment == a) (n x) 0) (sym is)

part_hit : (n : Log → ℕ) (a : ℕ) (logs : List Log) (k : ℕ) (g : Log) → k < length logs → g ≡ get_or logs k g
    → (g.assortment == a) ≡ true
    → sum_in_part n a (take (k + 1) logs) ≡ sum_in_part n a (take k logs) + n g
part_hit n a logs k g lt is hit = part_step n a logs k g lt is
    ∙ ap (λ b. sum_in_part n a (take k logs) + cond b (n g) 0) hit

part_miss : (n : Log → ℕ) (a : ℕ) (logs : List Log) (k : ℕ) (g : Log) → k < length logs → g ≡ get_or logs k g
    → (g.assortment == a) ≡ false
    → sum_in_part n a (take (k + 1) logs) ≡ sum_in_part n a (take k logs)
part_miss n a logs k g lt is miss =
    part_step n a logs k g lt is ∙ ap (λ b. sum_in_part n a (take k logs) + cond b (n g) 0) miss ∙ omega arith

-- the parts with one log more
pub parts_more : (s : SheetParts) (stem : StemParts) (logs : List Log) (k p : ℕ) (g : Log) (w : Wood)
    (before now : List Part) (was part : Part)
    → k < length logs → g ≡ get_or logs k g → p ≡ g.assortment → slice_get now p ≡ Some was → IsWoodOf s stem (g ∷ []) w
    → part.logs ≡ was.logs + 1
    → part.volume ≡ was.volume + w.volume
    → part.logged ≡ was.logged + w.logged
    → part.at_base ≡ was.at_base + w.at_base
    → ArePartsWith s stem (take k logs) before now
    → ArePartsWith s stem (take (k + 1) logs) before (set now p part)
parts_more s stem logs k p g w before now was part lt is place there wood more_logs more_volume more_logged more_worth parts =
    record {
      same_number = length-set now p part ∙ parts.same_number;
      each = λ a x y hx hy. elim (eqb_tells g.assortment a) [
        | inl e ↦ (
            let at : p ≡ a = place ∙ e.1 in
            let within : p < length now = slice_get_within now p was there in
            let here : y ≡ part =
            sym (get_or_from_slice_get (set now p part) a y part hy)
            ∙ subst (λ q. get_or (set now p part) q part ≡ part) at (get_or-set_same now p part part within) in
            let old = parts.each a x was hx (subst (λ q. slice_get now q ≡ Some was) at there) in
            record {
              logs = ap (λ (z : Part). z.logs) here
                  ∙ omega (arith, more_logs, old.logs, part_hit (λ z. 1) a logs k g lt is e.0);
              volume = ap (λ (z : Part). z.volume) here
                  ∙ omega (
                    arith,
                    more_volume,
                    old.volume,
                    wood.volume,
                    sum_by-cons (log_volume stem) g [],
                    part_hit (log_volume stem) a logs k g lt is e.0,
                  );
              logged = ap (λ (z : Part). z.logged) here
                  ∙ omega (
                    arith,
                    more_logged,
                    old.logged,
                    wood.logged,
                    sum_by-cons (λ (z : Log). z.length) g [],
                    part_hit (λ (z : Log). z.length) a logs k g lt is e.0,
                  );
              at_base = ap (λ (z : Part). z.at_base) here
                  ∙ omega (
                    arith,
                    more_worth,
                    old.at_base,
                    wood.at_base,
                    sum_by-cons (worth_of s stem) g [],
                    part_hit (worth_of s stem) a logs k g lt is e.0,
                  );
            })
        | inr e ↦ (
            let within : a < length now =
            omega (arith, slice_get_within (set now p part) a y hy, length-set now p part) in
            let same : y ≡ get_or now a part =
            sym (get_or_from_slice_get (set now p part) a y part hy)
            ∙ get_or-set_other now p a part part (λ q. e.1 (sym (q ∙ place))) in
            let old = parts.each a x y hx (slice_get-get_or now a part within ∙ ap (λ z. Some z) (sym same)) in
            record {
              logs = omega (arith, old.logs, part_miss (λ z. 1) a logs k g lt is e.0);
              volume = omega (arith, old.volume, part_miss (log_volume stem) a logs k g lt is e.0);
              logged = omega (arith, old.logged, part_miss (λ (z : Log). z.length) a logs k g lt is e.0);
              at_base = omega (arith, old.at_base, part_miss (worth_of s stem) a logs k g lt is e.0);
            })
      ];
    }

-- the parts with one posting more
parts_on : (i : InstructionParts) (s : SheetParts) (ps : List Posting) (x : Posting) (before after : List Part)
    → s ≡ base_sheet i
    → AreParts i ps before → ArePartsOn s x (logs_of x) before after → AreParts i (ps ++ x ∷ []) after
parts_on i s ps (Cut e) before after same parts more = record {
  one_each = more.same_number ∙ parts.one_each;
  each = λ a q there.
      let was = found_before before after a q more.same_number there in
      let old = parts.each a (get_or before a q) was in
      let on = more.each a (get_or before a q) q was there in
      let worth : sum_in_part (worth_of s e.stem) a e.logs ≡ part_at_base_in i a (Cut e) =
      ap (λ (t : SheetParts). sum_in_part (worth_of t e.stem) a e.logs) same in
      record {
        logs = omega (arith, on.logs, old.logs, sum_by_push (λ x. assortment_logs_in a x) ps (Cut e));
        volume = omega (arith, on.volume, old.volume, sum_by_push (part_volume_in a) ps (Cut e));
        logged = omega (arith, on.logged, old.logged, sum_by_push (part_logged_in a) ps (Cut e));
        at_base = omega (arith, on.at_base, old.at_base, worth, sum_by_push (part_at_base_in i a) ps (Cut e));
      };
}
parts_on i s ps (Demand d) before after same parts more = record {
  one_each = ap length more ∙ parts.one_each;
  each = λ a q there.
      let old = parts.each a q (ap (λ l. slice_get l a) (sym more) ∙ there) in
      record {
        logs = omega (arith, old.logs, sum_by_push (λ x. assortment_logs_in a x) ps (Demand d));
        volume = omega (arith, old.volume, sum_by_push (part_volume_in a) ps (Demand d));
        logged = omega (arith, old.logged, sum_by_push (part_logged_in a) ps (Demand d));
        at_base = omega (arith, old.at_base, sum_by_push (part_at_base_in i a) ps (Demand d));
      };
}

-- what is added unsteered is the unsteered posting's
unsteered_parts : (i : InstructionParts) (s : SheetParts) (x u : Posting) (logs : List Log) (before after : List Part)
    → IsUnsteered i x u → logs ≡ logs_of u
    → ArePartsOn s x logs before after → ArePartsOn s u (logs_of u) before after
unsteered_parts i s (Cut e) (Cut u) logs before after is same parts =
    subst (λ (t : StemParts). ArePartsWith s t u.logs before after) (sym is.1)
    (subst (λ l. ArePartsWith s e.stem l before after) same parts)
unsteered_parts i s (Demand d) (Demand u) logs before after is same parts = parts
unsteered_parts i s (Cut e) (Demand u) logs before after is same parts = absurd is
unsteered_parts i s (Demand d) (Cut u) logs before after is same parts = absurd is

few_on : (i : InstructionParts) (s : SheetParts) (x : Posting) (logs : List Log) (most : ℕ) (before after : List Part)
    → AreOfPosting i x logs
    → AreFew most before → ArePartsOn s x logs before after → AreFew (most + 80) after
few_on i s (Cut e) logs most before after own few more = λ a q there.
    let was = found_before before after a q more.same_number there in
    omega (
      arith,
      few a (get_or before a q) was,
      (more.each a (get_or before a q) q was there).logs,
      count_by-le-length (λ (g : Log). g.assortment == a) logs,
      own.1,
    )
few_on i s (Demand d) logs most before after own few more = λ a q there.
    omega (arith, few a q (ap (λ l. slice_get l a) (sym more) ∙ there))

-- the numbers that the greatest are chosen of
pub lengths_more : (i : InstructionParts) (ps : List Posting) (x u : Posting) (one : Sums)
    → AreSums i (x ∷ []) (u ∷ []) one
    → lengths_of (ps ++ x ∷ []) ≡ lengths_of ps ++ (one.stems + one.length) ∷ []
lengths_more i ps x u one sums =
    let is : cuts_in x + length_in x ≡ one.stems + one.length =
    omega (arith, sums.stems, sums.length, sum_by-cons cuts_in x [], sum_by-cons length_in x []) in
    map-append (λ y. cuts_in y + length_in y) ps (x ∷ []) ∙ ap (λ n. lengths_of ps ++ n ∷ []) is

zip_push : (ps us : List Posting) (x u : Posting) → length us ≡ length ps
    → zip (ps ++ x ∷ []) (us ++ u ∷ []) ≡ zip ps us ++ (x, u) ∷ []
zip_push [] [] x u e = refl
zip_push [] (v ∷ us) x u e = absurd (omega (arith, e))
zip_push (y ∷ ps) [] x u e = absurd (omega (arith, e))
zip_push (y ∷ ps) (v ∷ us) x u e = ap (λ l. (y, v) ∷ l) (zip_push ps us x u (omega (arith, e)))

pub costs_more : (i : InstructionParts) (ps us : List Posting) (x u : Posting) (one : Sums) (cost : ℕ)
    → length us ≡ length ps
    → AreSums i (x ∷ []) (u ∷ []) one → cost + one.at_base ≡ one.best
    → costs_of i (ps ++ x ∷ []) (us ++ u ∷ []) ≡ costs_of i ps us ++ cost ∷ []
costs_more i ps us x u one cost number sums is =
    let value : worth_in u - at_base_in i x ≡ cost =
    omega (arith, is, sums.best, sums.at_base, sum_by-cons worth_in u [], sum_by-cons (at_base_in i) x []) in
    ap (λ l. map (λ p. worth_in p.1 - at_base_in i p.0) l) (zip_push ps us x u number)
    ∙ map-append (λ p. worth_in p.1 - at_base_in i p.0) (zip ps us) ((x, u) ∷ [])
    ∙ ap (λ n. costs_of i ps us ++ n ∷ []) value

-- what some postings come to with one more
pub account_more : (i : InstructionParts) (s : SheetParts) (ps us : List Posting) (x : Posting) (at cost : ℕ)
    (one : Sums) (logs : List Log) (before after : Account)
    → s ≡ base_sheet i → length ps ≡ at → IsAccount i ps us before → IsTallyWith i ps us x one logs after.tally
    → AreAtMost (80 * length ps + 80) after.tally.counts.items
    → AreAtMost (80 * length ps + 80) after.tally.unsteered.items
    → AreOfPosting i x (logs_of x) → ArePartsOn s x (logs_of x) before.parts.items after.parts.items
    → AreOfPosting i x logs → ArePartsOn s x logs before.unsteered_parts.items after.unsteered_parts.items
    → ((ns : List ℕ) → length ns ≡ at → IsGreatest ns before.longest
    → IsGreatest (ns ++ (one.stems + one.length) ∷ []) after.longest)
    → cost + one.at_base ≡ one.best
    → ((ns : List ℕ) → length ns ≡ at → IsGreatest ns before.dearest → IsGreatest (ns ++ cost ∷ []) after.dearest)
    → IsAccountWith i ps us x after
account_more i s ps us x at cost one logs before after same is account one_more counts unsteered own parts own' parts'
    longer is_cost dearer =
    let u = one_more.unsteered in
    let number : length us ≡ length ps = account.are_unsteered.same_number in
    let long : length (ps ++ x ∷ []) ≡ length ps + 1 = length-append ps (x ∷ []) in
    record {
      unsteered = u;
      account = record {
        are_unsteered = unsteered_more i ps us x u account.are_unsteered one_more.is_unsteered;
        tally = one_more.tally;
        counts_low = λ p. omega (arith, long, counts p);
        unsteered_low = λ p. omega (arith, long, unsteered p);
        parts = parts_on i s ps x before.parts.items after.parts.items same account.parts parts;
        parts_few =
            λ a p there. omega (
              arith,
              long,
              few_on i s x (logs_of x) (80 * length ps) before.parts.items after.parts.items own account.parts_few parts
                  a p there,
            );
        unsteered_parts =
            parts_on i s us u before.unsteered_parts.items after.unsteered_parts.items same account.unsteered_parts
            (unsteered_parts i s x u logs before.unsteered_parts.items after.unsteered_parts.items
            one_more.is_unsteered one_more.logs_are parts');
        unsteered_parts_few =
            λ a p there. omega (
              arith,
              long,
              few_on i s x logs (80 * length ps) before.unsteered_parts.items after.unsteered_parts.items own'
                  account.unsteered_parts_few parts' a p there,
            );
        longest =
            rw (lengths_more i ps x u one one_more.sums)
            (longer (lengths_of ps) (lengths_number ps ∙ is) account.longest);
        dearest =
            rw (costs_more i ps us x u one cost number one_more.sums is_cost)
            (dearer (costs_of i ps us) (costs_number i ps us number ∙ is) account.dearest);
      };
    }
  where
    lengths_number : (ps : List Posting) → length (lengths_of ps) ≡ length ps
    lengths_number [] = refl
    lengths_number (p ∷ ps) = ap suc (lengths_number ps)

    costs_number : (i : InstructionParts) (ps us : List Posting) → length us ≡ length ps
        → length (costs_of i ps us) ≡ length ps
    costs_number i [] us e = refl
    costs_number i (p ∷ ps) [] e = absurd (omega (arith, e))
    costs_number i (p ∷ ps) (u ∷ us) e = ap suc (costs_number i ps us (omega (arith, e)))

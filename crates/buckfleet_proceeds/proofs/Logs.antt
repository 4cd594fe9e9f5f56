-- Logs of a stem that are added one by one, each to its assortment.
use Rattle.std.proofs.Common.{◌≡◌, ℕ, ◌+◌, ◌*◌, ◌<◌, ◌≤◌, ◌==◌, List, [], ◌∷◌, ◌++◌, Bool, true, false, cond, All, Contains, length, set, get_or, refl, sym, subst, ap, ◌∙◌, inl, inr, arith}
use Rattle.std.proofs.Common.{length-set, length-append, get_or-set_same, get_or-set_other}
use Rattle.std.specs.Prelude.{slice_get, Some}
use Rattle.std.proofs.lemmas.Option.{same_Some, slice_get_within, slice_get-get_or, get_or_from_slice_get}
use Rattle.std.proofs.lemmas.Bool.Decides.{eqb_tells}
use Rattle.std.proofs.lemmas.List.Elements.{All-nil, All-cons, All-contains}
use Rattle.std.proofs.lemmas.List.Sums.{sum_by_push, count_by-le-length}
use Rattle.buck_apt_instruction.specs.Instruction.{AssortmentParts, InstructionParts, IsInstruction, IsWithin}
use Rattle.buck_stem_shape.specs.Stem.{StemParts, IsStem, stem_length}
use Rattle.buck_value.specs.declared.log.Log.{Log}
use Rattle.buck_value.specs.Sheet.{SheetParts}
use Rattle.buck_value.specs.Allowed.{IsAllowed, end_of, worth_of}
use Rattle.buck_dp.specs.Cutting.{IsCutFrom}
use Rattle.buck_dp.specs.Best.{IsAdmissible, cutting_worth}
use Rattle.buck_dp.proofs.Lists.{end_within}
use Rattle.buck_book_postings.specs.Counts.{assortment_logs}
use Rattle.buck_page_figures.specs.Figures.{base_sheet, log_volume}
use Rattle.buck_page_figures.specs.Assorted.{sum_in_part}
use Rattle.buckfleet_terms_files.specs.Own.{HasLogsOf, HasShapeOf}
use Rattle.buckfleet_proceeds.specs.declared.paid.Paid.{Paid}
use Rattle.buckfleet_proceeds.specs.Paid.{AreBought}
use Rattle.buckfleet_proceeds.specs.inner.Logs.{AreAdded, AreFew, Fits, IsPaidAlone, IsPart}
use Rattle.buckfleet_proceeds.specs.inner.Together.{ArePaidTogether}

-- the bought logs with one more
bought_more : (own : InstructionParts) (stem : StemParts) (gs bought : List Log) (g : Log) → IsAllowed own stem g
    → AreBought own stem gs bought → AreBought own stem (gs ++ g ∷ []) (bought ++ g ∷ [])
bought_more own stem [] bought g is are = inl ([], is, ap (λ b. b ++ g ∷ []) are, refl)
bought_more own stem (x ∷ gs) bought g is (inl are) = inl (
  are.0 ++ g ∷ [],
  are.1,
  ap (λ b. b ++ g ∷ []) are.2,
  bought_more own stem gs are.0 g is are.3,
)
bought_more own stem (x ∷ gs) bought g is (inr are) = inr (are.0, bought_more own stem gs bought g is are.1)

unbought_more : (own : InstructionParts) (stem : StemParts) (gs bought : List Log) (g : Log)
    → (IsAllowed own stem g → ⊥)
    → AreBought own stem gs bought → AreBought own stem (gs ++ g ∷ []) bought
unbought_more own stem [] bought g not are = inr (not, are)
unbought_more own stem (x ∷ gs) bought g not (inl are) =
    inl (are.0, are.1, are.2, unbought_more own stem gs are.0 g not are.3)
unbought_more own stem (x ∷ gs) bought g not (inr are) =
    inr (are.0, unbought_more own stem gs bought g not are.1)

cond_zero : (b : Bool) → ◌≡◌ {A = ℕ} (cond b 0 0) 0
cond_zero true = refl
cond_zero false = refl

-- a log more, given how many of it are bought
logs_more : (s : SheetParts) (stem : StemParts) (gs bought after_bought : List Log) (g : Log) (c : ℕ)
    (before now : List Paid) (was part paid : Paid) (u v w : ℕ)
    → slice_get now g.assortment ≡ Some was
    → ArePaidTogether was paid part
    → paid.logs ≡ 1 → paid.volume ≡ log_volume stem g → paid.unbought + c ≡ 1
    → AreBought s.instruction stem (gs ++ g ∷ []) after_bought
    → length after_bought ≡ length bought + c
    → cutting_worth s stem after_bought ≡ cutting_worth s stem bought + paid.worth
    → ((a : ℕ) → assortment_logs a after_bought ≡ assortment_logs a bought + cond (g.assortment == a) c 0)
    → ((a : ℕ) → sum_in_part (worth_of s stem) a after_bought
    ≡ sum_in_part (worth_of s stem) a bought + cond (g.assortment == a) paid.worth 0)
    → AreAdded s stem gs bought before now u v w
    → AreAdded s stem (gs ++ g ∷ []) after_bought before (set now g.assortment part) (u + paid.unbought)
    (v + paid.volume) (w + paid.worth)
logs_more s stem gs bought after_bought g c before now was part paid u v w there to_part one cubic unbought are number
    money counts worths added =
    let longer : length (gs ++ g ∷ []) ≡ length gs + 1 = length-append gs (g ∷ []) in
    record {
      are_bought = are;
      together = record {
        unbought = omega (arith, unbought, number, added.together.unbought, longer);
        cubic = omega (arith, cubic, added.together.cubic, sum_by_push (log_volume stem) gs g);
        money = omega (arith, money, added.together.money);
      };
      same_number = length-set now g.assortment part ∙ added.same_number;
      each = λ a x y hx hy. elim (eqb_tells g.assortment a) [
        | inl e ↦ (
            let within : g.assortment < length now = slice_get_within now g.assortment was there in
            let here : y ≡ part =
            sym (get_or_from_slice_get (set now g.assortment part) a y part hy)
            ∙ subst (λ q. get_or (set now g.assortment part) q part ≡ part) e.1
            (get_or-set_same now g.assortment part part within) in
            let old = added.each a x was hx (subst (λ q. slice_get now q ≡ Some was) e.1 there) in
            let n : assortment_logs a (gs ++ g ∷ []) ≡ assortment_logs a gs + 1 =
            sum_by_push (λ (z : Log). cond (z.assortment == a) 1 0) gs g
            ∙ ap (λ b. assortment_logs a gs + cond b 1 0) e.0 in
            let m : assortment_logs a after_bought ≡ assortment_logs a bought + c =
            counts a ∙ ap (λ b. assortment_logs a bought + cond b c 0) e.0 in
            let more : sum_in_part (log_volume stem) a (gs ++ g ∷ [])
            ≡ sum_in_part (log_volume stem) a gs + log_volume stem g =
            sum_by_push (λ (z : Log). cond (z.assortment == a) (log_volume stem z) 0) gs g
            ∙ ap (λ b. sum_in_part (log_volume stem) a gs + cond b (log_volume stem g) 0) e.0 in
            let dearer
            : sum_in_part (worth_of s stem) a after_bought ≡ sum_in_part (worth_of s stem) a bought + paid.worth =
            worths a ∙ ap (λ b. sum_in_part (worth_of s stem) a bought + cond b paid.worth 0) e.0 in
            subst (IsPart s stem a (gs ++ g ∷ []) after_bought x) (sym here) (record {
              number = omega (arith, to_part.logs, one, old.number, n);
              unbought = omega (arith, to_part.unbought, unbought, old.unbought, n, m);
              cubic = omega (arith, to_part.volume, cubic, old.cubic, more);
              money = omega (arith, to_part.worth, old.money, dearer);
            }))
        | inr e ↦ (
            let within : a < length now =
            omega (
              arith,
              slice_get_within (set now g.assortment part) a y hy,
              length-set now g.assortment part,
            ) in
            let same : y ≡ get_or now a part =
            sym (get_or_from_slice_get (set now g.assortment part) a y part hy)
            ∙ get_or-set_other now g.assortment a part part (λ q. e.1 (sym q)) in
            let old = added.each a x y hx (slice_get-get_or now a part within ∙ ap (λ z. Some z) (sym same)) in
            let n : assortment_logs a (gs ++ g ∷ []) ≡ assortment_logs a gs + 0 =
            sum_by_push (λ (z : Log). cond (z.assortment == a) 1 0) gs g
            ∙ ap (λ b. assortment_logs a gs + cond b 1 0) e.0 in
            let m : assortment_logs a after_bought ≡ assortment_logs a bought + 0 =
            counts a ∙ ap (λ b. assortment_logs a bought + cond b c 0) e.0 in
            let more : sum_in_part (log_volume stem) a (gs ++ g ∷ []) ≡ sum_in_part (log_volume stem) a gs + 0 =
            sum_by_push (λ (z : Log). cond (z.assortment == a) (log_volume stem z) 0) gs g
            ∙ ap (λ b. sum_in_part (log_volume stem) a gs + cond b (log_volume stem g) 0) e.0 in
            let dearer : sum_in_part (worth_of s stem) a after_bought ≡ sum_in_part (worth_of s stem) a bought + 0 =
            worths a ∙ ap (λ b. sum_in_part (worth_of s stem) a bought + cond b paid.worth 0) e.0 in
            record {
              number = omega (arith, old.number, n);
              unbought = omega (arith, old.unbought, n, m);
              cubic = omega (arith, old.cubic, more);
              money = omega (arith, old.money, dearer);
            })
      ];
    }

-- a log more, be it bought or not
pub log_more : (s : SheetParts) (stem : StemParts) (gs bought : List Log) (g : Log) (before now : List Paid)
    (was part paid : Paid) (u v w : ℕ)
    → slice_get now g.assortment ≡ Some was
    → ArePaidTogether was paid part
    → paid.logs ≡ 1 → paid.volume ≡ log_volume stem g → IsPaidAlone s stem g paid
    → AreAdded s stem gs bought before now u v w
    → (b : List Log) × AreAdded s stem (gs ++ g ∷ []) b before (set now g.assortment part) (u + paid.unbought)
    (v + paid.volume) (w + paid.worth)
log_more s stem gs bought g before now was part paid u v w there to_part one cubic (inl is) added = (
  bought ++ g ∷ [],
  logs_more s stem gs bought (bought ++ g ∷ []) g 1 before now was part paid u v w there to_part one cubic
      (omega (arith, is.2)) (bought_more s.instruction stem gs bought g is.0 added.are_bought)
      (length-append bought (g ∷ []))
      (omega (arith, is.1, sum_by_push (worth_of s stem) bought g))
      (λ a. sum_by_push (λ (z : Log). cond (z.assortment == a) 1 0) bought g)
      (λ a. sum_by_push (λ (z : Log). cond (z.assortment == a) (worth_of s stem z) 0) bought g
      ∙ ap (λ n. sum_in_part (worth_of s stem) a bought + cond (g.assortment == a) n 0) (sym is.1))
      added,
)
log_more s stem gs bought g before now was part paid u v w there to_part one cubic (inr is) added = (
  bought,
  logs_more s stem gs bought bought g 0 before now was part paid u v w there to_part one cubic
      (omega (arith, is.2)) (unbought_more s.instruction stem gs bought g is.0 added.are_bought)
      (omega arith)
      (omega (arith, is.1))
      (λ a. omega (arith, cond_zero (g.assortment == a)))
      (λ a. omega (
        arith,
        cond_zero (g.assortment == a),
        ap (λ n. cond (g.assortment == a) n 0) is.1,
      ))
      added,
)

-- few logs of an assortment, and few more
pub few_more : (s : SheetParts) (stem : StemParts) (gs bought : List Log) (a : ℕ) (before now : List Paid) (p : Paid)
    (u v w : ℕ)
    → AreAdded s stem gs bought before now u v w
    → AreFew 80000000 before → slice_get now a ≡ Some p → p.logs ≤ 80000000 + length gs
few_more s stem gs bought a before now p u v w added few there =
    let within : a < length before = omega (arith, slice_get_within now a p there, added.same_number) in
    let was : slice_get before a ≡ Some (get_or before a p) = slice_get-get_or before a p within in
    omega (
      arith,
      few a (get_or before a p) was,
      (added.each a (get_or before a p) p was there).number,
      count_by-le-length (λ (g : Log). g.assortment == a) gs,
    )

-- the logs that an instruction allows fit one that may stand beside it
module _ (i own : InstructionParts) (stem : StemParts) (shape : HasShapeOf i own) (valid : IsInstruction own) where
  there : (g : Log) → IsAllowed i stem g → g.assortment < length own.assortments
  there g is =
      omega (arith, slice_get_within i.assortments g.assortment is.assortment is.exists, shape.number)

  lengths : (g : Log) → IsAllowed i stem g → IsWithin 500 30000 g.length
  lengths g is =
      let a = is.assortment in
      let within = there g is in
      let b = get_or own.assortments g.assortment a in
      let found : slice_get own.assortments g.assortment ≡ Some b =
      slice_get-get_or own.assortments g.assortment a within in
      let same : b.lengths ≡ a.lengths = (shape.logs g.assortment a b is.exists found).lengths in
      All-contains (λ l. IsWithin 500 30000 l) b.lengths g.length
      (valid.assortments_valid g.assortment a within).lengths_range
      (subst (λ (l : List ℕ). Contains l g.length) (sym same) is.allows.length_offered)

  fit : (g : Log) → IsAllowed i stem g → Fits own stem g
  fit g is = record {
    within = omega (arith, is.allows.within);
    long = omega (arith, lengths g is);
    exists = there g is;
  }

  -- all of a cutting
  fit_from : (from : ℕ) (gs : List Log) → IsCutFrom (IsAllowed i stem) (end_of i) from gs
      → All (λ g. Fits own stem g) gs
  fit_from from [] cut = All-nil (λ g. Fits own stem g)
  fit_from from (g ∷ gs) cut =
      All-cons (λ g. Fits own stem g) g gs (fit g cut.1) (fit_from (end_of i g) gs cut.2)

  -- which is short
  short_from : (from : ℕ) (gs : List Log) → from ≤ stem_length stem.samples
      → IsCutFrom (IsAllowed i stem) (end_of i) from gs
      → 500 * length gs + from ≤ stem_length stem.samples
  short_from from [] le cut = omega arith
  short_from from (g ∷ gs) le cut =
      let low = lengths g cut.1 in
      let high : end_of i g ≤ stem_length stem.samples = end_within i stem g cut.1 in
      omega (arith, low, cut.0, short_from (end_of i g) gs high cut.2)

  pub cutting_fits : (gs : List Log) → IsAdmissible (base_sheet i) stem gs → All (λ g. Fits own stem g) gs
  cutting_fits gs cut = fit_from 0 gs cut

  pub cutting_short : (gs : List Log) → IsStem stem → IsAdmissible (base_sheet i) stem gs → length gs ≤ 80
  cutting_short gs sound cut = omega (arith, short_from 0 gs (omega arith) cut, sound.samples_number)

-- an instruction may stand beside itself
pub shape_of_itself : (i : InstructionParts) → HasShapeOf i i
shape_of_itself i = record {
  on_module = refl;
  number = refl;
  logs = λ at a b is is_too. same_logs a b (same_Some a b (sym is ∙ is_too));
}
  where
    same_logs : (a b : AssortmentParts) → a ≡ b → HasLogsOf a b
    same_logs a b e = record {
      species = ap (λ (x : AssortmentParts). x.species) (sym e);
      grades = ap (λ (x : AssortmentParts). x.grades) (sym e);
      lengths = ap (λ (x : AssortmentParts). x.lengths) (sym e);
      trim = ap (λ (x : AssortmentParts). x.trim) (sym e);
    }

-- nothing was added
pub none_added : (s : SheetParts) (stem : StemParts) (before : List Paid)
    → AreAdded s stem [] [] before before 0 0 0
none_added s stem before = record {
  are_bought = refl;
  together = record { unbought = refl; cubic = refl; money = refl };
  same_number = refl;
  each = λ a p q hp hq.
      let same : p ≡ q = same_Some p q (sym hp ∙ hq) in
      subst (IsPart s stem a [] [] p) same
      (record { number = omega arith; unbought = omega arith; cubic = omega arith; money = omega arith });
}

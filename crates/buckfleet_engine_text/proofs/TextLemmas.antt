-- A text that grows by a stem at a time.
use Rattle.std.proofs.Common.{◌≡◌, ℕ, map, zero, suc, ◌+◌, ◌≤◌, ◌<◌, List, [], ◌∷◌, ◌++◌, length, All, refl, sym, ap, ◌∙◌, arith, append_assoc, length-append, take, drop, get_or, add-one, subst}
use Rattle.std.proofs.Math.Seq.{take-suc}
use Rattle.std.specs.List.{flat_map}
use Rattle.buck_stem_shape.specs.Stem.{StemParts}
use Rattle.buck_value.specs.declared.log.Log.{Log}
use Rattle.buck_value.specs.Sheet.{SheetParts}
use Rattle.buck_dp.specs.Cutting.{IsCutFrom}
use Rattle.buckfleet_engine_text.specs.inner.Text.{AreLines, IsPut}
use Rattle.buckfleet_engine_text.specs.Bucking.{CutStem, stem_line, stem_lines, log_line}
use Rattle.buck_dp.specs.Best.{IsFirstBest, cutting_worth}
use Rattle.std.proofs.lemmas.List.{append-nil, map-append, take-append-drop}
use Rattle.std.proofs.lemmas.List.Concat.{flat_map-append}
use Rattle.std.proofs.lemmas.List.Elements.{All-append}
use Rattle.std.proofs.lemmas.List.Sums.{sum_by-append}

-- the logs of a cutting are allowed
pub all_allowed : (Allowed : Log → Type 0) (ends : Log → ℕ) (from : ℕ) (gs : List Log) → IsCutFrom Allowed ends from gs
    → All Allowed gs
all_allowed Allowed ends from [] h k d lt = absurd (omega (arith, lt))
all_allowed Allowed ends from (g ∷ gs) (le, a, rest) zero d lt = a
all_allowed Allowed ends from (g ∷ gs) (le, a, rest) (suc k) d lt =
    all_allowed Allowed ends (ends g) gs rest k d (omega (arith, lt))

lines-made : (sheet : SheetParts) (stem : StemParts) (logs : List Log)
    → stem_lines sheet (record { stem = stem; logs = logs })
    ≡ stem_line stem (length logs) (cutting_worth sheet stem logs) ++ flat_map (log_line sheet stem) logs
unfolding stem_lines
lines-made sheet stem logs = refl

-- a stem's line was put, and then those of its logs
pub stem_put : (sheet : SheetParts) (stem : StemParts) (logs : List Log) (worth : ℕ) (old mid new : List ℕ)
    → IsFirstBest sheet stem logs
    → worth ≡ cutting_worth sheet stem logs
    → mid ≡ old ++ stem_line stem (length logs) worth
    → new ≡ mid ++ flat_map (log_line sheet stem) logs
    → IsPut sheet stem old new (length logs) worth
stem_put sheet stem logs worth old mid new b w p q = record {
  logs = logs;
  best = b;
  count_is = refl;
  worth_is = w;
  lines =
      q
      ∙ ap (λ l. l ++ flat_map (log_line sheet stem) logs) p
      ∙ append_assoc old (stem_line stem (length logs) worth) (flat_map (log_line sheet stem) logs)
      ∙ ap (λ n. old ++ (stem_line stem (length logs) n ++ flat_map (log_line sheet stem) logs)) w
      ∙ ap (λ l. old ++ l) (sym (lines-made sheet stem logs));
}

-- the text of no stem
pub nothing_put : (sheet : SheetParts) → AreLines sheet [] [] 0 0
nothing_put sheet =
    record {
      cuts = [];
      bucking = (refl, λ k d lt. absurd (omega (arith, lt)));
      lines = refl;
      logs_is = refl;
      worth_is =
          refl;
      logs_low = omega arith;
      worth_low = omega arith;
    }

-- what holds of an element holds of the list of it alone
all_one : {X : Type 0} (P : X → Type 0) (x : X) → P x → All P (x ∷ [])
all_one P x p zero d lt = p
all_one P x p (suc k) d lt = absurd (omega (arith, lt))

-- the lines of some stems, and then of others
pub both_put : (sheet : SheetParts) (stems more : List StemParts) (out new lines : List ℕ) (logs worth count value : ℕ)
    → AreLines sheet stems out logs worth
    → AreLines sheet more lines count value
    → new ≡ out ++ lines
    → AreLines sheet (stems ++ more) new (logs + count) (worth + value)
both_put sheet stems more out new lines logs worth count value far next is =
    let all : length (stems ++ more) ≡ length stems + length more = length-append stems more in
    record {
      cuts = far.cuts ++ next.cuts;
      bucking = (
        map-append (λ c. c.stem) far.cuts next.cuts ∙ ap (λ l. l ++ map (λ c. c.stem) next.cuts) far.bucking.0
            ∙ ap (λ l. stems ++ l) next.bucking.0,
        All-append (λ c. IsFirstBest sheet c.stem c.logs) far.cuts next.cuts far.bucking.1 next.bucking.1,
      );
      lines = is ∙ ap (λ l. l ++ lines) far.lines ∙ ap (λ l. flat_map (stem_lines sheet) far.cuts ++ l) next.lines
          ∙ sym (flat_map-append (stem_lines sheet) far.cuts next.cuts);
      logs_is = omega (arith, far.logs_is, next.logs_is, sum_by-append (λ c. length c.logs) far.cuts next.cuts);
      worth_is =
          omega (
            arith,
            far.worth_is,
            next.worth_is,
            sum_by-append (λ c. cutting_worth sheet c.stem c.logs) far.cuts next.cuts,
          );
      logs_low = omega (arith, far.logs_low, next.logs_low, all);
      worth_low = omega (arith, far.worth_low, next.worth_low, all);
    }

-- the lines of one stem
one_alone : (sheet : SheetParts) (stem : StemParts) (out new : List ℕ) (count value : ℕ)
    → (put : IsPut sheet stem out new count value)
    → count ≤ 18446744073709551616
    → value ≤ 18446744073709551616
    → AreLines sheet (stem ∷ []) (stem_lines sheet (record { stem = stem; logs = put.logs })) count value
one_alone sheet stem out new count value put low high =
    let cut : CutStem = record { stem = stem; logs = put.logs } in
    record {
      cuts = cut ∷ [];
      bucking = (refl, all_one (λ c. IsFirstBest sheet c.stem c.logs) cut put.best);
      lines = sym (append-nil (stem_lines sheet cut));
      logs_is = omega (arith, put.count_is);
      worth_is = omega (arith, put.worth_is);
      logs_low = omega (arith, low);
      worth_low = omega (arith, high);
    }

-- the lines of one stem more
pub one_put : (sheet : SheetParts) (stems : List StemParts) (stem : StemParts) (out new : List ℕ)
    (logs worth count value : ℕ)
    → AreLines sheet stems out logs worth
    → IsPut sheet stem out new count value
    → count ≤ 18446744073709551616
    → value ≤ 18446744073709551616
    → AreLines sheet (stems ++ stem ∷ []) new (logs + count) (worth + value)
one_put sheet stems stem out new logs worth count value far put low high =
    both_put sheet stems (stem ∷ []) out new _ logs worth count value far
    (one_alone sheet stem out new count value put low high) put.lines

-- the lines of stems that were cut in two runs
pub runs_put : (sheet : SheetParts) (stems : List StemParts) (at : ℕ) (out new lines : List ℕ)
    (logs worth count value : ℕ)
    → AreLines sheet (take at stems) out logs worth
    → AreLines sheet (drop at stems) lines count value
    → new ≡ out ++ lines
    → AreLines sheet stems new (logs + count) (worth + value)
runs_put sheet stems at out new lines logs worth count value far next more =
    subst (λ l. AreLines sheet l new (logs + count) (worth + value)) (take-append-drop at stems)
    (both_put sheet (take at stems) (drop at stems) out new lines logs worth count value far next more)

pub one_taken : (xs : List StemParts) (i : ℕ) (x : StemParts) → i < length xs → x ≡ get_or xs i x
    → take (i + 1) xs ≡ take i xs ++ x ∷ []
one_taken xs i x lt is = rw add-one (take-suc xs i x lt) ∙ ap (λ y. take i xs ++ y ∷ []) (sym is)

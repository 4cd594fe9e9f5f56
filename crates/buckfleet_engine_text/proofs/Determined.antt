-- The first of the best cuttings is one cutting, and so there is one text.
use Rattle.std.proofs.Common.{◌≡◌, ℕ, List, [], ◌∷◌, map, length, All, get_or, drop, refl, sym, ap, ◌∙◌, subst, arith}
use Rattle.std.proofs.lemmas.List.Elements.{All-tail}
use Rattle.buck_dp.proofs.Lists.{only_one}
use Rattle.buck_stem_shape.specs.Stem.{StemParts}
use Rattle.buck_value.specs.declared.log.Log.{Log}
use Rattle.buck_value.specs.Sheet.{SheetParts}
use Rattle.buck_dp.specs.Best.{IsFirstBest}
use Rattle.buckfleet_engine_text.specs.Bucking.{CutStem, IsTextUnder, text_of}

abbrev cut_of : StemParts → List Log → CutStem
cut_of stem logs = record { stem = stem; logs = logs }

same_cut : (sheet : SheetParts) (c d : CutStem) → c.stem ≡ d.stem → IsFirstBest sheet c.stem c.logs
    → IsFirstBest sheet d.stem d.logs → c ≡ d
same_cut sheet c d e p q =
    let f : c.logs ≡ d.logs = only_one sheet d.stem c.logs d.logs (subst (λ s. IsFirstBest sheet s c.logs) e p) q in
    let g : cut_of c.stem c.logs ≡ cut_of d.stem d.logs = cc in g

one_bucking : (sheet : SheetParts) (cs ds : List CutStem) → map (λ c. c.stem) cs ≡ map (λ d. d.stem) ds
    → All (λ c. IsFirstBest sheet c.stem c.logs) cs → All (λ c. IsFirstBest sheet c.stem c.logs) ds → cs ≡ ds
one_bucking sheet [] [] e p q = refl
one_bucking sheet [] (d ∷ ds) e p q =
    absurd (let f : 0 ≡ length (map (λ d. d.stem) (d ∷ ds)) = ap length e in omega (arith, f))
one_bucking sheet (c ∷ cs) [] e p q =
    absurd (let f : length (map (λ d. d.stem) (c ∷ cs)) ≡ 0 = ap length e in omega (arith, f))
one_bucking sheet (c ∷ cs) (d ∷ ds) e p q =
    let head : c.stem ≡ d.stem = ap (λ l. get_or l 0 c.stem) e in
    let tail : map (λ c. c.stem) cs ≡ map (λ d. d.stem) ds = ap (drop 1) e in
    let here : c ≡ d = same_cut sheet c d head (p 0 c (omega arith)) (q 0 d (omega arith)) in
    let rest : cs ≡ ds =
    one_bucking sheet cs ds tail (All-tail (λ x. IsFirstBest sheet x.stem x.logs) c cs p)
    (All-tail (λ x. IsFirstBest sheet x.stem x.logs) d ds q) in
    cc

pub one_text_under : (sheet : SheetParts) (stems : List StemParts) (a b : List ℕ) → IsTextUnder sheet stems a
    → IsTextUnder sheet stems b → a ≡ b
one_text_under sheet stems a b p q =
    let same : p.cuts ≡ q.cuts =
    one_bucking sheet p.cuts q.cuts (p.bucking.0 ∙ sym q.bucking.0) p.bucking.1 q.bucking.1 in
    p.lines ∙ ap (text_of sheet) same ∙ sym q.lines

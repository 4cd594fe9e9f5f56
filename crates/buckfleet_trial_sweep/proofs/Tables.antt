-- The lines of a table, one after the other.
use Rattle.buckfleet_trial_sweep.proofs.Words.{◌≡◌, ℕ, ◌+◌, ◌<◌, ◌*◌, List, [], ◌∷◌, ◌++◌, length, take, drop, get_or, refl, sym, ap, subst, ◌∙◌, append_assoc, append-nil, arith, take_more, Combination, AreLines}
use Rattle.std.proofs.Math.Seq.{take-add}

-- what holds of each line
pub lines_mapped : (P Q : Combination → List ℕ → Type 0) → ((c : Combination) (line : List ℕ) → P c line → Q c line)
    → (cs : List Combination) (text : List ℕ)
    → AreLines P cs text → AreLines Q cs text
lines_mapped P Q f [] text none = none
lines_mapped P Q f (c ∷ cs) text (first, rest, is, said, more) =
    (first, rest, is, f c first said, lines_mapped P Q f cs rest more)

-- the lines of some, and then of others
pub lines_both : (IsOne : Combination → List ℕ → Type 0) (cs ds : List Combination) (text more : List ℕ)
    → AreLines IsOne cs text → AreLines IsOne ds more → AreLines IsOne (cs ++ ds) (text ++ more)
lines_both IsOne [] ds text more none next = subst (λ (t : List ℕ). AreLines IsOne ds (t ++ more)) (sym none) next
lines_both IsOne (c ∷ cs) ds text more (first, rest, is, said, others) next = (
  first,
  rest ++ more,
  ap (λ (t : List ℕ). t ++ more) is ∙ append_assoc first rest more,
  said,
  lines_both IsOne cs ds rest more others next,
)

-- the line of the next one
pub lines_taken : (IsOne : Combination → List ℕ → Type 0) (cs : List Combination) (k : ℕ) (c : Combination)
    (text line new : List ℕ) → k < length cs → c ≡ get_or cs k c
    → AreLines IsOne (take k cs) text → IsOne c line → new ≡ text ++ line → AreLines IsOne (take (k + 1) cs) new
lines_taken IsOne cs k c text line new lt is so_far one e =
    rw (e, take_more cs k c lt ∙ ap (λ d. take k cs ++ d ∷ []) (sym is))
    (lines_both IsOne (take k cs) (c ∷ []) text line so_far (line, [], sym (append-nil line), one, refl))

-- of the next run of so many neighbours
pub part_put : (IsOne : Combination → List ℕ → Type 0) (cs part : List Combination) (size k : ℕ)
    (text more new : List ℕ)
    → AreLines IsOne (take (k * size) cs) text → part ≡ take size (drop (k * size) cs) → AreLines IsOne part more
    → new ≡ text ++ more
    → AreLines IsOne (take ((k + 1) * size) cs) new
part_put IsOne cs part size k text more new so_far is next e =
    let on : take ((k + 1) * size) cs ≡ take (k * size) cs ++ part =
    ap (λ (n : ℕ). take n cs) (omega arith) ∙ take-add (k * size) size cs
    ∙ ap (λ (l : List Combination). take (k * size) cs ++ l) (sym is) in
    rw (e, on) (lines_both IsOne (take (k * size) cs) part text more so_far next)

-- That the logs of a cutting are allowed, how many there can be, and that one cutting alone is the first of the best.
use Rattle.buck_dp.proofs.Words.{rules, All-cons, ◌≡◌, ◌≤◌, ◌⊎◌, inl, inr, ℕ, List, [], ◌∷◌, All, length, refl, arith, StemParts, IsStem, Log, SheetParts, IsSheet, IsAllowed, end_of, IsBefore, IsAdmissible, IsFirstBest, cutting_worth}
use Rattle.buck_dp.proofs.Words.{IsCutFrom, ◌↔◌, ap, InstructionParts, top_of, trim_in, HasNoTrim, IsAllowedUntrimmed, no_trim, without_trim, with_trim, ◌+◌, ◌*◌, sum_by-cons, stem_length, worth_of, worth_low, allowed_low}

-- an allowed log lies within its stem
pub end_within : (i : InstructionParts) (stem : StemParts) (d : Log) → (a : IsAllowed i stem d)
    → end_of i d ≤ stem_length stem.samples
end_within i stem d a = omega (arith, a.allows.within, ap trim_in a.exists)

-- what is cut from a place on is worth no more than the length behind it, and no log of it is shorter than 500 mm
pub cut_within : (sheet : SheetParts) (stem : StemParts) (from : ℕ) (gs : List Log) → IsSheet sheet
    → from ≤ stem_length stem.samples
    → IsCutFrom (IsAllowed sheet.instruction stem) (end_of sheet.instruction) from gs
    → (cutting_worth sheet stem gs + 70000000000 * from ≤ 70000000000 * stem_length stem.samples)
    × (500 * length gs + from ≤ stem_length stem.samples)
cut_within sheet stem from [] s le c = (omega arith, omega arith)
cut_within sheet stem from (g ∷ gs) s le c =
    let b = cut_within sheet stem (end_of sheet.instruction g) gs s (end_within sheet.instruction stem g c.1) c.2 in
    let low = allowed_low sheet.instruction stem g s.valid c.1 in
    (omega (arith, worth_low sheet stem g s c.1, sum_by-cons (worth_of sheet stem) g gs), omega arith)

-- logs of the same start, length and assortment are the same
pub same_log : (a b : Log) → a.start ≡ b.start → a.length ≡ b.length → a.assortment ≡ b.assortment → a ≡ b
same_log a b p q r = search rules

-- each log that is cut is allowed
pub each_allowed : (sheet : SheetParts) (stem : StemParts) (from : ℕ) (logs : List Log)
    → IsCutFrom (IsAllowed sheet.instruction stem) (end_of sheet.instruction) from logs
    → All (λ g. IsAllowed sheet.instruction stem g) logs
each_allowed sheet stem from [] c = search rules
each_allowed sheet stem from (g ∷ gs) c =
    search (rules, All-cons, (each_allowed sheet stem (end_of sheet.instruction g) gs c.2))

-- an admissible cutting is short, and of little worth
pub cut_bounded : (sheet : SheetParts) (stem : StemParts) (logs : List Log) → IsSheet sheet → IsStem stem
    → IsAdmissible sheet stem logs → (length logs ≤ 80) × (cutting_worth sheet stem logs ≤ 2800000000000000)
cut_bounded sheet stem logs s t c =
    let b = cut_within sheet stem 0 logs s (omega arith) c in
    omega arith

-- of two lists of logs one is before the other, or they are the same
order : (gs hs : List Log) → (gs ≡ hs) ⊎ (IsBefore gs hs ⊎ IsBefore hs gs)
order [] [] = inl refl
order [] (h ∷ hs) = inr (inr tt)
order (g ∷ gs) [] = inr (inl tt)
order (g ∷ gs) (h ∷ hs) = grind (arith, (same_log g h), (order gs hs))

-- not each is before the other
not_both : (gs hs : List Log) → IsBefore gs hs → IsBefore hs gs → ⊥
not_both [] hs p q = p
not_both (g ∷ gs) [] p q = q
not_both (g ∷ gs) (h ∷ hs) p q = grind (arith, (not_both gs hs))

pub only_one : (sheet : SheetParts) (stem : StemParts) (gs hs : List Log) → IsFirstBest sheet stem gs
    → IsFirstBest sheet stem hs → gs ≡ hs
only_one sheet stem gs hs a b =
    grind (arith, (order gs hs), not_both, (a.first hs b.best), (b.first gs a.best))

-- a log ends with its length
ends_same : (i : InstructionParts) (stem : StemParts) (g : Log) → HasNoTrim i → IsAllowedUntrimmed i stem g
    → end_of i g ≡ top_of g
ends_same i stem g none a = omega (arith, ap trim_in a.exists, no_trim i g.assortment a.assortment none a.exists)

-- what may be cut from a place on is the same
pub cut_same : (i : InstructionParts) (stem : StemParts) (from : ℕ) (gs : List Log) → HasNoTrim i
    → IsCutFrom (IsAllowed i stem) (end_of i) from gs ↔ IsCutFrom (IsAllowedUntrimmed i stem) top_of from gs
cut_same i stem from [] none = ((λ c. tt), (λ c. tt))
cut_same i stem from (g ∷ gs) none = (
  (λ c. (let a = without_trim i stem g c.1 in
      (c.0, a, rw (← ends_same i stem g none a) ((cut_same i stem (end_of i g) gs none).0 c.2)))),
  (λ c. (
    c.0,
    with_trim i stem g none c.1,
    rw (ends_same i stem g none c.1) ((cut_same i stem (top_of g) gs none).1 c.2),
  )),
)

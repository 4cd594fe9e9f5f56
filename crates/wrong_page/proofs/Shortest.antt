-- What a list of the classes that lack logs says.
use Rattle.std.proofs.Common.{◌≡◌, ℕ, ◌+◌, ◌*◌, ◌/◌, ◌<◌, ◌≤◌, Bool, List, [], ◌∷◌, All, length, refl, sym, ap, subst, ◌∙◌, inl, inr, arith}
use Rattle.std.specs.Prelude.{count_by, slice_get, Option, Some, None}
use Rattle.std.proofs.Math.Nat.{mul-le-mul_right}
use Rattle.std.proofs.lemmas.Bool.{cases_lt}
use Rattle.std.proofs.lemmas.Nat.{div-add-mod', le-div}
use Rattle.std.proofs.lemmas.List.Elements.{All-head}
use Rattle.buck_apt_instruction.specs.Instruction.{InstructionParts}
use Rattle.buck_page_text.specs.Words.{half_up}
use Rattle.buck_page_figures.specs.Lacking.{AreMostFirst, ComesBefore, EachOnce, IsLackOf, gap_of, names}
use Rattle.buck_page_figures.specs.declared.lack.Lack.{Lack}
use Rattle.wrong_page.specs.Wanted.{IsFirstShort}

-- what is there in two ways is the same
abbrev value_in : Lack → Option Lack → Lack
value_in x None = x
value_in x (Some y) = y

same_value : (x y : Lack) → Some x ≡ Some y → x ≡ y
same_value x y same = ap (value_in x) same

-- a class that lacks logs stands in the list
counted : (f : Lack → Bool) (found : List Lack) → count_by f found ≡ 1 → length found ≡ 0 → ⊥
counted f [] one none = omega (arith, one)
counted f (l ∷ found) one none = omega (arith, none)

pub not_left_out : (i : InstructionParts) (targets counts : List ℕ) (found : List Lack)
    → IsFirstShort i targets counts → EachOnce i targets counts found → length found ≡ 0 → ⊥
not_left_out i targets counts found first once none =
    counted (names 0 0) found (once 0 0 first.assortment first.there first.some first.short) none

-- half_up rises
parts_rise : (m n k : ℕ) → 0 < k → m ≤ n → m / k ≤ n / k
parts_rise m n k some le = le-div (m / k) n k some (omega (arith, le, div-add-mod' m k))

halves_rise : (m n k : ℕ) → 0 < k → m ≤ n → half_up m k ≤ half_up n k
halves_rise m n k some le = parts_rise (2 * m + k) (2 * n + k) (2 * k) (omega (arith, some)) (omega (arith, le))

-- what is no more so many times is no more
once_le : (m n k : ℕ) → 0 < k → m * k ≤ n * k → m ≤ n
once_le m n k some le = elim (cases_lt n m) [
  | inl lt ↦
      let more : (n + 1) * k ≤ m * k = mul-le-mul_right k (omega (arith, lt)) in
      absurd (omega (arith, some, le, more))
  | inr least ↦ least
]

gap_falls : (i : InstructionParts) (l m : Lack) → ComesBefore i l m → l.targets ≡ m.targets → gap_of m ≤ gap_of l
gap_falls i l m (inl lt) same =
    once_le (gap_of m) (gap_of l) l.targets l.some.0 (omega (arith, lt, ap (λ n. gap_of l * n) same))
gap_falls i l m (inr h) same =
    once_le (gap_of m) (gap_of l) l.targets l.some.0 (omega (arith, h.0, ap (λ n. gap_of l * n) same))

-- of two classes of as many targets the second lacks no more
pub no_more_behind : (i : InstructionParts) (found : List Lack) (l m : Lack) → AreMostFirst i found
    → slice_get found 0 ≡ Some l → slice_get found 1 ≡ Some m → l.targets ≡ m.targets
    → half_up (10 * gap_of m) m.targets ≤ half_up (10 * gap_of l) l.targets
no_more_behind i [] l m most first second same = absurd (cc)
no_more_behind i (x ∷ []) l m most first second same = absurd (cc)
no_more_behind i (x ∷ y ∷ more) l m most first second same =
    let is_l : x ≡ l = same_value x l first in
    let is_m : y ≡ m = same_value y m second in
    let before : ComesBefore i l m =
    subst (λ k. ComesBefore i k m) is_l (subst (λ k. ComesBefore i x k) is_m (most 0 x (omega arith))) in
    let le : gap_of m ≤ gap_of l = gap_falls i l m before same in
    subst (λ n. half_up (10 * gap_of m) n ≤ half_up (10 * gap_of l) l.targets) same
    (halves_rise (10 * gap_of m) (10 * gap_of l) l.targets l.some.0 (omega (arith, le)))

-- if as many logs were cut of each class as are wanted, no class lacks any
never_lacks : (i : InstructionParts) (targets without : List ℕ) (l : Lack) → IsLackOf i targets targets without l → ⊥
never_lacks i targets without l is =
    let one : l.count ≡ l.target = is.count ∙ sym is.target in
    let all : l.targets ≡ l.counts = is.all_targets ∙ sym is.all_counts in
    omega (arith, l.lacks, ap (λ n. n * l.targets) one, ap (λ n. l.target * n) all)

pub none_lacks : (i : InstructionParts) (targets counts without : List ℕ) (found : List Lack) → counts ≡ targets
    → All (IsLackOf i targets counts without) found → length found ≡ 0
none_lacks i targets counts without [] same each = refl
none_lacks i targets counts without (l ∷ found) same each =
    absurd (never_lacks i targets without l
    (subst (λ ns. IsLackOf i targets ns without l) same
    (All-head (IsLackOf i targets counts without) l found each)))

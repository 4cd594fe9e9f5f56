-- The instruction's targets are valid, and what is wanted of an assortment is read from its part of all targets.
use Rattle.buck_book_postings.proofs.Words.{◌≡◌, ℕ, zero, suc, ◌+◌, ◌<◌, ◌≤◌, List, [], ◌∷◌, All, length, take, drop, slice_index, slice_get, Some, sum, sum_by, refl, ◌∙◌, ap, arith, rules, flat_map, AllByRecursion, below_more}
use Rattle.buck_book_postings.proofs.Words.{drop-append-add, get_or-take, get_or-drop, length-take-le, length-drop, take-append-le, take_all, get_or_past, length-flat_map, All-append, All-get_or, recursion_from_All, sum_by-cons}
use Rattle.buck_book_postings.proofs.Words.{sum_by_more_le, get_or-le-sum_by, slice_get_within, get_or_from_slice_get, same_Some, none-some, InstructionParts, AssortmentParts, IsInstruction, IsAssortment, classes, classes_of}
use Rattle.buck_book_postings.proofs.Words.{classes_before, opening_targets, AreTargets, IsLowSumAt, targets_sum}

pub sum_same : (f : AssortmentParts → List ℕ) → ((a : AssortmentParts) → IsAssortment a → length (f a) ≡ classes_of a)
    → (as_ : List AssortmentParts) → AllByRecursion IsAssortment as_
    → sum_by (λ a. length (f a)) as_ ≡ sum_by classes_of as_
sum_same f one [] h = refl
sum_same f one (a ∷ as_) h = search (rules, sum_by-cons, (sum_same f one as_ h.1))

all_low : (as_ : List AssortmentParts) → AllByRecursion IsAssortment as_
    → All (λ t. t ≤ 1000000) (flat_map (λ a. a.targets) as_)
all_low [] h = λ k d lt. absurd (omega arith)
all_low (a ∷ as_) h = search (rules, All-append, (all_low as_ h.1))

-- an assortment's part of lists with a number for each class, one of each assortment
pub part_of : (f : AssortmentParts → List ℕ) → ((a : AssortmentParts) → IsAssortment a → length (f a) ≡ classes_of a)
    → (as_ : List AssortmentParts) (at : ℕ) (a : AssortmentParts) → AllByRecursion IsAssortment as_
    → slice_get as_ at ≡ Some a
    → take (classes_of a) (drop (sum_by classes_of (take at as_)) (flat_map f as_)) ≡ f a
part_of f one [] at a h e = absurd (none-some a e)
part_of f one (b ∷ as_) zero a h e = search (rules, same_Some, take-append-le, take_all)
part_of f one (b ∷ as_) (suc at) a h e =
    let before : sum_by classes_of (b ∷ take at as_) ≡ length (f b) + sum_by classes_of (take at as_) =
    search (rules, sum_by-cons) in
    search (rules, drop-append-add, (part_of f one as_ at a h.1 e))

pub valid_at : (i : InstructionParts) (at : ℕ) (a : AssortmentParts) → IsInstruction i
    → slice_get i.assortments at ≡ Some a → IsAssortment a
valid_at i at a v e =
    grind (arith, get_or_from_slice_get, All-get_or, slice_get_within, i.assortments, v.assortments_valid)

pub opening_valid : (i : InstructionParts) → IsInstruction i → AreTargets i (opening_targets i)
opening_valid i v =
    let h : AllByRecursion IsAssortment i.assortments = search (rules, recursion_from_All) in
    record {
      one_each = length-flat_map (λ a. a.targets) i.assortments
          ∙ sum_same (λ a. a.targets) (λ a w. w.targets_number) i.assortments h;
      low = λ k lt. all_low i.assortments h k 0 lt;
      low_sums = λ at lt a e. omega (arith, ap sum (part_of (λ a. a.targets) (λ a w. w.targets_number) i.assortments at a h e), (valid_at i at a v e).targets_sum);
    }

-- where an assortment's classes end
pub part_within : (i : InstructionParts) (at : ℕ) (a : AssortmentParts) → slice_get i.assortments at ≡ Some a
    → classes_before i at + classes_of a ≤ classes i
part_within i at a e =
    rw (get_or_from_slice_get i.assortments at a a e) at
    (sum_by_more_le classes_of i.assortments at a (slice_get_within i.assortments at a e))

-- a class's target is a part of what is wanted of its assortment
pub target_within : (i : InstructionParts) (at j : ℕ) (a : AssortmentParts) (ts : List ℕ) → AreTargets i ts
    → slice_get i.assortments at ≡ Some a → j < classes_of a
    → slice_index ts (classes_before i at + j) ≤ targets_sum i a at ts
target_within i at j a ts valid e lt =
    grind (arith, length-drop, part_within, length-take-le, get_or-take, get_or-drop, get_or-le-sum_by)

pub target_low : (i : InstructionParts) (k : ℕ) (ts : List ℕ) → AreTargets i ts → slice_index ts k ≤ 1000000
target_low i k ts valid = grind (arith, get_or_past)

-- one assortment more whose targets are low together
pub low_more : (i : InstructionParts) (ts : List ℕ) (at : ℕ) (a : AssortmentParts) → slice_get i.assortments at ≡ Some a
    → targets_sum i a at ts ≤ 1000000000
    → ((k : ℕ) → k < at → IsLowSumAt i ts k)
    → (k : ℕ) → k < at + 1 → IsLowSumAt i ts k
low_more i ts at a e low before = grind (arith, below_more, same_Some)

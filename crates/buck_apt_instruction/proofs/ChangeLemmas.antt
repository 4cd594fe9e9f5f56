-- A copy of an instruction with a change is within the limits too, if the numbers that are put in are.
use Rattle.std.proofs.Common.{◌≡◌, ◌∙◌, ℕ, suc, zero, ◌<◌, ◌≤◌, List, [], ◌∷◌, All, ap, arith, drop, get_or, length, map, map-id, refl, rules, sum_by, sym, take}
use Rattle.std.specs.List.{AllByRecursion}
use Rattle.std.proofs.lemmas.List.{drop-drop, length-drop, length-take-le}
use Rattle.std.proofs.lemmas.List.Elements.{All-drop, All-take, recursion_from_All}
use Rattle.std.proofs.lemmas.List.Sums.{sum_by-cons, sum_by_more_le}
use Rattle.std.proofs.lemmas.Option.{slice_get-get_or}
use Rattle.buck_record.proofs.PassLemmas.{all_within_ok}
use Rattle.buck_apt_instruction.specs.Instruction.{AssortmentParts, InstructionParts, IsAssortment, IsInstruction, IsOnModule, classes, classes_of}
use Rattle.buck_apt_instruction.specs.Changed.{each_with, with_assortments}
use Rattle.buck_apt_instruction.specs.Grades.{all_grades, grade_free, taking_all}
use Rattle.buck_apt_instruction.specs.declared.assortment.Change.{Change}
use Rattle.buck_apt_instruction.specs.declared.assortment.Change.TheVariants.{Nothing, Grades, Prices, Targets}
use Rattle.buck_apt_instruction.specs.inner.Change.{MayChange, changed}
use Rattle.buck_apt_instruction.proofs.Rising.{rising_ok}

abbrev IsValid : ℕ → AssortmentParts → Type 0
IsValid step a = IsAssortment a × IsOnModule step a

-- the numbers of the assortment at a place
abbrev part : List AssortmentParts → List ℕ → ℕ → AssortmentParts → List ℕ
part xs ns k a = take (classes_of a) (drop (sum_by classes_of (take k xs)) ns)

-- each assortment is changed by its part
each_at : (f : List ℕ → AssortmentParts → AssortmentParts) (xs : List AssortmentParts) (ns : List ℕ) (k : ℕ)
    (d : AssortmentParts) → k < length xs
    → get_or (each_with f ns xs) k d ≡ f (part xs ns k (get_or xs k d)) (get_or xs k d)
each_at f [] ns k d lt = absurd (omega arith)
each_at f (a ∷ xs) ns zero d lt = refl
each_at f (a ∷ xs) ns (suc k) d lt =
    each_at f xs (drop (classes_of a) ns) k d (omega arith)
    ∙ ap (λ left. f (take (classes_of (get_or xs k d)) left) (get_or xs k d))
    (drop-drop (sum_by classes_of (take k xs)) (classes_of a) ns
    ∙ ap (λ n. drop n ns) (sym (sum_by-cons classes_of a (take k xs))))

same_number : (f : List ℕ → AssortmentParts → AssortmentParts) (xs : List AssortmentParts) (ns : List ℕ)
    → length (each_with f ns xs) ≡ length xs
same_number f [] ns = refl
same_number f (a ∷ xs) ns = ap (λ n. suc n) (same_number f xs (drop (classes_of a) ns))

module _ (i : InstructionParts) (ns : List ℕ) (h : IsInstruction i) (k : ℕ) (d : AssortmentParts)
    (lt : k < length i.assortments) where
  -- where there is a number for each class, each part is as long as it should be
  part_long : length ns ≡ classes i
      → length (part i.assortments ns k (get_or i.assortments k d)) ≡ classes_of (get_or i.assortments k d)
  part_long one_each =
      let before = sum_by_more_le classes_of i.assortments k d lt in
      length-take-le (classes_of (get_or i.assortments k d)) _
      (omega (arith, length-drop (sum_by classes_of (take k i.assortments)) ns))

  part_all : (P : ℕ → Type 0) → All P ns → All P (part i.assortments ns k (get_or i.assortments k d))
  part_all P all = All-take P (classes_of (get_or i.assortments k d)) _ (All-drop P _ ns all)

  one_valid : (change : Change) → MayChange change i ns
      → IsValid i.«module»
      (changed change (part i.assortments ns k (get_or i.assortments k d)) (get_or i.assortments k d))
  one_valid Nothing may = (h.assortments_valid k d lt, h.on_module k d lt)
  one_valid Grades may =
      let range = all_within_ok 1 8 all_grades refl in
      let rise = rising_ok all_grades refl in
      search (rules, h.assortments_valid k d lt, h.on_module k d lt, range, rise)
  one_valid Prices may =
      let long = part_long may.one_each in
      let low = part_all (λ p. p ≤ 10000000) may.low in
      search (rules, h.assortments_valid k d lt, h.on_module k d lt, long, low)
  one_valid Targets may =
      let long = part_long may.one_each in
      let low = part_all (λ t. t ≤ 1000000) may.low in
      let sum = may.low_sums k lt (get_or i.assortments k d) (slice_get-get_or i.assortments k d lt) in
      search (rules, h.assortments_valid k d lt, h.on_module k d lt, long, low, sum)

pub changed_valid : (change : Change) (i : InstructionParts) (ns : List ℕ) → IsInstruction i → MayChange change i ns
    → IsInstruction (with_assortments i (each_with (changed change) ns i.assortments))
changed_valid change i ns h may =
    let number = same_number (changed change) i.assortments ns in
    record {
      module_range = h.module_range;
      period_range = h.period_range;
      limit_range = h.limit_range;
      assortments_number = rw number h.assortments_number;
      assortments_valid =
          λ k d lt. rw (each_at (changed change) i.assortments ns k d (omega arith))
          (one_valid i ns h k d (omega arith) change may).0;
      on_module =
          λ k d lt. rw (each_at (changed change) i.assortments ns k d (omega arith))
          (one_valid i ns h k d (omega arith) change may).1;
    }

pub each_valid : (change : Change) (i : InstructionParts) (ns : List ℕ) → IsInstruction i → MayChange change i ns
    → AllByRecursion IsAssortment (each_with (changed change) ns i.assortments)
each_valid change i ns h may = recursion_from_All IsAssortment _ (changed_valid change i ns h may).assortments_valid

-- where an assortment's own numbers don't count, it is changed by itself
by_itself : (f : AssortmentParts → AssortmentParts) (ns : List ℕ) (xs : List AssortmentParts)
    → each_with (λ own a. f a) ns xs ≡ map f xs
by_itself f ns [] = refl
by_itself f ns (a ∷ xs) = ap (λ ys. f a ∷ ys) (by_itself f (drop (classes_of a) ns) xs)

pub copied : (i : InstructionParts) (ns : List ℕ)
    → with_assortments i (each_with (changed Nothing) ns i.assortments) ≡ i
copied i ns = ap (λ xs. with_assortments i xs) (by_itself (λ a. a) ns i.assortments ∙ map-id i.assortments)

pub freed : (i : InstructionParts) (ns : List ℕ)
    → with_assortments i (each_with (changed Grades) ns i.assortments) ≡ grade_free i
freed i ns = ap (λ xs. with_assortments i xs) (by_itself taking_all ns i.assortments)

pub ruleset changes = (changed_valid, each_valid)

-- No stem is worth less if every assortment takes every grade: what may be cut with grades may be cut without them,
-- and is worth the same.
use Rattle.std.proofs.Common.{◌≡◌, ℕ, zero, suc, ◌+◌, ◌<◌, ◌≤◌, List, [], ◌∷◌, ◌++◌, Contains, map, length, take, get_or, refl, sym, subst, ap, ◌∙◌, arith}
use Rattle.std.specs.Prelude.{slice_get, slice_index, Option, Some, None, sum_by}
use Rattle.std.specs.List.{flat_map}
use Rattle.std.specs.Option.{option_map}
use Rattle.std.proofs.lemmas.Option.{get_or_from_slice_get, slice_get-map, slice_get_within, slice_get-get_or}
use Rattle.std.proofs.lemmas.List.Elements.{All-contains}
use Rattle.std.proofs.lemmas.List.Sums.{sum_by-cons}
use Rattle.buck_apt_instruction.specs.declared.class.Class.{Class}
use Rattle.buck_apt_instruction.specs.Instruction.{AssortmentParts, InstructionParts, IsAssortment, IsInstruction, IsWithin, classes_of, index_of, place_in}
use Rattle.buck_apt_instruction.specs.Grades.{all_grades, grade_free, taking_all}
use Rattle.buck_stem_shape.specs.Stem.{StemParts, HasGradesOf, grade_at}
use Rattle.buck_value.specs.declared.log.Log.{Log}
use Rattle.buck_value.specs.Sheet.{base_prices, price_of}
use Rattle.buck_value.specs.Volume.{volume, worth_at}
use Rattle.buck_value.specs.Allowed.{IsAllowed, class_in, class_of, end_of, kind_in, top_diameter, top_of, trim_in}
unfoldable use Rattle.buck_value.specs.Allowed.{worth_of}
use Rattle.buck_dp.specs.Cutting.{IsCutFrom}
use Rattle.buck_dp.specs.Best.{cutting_worth}
use Rattle.buck_book_postings.specs.declared.posting.Posting.{Posting}
use Rattle.buck_book_postings.specs.declared.posting.Posting.TheVariants.{Cut, Demand}
use Rattle.buck_page_figures.specs.Figures.{AreUnsteered, IsUnsteered, base_sheet, worth_in}
use Rattle.buck_page_figures.proofs.CostLemmas.{sums_no_more}

-- an assortment that takes every grade is the same in all else
found : (i : InstructionParts) (at : ℕ)
    → slice_get (map taking_all i.assortments) at ≡ option_map taking_all (slice_get i.assortments at)
found i at = slice_get-map taking_all i.assortments at

kind_same : (o : Option AssortmentParts) → kind_in (option_map taking_all o) ≡ kind_in o
kind_same None = refl
kind_same (Some a) = refl

trim_same : (o : Option AssortmentParts) → trim_in (option_map taking_all o) ≡ trim_in o
trim_same None = refl
trim_same (Some a) = refl

place_same : (o : Option AssortmentParts) (row column : ℕ)
    → place_in (option_map taking_all o) row column ≡ place_in o row column
place_same None row column = refl
place_same (Some a) row column = refl

class_same : (o : Option AssortmentParts) (stem : StemParts) (g : Log)
    → class_in (option_map taking_all o) stem g ≡ class_in o stem g
class_same None stem g = refl
class_same (Some a) stem g = refl

prices_same : (as_ : List AssortmentParts)
    → flat_map (λ (a : AssortmentParts). a.prices) (map taking_all as_) ≡ flat_map (λ (a : AssortmentParts). a.prices) as_
prices_same [] = refl
prices_same (a ∷ as_) = ap (λ l. a.prices ++ l) (prices_same as_)

before_same : (n : ℕ) (as_ : List AssortmentParts)
    → sum_by classes_of (take n (map taking_all as_)) ≡ sum_by classes_of (take n as_)
before_same zero as_ = refl
before_same (suc n) [] = refl
before_same (suc n) (a ∷ as_) =
    sum_by-cons classes_of (taking_all a) (take n (map taking_all as_))
    ∙ ap (λ m. classes_of a + m) (before_same n as_) ∙ sym (sum_by-cons classes_of a (take n as_))

index_same : (i : InstructionParts) (c : Class) → index_of (grade_free i) c ≡ index_of i c
index_same i c =
    let place : place_in (slice_get (map taking_all i.assortments) c.assortment) c.row c.column
    ≡ place_in (slice_get i.assortments c.assortment) c.row c.column =
    ap (λ o. place_in o c.row c.column) (found i c.assortment)
    ∙ place_same (slice_get i.assortments c.assortment) c.row c.column in
    omega (arith, place, before_same c.assortment i.assortments)

-- a log's class, and what it is worth at base prices
module _ (i : InstructionParts) (stem : StemParts) where
  class_of_same : (g : Log) → class_of (grade_free i) stem g ≡ class_of i stem g
  class_of_same g =
      ap (λ o. class_in o stem g) (found i g.assortment) ∙ class_same (slice_get i.assortments g.assortment) stem g

  worth_same : (g : Log) → worth_of (base_sheet (grade_free i)) stem g ≡ worth_of (base_sheet i) stem g
  unfolding worth_of
  worth_same g =
      let kind : kind_in (slice_get (map taking_all i.assortments) g.assortment)
      ≡ kind_in (slice_get i.assortments g.assortment) =
      ap kind_in (found i g.assortment) ∙ kind_same (slice_get i.assortments g.assortment) in
      let price : price_of (base_sheet (grade_free i)) (class_of (grade_free i) stem g)
      ≡ price_of (base_sheet i) (class_of i stem g) =
      ap (λ c. price_of (base_sheet (grade_free i)) c) (class_of_same g)
      ∙ ap (λ n. slice_index (base_prices (grade_free i)) n) (index_same i (class_of i stem g))
      ∙ ap (λ l. slice_index l (index_of i (class_of i stem g))) (prices_same i.assortments) in
      ap (λ k. worth_at k (price_of (base_sheet (grade_free i)) (class_of (grade_free i) stem g))
      (volume (top_diameter stem g) g.length)) kind
      ∙ ap (λ p. worth_at (kind_in (slice_get i.assortments g.assortment)) p (volume (top_diameter stem g) g.length))
      price

  worths_same : (logs : List Log)
      → cutting_worth (base_sheet (grade_free i)) stem logs ≡ cutting_worth (base_sheet i) stem logs
  worths_same [] = refl
  worths_same (g ∷ logs) =
      omega (
        arith,
        sum_by-cons (worth_of (base_sheet (grade_free i)) stem) g logs,
        sum_by-cons (worth_of (base_sheet i) stem) g logs,
        worth_same g,
        worths_same logs,
      )

end_same : (i : InstructionParts) (g : Log) → end_of (grade_free i) g ≡ end_of i g
end_same i g =
    ap (λ n. top_of g + n) (ap trim_in (found i g.assortment) ∙ trim_same (slice_get i.assortments g.assortment))

-- each grade is one of all
among_all : (g : ℕ) → IsWithin 1 8 g → Contains all_grades g
among_all zero h = absurd (omega (arith, h))
among_all (suc zero) h = (0, omega arith, refl)
among_all (suc (suc zero)) h = (1, omega arith, refl)
among_all (suc (suc (suc zero))) h = (2, omega arith, refl)
among_all (suc (suc (suc (suc zero)))) h = (3, omega arith, refl)
among_all (suc (suc (suc (suc (suc zero))))) h = (4, omega arith, refl)
among_all (suc (suc (suc (suc (suc (suc zero)))))) h = (5, omega arith, refl)
among_all (suc (suc (suc (suc (suc (suc (suc zero))))))) h = (6, omega arith, refl)
among_all (suc (suc (suc (suc (suc (suc (suc (suc zero)))))))) h = (7, omega arith, refl)
among_all (suc (suc (suc (suc (suc (suc (suc (suc (suc g))))))))) h = absurd (omega (arith, h))

-- what may be cut with grades may be cut without them
module _ (i : InstructionParts) (valid : IsInstruction i) (stem : StemParts) where
  grades_free : (a : AssortmentParts) → IsAssortment a → (from to : ℕ) → HasGradesOf stem.zones from to a.grades
      → HasGradesOf stem.zones from to all_grades
  grades_free a h from to has = λ x le lt.
      among_all (grade_at stem.zones x)
      (All-contains (λ g. IsWithin 1 8 g) a.grades (grade_at stem.zones x) h.grades_range (has x le lt))

  allowed_free : (g : Log) → IsAllowed i stem g → IsAllowed (grade_free i) stem g
  allowed_free g allowed =
      let a = allowed.assortment in
      let sound : IsAssortment a =
      subst (λ (b : AssortmentParts). IsAssortment b)
      (get_or_from_slice_get i.assortments g.assortment a a allowed.exists)
      (valid.assortments_valid g.assortment a (slice_get_within i.assortments g.assortment a allowed.exists)) in
      record {
        assortment = taking_all a;
        exists = found i g.assortment ∙ ap (option_map taking_all) allowed.exists;
        allows = record {
          species = allowed.allows.species;
          on_module = allowed.allows.on_module;
          length_offered = allowed.allows.length_offered;
          within = allowed.allows.within;
          grades = grades_free a sound g.start (top_of g) allowed.allows.grades;
          bought = record {
            thick_enough = allowed.allows.bought.thick_enough;
            thin_enough = allowed.allows.bought.thin_enough;
            priced = allowed.allows.bought.priced;
          };
        };
      }

  cut_free : (from : ℕ) (logs : List Log) → IsCutFrom (IsAllowed i stem) (end_of i) from logs
      → IsCutFrom (IsAllowed (grade_free i) stem) (end_of (grade_free i)) from logs
  cut_free from [] cut = tt
  cut_free from (g ∷ logs) cut = (
    cut.0,
    allowed_free g cut.1,
    subst (λ n. IsCutFrom (IsAllowed (grade_free i) stem) (end_of (grade_free i)) n logs) (sym (end_same i g))
        (cut_free (end_of i g) logs cut.2),
  )

-- of one posting
pub free_no_worse : (i : InstructionParts) → IsInstruction i → (x u v : Posting)
    → IsUnsteered i x u → IsUnsteered (grade_free i) x v
    → worth_in u ≤ worth_in v
free_no_worse i valid (Cut e) (Cut u) (Cut v) is free =
    omega (
      arith,
      free.2.best.none_outvalues u.logs (cut_free i valid e.stem 0 u.logs is.2.best.admissible),
      worths_same i e.stem u.logs,
      is.3,
      free.3,
    )
free_no_worse i valid (Demand d) (Demand u) (Demand v) is free = omega arith
free_no_worse i valid (Cut e) (Cut u) (Demand v) is free = absurd free
free_no_worse i valid (Cut e) (Demand u) v is free = absurd is
free_no_worse i valid (Demand d) (Demand u) (Cut v) is free = absurd free
free_no_worse i valid (Demand d) (Cut u) v is free = absurd is

-- of all together
pub all_free_no_worse : (i : InstructionParts) → IsInstruction i → (ps us vs : List Posting)
    → AreUnsteered i ps us → AreUnsteered (grade_free i) ps vs
    → sum_by worth_in us ≤ sum_by worth_in vs
all_free_no_worse i valid ps us vs unsteered free =
    sums_no_more worth_in worth_in us vs (free.same_number ∙ sym unsteered.same_number)
    (λ k u v at at'.
    let lt : k < length ps = omega (arith, slice_get_within us k u at, unsteered.same_number) in
    let x = get_or ps k u in
    let there : slice_get ps k ≡ Some x = slice_get-get_or ps k u lt in
    free_no_worse i valid x u v (unsteered.each k x u there at) (free.each k x v there at'))

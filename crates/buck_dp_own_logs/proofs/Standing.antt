-- A log can be cut where it stands exactly if no reason applies to it.
use Rattle.std.proofs.Common.{◌≡◌, ◌≢◌, ℕ, ◌==◌, ◌<◌, ◌≤◌, ◌↔◌, inl, inr, List, Contains, None, Some, Option, slice_get, position, refl, arith, true≢false}
use Rattle.std.proofs.lemmas.Bool.{cases_lt, cases_eq}
use Rattle.buck_apt_instruction.specs.Instruction.{InstructionParts, AssortmentParts}
use Rattle.buck_stem_shape.specs.Stem.{StemParts, HasGradesOf, grade_at}
use Rattle.buck_value.specs.declared.log.Log.{Log}
use Rattle.buck_value.specs.Allowed.{IsAllowed}
use Rattle.buck_value.proofs.Classes.{column_some, column_none}
use Rattle.buck_dp_own_logs.specs.declared.reason.Reason.{Reason}
use Rattle.buck_dp_own_logs.specs.declared.reason.Reason.TheVariants.{Order, Assortment, Species, Start, Length, End, Grade, Diameter, Price}
use Rattle.buck_dp_own_logs.specs.Reasons.{Applies, number_of, NoneBelow}
use Rattle.buck_dp_own_logs.proofs.Told.{of_it, it_has}

-- no reason applies to an allowed log that starts where it may
pub none_applies : (i : InstructionParts) (stem : StemParts) (from : ℕ) (g : Log) → from ≤ g.start → IsAllowed i stem g
    → (r : Reason) → Applies i stem from g r → ⊥
none_applies i stem from g le k Order x = omega (arith, le, x)
none_applies i stem from g le k Assortment x = true≢false (rw k.exists at x)
none_applies i stem from g le k Species x = of_it i g k.assortment _ k.exists x k.allows.species
none_applies i stem from g le k Start x = x k.allows.on_module
none_applies i stem from g le k Length x = of_it i g k.assortment _ k.exists x k.allows.length_offered
none_applies i stem from g le k End x = omega (arith, of_it i g k.assortment _ k.exists x, k.allows.within)
none_applies i stem from g le k Grade x = of_it i g k.assortment _ k.exists x k.allows.grades
none_applies i stem from g le k Diameter x = elim (of_it i g k.assortment _ k.exists x) [
  | inl thin ↦ omega (arith, thin, k.allows.bought.thick_enough)
  | inr thick ↦ omega (arith, thick, k.allows.bought.thin_enough)
]
none_applies i stem from g le k Price x = k.allows.bought.priced (of_it i g k.assortment _ k.exists x)

-- equal, or not
equal : (m n : ℕ) → (m ≢ n → ⊥) → m ≡ n
equal m n not = elim (cases_eq m n) [ inl same ↦ same | inr other ↦ absurd (not other) ]

-- an element, or not
contained : (xs : List ℕ) (x : ℕ) → ((Contains xs x → ⊥) → ⊥) → Contains xs x
contained xs x not = by_place (position (λ y. y == x) xs) refl
  where
    by_place : (o : Option ℕ) → position (λ y. y == x) xs ≡ o → Contains xs x
    by_place None e = absurd (not (column_none xs x e))
    by_place (Some k) e = (column_some xs x k e).1

graded : (zones : List (ℕ × ℕ)) (a b : ℕ) (grades : List ℕ) → ((HasGradesOf zones a b grades → ⊥) → ⊥)
    → HasGradesOf zones a b grades
graded zones a b grades not = λ x le lt. contained grades (grade_at zones x) (λ no. not (λ has. no (has x le lt)))

at_most : (m n : ℕ) → (n < m → ⊥) → m ≤ n
at_most m n not = elim (cases_lt n m) [ inl lt ↦ absurd (not lt) | inr le ↦ le ]

-- a log of an assortment that is there, to which no reason applies
of_its : (i : InstructionParts) (stem : StemParts) (from : ℕ) (g : Log) (a : AssortmentParts)
    → slice_get i.assortments g.assortment ≡ Some a → ((r : Reason) → Applies i stem from g r → ⊥)
    → IsAllowed i stem g
of_its i stem from g a there none = record {
  assortment = a;
  exists = there;
  allows = record {
    species = equal a.species stem.species (λ not. none Species (it_has i g a _ there not));
    on_module = equal _ 0 (λ not. none Start not);
    length_offered = contained a.lengths g.length (λ not. none Length (it_has i g a _ there not));
    within = at_most _ _ (λ lt. none End (it_has i g a _ there lt));
    grades = graded stem.zones _ _ a.grades (λ not. none Grade (it_has i g a _ there not));
    bought = record {
      thick_enough = at_most _ _ (λ lt. none Diameter (it_has i g a _ there (inl lt)));
      thin_enough = elim (cases_lt _ _) [
        | inl lt ↦ lt
        | inr le ↦ absurd (none Diameter (it_has i g a _ there (inr le)))
      ];
      priced = λ zero. none Price (it_has i g a _ there zero);
    };
  };
}

pub stands : (i : InstructionParts) (stem : StemParts) (from : ℕ) (g : Log)
    → ((r : Reason) → Applies i stem from g r → ⊥) → (from ≤ g.start) × IsAllowed i stem g
stands i stem from g none = (at_most from g.start (none Order), by_its (slice_get i.assortments g.assortment) refl)
  where
    by_its : (o : Option AssortmentParts) → slice_get i.assortments g.assortment ≡ o → IsAllowed i stem g
    by_its None e = absurd (none Assortment (rw e refl))
    by_its (Some a) e = of_its i stem from g a e none

number_low : (r : Reason) → number_of r < 10
number_low Order = omega arith
number_low Assortment = omega arith
number_low Species = omega arith
number_low Start = omega arith
number_low Length = omega arith
number_low End = omega arith
number_low Grade = omega arith
number_low Diameter = omega arith
number_low Price = omega arith

-- no reason below a number that none reaches
pub stands_past_all : (i : InstructionParts) (stem : StemParts) (from : ℕ) (g : Log) → NoneBelow i stem from g 10
    → (from ≤ g.start) × IsAllowed i stem g
stands_past_all i stem from g none = stands i stem from g (λ r x. none r (number_low r) x)

pub stands_exactly : (i : InstructionParts) (stem : StemParts) (from : ℕ) (g : Log)
    → ((from ≤ g.start) × IsAllowed i stem g) ↔ ((r : Reason) → Applies i stem from g r → ⊥)
stands_exactly i stem from g = ((λ k. none_applies i stem from g k.0 k.1), stands i stem from g)

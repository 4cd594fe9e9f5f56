-- Reasons in their order, one after the other.
use Rattle.std.proofs.Common.{◌≡◌, ◌≢◌, ℕ, zero, suc, ◌+◌, ◌*◌, ◌<◌, ◌≤◌, ◌↔◌, inl, inr, length, Contains, Some, slice_get, slice_index, refl, sym, ◌∙◌, ap, subst, arith}
use Rattle.std.proofs.lemmas.Bool.{cases_eq}
use Rattle.buck_apt_instruction.specs.Instruction.{InstructionParts, AssortmentParts}
use Rattle.buck_stem_shape.specs.Stem.{StemParts, IsStem, stem_length, diameter_at, HasGradesOf}
use Rattle.buck_stem_shape.specs.points.Profile.{IsMask}
use Rattle.buck_value.specs.declared.log.Log.{Log}
use Rattle.buck_value.specs.Allowed.{top_of, top_diameter, row_at, column_of}
use Rattle.buck_value.specs.Wood.{TakesWood}
use Rattle.buck_value.proofs.Grades.{mask_allows}
use Rattle.buck_dp_own_logs.specs.declared.reason.Reason.{Reason}
use Rattle.buck_dp_own_logs.specs.declared.reason.Reason.TheVariants.{Order, Assortment, Species, Start, Length, End, Grade, Diameter, Price}
use Rattle.buck_dp_own_logs.specs.Reasons.{HoldsOfIts, Applies, number_of, NoneBelow}

-- the reason of a number
reason_at : ℕ → Reason
reason_at zero = Order
reason_at (suc zero) = Order
reason_at (suc (suc zero)) = Assortment
reason_at (suc (suc (suc zero))) = Species
reason_at (suc (suc (suc (suc zero)))) = Start
reason_at (suc (suc (suc (suc (suc zero))))) = Length
reason_at (suc (suc (suc (suc (suc (suc zero)))))) = End
reason_at (suc (suc (suc (suc (suc (suc (suc zero))))))) = Grade
reason_at (suc (suc (suc (suc (suc (suc (suc (suc zero)))))))) = Diameter
reason_at (suc (suc (suc (suc (suc (suc (suc (suc (suc n))))))))) = Price

read_again : (r : Reason) → reason_at (number_of r) ≡ r
unfolding reason_at
read_again Order = refl
read_again Assortment = refl
read_again Species = refl
read_again Start = refl
read_again Length = refl
read_again End = refl
read_again Grade = refl
read_again Diameter = refl
read_again Price = refl

-- no two reasons have one number
pub same_reason : (r s : Reason) → number_of r ≡ number_of s → r ≡ s
same_reason r s e = sym (read_again r) ∙ ap reason_at e ∙ read_again s

-- one reason more that doesn't apply
pub none_more : (i : InstructionParts) (stem : StemParts) (from : ℕ) (g : Log) (r : Reason)
    → NoneBelow i stem from g (number_of r) → (Applies i stem from g r → ⊥) → NoneBelow i stem from g (number_of r + 1)
none_more i stem from g r before here = λ s lt x. elim (cases_eq (number_of s) (number_of r)) [
  | inl same ↦ here (subst (λ q. Applies i stem from g q) (same_reason s r same) x)
  | inr other ↦ before s (omega (arith, lt, other)) x
]

-- what holds of the log's assortment, if it is this one, and back
pub of_it : (i : InstructionParts) (g : Log) (a : AssortmentParts) (P : AssortmentParts → Type 0)
    → slice_get i.assortments g.assortment ≡ Some a → HoldsOfIts i g P → P a
of_it i g a P there holds = rw there at holds

pub it_has : (i : InstructionParts) (g : Log) (a : AssortmentParts) (P : AssortmentParts → Type 0)
    → slice_get i.assortments g.assortment ≡ Some a → P a → HoldsOfIts i g P
it_has i g a P there holds = rw there holds

-- what holds of a log to which the reasons of its measures don't apply, one after the other
pub past_length : (i : InstructionParts) (stem : StemParts) (from : ℕ) (g : Log) (a : AssortmentParts)
    → slice_get i.assortments g.assortment ≡ Some a → NoneBelow i stem from g 5
    → Contains a.lengths g.length → NoneBelow i stem from g 6
past_length i stem from g a there p has = none_more i stem from g Length p (λ x. of_it i g a _ there x has)

pub past_end : (i : InstructionParts) (stem : StemParts) (from : ℕ) (g : Log) (a : AssortmentParts)
    → slice_get i.assortments g.assortment ≡ Some a → NoneBelow i stem from g 5
    → Contains a.lengths g.length → top_of g + a.trim ≤ stem_length stem.samples → NoneBelow i stem from g 7
past_end i stem from g a there p has within =
    none_more i stem from g End (past_length i stem from g a there p has)
    (λ x. omega (arith, of_it i g a _ there x, within))

pub past_grade : (i : InstructionParts) (stem : StemParts) (from : ℕ) (g : Log) (a : AssortmentParts)
    → slice_get i.assortments g.assortment ≡ Some a → NoneBelow i stem from g 7
    → HasGradesOf stem.zones g.start (top_of g) a.grades → NoneBelow i stem from g 8
past_grade i stem from g a there p good = none_more i stem from g Grade p (λ x. of_it i g a _ there x good)

pub past_diameter : (i : InstructionParts) (stem : StemParts) (from : ℕ) (g : Log) (a : AssortmentParts)
    → slice_get i.assortments g.assortment ≡ Some a → NoneBelow i stem from g 8
    → slice_index a.diameters 0 ≤ top_diameter stem g → top_diameter stem g < a.upper → NoneBelow i stem from g 9
past_diameter i stem from g a there p thick thin =
    none_more i stem from g Diameter p (λ x. elim (of_it i g a _ there x) [
      | inl below ↦ omega (arith, below, thick)
      | inr above ↦ omega (arith, above, thin)
    ])

pub past_price : (i : InstructionParts) (stem : StemParts) (from : ℕ) (g : Log) (a : AssortmentParts)
    → slice_get i.assortments g.assortment ≡ Some a → NoneBelow i stem from g 9
    → slice_index a.prices (row_at a (top_diameter stem g) * length a.lengths + column_of a g.length) ≢ 0
    → NoneBelow i stem from g 10
past_price i stem from g a there p priced =
    none_more i stem from g Price p (λ x. priced (of_it i g a _ there x))

-- an assortment to which no reason before the length's applies is of the stem's species
pub its_species : (i : InstructionParts) (stem : StemParts) (from : ℕ) (g : Log) (a : AssortmentParts)
    → slice_get i.assortments g.assortment ≡ Some a → NoneBelow i stem from g 5 → a.species ≡ stem.species
its_species i stem from g a there p = elim (cases_eq a.species stem.species) [
  | inl same ↦ same
  | inr other ↦ absurd (p Species (omega arith) (it_has i g a _ there other))
]

-- whether the wood of a log is taken, by the mask of its grades
pub takes_exactly : (stem : StemParts) (g : Log) (a : AssortmentParts) (top species mask grades : ℕ) → IsStem stem
    → top ≡ top_of g → species ≡ stem.species → IsMask stem.zones g.start top mask → grades ≡ mask
    → (TakesWood a species grades
    ↔ ((a.species ≡ stem.species) × HasGradesOf stem.zones g.start (top_of g) a.grades))
takes_exactly stem g a top species mask grades v is_top is_species is same =
    let fits = mask_allows stem g.start top mask a.grades v is in
    rw (same, is_species, ← is_top) (λ takes. (takes.0, fits.0 takes.1), λ has. (has.0, fits.1 has.1))

-- the top diameter and the price by what was looked up
pub top_is : (stem : StemParts) (g : Log) (top d : ℕ) → top ≡ top_of g → d ≡ diameter_at stem.samples top
    → d ≡ top_diameter stem g
top_is stem g top d is_top is_d = is_d ∙ ap (diameter_at stem.samples) is_top

pub price_is : (stem : StemParts) (g : Log) (a : AssortmentParts) (column d row price : ℕ)
    → column_of a g.length ≡ column → d ≡ top_diameter stem g → row ≡ row_at a d
    → price ≡ slice_index a.prices (row * length a.lengths + column)
    → price ≡ slice_index a.prices (row_at a (top_diameter stem g) * length a.lengths + column_of a g.length)
price_is stem g a column d row price is_column is_d is_row is =
    is ∙ ap (λ n. slice_index a.prices (row * length a.lengths + n)) (sym is_column)
    ∙ ap (λ n. slice_index a.prices (n * length a.lengths + column_of a g.length)) (is_row ∙ ap (row_at a) is_d)

-- Which logs an assortment allows, as the code tests it, and their classes.
use Rattle.std.proofs.Common.{◌≡◌, ℕ, ◌+◌, ◌*◌, ◌/◌, ◌%◌, ◌<◌, ◌≤◌, ◌==◌, List, All, Contains, Option, Some, None, true≢false, length, get_or, slice_get, unwrap_or, position, refl, sym, ◌∙◌, ap, subst}
use Rattle.std.proofs.Common.{arith, eqb-true, eq-eqb}
use Rattle.std.proofs.lemmas.Nat.{div-add-mod'}
use Rattle.std.proofs.Math.Nat.{add-mul-mod_self_right}
use Rattle.std.proofs.lemmas.Option.{slice_get_within, get_or_from_slice_get}
use Rattle.std.proofs.lemmas.List.Quantifiers.{position-Some}
use Rattle.std.proofs.lemmas.List.Elements.{All-get_or, All-contains}
use Rattle.std.proofs.lemmas.List.Sums.{fails_before_first}
use Rattle.buck_record.proofs.TableLemmas.{place-none}
use Rattle.buck_apt_instruction.specs.Instruction.{InstructionParts, AssortmentParts, IsAssortment, IsInstruction, IsClass, IsOnModule}
use Rattle.buck_apt_instruction.specs.declared.class.Class.{Class}
use Rattle.buck_stem_shape.specs.Stem.{StemParts}
use Rattle.buck_value.specs.declared.log.Log.{Log}
use Rattle.buck_value.specs.Sheet.{SheetParts, price_of}
use Rattle.buck_value.specs.Volume.{volume, worth_at}
use Rattle.buck_value.proofs.Prices.{price-le}
use Rattle.buck_value.proofs.Rows.{row_within}
use Rattle.buck_value.proofs.Stands.{stands}
use Rattle.buck_value.specs.Allowed.{IsAllowed, worth_of, kind_in, class_in, class_of, top_diameter, column_of, top_of}

pub column_some : (xs : List ℕ) (l i : ℕ) → position (λ x. x == l) xs ≡ Some i → (i < length xs) × Contains xs l
column_some xs l i e =
    let h = position-Some (λ x. x == l) xs i l e in
    (h.0, (i, h.0, eqb-true (get_or xs i l) l h.1))

pub column_none : (xs : List ℕ) (l : ℕ) → position (λ x. x == l) xs ≡ None → Contains xs l → ⊥
column_none xs l e c =
    true≢false (sym (eq-eqb (get_or xs c.0 l) l c.2)
    ∙ fails_before_first (λ x. x == l) xs c.0 l (omega (arith, place-none (λ x. x == l) xs e, c.1)))

-- the column by its place
pub column_is : (a : AssortmentParts) (l column : ℕ) → position (λ x. x == l) a.lengths ≡ Some column
    → column_of a l ≡ column
column_is a l column at = ap (λ o. unwrap_or o 0) at

-- a length that is there has a column
pub column_there : (xs : List ℕ) (l : ℕ) → Contains xs l → (column : ℕ) × (position (λ x. x == l) xs ≡ Some column)
column_there xs l has = of (position (λ x. x == l) xs) refl
  where
    of : (o : Option ℕ) → position (λ x. x == l) xs ≡ o → (column : ℕ) × (o ≡ Some column)
    of None e = absurd (column_none xs l e has)
    of (Some column) e = (column, refl)

-- a multiple of a step, in steps
pub whole_steps : (l step : ℕ) → l % step ≡ 0 → l / step * step ≡ l
whole_steps l step on = omega (arith, div-add-mod' l step, on)

-- a log of an assortment's length from a multiple of the module on ends at one
pub ends_on : (step : ℕ) (a : AssortmentParts) (g : Log) (column : ℕ) → IsOnModule step a → g.start % step ≡ 0
    → position (λ x. x == g.length) a.lengths ≡ Some column → top_of g % step ≡ 0
ends_on step a g column lengths on at =
    let long : g.length % step ≡ 0 =
    All-contains (λ l. l % step ≡ 0) a.lengths g.length lengths (column_some a.lengths g.length column at).1 in
    ap (λ l. (g.start + l) % step) (sym (whole_steps g.length step long))
    ∙ add-mul-mod_self_right g.start (g.length / step) step
    ∙ on

-- what holds of each assortment holds of the one at a place
pub at_place : (P : AssortmentParts → Type 0) (xs : List AssortmentParts) (n : ℕ) (a : AssortmentParts) → All P xs
    → slice_get xs n ≡ Some a → P a
at_place P xs n a all is =
    subst P (get_or_from_slice_get xs n a a is) (All-get_or P xs n a (slice_get_within xs n a is) all)

-- the assortment of an allowed log is valid
pub valid_of : (i : InstructionParts) (stem : StemParts) (g : Log) → IsInstruction i → (a : IsAllowed i stem g)
    → IsAssortment a.assortment
valid_of i stem g v a = at_place IsAssortment i.assortments g.assortment a.assortment v.assortments_valid a.exists

-- the class of an allowed log is one of the instruction's
pub class_is_class : (i : InstructionParts) (stem : StemParts) (g : Log) → IsInstruction i → IsAllowed i stem g
    → IsClass i (class_of i stem g)
class_is_class i stem g v a =
    let valid : IsAssortment a.assortment = valid_of i stem g v a in
    let at = column_there a.assortment.lengths g.length a.allows.length_offered in
    subst (λ o. IsClass i (class_in o stem g)) (sym a.exists)
    (record {
      assortment = a.assortment;
      exists = a.exists;
      row = row_within a.assortment (top_diameter stem g) valid;
      column = rw at.1 (column_some a.assortment.lengths g.length at.0 at.1).0;
    })

-- the measures of an allowed log are small
pub allowed_low : (i : InstructionParts) (stem : StemParts) (g : Log) → IsInstruction i → IsAllowed i stem g
    → (500 ≤ g.length) × (g.length ≤ 30000) × (top_diameter stem g ≤ 2000)
allowed_low i stem g v a =
    let valid : IsAssortment a.assortment = valid_of i stem g v a in
    let range : (500 ≤ g.length) × (g.length ≤ 30000) =
    All-contains (λ l. (500 ≤ l) × (l ≤ 30000))
    a.assortment.lengths g.length valid.lengths_range a.allows.length_offered in
    let thin : top_diameter stem g < a.assortment.upper = a.allows.bought.thin_enough in
    (range.0, range.1, omega (arith, valid.upper_range))

-- the class of a log is of its assortment
class_assortment : (o : Option AssortmentParts) (stem : StemParts) (g : Log)
    → (class_in o stem g).assortment ≡ g.assortment
class_assortment None stem g = refl
class_assortment (Some a) stem g = refl

-- what a log is worth, by its class and its top diameter
pub worth_by_class : (s : SheetParts) (stem : StemParts) (g : Log) (class : Class) (top : ℕ)
    → class ≡ class_of s.instruction stem g → top ≡ top_diameter stem g
    → worth_at (kind_in (slice_get s.instruction.assortments class.assortment)) (price_of s class) (volume top g.length)
    ≡ worth_of s stem g
unfolding worth_of
worth_by_class s stem g class top is_class is_top =
    rw (is_class, is_top, class_assortment (slice_get s.instruction.assortments g.assortment) stem g) refl

-- what the worth of a class goes by, and that of an allowed log
pub ruleset pricing = (price-le, stands, slice_get_within)

pub ruleset valuing = (stands, slice_get_within, class_is_class, allowed_low, worth_by_class)

-- A log that is allowed, as it is shown.
use Rattle.std.proofs.Common.{◌≡◌, ◌≤◌, ◌<◌, ℕ, ◌==◌, None, Some, Contains, length, slice_get, get_or, position, sym, ap, ◌∙◌, subst, arith}
use Rattle.std.proofs.lemmas.Option.{slice_get_within, get_or_from_slice_get}
use Rattle.buck_apt_instruction.specs.declared.class.Class.{Class}
use Rattle.buck_apt_instruction.specs.Instruction.{InstructionParts, AssortmentParts, IsAssortment, IsInstruction, IsClass}
use Rattle.buck_stem_shape.specs.Stem.{StemParts}
use Rattle.buck_value.specs.declared.log.Log.{Log}
use Rattle.buck_value.specs.Sheet.{SheetParts, price_of}
use Rattle.buck_value.specs.Volume.{volume, worth_at}
use Rattle.buck_value.specs.Allowed.{IsAllowed, Allows, class_in, class_of, column_of, kind_in, top_diameter, worth_of}
use Rattle.buck_value.proofs.Classes as classes

-- the column is that of the definition
pub column_is : (a : AssortmentParts) (l column : ℕ) → position (λ x. x == l) a.lengths ≡ Some column
    → column ≡ column_of a l
column_is a l column at = sym (classes.column_is a l column at)

pub has_column : (a : AssortmentParts) (step l : ℕ) (stem : StemParts) (g : Log) → Allows step a stem g → l ≡ g.length
    → position (λ x. x == l) a.lengths ≡ None → ⊥
has_column a step l stem g allows is at =
    classes.column_none a.lengths l at (subst (λ k. Contains a.lengths k) (sym is) allows.length_offered)

-- its place is small
pub column_low : (a : AssortmentParts) (l column : ℕ) → IsAssortment a → position (λ x. x == l) a.lengths ≡ Some column
    → column < 32
column_low a l column valid at = omega (arith, valid.columns, (classes.column_some a.lengths l column at).0)

-- the assortment of an allowed log, by its place
pub its_place : (i : InstructionParts) (stem : StemParts) (g : Log) → IsAllowed i stem g
    → g.assortment < length i.assortments
its_place i stem g k = slice_get_within i.assortments g.assortment k.assortment k.exists

same_assortment : (i : InstructionParts) (stem : StemParts) (g : Log) (a d : AssortmentParts) → (k : IsAllowed i stem g)
    → a ≡ get_or i.assortments g.assortment d → a ≡ k.assortment
same_assortment i stem g a d k is = is ∙ get_or_from_slice_get i.assortments g.assortment k.assortment d k.exists

pub is_there : (i : InstructionParts) (stem : StemParts) (g : Log) (a d : AssortmentParts) → IsAllowed i stem g
    → a ≡ get_or i.assortments g.assortment d → slice_get i.assortments g.assortment ≡ Some a
is_there i stem g a d k is = k.exists ∙ ap (λ b. Some b) (sym (same_assortment i stem g a d k is))

pub it_allows : (i : InstructionParts) (stem : StemParts) (g : Log) (a d : AssortmentParts) → IsAllowed i stem g
    → a ≡ get_or i.assortments g.assortment d → Allows i.«module» a stem g
it_allows i stem g a d k is = subst (λ b. Allows i.«module» b stem g) (sym (same_assortment i stem g a d k is)) k.allows

-- its class
pub class_is : (i : InstructionParts) (stem : StemParts) (g : Log) (a : AssortmentParts) (class : Class)
    → slice_get i.assortments g.assortment ≡ Some a → class ≡ class_in (Some a) stem g → class ≡ class_of i stem g
class_is i stem g a class there is = is ∙ ap (λ o. class_in o stem g) (sym there)

pub is_class : (i : InstructionParts) (stem : StemParts) (g : Log) (a : AssortmentParts) (class : Class)
    → IsInstruction i
    → slice_get i.assortments g.assortment ≡ Some a → Allows i.«module» a stem g → class ≡ class_in (Some a) stem g
    → IsClass i class
is_class i stem g a class valid there allows is =
    subst (λ c. IsClass i c) (sym (class_is i stem g a class there is))
    (classes.class_is_class i stem g valid (record { assortment = a; exists = there; allows = allows }))

-- its measures are small
pub low : (i : InstructionParts) (stem : StemParts) (g : Log) (a : AssortmentParts) → IsInstruction i
    → slice_get i.assortments g.assortment ≡ Some a → Allows i.«module» a stem g
    → (g.length ≤ 30000) × (top_diameter stem g ≤ 2000)
low i stem g a valid there allows =
    let k = classes.allowed_low i stem g valid (record { assortment = a; exists = there; allows = allows }) in
    (k.1, k.2)

-- what it is worth
pub worth_is : (s : SheetParts) (stem : StemParts) (g : Log) (a : AssortmentParts) (class : Class)
    (kind price top cubic : ℕ)
    → slice_get s.instruction.assortments g.assortment ≡ Some a → class ≡ class_of s.instruction stem g
    → kind ≡ a.price_kind
    → price ≡ price_of s class → top ≡ top_diameter stem g → cubic ≡ volume top g.length
    → worth_at kind price cubic ≡ worth_of s stem g
unfolding worth_of
worth_is s stem g a class kind price top cubic there is_class is_kind is_price is_top is_cubic =
    let c = class_of s.instruction stem g in
    let d = top_diameter stem g in
    ap (λ k. worth_at k price cubic) is_kind
    ∙ ap (λ p. worth_at a.price_kind p cubic) (is_price ∙ ap (λ k. price_of s k) is_class)
    ∙ ap (λ v. worth_at a.price_kind (price_of s c) v) (is_cubic ∙ ap (λ t. volume t g.length) is_top)
    ∙ ap (λ o. worth_at (kind_in o) (price_of s c) (volume d g.length)) (sym there)

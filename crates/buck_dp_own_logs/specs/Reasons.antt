-- Why a log can't be cut where it stands: nine reasons, and which of them is reported.
use Rattle.std.specs.Prelude.{◌≡◌, ◌≢◌, ℕ, ◌+◌, ◌*◌, ◌%◌, ◌<◌, ◌≤◌, ◌⊎◌, List, length, Contains, slice_get, slice_index, IsNone, IsSomeAnd, codes}
use Rattle.buck_apt_instruction.specs.Instruction.{InstructionParts, AssortmentParts}
use Rattle.buck_stem_shape.specs.Stem.{StemParts, stem_length, HasGradesOf}
use Rattle.buck_value.specs.declared.log.Log.{Log}
use Rattle.buck_value.specs.Allowed.{top_of, top_diameter, row_at, column_of}
use Rattle.buck_dp_own_logs.specs.declared.reason.Reason.{Reason}
use Rattle.buck_dp_own_logs.specs.declared.reason.Reason.TheVariants.{Order, Assortment, Species, Start, Length, End, Grade, Diameter, Price}

-- the log's assortment is there, and this holds of it
abbrev pub HoldsOfIts : InstructionParts → Log → (AssortmentParts → Type 0) → Type 0
HoldsOfIts i g P = IsSomeAnd (slice_get i.assortments g.assortment) P

-- a reason applies to a log of a stem that was cut up to a place in mm
abbrev pub Applies : InstructionParts → StemParts → ℕ → Log → Reason → Type 0
Applies i stem from g Order = g.start < from
Applies i stem from g Assortment = IsNone (slice_get i.assortments g.assortment)
Applies i stem from g Species = HoldsOfIts i g (λ a. a.species ≢ stem.species)
Applies i stem from g Start = g.start % i.«module» ≢ 0
Applies i stem from g Length = HoldsOfIts i g (λ a. Contains a.lengths g.length → ⊥)
Applies i stem from g End = HoldsOfIts i g (λ a. stem_length stem.samples < top_of g + a.trim)
Applies i stem from g Grade = HoldsOfIts i g (λ a. HasGradesOf stem.zones g.start (top_of g) a.grades → ⊥)
Applies i stem from g Diameter =
    HoldsOfIts i g (λ a. (top_diameter stem g < slice_index a.diameters 0) ⊎ (a.upper ≤ top_diameter stem g))
Applies i stem from g Price =
    HoldsOfIts i g (λ a.
    slice_index a.prices (row_at a (top_diameter stem g) * length a.lengths + column_of a g.length) ≡ 0)

-- a reason's place among all, counted from 1: the order in which they are reported
abbrev pub number_of : Reason → ℕ
number_of Order = 1
number_of Assortment = 2
number_of Species = 3
number_of Start = 4
number_of Length = 5
number_of End = 6
number_of Grade = 7
number_of Diameter = 8
number_of Price = 9

-- no reason below a number applies
abbrev pub NoneBelow : InstructionParts → StemParts → ℕ → Log → ℕ → Type 0
NoneBelow i stem from g n = (s : Reason) → number_of s < n → Applies i stem from g s → ⊥

-- the first reason that applies
pub record IsTold (i : InstructionParts) (stem : StemParts) (from : ℕ) (g : Log) (r : Reason) : Type 0 where
  pub applies : Applies i stem from g r
  pub none_before : NoneBelow i stem from g (number_of r)

-- a reason's word
abbrev pub reason_name : Reason → List ℕ
reason_name Order = codes "order"
reason_name Assortment = codes "assortment"
reason_name Species = codes "species"
reason_name Start = codes "start"
reason_name Length = codes "length"
reason_name End = codes "end"
reason_name Grade = codes "grade"
reason_name Diameter = codes "diameter"
reason_name Price = codes "price"

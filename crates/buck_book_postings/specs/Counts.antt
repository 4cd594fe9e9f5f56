-- What was cut, counted over a whole list of postings. A demand cuts nothing.
use Rattle.std.specs.Prelude.{ℕ, ◌≡◌, ◌==◌, ◌&&◌, Bool, List, length, sum_by, count_by, slice_index}
use Rattle.buck_apt_instruction.specs.declared.class.Class.{Class}
use Rattle.buck_apt_instruction.specs.Instruction.{InstructionParts, IsClass, classes, index_of}
use Rattle.buck_value.specs.declared.log.Log.{Log}
use Rattle.buck_value.specs.Allowed.{class_of}
use Rattle.buck_stem_shape.specs.Stem.{StemParts}
use Rattle.buck_book_postings.specs.declared.posting.Posting.{Posting}
use Rattle.buck_book_postings.specs.declared.posting.Posting.TheVariants.{Cut, Demand}
use Rattle.buck_book_postings.specs.Posting.{harvester_of}

-- two classes are one
abbrev pub is_class : Class → Class → Bool
is_class c d = (c.assortment == d.assortment) && (c.row == d.row) && (c.column == d.column)

-- how many logs of a stem's cutting are of a class
abbrev pub class_logs : InstructionParts → Class → StemParts → List Log → ℕ
class_logs i c stem logs = count_by (λ g. is_class c (class_of i stem g)) logs

-- how many logs of a cutting are of an assortment
abbrev pub assortment_logs : ℕ → List Log → ℕ
assortment_logs a logs = count_by (λ g. g.assortment == a) logs

abbrev pub class_logs_in : InstructionParts → Class → Posting → ℕ
class_logs_in i c (Cut e) = class_logs i c e.stem e.logs
class_logs_in i c (Demand d) = 0

abbrev pub assortment_logs_in : ℕ → Posting → ℕ
assortment_logs_in a (Cut e) = assortment_logs a e.logs
assortment_logs_in a (Demand d) = 0

-- the class count: how many logs of the cuttings are of a class
abbrev pub count_of : InstructionParts → Class → List Posting → ℕ
count_of i c ps = sum_by (λ x. class_logs_in i c x) ps

-- a list of the class counts, one for each class
pub record AreClassCounts (i : InstructionParts) (ps : List Posting) (counts : List ℕ) : Type 0 where
  pub one_each : length counts ≡ classes i
  pub each : (c : Class) → IsClass i c → slice_index counts (index_of i c) ≡ count_of i c ps

-- the assortment's count: how many logs of the cuttings are of an assortment
abbrev pub assortment_count_of : ℕ → List Posting → ℕ
assortment_count_of a ps = sum_by (λ x. assortment_logs_in a x) ps

-- how many postings are a harvester's
abbrev pub calls_of : ℕ → List Posting → ℕ
calls_of h ps = count_by (λ x. harvester_of x == h) ps

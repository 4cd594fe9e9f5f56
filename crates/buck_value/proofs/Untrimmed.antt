-- If each trim is 0, a log is allowed as if there were none.
use Rattle.std.proofs.Common.{◌≡◌, ◌+◌, ◌≤◌, ℕ, slice_get, Some, arith, rules}
use Rattle.buck_apt_instruction.specs.Instruction.{InstructionParts, AssortmentParts}
use Rattle.buck_stem_shape.specs.Stem.{StemParts, stem_length}
use Rattle.buck_value.specs.declared.log.Log.{Log}
use Rattle.buck_value.specs.Allowed.{IsAllowed, top_of}
use Rattle.buck_value.proofs.Classes.{at_place}
use Rattle.buck_value.specs.Untrimmed.{HasNoTrim, IsAllowedUntrimmed}

-- the trim of an assortment
pub no_trim : (i : InstructionParts) (at : ℕ) (a : AssortmentParts) → HasNoTrim i → slice_get i.assortments at ≡ Some a
    → a.trim ≡ 0
no_trim i at a none is = at_place (λ x. x.trim ≡ 0) i.assortments at a none is

pub without_trim : (i : InstructionParts) (stem : StemParts) (g : Log) → IsAllowed i stem g
    → IsAllowedUntrimmed i stem g
without_trim i stem g a =
    let le : top_of g ≤ stem_length stem.samples = (let le = a.allows.within in omega arith) in
    record { assortment = a.assortment; exists = a.exists; allows = search (rules, a.allows, le) }

pub with_trim : (i : InstructionParts) (stem : StemParts) (g : Log) → HasNoTrim i → IsAllowedUntrimmed i stem g
    → IsAllowed i stem g
with_trim i stem g none a =
    let le : top_of g + a.assortment.trim ≤ stem_length stem.samples = (let le = a.allows.within in
    omega (arith, no_trim i g.assortment a.assortment none a.exists)) in
    record { assortment = a.assortment; exists = a.exists; allows = search (rules, a.allows, le) }

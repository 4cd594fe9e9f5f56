use Rattle.std.proofs.Common.{◌≡◌, ◌≤◌, ℕ, List, length, Option, None, Some, slice_get, refl, ap, arith}
use Rattle.std.proofs.lemmas.Option.{slice_get_read}
use Rattle.std.specs.Prelude.{IfNone}
use Rattle.std.proofs.lemmas.Grind.{common_steps}
use Rattle.buck_apt_instruction.specs.Instruction.{InstructionParts, AssortmentParts}
use Rattle.buck_stem_shape.specs.Stem.{StemParts}
use Rattle.buck_value.specs.declared.log.Log.{Log}
use Rattle.buck_value.specs.Allowed.{IsAllowed}
use Rattle.buck_dp_own_logs.specs.declared.reason.Reason.{Reason}
use Rattle.buck_dp_own_logs.specs.Reasons.{NoneBelow}
use Rattle.buck_dp_own_logs.specs.inner.Measured.{HoldsMeasured}
use Rattle.buck_dp_own_logs.proofs.judging.reason_of.Goals as goal

-- of this instruction and this place
held_none : (o : Option Reason) (i : InstructionParts) (a : AssortmentParts) (stem : StemParts) (from : ℕ) (g : Log)
    → slice_get i.assortments g.assortment ≡ Some a → NoneBelow i stem from g 5
    → IfNone o (HoldsMeasured a stem g (λ i from. (from ≤ g.start) × IsAllowed i stem g))
    → IfNone o ((from ≤ g.start) × IsAllowed i stem g)
held_none None i a stem from g there passed holds = holds i from there passed
held_none (Some r) i a stem from g there passed holds = tt

pub returns-clause-none : goal.returns-clause-none
returns-clause-none c =
    let all = c.args.instruction.now.assortments in let at = c.args.log.now.assortment in
    let items : c.assortments-all.result.now ≡ all = c.assortments-all.ensures.items in
    let there : slice_get all at ≡ Some c.index-all-place.result =
    slice_get_read all (length all) at c.index-all-place.result refl
    (omega (arith, c.if-place-all.false, ap (λ (xs : List AssortmentParts). length xs) items))
    (rw items at c.index-all-place.is) in
    held_none c.reason_measured.result c.args.instruction.now c.index-all-place.result c.args.stem.now c.args.from
    c.args.log.now there (λ s lt x. grind (arith, common_steps)) c.reason_measured.ensures.none

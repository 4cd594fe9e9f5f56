use Rattle.buck_dp.proofs.Words.{◌≡◌, ◌+◌, ◌≤◌, ap, arith, slice_get_within, stands, trim_in, InstructionParts, StemParts, IsStem, Log, IsAllowed, end_of}
use Rattle.buck_dp.proofs.Lists.{end_within}
use Rattle.buck_dp.proofs.ends.end_of.Goals as goal

-- an allowed log ends at most 40 metres from the butt
end_low : (i : InstructionParts) (stem : StemParts) (g : Log) → IsStem stem → IsAllowed i stem g → end_of i g ≤ 40000
end_low i stem g sound allowed = omega (arith, end_within i stem g allowed)

pub overflow_add-result : goal.overflow_add-result
overflow_add-result c = omega (arith, end_low _ _ _ c.requires.stem c.requires.allowed)

pub bounds-all-log : goal.bounds-all-log
bounds-all-log c =
    let all = rw (c.deref.ensures, c.instruction.ensures.instruction) at c.assortments-all.ensures.items in
    rw all (slice_get_within _ c.args.log.now.assortment _ c.requires.allowed.exists)

-- it is where the log ends
value : (c : goal.After-trim)
    → c.args.log.now.start + c.args.log.now.length + c.trim.result ≡ end_of c.args.sheet.now.instruction c.args.log.now
value c =
    let all = rw (c.deref.ensures, c.instruction.ensures.instruction) at c.assortments-all.ensures.items in
    let lt = slice_get_within _ c.args.log.now.assortment _ c.requires.allowed.exists in
    omega (arith, c.trim.ensures.trim, ap trim_in (stands c.args.sheet.now.instruction _ _ _ all lt c.index-all-log.is))

pub overflow_add-result-2 : goal.overflow_add-result-2
overflow_add-result-2 c = omega (arith, value c, end_low _ _ _ c.requires.stem c.requires.allowed)

pub returns-clause-value : goal.returns-clause-value
returns-clause-value c = value c

pub returns-clause-within : goal.returns-clause-within
returns-clause-within c = rw (value c) (end_low _ _ _ c.requires.stem c.requires.allowed)

use Rattle.std.proofs.Common.{◌≡◌, get_or, sym, ap, ◌∙◌, subst, sum_by, arith, rules}
use Rattle.std.proofs.lemmas.List.{take_all}
use Rattle.std.proofs.lemmas.List.Sums.{sum_by_more}
use Rattle.buck_apt_instruction.specs.Instruction.{InstructionParts}
use Rattle.buck_value.specs.declared.log.Log.{Log}
use Rattle.buck_value.specs.Allowed.{IsAllowed, end_of, worth_of}
use Rattle.buck_value.proofs.Rates.{worth_low}
use Rattle.buck_dp_own_logs.proofs.Listed.{admissible_exactly, cut_to_more, none_more, none_past}
use Rattle.buck_dp_own_logs.proofs.judging.judge.Goals as goal

pub loop-k-preserved : goal.loop-k-preserved
loop-k-preserved c =
    let sheet = c.args.sheet.now in let stem = c.args.stem.now in let logs = c.args.logs.now in
    let k = c.loop-k.k in let first : Log = record { start = 0; length = 0; assortment = 0 } in
    let log : Log = get_or logs k first in
    let is : c.deref.result.now ≡ sheet.instruction =
    c.deref.ensures ∙ c.instruction-instruction.ensures.instruction in
    let ends : c.deref-in-None.result.now ≡ sheet.instruction =
    c.deref-in-None.ensures ∙ c.instruction-instruction.ensures.instruction in
    record {
      from = c.end_of-from.ensures.value ∙ ap (λ (i : InstructionParts). end_of i log) ends
          ∙ sym (cut_to_more sheet.instruction logs k first c.loop-k-test.true);
      low = c.end_of-from.ensures.within;
      none = none_more sheet.instruction stem logs k c.loop-k.from first c.loop-k-test.true c.loop-k.invariant.from (
        c.in-None.ensures.none.0,
        subst (λ (i : InstructionParts). IsAllowed i stem log) is c.in-None.ensures.none.1,
      )
          c.loop-k.invariant.none;
      worth = rw (c.loop-k.invariant.worth, c.log_worth-worth.ensures.worth)
          (sym (sum_by_more (worth_of sheet stem) logs k first c.loop-k-test.true));
      few = search (rules, worth_low);
    }

pub returns : goal.returns
returns c =
    let sheet = c.args.sheet.now in let stem = c.args.stem.now in let logs = c.args.logs.now in (
      (admissible_exactly sheet stem logs).1 (none_past sheet.instruction stem logs
          (λ j s lt. c.loop-k.invariant.none j s (omega (arith, lt, c.loop-k-test.false)))),
      c.loop-k.invariant.worth
          ∙ ap (λ gs. sum_by (worth_of sheet stem) gs) (take_all c.loop-k.k logs c.loop-k-test.false),
    )

use Rattle.std.proofs.Common.{◌∙◌, sym, arith}
use Rattle.std.proofs.lemmas.List.{take_rest, drop_all, nil_from_length}
use Rattle.buck_record.proofs.NumberLemmas.{digit_read, word_read, other_read, large_read}
use Rattle.buck_record.proofs.bytes.digits.cut_number.Goals as goal

pub returns-then-is_past-clause-value : goal.returns-then-is_past-clause-value
returns-then-is_past-clause-value c =
    sym (large_read _ _ _ _ c.loop-rest-2.invariant.read c.in-len1-up.len_at_least
    (sym c.if-is_ascii_digit.ensures.value) (omega (arith, c.if-is_past.ensures.past, c.from-digit.ensures)))

pub returns-then-is_white-clause-value : goal.returns-then-is_white-clause-value
returns-then-is_white-clause-value c =
    sym (word_read _ _ _ _ c.loop-rest-2.invariant.read c.requires c.loop-rest-2.invariant.small
    (λ _. sym c.if-is_white.ensures)).0

pub returns-then-is_white-clause-after : goal.returns-then-is_white-clause-after
returns-then-is_white-clause-after c =
    take_rest c.loop-rest-2.rest.now 1
    ∙ sym (word_read _ _ _ _ c.loop-rest-2.invariant.read c.requires c.loop-rest-2.invariant.small
    (λ _. sym c.if-is_white.ensures)).1

pub returns-else-is_white-clause-value : goal.returns-else-is_white-clause-value
returns-else-is_white-clause-value c =
    sym (other_read _ _ _ _ c.loop-rest-2.invariant.read c.in-len1-up.len_at_least
    (sym c.if-is_ascii_digit.ensures.value) (sym c.if-is_white.ensures))

pub loop-rest-2-preserved : goal.loop-rest-2-preserved
loop-rest-2-preserved c = record {
  read = rw (take_rest c.loop-rest-2.rest.now 1, c.from-digit.ensures)
      (digit_read c.args.most _ _ _ c.loop-rest-2.invariant.read c.in-len1-up.len_at_least
      (sym c.if-is_ascii_digit.ensures.value));
  small = omega (arith, c.if-is_past.ensures.within);
}

pub returns-clause-value : goal.returns-clause-value
returns-clause-value c =
    sym (word_read _ _ _ _ c.loop-rest-2.invariant.read c.requires c.loop-rest-2.invariant.small
    (λ some. absurd (omega (arith, some, c.in_default-rest.len_below)))).0

pub returns-clause-after : goal.returns-clause-after
returns-clause-after c =
    nil_from_length c.loop-rest-2.rest.now (omega (arith, c.in_default-rest.len_below))
    ∙ sym (drop_all 1 c.loop-rest-2.rest.now (omega (arith, c.in_default-rest.len_below)))
    ∙ sym (word_read _ _ _ _ c.loop-rest-2.invariant.read c.requires c.loop-rest-2.invariant.small
    (λ some. absurd (omega (arith, some, c.in_default-rest.len_below)))).1

use Rattle.std.proofs.Common.{◌∙◌, ◌<◌, ◌++◌, [], codes, length, arith}
use Rattle.std.proofs.lemmas.Grind.{common_steps}
use Rattle.buck_record.specs.writing.Written.{spelled}
use Rattle.buck_record.specs.writing.Line.{line_of}
use Rattle.buckfleet_engine_files.proofs.WrittenLemmas.{stopped, then_written, told}
use Rattle.buckfleet_terms_files.proofs.telling.write_line.Goals as goal

pub returns-in_err-write_text : goal.returns-in_err-write_text
returns-in_err-write_text g c =
    let found = c.as_slice-numbers.result.now in
    let filled : 0 < length found = grind (arith, common_steps, c.is_empty.ensures, c.if-is_empty.false) in
    told _ _ c.args.kind.now [] _ found _ (c.as_slice-numbers.ensures ∙ c.numbers-numbers.ensures) filled
    (stopped _ _ c.args.kind.now (line_of (codes " fault") found) _ _ c.from_residual.ensures.1
    c.in_err-write_text.ensures)

pub returns-in_err-write_text-2 : goal.returns-in_err-write_text-2
returns-in_err-write_text-2 g c =
    let found = c.as_slice-numbers.result.now in
    let filled : 0 < length found = grind (arith, common_steps, c.is_empty.ensures, c.if-is_empty.false) in
    told _ _ c.args.kind.now [] _ found _ (c.as_slice-numbers.ensures ∙ c.numbers-numbers.ensures) filled
    (then_written _ _ _ c.args.kind.now (line_of (codes " fault") found) _ c.in_ok-write_text.ensures
    (stopped _ _ (codes " fault") (spelled found ++ codes "\n") _ _ c.from_residual-in_err-write_text-2.ensures.1
    c.in_err-write_text-2.ensures))

pub returns-in_err-write_numbers : goal.returns-in_err-write_numbers
returns-in_err-write_numbers g c =
    let found = c.as_slice-numbers.result.now in
    let filled : 0 < length found = grind (arith, common_steps, c.is_empty.ensures, c.if-is_empty.false) in
    told _ _ c.args.kind.now [] _ found _ (c.as_slice-numbers.ensures ∙ c.numbers-numbers.ensures) filled
    (then_written _ _ _ c.args.kind.now (line_of (codes " fault") found) _ c.in_ok-write_text.ensures
    (then_written _ _ _ (codes " fault") (spelled found ++ codes "\n") _ c.in_ok-write_text-2.ensures
    (stopped _ _ (spelled found) (codes "\n") _ _ c.from_residual-in_err-write_numbers.ensures.1
    c.in_err-write_numbers.ensures)))

pub returns : goal.returns
returns g c =
    let found = c.as_slice-numbers.result.now in
    let filled : 0 < length found = grind (arith, common_steps, c.is_empty.ensures, c.if-is_empty.false) in
    told _ _ c.args.kind.now [] _ found _ (c.as_slice-numbers.ensures ∙ c.numbers-numbers.ensures) filled
    (then_written _ _ _ c.args.kind.now (line_of (codes " fault") found) _ c.in_ok-write_text.ensures
    (then_written _ _ _ (codes " fault") (spelled found ++ codes "\n") _ c.in_ok-write_text-2.ensures
    (then_written _ _ _ (spelled found) (codes "\n") _ c.in_ok-write_numbers.ensures c.write_text-4.ensures)))

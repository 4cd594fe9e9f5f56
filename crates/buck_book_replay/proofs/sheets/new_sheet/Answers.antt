use Rattle.buck_book_replay.proofs.Words.{map, ◌∙◌, subst, IsInstruction, prices_at}
use Rattle.buck_value.specs.Sheet.{IsSheetFault}
use Rattle.buck_book_replay.proofs.Replays.{is_sheet}
use Rattle.buck_book_replay.proofs.sheets.new_sheet.Goals as goal

pub returns-in-Err-clause-none : goal.returns-in-Err-clause-none
returns-in-Err-clause-none c priced =
    let i = c.args.instruction.now.value in
    let prices = prices_at (map (λ v. v.items) c.args.sheets.now) c.args.version in
    let valid : IsInstruction i = subst IsInstruction c.deref.ensures c.limit-valid.ensures.valid in
    let wrong : IsSheetFault i c.in_ok-prices.prices.items c.in-Err.field-0 =
    subst (λ j. IsSheetFault j c.in_ok-prices.prices.items c.in-Err.field-0)
    c.in_ok-clone.ensures.cases c.in-Err.ensures.refused in
    is_sheet i priced.1.0 prices c.in-Err.field-0 valid priced.1.1
    (subst (λ ps. IsSheetFault i ps c.in-Err.field-0) (c.in_ok-prices.ensures.items ∙ c.in-Some.ensures.prices) wrong)

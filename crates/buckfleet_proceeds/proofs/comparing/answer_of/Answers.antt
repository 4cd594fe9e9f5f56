use Rattle.std.proofs.Common.{map}
use Rattle.buckfleet_proceeds.proofs.Answered.{compared_so, first_stops, second_stops}
use Rattle.buckfleet_proceeds.proofs.Both.{says_two}
use Rattle.buckfleet_proceeds.proofs.comparing.answer_of.Goals as goal

pub returns-in_err-check_one : goal.returns-in_err-check_one
returns-in_err-check_one g c =
    let held = g.R.Read.remaining in
    let apt = held c.args.apt.now in
    let files = c.args.journals.now in
    let i = c.in_ok-several.several.instruction.value in
    let js = c.in_ok-several.several.journals.items in
    let one = c.index-one.result.now in
    let other = c.index-other.result.now in
    let says =
    says_two held c.own.result apt files i js one other c.own.ensures c.in_ok-several.ensures.instruction
    c.in_ok-several.ensures.journals c.requires.two c.in_ok-several.ensures.few c.index-one.ensures
    c.index-other.ensures in
    first_stops c.args.task.now apt (map held files) i c.in_ok-first.first.value one other c.in_err-check_one.field-0.0
    c.from_residual-in_err-check_one.result c.from_residual-in_err-check_one.ensures.1 says c.in_ok-first.ensures
    c.in_err-check_one.ensures.refused

pub returns-in_err-check_one-2 : goal.returns-in_err-check_one-2
returns-in_err-check_one-2 g c =
    let held = g.R.Read.remaining in
    let apt = held c.args.apt.now in
    let files = c.args.journals.now in
    let i = c.in_ok-several.several.instruction.value in
    let js = c.in_ok-several.several.journals.items in
    let one = c.index-one.result.now in
    let other = c.index-other.result.now in
    let says =
    says_two held c.own.result apt files i js one other c.own.ensures c.in_ok-several.ensures.instruction
    c.in_ok-several.ensures.journals c.requires.two c.in_ok-several.ensures.few c.index-one.ensures
    c.index-other.ensures in
    second_stops c.args.task.now apt (map held files) i c.in_ok-first.first.value c.in_ok-second.second.value one other
    c.in_err-check_one-2.field-0.0 c.from_residual-in_err-check_one-2.result
    c.from_residual-in_err-check_one-2.ensures.1 says c.in_ok-first.ensures c.in_ok-second.ensures
    c.in_ok-check_one.ensures.lawful c.in_err-check_one-2.ensures.refused

pub returns : goal.returns
returns g c =
    let held = g.R.Read.remaining in
    let apt = held c.args.apt.now in
    let files = c.args.journals.now in
    let i = c.in_ok-several.several.instruction.value in
    let js = c.in_ok-several.several.journals.items in
    let one = c.index-one.result.now in
    let other = c.index-other.result.now in
    let says =
    says_two held c.own.result apt files i js one other c.own.ensures c.in_ok-several.ensures.instruction
    c.in_ok-several.ensures.journals c.requires.two c.in_ok-several.ensures.few c.index-one.ensures
    c.index-other.ensures in
    compared_so c.args.task.now apt (map held files) i c.in_ok-first.first.value c.in_ok-second.second.value one other
    c.in_ok-text_of.field-0.items says c.in_ok-first.ensures c.in_ok-second.ensures c.in_ok-check_one.ensures.lawful
    c.in_ok-check_one-2.ensures.lawful

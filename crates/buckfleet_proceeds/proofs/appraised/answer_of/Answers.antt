use Rattle.std.proofs.Common.{◌≡◌, map, subst, rules}
use Rattle.buck_apt_instruction.specs.Instruction.{InstructionParts}
use Rattle.buckfleet_engine_files.specs.Several.{HaveJournals, IsSeveralFault}
use Rattle.buckfleet_terms_files.specs.Own.{HasShapeOf}
use Rattle.buckfleet_proceeds.proofs.Answered.{appraised_so, files_stop, replay_stops}
use Rattle.buckfleet_proceeds.proofs.appraised.answer_of.Goals as goal

pub returns-in_err-several : goal.returns-in_err-several
returns-in_err-several g c =
    let held = g.R.Read.remaining in
    let files = c.args.files in
    let e = c.in_err-several.field-0.0 in
    files_stop c.args.settings.now (held files.apt) (map held files.journals.items) (held files.own.0, files.own.1) e
    c.from_residual.result c.from_residual.ensures.1
    (subst (λ (l : _). IsSeveralFault (held files.apt) (map held l) e) c.as_mut_slice-journals.ensures.value
    c.in_err-several.ensures.refused)

pub returns-in_err-check_lawful : goal.returns-in_err-check_lawful
returns-in_err-check_lawful g c =
    let held = g.R.Read.remaining in
    let files = c.args.files in
    let i = c.in_ok-several.several.instruction.value in
    let shown : c.deref.result.now ≡ i = search rules in
    let js = c.in_ok-several.several.journals.items in
    replay_stops c.args.settings.now (held files.apt) (map held files.journals.items) (held files.own.0, files.own.1)
    i js c.in_err-check_lawful.field-0.0
    c.from_residual-in_err-check_lawful.result c.from_residual-in_err-check_lawful.ensures.1
    c.in_ok-several.ensures.instruction
    (subst (λ (l : _). HaveJournals (map held l) js) c.as_mut_slice-journals.ensures.value
    c.in_ok-several.ensures.journals)
    c.in_ok-several.ensures.few (
      c.in_ok-own.own,
      c.in_ok-own.ensures.ok,
      subst (λ (t : InstructionParts). HasShapeOf t c.in_ok-own.own) shown c.in_ok-own.ensures.shape,
    )
    c.in_err-check_lawful.ensures.refused

pub returns : goal.returns
returns g c =
    let held = g.R.Read.remaining in
    let files = c.args.files in
    let i = c.in_ok-several.several.instruction.value in
    let shown : c.deref.result.now ≡ i = search rules in
    let js = c.in_ok-several.several.journals.items in
    appraised_so c.args.settings.now (held files.apt) (map held files.journals.items) (held files.own.0, files.own.1)
    i c.in_ok-own.own js c.in_ok-text_of.field-0.items
    c.in_ok-several.ensures.instruction
    (subst (λ (l : _). HaveJournals (map held l) js) c.as_mut_slice-journals.ensures.value
    c.in_ok-several.ensures.journals)
    c.in_ok-several.ensures.few c.in_ok-own.ensures.ok
    (subst (λ (t : InstructionParts). HasShapeOf t c.in_ok-own.own) shown c.in_ok-own.ensures.shape)
    c.in_ok-check_lawful.ensures.lawful c.in_ok-text_of.ensures

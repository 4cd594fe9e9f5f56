use Rattle.std.proofs.Common.{◌∙◌, ap, length, rules}
use Rattle.buckfleet_terms_files.specs.Targets.{AreFitting}
use Rattle.buckfleet_terms_files.proofs.Fitting.{one_each}
use Rattle.buckfleet_terms_files.proofs.Lists.{refused_for}
use Rattle.buckfleet_terms_files.proofs.wanted.targets_in.Goals as goal

pub returns-in_err-lists-clause-refused : goal.returns-in_err-lists-clause-refused
returns-in_err-lists-clause-refused c =
    refused_for c.args.instruction.now c.args.bytes.now _ _ c.from_residual.ensures.1 c.in_err-lists.ensures

pub check_all-requires : goal.check_all-requires
check_all-requires c =
    let fits : AreFitting c.as_slice-lists.result.now c.args.instruction.now.assortments = search rules in
    ap length (c.as_slice.ensures.value ∙ c.in_ok-targets.ensures.ok)
    ∙ one_each c.as_slice-lists.result.now c.args.instruction.now.assortments fits

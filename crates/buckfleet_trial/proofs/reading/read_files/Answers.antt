use Rattle.std.proofs.Common.{◌≡◌, Some, map, rules}
use Rattle.buckfleet_trial.specs.Inputs.{held_with}
use Rattle.buckfleet_trial.proofs.ReadLemmas.{read_few, read_says, stems_fault, targets_refused}
use Rattle.buckfleet_trial.proofs.reading.read_files.Goals as goal

pub returns-in_err-input-clause-refused : goal.returns-in_err-input-clause-refused
returns-in_err-input-clause-refused g c =
    stems_fault g.R.Read.remaining (g.R.Read.remaining c.args.files.apt) c.as_mut_slice.result.now
    c.args.files.stms.items (held_with g.R.Read.remaining c.args.files.targets) c.read_stems.result _
    c.from_residual.result c.as_mut_slice.ensures.value c.in_err-input.ensures c.read_stems.ensures.seats
    c.read_stems.ensures.refused
    c.read_stems.ensures.full c.from_residual.ensures.1

pub returns-clause-refused : goal.returns-clause-refused
returns-clause-refused g c =
    let there : c.args.files.targets ≡ Some (c.in-Some.reader, c.in-Some.file) = search rules in
    targets_refused g.R.Read.remaining (g.R.Read.remaining c.args.files.apt) c.as_mut_slice.result.now
    c.args.files.stms.items c.args.files.targets c.in-Some.reader c.in-Some.file c.in_ok-input.input.instruction
    c.in_ok-input.input.lists.items c.read_moved.result there c.as_mut_slice.ensures.value
    (read_says (g.R.Read.remaining c.args.files.apt) (map g.R.Read.remaining c.as_mut_slice.result.now)
    c.read_stems.result c.in_ok-input.input c.in_ok-input.ensures c.read_stems.ensures.says)
    (read_few c.read_stems.result c.in_ok-input.input c.in_ok-input.ensures c.read_stems.ensures.room)
    c.read_moved.ensures.refused

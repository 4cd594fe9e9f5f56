use Rattle.std.proofs.Common.{◌≡◌, rules}
use Rattle.buck_dp.proofs.Lists.{each_allowed}
use Rattle.buck_page_figures.proofs.cuts.cut_under.Goals as goal

pub pieces_of-requires-clause-allowed : goal.pieces_of-requires-clause-allowed
pieces_of-requires-clause-allowed c =
    let sheet : c.deref-2.result.now ≡ c.args.planner.now = search rules in
    let stem : c.deref-3.result.now ≡ c.args.entry.now.stem = search rules in
    let logs : c.as_slice.result.now ≡ c.args.entry.now.logs = search rules in
    rw (sheet, stem, logs)
    (each_allowed c.args.planner.now c.args.entry.now.stem 0 c.args.entry.now.logs c.requires.admissible)

use Rattle.std.proofs.Common.{◌≡◌, ◌*◌, length}
use Rattle.std.specs.Prelude.{slice_get, Some}
use Rattle.buck_apt_instruction.specs.Instruction.{AssortmentParts}
use Rattle.buck_book_postings.proofs.Degrees.{stands}
use Rattle.buck_page_figures.proofs.RowLemmas.{length-part}
use Rattle.buck_page_figures.proofs.degrees.degrees_at.Goals as goal
use Rattle.buck_page_figures.proofs.degrees.degrees_at.Goals.{After-part}

there : (c : After-part) → slice_get c.args.instruction.now.assortments c.args.at ≡ Some c.index-assortments-at.result
there c =
    stands c.assortments.result.now c.args.instruction.now.assortments c.args.at c.index-assortments-at.result
    c.assortments.ensures.items c.requires.exists c.index-assortments-at.is

long : (c : After-part) → length c.part.result.now ≡ length c.diameters-rows.result.now * length c.lengths-columns.result.now
long c =
    let i = c.args.instruction.now in
    let a : AssortmentParts = c.index-assortments-at.result in
    rw (c.diameters-rows.ensures.limits, c.lengths-columns.ensures.lengths, c.part.ensures.part a (there c) c.requires.targets)
    (length-part i c.args.at a c.args.targets.now (there c) c.requires.targets)

pub diameter_degree-requires-clause-long : goal.diameter_degree-requires-clause-long
diameter_degree-requires-clause-long c = long (goal.at.diameter_degree-requires-clause-long c).After-part

pub length_degree-requires-clause-long : goal.length_degree-requires-clause-long
length_degree-requires-clause-long c = long (goal.at.length_degree-requires-clause-long c).After-part

pub returns : goal.returns
returns c =
    let a : AssortmentParts = c.index-assortments-at.result in
    let p = (goal.at.returns c).After-part in
    let ts = c.part.ensures.part a (there p) c.requires.targets in
    let ns = c.part-2.ensures.part a (there p) c.requires.counts in
    record {
      assortment = a;
      exists = there p;
      degrees = record {
        whole = rw (← ts, ← ns) c.degree.ensures.degree;
        diameter = rw (← ts, ← ns, ← c.diameters-rows.ensures.limits, ← c.lengths-columns.ensures.lengths)
            c.diameter_degree.ensures;
        length = rw (← ts, ← ns, ← c.diameters-rows.ensures.limits, ← c.lengths-columns.ensures.lengths)
            c.length_degree.ensures;
      };
    }

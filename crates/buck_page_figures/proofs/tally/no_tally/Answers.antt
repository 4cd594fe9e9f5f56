use Rattle.buck_page_figures.proofs.TallyLemmas.{tally_none, none_high}
use Rattle.buck_apt_instruction.specs.Instruction.{classes}
use Rattle.buck_page_figures.proofs.tally.no_tally.Goals as goal

pub returns-clause-tally : goal.returns-clause-tally
returns-clause-tally c =
    tally_none c.args.base.now.instruction
    (record {
      total = c.none.result;
      owns = c.no_owns.result;
      counts = c.in_ok-no_counts.field-0;
      unsteered =
          c.in_ok-no_counts-2.field-0;
    })
    (c.none.ensures c.args.base.now.instruction) c.no_owns.ensures c.in_ok-no_counts.ensures c.in_ok-no_counts-2.ensures

pub returns-clause-low : goal.returns-clause-low
returns-clause-low c = (
  none_high (classes c.args.base.now.instruction) c.in_ok-no_counts.field-0.items c.in_ok-no_counts.ensures,
  none_high (classes c.args.base.now.instruction) c.in_ok-no_counts-2.field-0.items c.in_ok-no_counts-2.ensures,
)

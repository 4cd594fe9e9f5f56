use Rattle.buckfleet_trial_sweep.proofs.Words.{rules, ◌≡◌, sym}
use Rattle.buckfleet_trial_sweep.proofs.Histories.{is_line}
use Rattle.buckfleet_trial_sweep.proofs.figures.line_of.Goals as goal

pub returns : goal.returns
returns c =
    let lent : c.deref.result.now ≡ c.args.instruction.now.value = search rules in
    rw (sym lent)
    (is_line c.args.rule c.deref.result.now c.args.journal.now c.in_ok-figures.figures c.in_ok-degrees.degrees.items
    c.least_of.result c.put_line.new.out.items (rw c.from_ref.ensures.value at c.in_ok-figures.ensures.figures)
    (search rules) (search rules) (search rules))

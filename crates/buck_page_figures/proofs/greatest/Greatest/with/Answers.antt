use Rattle.std.proofs.Common.{arith}
use Rattle.buck_page_figures.proofs.GreatestLemmas.{not_greater}
use Rattle.buck_page_figures.proofs.greatest.Greatest.with.Goals as goal

pub returns-else-size-self : goal.returns-else-size-self
returns-else-size-self c = λ ns number old.
    let still =
    not_greater ns c.args.size c.args.self.at c.args.self.size old.first old.size
    (omega (arith, c.if-size-self.false)) in
    record { first = still.0; size = still.1 }

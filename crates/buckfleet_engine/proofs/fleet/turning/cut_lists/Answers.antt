use Rattle.std.proofs.Common.{sym, subst}
use Rattle.buck_book_postings.specs.History.{HistoryParts}
use Rattle.buck_book_postings.specs.Pricing.{AreSheetsBy}
use Rattle.buckfleet_engine.proofs.fleet.turning.cut_lists.Goals as goal

pub returns-in-Ok-clause-given : goal.returns-in-Ok-clause-given
returns-in-Ok-clause-given g c =
    subst (λ (h : HistoryParts). AreSheetsBy g.F.Fn c.args.rule h) (sym c.into_parts.ensures.history) c.in-Ok.ensures.given

use Rattle.std.proofs.Common.{◌≡◌, length, ap, arith, rules}
use Rattle.buck_page_figures.proofs.JournalLemmas.{before_next, entries_there}
use Rattle.buck_page_figures.proofs.places.place_of.Goals as goal

pub loop-journal-preserved : goal.loop-journal-preserved
loop-journal-preserved c =
    let js = c.args.figures.now.journals.now in
    let k = c.loop-journal.journal in
    let read = c.index-journals-journal.result in
    let size : c.len-here.result ≡ length read.entries = search rules in
    omega (
      arith,
      size,
      before_next js k c.loop-journal-test.true,
      ap length (entries_there js k read c.loop-journal-test.true c.index-journals-journal.is),
      c.if-at-here.false,
      c.loop-journal.invariant,
    )

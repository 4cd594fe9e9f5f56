use Rattle.std.proofs.Common.{length, ap, arith}
use Rattle.buck_book_journal.specs.Journal.{JournalParts}
use Rattle.buckfleet_engine_files.proofs.SeveralLemmas.{postings_more}
use Rattle.buckfleet_engine_files.proofs.several.are_few.Goals as goal

pub loop-journal-preserved : goal.loop-journal-preserved
loop-journal-preserved c =
    let k = c.loop-journal.journal-index in
    let j = c.journal-item.result in
    let more = postings_more c.args.journals.now k j c.loop-journal-test.true c.journal-item.is in
    let few = c.requires.few k j c.loop-journal-test.true in
    let here = ap (λ (x : JournalParts). length x.entries) c.journal-item.is in
    let shown = ap (λ (x : JournalParts). length x.entries) c.journal.view_is in
    record {
      all = omega (arith, more, shown, c.loop-journal.invariant.all, c.len-number.ensures);
      few = omega (arith, few, here, shown, c.loop-journal.invariant.few, c.len-number.ensures);
    }

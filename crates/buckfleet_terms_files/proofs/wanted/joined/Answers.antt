use Rattle.buckfleet_terms_files.proofs.Fitting.{concat_more}
use Rattle.buckfleet_terms_files.proofs.wanted.joined.Goals as goal

pub loop-list-preserved : goal.loop-list-preserved
loop-list-preserved c =
    let more = concat_more c.args.lists.now c.loop-list.list-index c.list-item.result c.loop-list-test.true in
    let taken = c.in_ok-extend_from_slice.ensures.items in
    cc (more, taken)

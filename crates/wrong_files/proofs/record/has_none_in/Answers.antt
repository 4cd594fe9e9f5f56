use Rattle.std.proofs.Common.{Ok, ap}
use Rattle.buck_record.specs.bytes.Record.{items_of}
use Rattle.wrong_files.proofs.record.has_none_in.Goals as goal

pub returns : goal.returns
unfolding items_of
returns c = λ _.
    let none = rw c.in-None.is at c.in-Ok.ensures.done in
    rw (none.1 1) (ap (λ items. Ok items) none.2)

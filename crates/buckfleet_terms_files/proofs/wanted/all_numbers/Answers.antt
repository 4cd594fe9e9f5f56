use Rattle.buckfleet_terms_files.proofs.Lists.{all_are, all_stop, passed}
use Rattle.buckfleet_terms_files.proofs.wanted.all_numbers.Goals as goal

pub returns-in_err-lists : goal.returns-in_err-lists
returns-in_err-lists c =
    passed _ _ _ _ c.from_residual.ensures.1
    (λ other. all_stop c.args.bytes.now _ (c.in_err-lists.ensures other))

pub returns : goal.returns
returns c =
    all_are c.args.bytes.now c.in_ok-lists.lists.items _ c.in_ok-lists.ensures
    (rw c.as_slice.ensures.value at c.joined.ensures.ok) c.joined.ensures.refused

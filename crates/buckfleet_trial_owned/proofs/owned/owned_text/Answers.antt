use Rattle.std.proofs.Common.{◌<◌, ◌+◌, ◌++◌, ◌∙◌, length, drop, take, ap, arith, subst, sym}
use Rattle.std.specs.Prelude.{codes, not}
use Rattle.buckfleet_trial_sweep.specs.Runs.{IsRunLine}
use Rattle.buckfleet_trial_owned.specs.Owned.{IsOwnTail}
use Rattle.buckfleet_trial.specs.Lines.{AreDrawnFor, columns_of}
use Rattle.buckfleet_trial_owned.specs.inner.Owned.{IsPutOwned, own_columns}
use Rattle.buckfleet_trial.proofs.Each.{zip_length}
use Rattle.buckfleet_trial.proofs.Lined.{columns_are, head_ends, rest_enough, rest_more}
use Rattle.buckfleet_trial_owned.proofs.Owning.{last_are, owned_more, owned_whole}
use Rattle.buckfleet_trial_owned.proofs.owned.owned_text.Goals as goal

pub split_at-requires : goal.split_at-requires
split_at-requires c =
    rest_enough c.args.input.now.instruction c.args.input.now.lists.items c.args.combinations.now c.args.starts.now
    c.args.owned.best c.loop-k.k c.loop-k.rest.now (omega arith) c.loop-k.invariant.rest

pub bounds-lines-k : goal.bounds-lines-k
bounds-lines-k c =
    let long = zip_length (λ x line. IsRunLine c.args.input.now.instruction c.args.input.now.lists.items x line.items)
    c.args.combinations.now c.args.owned.lines.now c.requires.lines in
    omega (arith, long)

pub bounds-tails-k : goal.bounds-tails-k
bounds-tails-k c =
    let long = zip_length (λ x tail. IsOwnTail c.args.own.now c.args.input.now.instruction
    c.args.input.now.lists.items c.args.starts.now x tail.items) c.args.combinations.now c.args.owned.tails.now
    c.requires.tails in
    omega (arith, long)

pub loop-k-preserved : goal.loop-k-preserved
loop-k-preserved c =
    let lt : c.loop-k.k < length c.args.combinations.now = omega arith in
    record {
      put =
          owned_more c.args.own.now c.args.input.now.instruction c.args.input.now.lists.items c.args.combinations.now
          c.args.starts.now c.args.owned.best c.loop-k.k c.args.owned.lines.now c.args.owned.tails.now
          c.loop-k.rest.now c.index-lines-k.result c.index-tails-k.result c.put_columns.new.out.items
          c.loop-k.out.items c.put_owned.new.out.items lt c.requires.lines c.index-lines-k.is c.requires.tails
          c.index-tails-k.is c.loop-k.invariant.rest c.loop-k.invariant.put
          (subst (λ t. IsPutOwned c.args.owned.best c.index-lines-k.result.items (take (length c.args.starts.now) c.loop-k.rest.now) t c.loop-k.out.items
          c.put_owned.new.out.items) c.as_slice-tail.ensures.value
          (subst (λ d. IsPutOwned c.args.owned.best c.index-lines-k.result.items d c.as_slice-tail.result.now c.loop-k.out.items
          c.put_owned.new.out.items) c.split_at.ensures.front
          (subst (λ l. IsPutOwned c.args.owned.best l c.split_at.result.0.now c.as_slice-tail.result.now c.loop-k.out.items
          c.put_owned.new.out.items) c.as_slice-line.ensures.value c.in_ok-put_owned.ensures)));
      rest =
          subst (λ d. AreDrawnFor c.args.input.now.instruction c.args.input.now.lists.items
          (drop (c.loop-k.k + 1) c.args.combinations.now) c.args.starts.now d) (sym c.split_at.ensures.back)
          (rest_more c.args.input.now.instruction c.args.input.now.lists.items c.args.combinations.now
          c.args.starts.now c.args.owned.best c.loop-k.k c.loop-k.rest.now lt c.loop-k.invariant.rest);
    }

pub returns : goal.returns
returns c =
    let ends = head_ends c.args.input.now.instruction in
    let columns = columns_of (not c.is_empty.result) in
    let last = own_columns (not c.is_empty.result) in
    owned_whole c.args.own.now c.args.input.now.instruction c.args.input.now.lists.items c.args.combinations.now
    c.args.starts.now c.args.owned.best c.loop-k.k ends.0 c.put_columns.new.out.items columns last
    c.loop-k.out.items (omega arith) ends.1
    (c.in_ok-put_columns.ensures ends.0 ends.1
    ∙ ap (λ l. l ++ ((ends.0 ++ columns) ++ (last ++ codes "\n"))) c.new-out.ensures.items)
    (columns_are c.args.starts.now c.is_empty.result c.is_empty.ensures)
    (last_are c.args.starts.now c.is_empty.result c.is_empty.ensures) c.requires.best c.loop-k.invariant.put

use Rattle.std.proofs.Common.{◌<◌, ◌+◌, ◌++◌, ◌∙◌, length, drop, ap, arith, subst, sym}
use Rattle.std.specs.Prelude.{codes, not}
use Rattle.buckfleet_trial_sweep.specs.Runs.{IsRunLine}
use Rattle.buckfleet_trial.specs.Lines.{AreDrawnFor, IsPut, columns_of}
use Rattle.buckfleet_trial.proofs.Each.{zip_length}
use Rattle.buckfleet_trial.proofs.Lined.{columns_are, head_ends, line_more, rest_enough, rest_more, whole_text}
use Rattle.buckfleet_trial.proofs.trial.text_of.Goals as goal

pub split_at-requires : goal.split_at-requires
split_at-requires c =
    rest_enough c.args.input.now.instruction c.args.input.now.lists.items c.args.combinations.now c.args.starts.now
    c.args.made.best c.loop-k.k c.loop-k.rest.now (omega arith) c.loop-k.invariant.rest

pub bounds-made-k : goal.bounds-made-k
bounds-made-k c =
    let long = zip_length (λ x line. IsRunLine c.args.input.now.instruction c.args.input.now.lists.items x line.items)
    c.args.combinations.now c.args.made.lines.now c.requires.lines in
    omega (arith, long)

pub loop-k-preserved : goal.loop-k-preserved
loop-k-preserved c =
    let lt : c.loop-k.k < length c.args.combinations.now = omega arith in
    record {
      put =
          line_more c.args.input.now.instruction c.args.input.now.lists.items c.args.combinations.now
          c.args.starts.now c.args.made.best c.loop-k.k c.args.made.lines.now c.loop-k.rest.now c.index-made-k.result
          c.put_first.new.out.items c.loop-k.out.items c.put_line.new.out.items lt c.requires.lines c.index-made-k.is
          c.loop-k.invariant.rest c.loop-k.invariant.put
          (subst (λ d. IsPut c.args.made.best c.index-made-k.result.items d c.loop-k.out.items c.put_line.new.out.items)
          c.split_at.ensures.front
          (subst (λ v. IsPut c.args.made.best v.items c.split_at.result.0.now c.loop-k.out.items
          c.put_line.new.out.items) (sym c.index-made-k.is)
          (subst (λ l. IsPut c.args.made.best l c.split_at.result.0.now c.loop-k.out.items c.put_line.new.out.items)
          c.as_slice.ensures.value c.in_ok-put_line.ensures)));
      rest =
          subst (λ d. AreDrawnFor c.args.input.now.instruction c.args.input.now.lists.items
          (drop (c.loop-k.k + 1) c.args.combinations.now) c.args.starts.now d) (sym c.split_at.ensures.back)
          (rest_more c.args.input.now.instruction c.args.input.now.lists.items c.args.combinations.now
          c.args.starts.now c.args.made.best c.loop-k.k c.loop-k.rest.now lt c.loop-k.invariant.rest);
    }

pub returns : goal.returns
returns c =
    let ends = head_ends c.args.input.now.instruction in
    let columns = columns_of (not c.is_empty.result) in
    whole_text c.args.input.now.instruction c.args.input.now.lists.items c.args.combinations.now c.args.starts.now
    c.args.made.best c.loop-k.k ends.0 c.put_first.new.out.items columns c.loop-k.out.items (omega arith) ends.1
    (c.in_ok-put_first.ensures ends.0 ends.1
    ∙ ap (λ l. l ++ (ends.0 ++ (columns ++ codes "\n"))) c.new-out.ensures.items)
    (columns_are c.args.starts.now c.is_empty.result c.is_empty.ensures) c.requires.best
    c.loop-k.invariant.put

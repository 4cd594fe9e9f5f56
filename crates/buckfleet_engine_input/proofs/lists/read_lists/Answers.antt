use Rattle.std.proofs.Common.{rules, ◌<◌, ◌∙◌, ℕ, List, Option, Ok, length, arith, subst, length-set}
use Rattle.std.proofs.lemmas.List.{length-map}
use Rattle.buck_stem.specs.Stm.{stm_of}
use Rattle.buck_book_postings.specs.Replies.{stems_of}
use Rattle.buckfleet_engine_files.specs.Reading.{Says}
use Rattle.buckfleet_engine_input.proofs.ListLemmas.{lists_more, memory_at, refused_at}
use Rattle.buckfleet_engine_files.proofs.Lists.{same_place, same_rest}
use Rattle.buckfleet_engine_input.proofs.lists.read_lists.Goals as goal

pub returns-in-Err-clause-refused : goal.returns-in-Err-clause-refused
returns-in-Err-clause-refused g c =
    let inv = c.loop-k.invariant in
    let lt : c.loop-k.k < length c.args.stms.now = omega (arith, c.loop-k-test.true, inv.same_number) in
    refused_at c.loop-k.k _ _ _ _ _ (omega (arith, lt, length-map c.args.stms.now g.R.Read.remaining)) inv.made
    (same_place g.R.Read.remaining _ _ c.loop-k.k _ lt inv.rest) c.in-Err.ensures.refused (omega arith)

pub returns-in_err-push-in-Ok-clause-refused : goal.returns-in_err-push-in-Ok-clause-refused
returns-in_err-push-in-Ok-clause-refused g c =
    let inv = c.loop-k.invariant in
    let lt : c.loop-k.k < length c.args.stms.now = omega (arith, c.loop-k-test.true, inv.same_number) in
    memory_at c.loop-k.k _ _ _ (omega (arith, lt, length-map c.args.stms.now g.R.Read.remaining)) inv.made
    (search rules)

pub loop-k-preserved : goal.loop-k-preserved
loop-k-preserved g c =
    let inv = c.loop-k.invariant in
    let lt : c.loop-k.k < length c.args.stms.now = omega (arith, c.loop-k-test.true, inv.same_number) in
    let same = same_place g.R.Read.remaining _ _ c.loop-k.k _ lt inv.rest in
    record {
      number = search rules;
      same_number = length-set c.loop-k.stms c.loop-k.k c.stems_of_file.new.reader ∙ inv.same_number;
      rest = same_rest _ _ c.loop-k.k _ inv.rest;
      made = lists_more c.loop-k.k _ c.loop-k.lists.items c.push.new.self.items c.in-Ok.list inv.number (search rules)
          inv.made (subst (λ (o : Option (List ℕ)). Says stm_of o (Ok (stems_of c.in-Ok.list.items)))
          same c.in-Ok.ensures.ok);
    }

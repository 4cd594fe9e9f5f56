use Rattle.std.proofs.Common.{rules, ◌≡◌, ◌+◌, ◌-◌, ◌<◌, ◌∙◌, ℕ, List, Option, Ok, drop, length, arith, subst, set, length-set}
use Rattle.std.proofs.lemmas.List.{length-map}
use Rattle.buck_stem.specs.Stm.{stm_of}
use Rattle.buckfleet_engine_files.specs.Reading.{Says}
use Rattle.buckfleet_engine_files.proofs.Lists.{same_place, same_rest}
use Rattle.buckfleet_engine_cross_check.proofs.TieAnswers.{file_lost, file_refused, files_more, stopped_at}
use Rattle.buckfleet_engine_cross_check.proofs.lists.read_files.Goals as goal

pub returns-in-Err-clause-refused : goal.returns-in-Err-clause-refused
returns-in-Err-clause-refused g c =
    let inv = c.loop-k.invariant in
    let lt : c.loop-k.k < length c.args.stms.now = omega (arith, c.loop-k-test.true, inv.same_number) in
    file_refused c.loop-k.k _ _ _ _ _ (omega (arith, lt, length-map c.args.stms.now g.R.Read.remaining)) inv.made
    (same_place g.R.Read.remaining _ _ c.loop-k.k _ lt inv.rest) c.in-Err.ensures.refused (omega arith)

pub returns-in-Err-clause-order : goal.returns-in-Err-clause-order
returns-in-Err-clause-order g c =
    let k = c.loop-k.k in
    let now = set c.loop-k.stms k c.read_stems.new.stm in
    let back : k + 2 - 1 ≡ k + 1 = omega arith in
    stopped_at (λ last. drop (last - 1) now ≡ drop (last - 1) c.args.stms.now) (k + 2)
    _ c.in-Err.fault c.in-Err.ensures.refused
    (rw back (same_rest c.loop-k.stms c.args.stms.now k c.read_stems.new.stm c.loop-k.invariant.rest))

pub returns-in_err-push-in-Ok-clause-refused : goal.returns-in_err-push-in-Ok-clause-refused
returns-in_err-push-in-Ok-clause-refused g c =
    let inv = c.loop-k.invariant in
    let lt : c.loop-k.k < length c.args.stms.now = omega (arith, c.loop-k-test.true, inv.same_number) in
    file_lost c.loop-k.k _ _ _ (omega (arith, lt, length-map c.args.stms.now g.R.Read.remaining)) inv.made
    (search rules)

pub loop-k-preserved : goal.loop-k-preserved
loop-k-preserved g c =
    let inv = c.loop-k.invariant in
    let lt : c.loop-k.k < length c.args.stms.now = omega (arith, c.loop-k-test.true, inv.same_number) in
    let same = same_place g.R.Read.remaining _ _ c.loop-k.k _ lt inv.rest in
    record {
      number = search rules;
      same_number = length-set c.loop-k.stms c.loop-k.k c.read_stems.new.stm ∙ inv.same_number;
      rest = same_rest _ _ c.loop-k.k _ inv.rest;
      made = files_more c.loop-k.k _ c.loop-k.files.items c.push.new.self.items c.in-Ok.stems inv.number (search rules)
          inv.made (subst (λ (o : Option (List ℕ)). Says stm_of o (Ok c.in-Ok.stems.items)) same c.in-Ok.ensures.ok);
    }

use Rattle.std.proofs.Common.{rules, ◌≡◌, ◌<◌, ◌≤◌, ◌++◌, ◌∷◌, ◌∙◌, [], ℕ, List, Option, Ok, length, map, arith, subst, sym, length-set}
use Rattle.std.proofs.lemmas.List.{length-map}
use Rattle.std.proofs.lemmas.List.Elements.{All-push, All-same}
use Rattle.buck_book_postings.specs.declared.posting.TheConstants.{MOST_POSTINGS}
use Rattle.buck_book_journal.specs.Journal.{JournalParts}
use Rattle.buck_book_journal.specs.Reading.{journal_of}
use Rattle.buckfleet_engine_files.specs.Reading.{Says}
use Rattle.buckfleet_engine_files.proofs.Lists.{same_place, same_rest}
use Rattle.buckfleet_engine_files.proofs.SeveralLemmas.{memory_at, read_more, refused_at}
use Rattle.buckfleet_engine_files.proofs.several.read_journals.Goals as goal

pub returns-in-Err-clause-refused : goal.returns-in-Err-clause-refused
returns-in-Err-clause-refused g c =
    let inv = c.loop-place.invariant in
    let lt : c.loop-place.place < length c.args.files.now = omega (arith, c.loop-place-test.true) in
    let all = length-map c.args.files.now g.R.Read.remaining in
    refused_at (map g.R.Read.remaining c.args.files.now) _ _ _ (length c.args.files.now) c.loop-place.place
    (omega (arith, lt, all)) inv.number (sym all) inv.made
    (same_place g.R.Read.remaining _ _ c.loop-place.place _ lt inv.rest) c.in-Err.ensures.refused

pub returns-in_err-push-in-Ok-clause-refused : goal.returns-in_err-push-in-Ok-clause-refused
returns-in_err-push-in-Ok-clause-refused g c =
    let inv = c.loop-place.invariant in
    let lt : c.loop-place.place < length c.args.files.now = omega (arith, c.loop-place-test.true) in
    memory_at (map g.R.Read.remaining c.args.files.now) _ c.loop-place.place _
    (omega (arith, lt, length-map c.args.files.now g.R.Read.remaining)) inv.number inv.made (search rules)

pub loop-place-preserved : goal.loop-place-preserved
loop-place-preserved g c =
    let inv = c.loop-place.invariant in
    let lt : c.loop-place.place < length c.args.files.now = omega (arith, c.loop-place-test.true) in
    let few : JournalParts → Type 0 = λ j. length j.entries ≤ MOST_POSTINGS in
    let pushed : c.push.new.self.items ≡ c.loop-place.journals.items ++ c.in-Ok.journal ∷ [] = search rules in
    let same = same_place g.R.Read.remaining _ _ c.loop-place.place _ lt inv.rest in
    record {
      number = search rules;
      same_number = length-set c.loop-place.files c.loop-place.place c.journal_among.new.reader ∙ inv.same_number;
      rest = same_rest _ _ c.loop-place.place _ inv.rest;
      made = read_more _ c.loop-place.journals.items c.push.new.self.items c.in-Ok.journal c.loop-place.place inv.number
          pushed inv.made
          (subst (λ (o : Option (List ℕ)). Says journal_of o (Ok c.in-Ok.journal)) same c.in-Ok.ensures.ok);
      few = All-same few _ _ pushed (All-push few _ _ inv.few c.in-Ok.ensures.few);
    }

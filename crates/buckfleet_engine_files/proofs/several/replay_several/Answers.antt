use Rattle.std.proofs.Common.{◌<◌, length, refl, subst, take_all, arith}
use Rattle.std.proofs.lemmas.Option.{slice_get_read}
use Rattle.std.proofs.lemmas.List.Elements.{All-more}
use Rattle.buck_book_postings.specs.History.{IsLawful}
use Rattle.buck_book_journal.specs.Journal.{history_of}
use Rattle.buckfleet_engine_files.specs.Several.{AreLawful}
use Rattle.buckfleet_engine_files.proofs.SeveralLemmas.{few_of_all}
use Rattle.buckfleet_engine_files.proofs.several.replay_several.Goals as goal

pub replay-requires-clause-few : goal.replay-requires-clause-few
replay-requires-clause-few g c =
    let js = c.args.several.now.journals.items in
    let lt : c.loop-place.place < length js = omega (arith, c.loop-place-test.true, c.len-place-end.ensures) in
    let few =
    few_of_all js c.loop-place.place c.index-journal.result.now
    (slice_get_read js (length js) c.loop-place.place c.index-journal.result.now refl lt c.index-journal.ensures) in
    omega (arith, few, c.requires.few)

pub returns-in-Err-clause-refused : goal.returns-in-Err-clause-refused
returns-in-Err-clause-refused g c =
    let js = c.args.several.now.journals.items in
    let lt : c.loop-place.place < length js = omega (arith, c.loop-place-test.true, c.len-place-end.ensures) in
    λ other. record {
      journal = c.index-journal.result.now;
      there =
          slice_get_read js (length js) c.loop-place.place c.index-journal.result.now refl lt c.index-journal.ensures;
      before = c.loop-place.invariant;
      first = c.in-Err.ensures.refused other;
    }

pub loop-place-preserved : goal.loop-place-preserved
loop-place-preserved g c =
    let js = c.args.several.now.journals.items in
    let lt : c.loop-place.place < length js = omega (arith, c.loop-place-test.true, c.len-place-end.ensures) in
    All-more (λ j. IsLawful (history_of c.args.several.now.instruction.value j)) js c.loop-place.place
    c.index-journal.result.now lt c.loop-place.invariant
    (subst (λ j. IsLawful (history_of c.args.several.now.instruction.value j)) c.index-journal.ensures
    c.in-Ok.ensures.lawful)

pub returns-clause-lawful : goal.returns-clause-lawful
returns-clause-lawful g c =
    let js = c.args.several.now.journals.items in
    subst (AreLawful c.args.several.now.instruction.value)
    (take_all c.loop-place.place js (omega (arith, c.loop-place-test.false, c.len-place-end.ensures)))
    c.loop-place.invariant

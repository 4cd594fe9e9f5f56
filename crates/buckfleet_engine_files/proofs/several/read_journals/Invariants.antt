use Rattle.std.proofs.Common.{◌≡◌, length, map, drop}
use Rattle.buckfleet_engine_files.specs.inner.Several.{AreEachFew}
use Rattle.buckfleet_engine_files.proofs.SeveralLemmas.{AreRead}
use Rattle.buckfleet_engine_files.proofs.several.read_journals.Given as goal

abbrev pub invariant-loop-place : goal.invariant-loop-place
invariant-loop-place g l = record {
  number : length l.journals.items ≡ l.place;
  same_number : length l.files ≡ length l.initial.files;
  rest : drop l.place l.files ≡ drop l.place l.initial.files;
  made : AreRead (map g.R.Read.remaining l.initial.files) l.journals.items;
  few : AreEachFew l.journals.items;
}

use Rattle.std.proofs.Common.{◌≡◌, ◌+◌, ◌-◌, List, [], inl, inr, length, sym, subst, ◌∙◌, arith}
use Rattle.std.proofs.lemmas.Bool.{cases_lt}
use Rattle.std.proofs.lemmas.List.{get_or_past, length-map}
use Rattle.buck_stem_shape.specs.Stem.{StemParts}
use Rattle.buckfleet_engine_cross_check.specs.Ties.{DifferBy, stems_of_file}
use Rattle.buckfleet_engine_cross_check.specs.inner.Tie.{stems_cut_in, stems_in_lists}
use Rattle.buckfleet_engine_cross_check.proofs.Compared.{cut_nothing, cut_of_history}
use Rattle.buckfleet_engine_cross_check.proofs.comparing.compare_stems.Goals as goal

pub returns-in-Some-clause-found : goal.returns-in-Some-clause-found
returns-in-Some-clause-found c = λ h is.
    let ps = c.args.postings.now in
    let files = stems_in_lists c.args.files.now in
    let who = c.loop-at.at + 1 in
    record {
      harvester = who;
      from_one = omega arith;
      least = λ other pos low. cut_of_history other h ps is ∙ c.loop-at.invariant other pos (omega (arith, low));
      differ = subst (λ (l : List StemParts). DifferBy who l (stems_of_file files who) c.in-Some.fault)
          (sym (cut_of_history who h ps is))
          (subst (λ (l : List StemParts). DifferBy who (stems_cut_in who ps) l c.in-Some.fault)
          c.file_of.ensures c.in-Some.ensures.found);
    }

pub returns-clause-none : goal.returns-clause-none
returns-clause-none c = λ h is who pos.
    let ps = c.args.postings.now in
    let files = stems_in_lists c.args.files.now in
    let last = c.last_harvester-at-end.result in
    cut_of_history who h ps is ∙ elim (cases_lt last who) [
      | inl beyond ↦
          let number : length files ≡ length c.args.files.now = length-map c.args.files.now _ in
          let none : stems_of_file files who ≡ [] =
          get_or_past files (who - 1) []
          (omega (arith, beyond, number, c.last_harvester-at-end.ensures.least, c.requires.few)) in
          cut_nothing who last ps c.last_harvester-at-end.ensures.all beyond ∙ sym none
      | inr within ↦ c.loop-at.invariant who pos (omega (arith, within, c.loop-at-test.false))
    ]

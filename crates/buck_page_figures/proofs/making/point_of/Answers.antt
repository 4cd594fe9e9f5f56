use Rattle.std.proofs.Common.{◌≡◌, ◌+◌, ◌∙◌, ap, arith, map, refl, rules, subst, sym, Vec, Global, ℕ}
use Rattle.std.specs.Prelude.{slice_get}
use Rattle.buck_book_postings.specs.History.{prices_at}
use Rattle.buck_page_figures.specs.Journals.{sheets_in}
use Rattle.buck_page_figures.specs.inner.Making.{AreAllDegrees}
use Rattle.buck_page_figures.proofs.CourseLemmas.{place_within}
use Rattle.buck_page_figures.proofs.JournalLemmas.{sheets_there}
use Rattle.buck_page_figures.proofs.making.point_of.Goals as goal

pub overflow_add-result : goal.overflow_add-result
overflow_add-result c =
    let h = c.requires.course in
    omega (
      arith,
      c.at.ensures.at,
      c.requires.few,
      place_within c.args.instruction.now c.args.journals.now _ h.unsteered c.args.course.now h.course,
    )

pub returns : goal.returns
returns c =
    let i = c.args.instruction.now in
    let js = c.args.journals.now in
    let course = c.args.course.now in
    let j = c.index-journals-course.result in
    let version = c.version-version.result in
    let targets : c.as_slice-targets.result.now ≡ course.targets.value.items = search rules in
    let counts : c.as_slice-2.result.now ≡ course.account.tally.counts.items = search rules in
    let unsteered : c.as_slice-3.result.now ≡ course.account.tally.unsteered.items = search rules in
    let sheets : map (λ (w : Vec ℕ Global). w.items) c.as_slice.result.now ≡ j.sheets = search rules in
    let there : sheets_in (slice_get js course.journal) ≡ j.sheets =
    sheets_there js course.journal j c.requires.course.course.stands.0 c.index-journals-course.is in
    record {
      after = ap (λ n. course.before + n) c.at.ensures.at;
      journal = refl;
      version = c.version-version.ensures.version;
      prices = c.prices_in.ensures ∙ ap (λ s. prices_at s version) (sheets ∙ sym there);
      degrees =
          subst (λ ts. AreAllDegrees i ts course.account.tally.counts.items c.in_ok-degrees_of.field-0.items) targets
          (subst (λ ns. AreAllDegrees i c.as_slice-targets.result.now ns c.in_ok-degrees_of.field-0.items) counts
          c.in_ok-degrees_of.ensures);
      unsteered =
          subst (λ ts. AreAllDegrees i ts course.account.tally.unsteered.items c.in_ok-degrees_of-2.field-0.items)
          targets
          (subst (λ ns. AreAllDegrees i c.as_slice-targets.result.now ns c.in_ok-degrees_of-2.field-0.items) unsteered
          c.in_ok-degrees_of-2.ensures);
      demand = search rules;
    }

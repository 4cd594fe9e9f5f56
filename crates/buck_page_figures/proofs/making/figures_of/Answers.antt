use Rattle.std.proofs.Common.{◌≡◌, ◌<◌, ◌∙◌, length, map, ap, refl, sym, arith, rules, Vec, Global, ℕ}
use Rattle.std.specs.Prelude.{slice_get, Some}
use Rattle.std.proofs.Math.Seq.{take-length}
use Rattle.std.proofs.lemmas.Option.{slice_get_read}
use Rattle.buck_book_postings.specs.Posting.{ends_of}
use Rattle.buck_book_postings.specs.History.{prices_at}
use Rattle.buck_page_figures.proofs.LawfulLemmas.{all_passable, all_showable, lawful_at, prices_number}
use Rattle.buck_page_figures.proofs.FiguresLemmas.{at_end, course_end, figures_are, version_there}
use Rattle.buck_page_figures.proofs.making.figures_of.Goals as goal

pub walk_all-requires-clause-passable : goal.walk_all-requires-clause-passable
walk_all-requires-clause-passable c = all_passable c.args.instruction.now c.args.journals.now c.requires.lawful

pub invariant_of-result : goal.invariant_of-result
invariant_of-result c =
    let i = c.args.instruction.now in
    let js = c.args.journals.now in
    let d = c.in_ok-course.course in
    let curves = c.in_ok-course.ensures.curves in
    let last = c.index-journals-course.result in
    let lt : d.journal < length js = omega (arith, c.in_ok-course.ensures.last) in
    let there : slice_get js d.journal ≡ Some last =
    slice_get_read js (length js) d.journal last refl lt c.index-journals-course.is in
    let course = course_end i js d c.in_ok-course.points.items curves in
    let account = at_end i js curves.unsteered d course in
    let version : c.version.result ≡ ends_of i last.entries =
    c.version.ensures.version ∙ version_there i js curves.unsteered d last course c.in_ok-course.ensures.last there in
    let sheets : map (λ (w : Vec ℕ Global). w.items) c.as_slice.result.now ≡ last.sheets = search rules in
    let prices : c.prices_in-prices.result.now ≡ prices_at last.sheets (ends_of i last.entries) =
    c.prices_in-prices.ensures ∙ ap (λ s. prices_at s c.version.result) sheets ∙ ap (prices_at last.sheets) version in
    let number =
    prices_number i last (lawful_at i js c.requires.lawful d.journal last there) c.assortments-valid.ensures.valid
    (length last.entries) (omega arith) in
    record {
      some_journal = c.requires.some;
      few = c.requires.few;
      counts_number = omega (arith, d.account.tally.counts.ok, account.tally.counts.one_each);
      unsteered_number = omega (arith, d.account.tally.unsteered.ok, account.tally.unsteered.one_each);
      targets_number = omega (arith, d.targets.value.ok, course.wanted);
      prices_number =
          ap length
          (prices ∙ ap (λ ps. prices_at last.sheets (ends_of i ps)) (sym (take-length last.entries))) ∙ number;
      assortments_number = omega (arith, d.account.parts.ok, account.parts.one_each);
      unsteered_assortments_number = omega (arith, d.account.unsteered_parts.ok, account.unsteered_parts.one_each);
    }

pub returns-clause-figures : goal.returns-clause-figures
returns-clause-figures c =
    let i = c.args.instruction.now in
    let js = c.args.journals.now in
    let d = c.in_ok-course.course in
    let curves = c.in_ok-course.ensures.curves in
    let last = c.index-journals-course.result in
    let lt : d.journal < length js = omega (arith, c.in_ok-course.ensures.last) in
    let there : slice_get js d.journal ≡ Some last =
    slice_get_read js (length js) d.journal last refl lt c.index-journals-course.is in
    let course = course_end i js d c.in_ok-course.points.items curves in
    let version : c.version.result ≡ ends_of i last.entries =
    c.version.ensures.version ∙ version_there i js curves.unsteered d last course c.in_ok-course.ensures.last there in
    let sheets : map (λ (w : Vec ℕ Global). w.items) c.as_slice.result.now ≡ last.sheets = search rules in
    let prices : c.prices_in-prices.result.now ≡ prices_at last.sheets (ends_of i last.entries) =
    c.prices_in-prices.ensures ∙ ap (λ s. prices_at s c.version.result) sheets ∙ ap (prices_at last.sheets) version in
    figures_are i js d c.in_ok-course.points.items _ last curves c.in_ok-course.ensures.last there refl refl
    c.number_of.ensures refl refl refl prices refl refl refl refl refl refl refl

pub returns-clause-shown : goal.returns-clause-shown
returns-clause-shown c = record {
  base_is = c.requires.base;
  showable =
      all_showable c.args.instruction.now c.args.journals.now c.requires.lawful c.assortments-valid.ensures.valid;
}

use Rattle.std.proofs.Common.{◌≡◌, ◌∙◌, arith, rules, subst, ap}
use Rattle.std.specs.Prelude.{List}
use Rattle.buck_stem_shape.specs.Stem.{StemParts, stem_length}
use Rattle.buck_value.specs.declared.log.Log.{Log}
use Rattle.buck_dp.proofs.Lists.{each_allowed}
use Rattle.buck_page_figures.specs.inner.Adding.{IsWoodOf}
use Rattle.buck_page_figures.proofs.SumLemmas.{within_stem}
use Rattle.buck_page_figures.proofs.adding.sums_of_cut.Goals as goal

pub wood_of-wood-requires : goal.wood_of-wood-requires
wood_of-wood-requires c =
    let same : c.as_slice-logs.result.now ≡ c.args.entry.now.logs = search rules in
    let stem : c.deref-2.result.now ≡ c.args.entry.now.stem = search rules in
    rw (same, stem)
    (each_allowed c.args.base.now c.args.entry.now.stem 0 c.args.entry.now.logs c.requires.admissible)

pub invariant_of-result : goal.invariant_of-result
invariant_of-result c =
    let e = c.args.entry.now in
    let i = c.args.base.now.instruction in
    let same : c.as_slice-logs.result.now ≡ e.logs = search rules in
    let stem : c.deref-2.result.now ≡ e.stem = search rules in
    let stem' : c.deref-3.result.now ≡ e.stem = search rules in
    let wood : IsWoodOf c.args.base.now e.stem e.logs c.wood_of-wood.result =
    subst (λ (gs : List Log). IsWoodOf c.args.base.now e.stem gs c.wood_of-wood.result) same
    (subst (λ (t : StemParts). IsWoodOf c.args.base.now t c.as_slice-logs.result.now c.wood_of-wood.result)
    stem c.wood_of-wood.ensures.wood) in
    let whole = within_stem i e.stem 0 e.logs (omega arith) c.requires.admissible in
    let long : c.length.result ≡ stem_length e.stem.samples = c.length.ensures.length
    ∙ ap (λ (t : StemParts). stem_length t.samples) stem' in
    record {
      few = (omega arith, omega arith);
      small_wood = (
        omega arith,
        omega (arith, c.wood_of-wood.ensures.thin, wood.logged, whole, long, c.from.ensures),
        omega (arith, c.from.ensures),
      );
      small_worth = (omega (arith, c.from-2.ensures), omega (arith, c.from-3.ensures));
      no_more_than_the_stems = omega (arith, wood.logged, wood.trim, whole, long, c.from.ensures);
      no_better_than_best = omega (arith, wood.at_base, c.requires.best, c.from-3.ensures);
    }

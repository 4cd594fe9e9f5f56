use Rattle.std.proofs.Common.{◌≡◌, ◌∙◌, ◌+◌, ◌<◌, ◌++◌, ap, append_assoc, drop, length, rules, sym}
use Rattle.buckfleet_proceeds.specs.Text.{assortment_line, assortment_lines}
use Rattle.buckfleet_proceeds.proofs.Texts.{lines_step}
use Rattle.buckfleet_proceeds.proofs.lines.put_assortments.Goals as goal

pub loop-at-preserved : goal.loop-at-preserved
loop-at-preserved c =
    let at = c.loop-at.at in
    let before = c.loop-at.out.items in
    let x = c.index-assortments-at.result in
    let cut = c.index-cut-at.result in
    let best = c.index-best-at.result in
    let rest = assortment_lines (at + 1) (drop (at + 1) c.args.assortments.now) (drop (at + 1) c.args.cut.now)
    (drop (at + 1) c.args.best.now) in
    let lt : at < length c.args.assortments.now = search rules in
    let lt_cut : at < length c.args.cut.now = search rules in
    let lt_best : at < length c.args.best.now = search rules in
    let put : c.put_assortment.new.out.items ≡ before ++ assortment_line at cut best x.name =
    c.in_ok-put_assortment.ensures ∙ ap (λ n. before ++ assortment_line at cut best n) c.name.ensures in
    ap (λ t. t ++ rest) put ∙ append_assoc before (assortment_line at cut best x.name) rest
    ∙ ap (λ t. before ++ t)
    (sym (lines_step at c.args.assortments.now c.args.cut.now c.args.best.now x cut best lt lt_cut lt_best
    c.index-assortments-at.is c.index-cut-at.is c.index-best-at.is))
    ∙ c.loop-at.invariant

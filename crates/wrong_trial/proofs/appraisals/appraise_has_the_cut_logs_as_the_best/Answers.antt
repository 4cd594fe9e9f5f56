use Rattle.std.proofs.Common.{◌<◌, ◌∙◌, length, refl, rules, sym}
use Rattle.std.proofs.lemmas.Option.{slice_get_read}
use Rattle.wrong_trial.proofs.appraisals.appraise_has_the_cut_logs_as_the_best.Goals as goal

pub prove-unreachable-requires : goal.prove-unreachable-requires
prove-unreachable-requires c =
    let made = c.in-Ok.ensures.appraisal in
    let at = c.args.assortment in
    let cut = c.in-Ok.made.assortments.items in
    let best = c.in-Ok.made.best_assortments.items in
    let lt : at < length cut = search rules in
    let lt_too : at < length best = search rules in
    let one = c.index-then-assortment-len-2.result.now in
    let other = c.index.result.now in
    let there = slice_get_read cut (length cut) at one refl lt c.index-then-assortment-len-2.ensures in
    let there_too = slice_get_read best (length best) at other refl lt_too c.index.ensures in
    c.requires.differ made.best made.are_best (sym (made.appraised.at_best.each at other there_too).number
    ∙ c.if-prove.true ∙ (made.appraised.as_cut.each at one there).number)

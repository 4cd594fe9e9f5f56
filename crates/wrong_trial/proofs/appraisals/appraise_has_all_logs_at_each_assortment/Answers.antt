use Rattle.std.proofs.Common.{◌<◌, ◌∙◌, length, refl, rules, sym}
use Rattle.std.proofs.lemmas.Option.{slice_get_read}
use Rattle.wrong_trial.proofs.appraisals.appraise_has_all_logs_at_each_assortment.Goals as goal

pub prove-unreachable-requires : goal.prove-unreachable-requires
prove-unreachable-requires c =
    let is = c.in-Ok.ensures.appraisal.appraised in
    let parts = c.in-Ok.made.assortments.items in
    let lt : c.args.assortment < length parts = search rules in
    let there = slice_get_read parts (length parts) c.args.assortment c.index.result.now refl lt c.index.ensures in
    c.requires.others (sym (is.as_cut.each c.args.assortment c.index.result.now there).number ∙ c.if-prove.true
    ∙ is.whole.as_cut.number)

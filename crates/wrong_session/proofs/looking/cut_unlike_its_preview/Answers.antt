use Rattle.std.proofs.Common.{◌≡◌, true, sym, subst, true≢false}
use Rattle.buck_c_session.specs.Kept.{KeptParts}
use Rattle.buck_c_session.specs.Felled.{stem_by}
use Rattle.buck_c_session.specs.Looked.{IsPreview}
use Rattle.wrong_session.proofs.Foretold.{cut_as_shown}
use Rattle.wrong_session.proofs.looking.cut_unlike_its_preview.Goals as goal

pub prove-unreachable-requires : goal.prove-unreachable-requires
prove-unreachable-requires c =
    let stem = stem_by c.args.felled.now c.args.samples.now c.args.zones.now in
    let shown = subst (λ (k : KeptParts). IsPreview k.history c.args.felled.now.harvester stem c.in_ok-shown.shown)
    (sym c.in_ok-shown.ensures.same) c.in_ok-shown.ensures.entry in
    let same : c.in_ok-shown.shown ≡ c.in_ok-cut.cut =
    cut_as_shown _ c.args.felled.now.harvester stem _ _ c.in_ok-shown.shown c.in_ok-cut.cut shown
    c.in_ok-cut.ensures.cut in
    let is : c.same-right.result ≡ true = c.same-right.ensures.1 same in
    true≢false (rw is at c.if-prove.true)

use Rattle.buck_fleet.proofs.Words.{refl, sym, ◌∙◌, length-map, lists_of}
use Rattle.buck_fleet.proofs.Counted.{handed_out}
use Rattle.buck_fleet.proofs.close.take_in.Goals as goal

pub returns : goal.returns
returns g c =
    let kept = c.collect.ensures in
    let parts = c.into_parts-parts.ensures in
    let total = c.args.desk.counted ∙ sym (c.audit.ensures.whole (kept.parts ∙ c.requires.parts)) ∙ kept.amount in
    handed_out _ _ _ _ (lists_of c.collect.new.kept.items) parts.history refl
    (length-map c.collect.new.kept.items (λ v. v.items) ∙ kept.number) kept.lists total parts.kept.firsts

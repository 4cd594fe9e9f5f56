use Rattle.std.proofs.Common.{◌≡◌, ◌∙◌, Some, ap, arith, length, refl, subst}
use Rattle.std.proofs.lemmas.Option.{slice_get_read, slice_get_within}
use Rattle.buck_apt_instruction.specs.Instruction.{InstructionParts}
use Rattle.std.specs.Prelude.{slice_get}
use Rattle.buckfleet_trial_wishes.specs.WishLine.{AreGains}
use Rattle.buckfleet_trial_wishes.proofs.Gains.{line_put}
use Rattle.buckfleet_trial_wishes.proofs.wish.line_of.Goals as goal

pub returns : goal.returns
returns c =
    let a = c.index-assortments-at.result in
    let at = c.args.wish.assortment in
    let all = c.args.asking.now.instruction.value.assortments in
    let same : c.assortments.result.now ≡ all =
    c.assortments.ensures.items ∙ ap (λ (i : InstructionParts). i.assortments) c.deref.ensures in
    let there : slice_get all at ≡ Some a =
    subst (λ l. slice_get l at ≡ Some a) same
    (slice_get_read c.assortments.result.now (length c.assortments.result.now) at a refl
    (omega (arith, ap length same, slice_get_within all at c.requires.wish.assortment c.requires.wish.exists))
    c.index-assortments-at.is) in
    let gains = c.in_ok-put_gains.ensures in
    record {
      assortment = a;
      exists = there;
      gains = gains.0;
      are_gains =
          subst (λ l. AreGains c.args.wish.assortment l c.args.runs.now.drawn.items gains.0) c.as_slice.ensures.value
          (subst (λ l. AreGains c.args.wish.assortment c.as_slice.result.now l gains.0) c.as_slice-2.ensures.value
          gains.1);
      line_is =
          line_put c.new-line.result.items c.put_class.new.out.items c.put_targets.new.out.items
          c.put_outcome.new.out.items c.push.new.self.items c.put_quoted.new.out.items c.put_gains.new.out.items
          c.push-2.new.self.items _ _ _ a.name c.name.result.now gains.0 c.new-line.ensures.items
          c.in_ok-put_class.ensures (c.in_ok-put_targets.ensures a there) c.in_ok-put_outcome.ensures
          c.in_ok-push.ensures.items c.name.ensures c.in_ok-put_quoted.ensures gains.2 c.in_ok-push-2.ensures.items;
    }

use Rattle.std.proofs.Common.{◌≡◌, [], ◌∷◌, ◌++◌, length, inl, inr, ap, sym, subst, ◌∙◌, arith, length-append}
use Rattle.std.specs.Prelude.{slice_get}
use Rattle.buck_book_postings.proofs.Extend.{slice_get-push}
use Rattle.buck_book_postings.specs.Degree.{IsDegreeBy}
use Rattle.buckfleet_trial.proofs.light.degrees_of.Goals as goal

pub loop-at-preserved : goal.loop-at-preserved
loop-at-preserved c =
    let before = c.loop-at.degrees.items in
    let one = c.degree_at.result in
    let is : c.push.new.self.items ≡ before ++ one ∷ [] = c.in_ok-push.ensures.items in
    record {
      number = ap length is ∙ length-append before (one ∷ []) ∙ omega (arith, c.loop-at.invariant.number);
      each = λ a d there. elim (slice_get-push before one d a (ap (λ l. slice_get l a) (sym is) ∙ there)) [
        | inl h ↦ c.loop-at.invariant.each a d h.1
        | inr h ↦
            subst (λ x. IsDegreeBy c.args.instruction.now c.args.targets.now c.args.counts.now a x) (sym h.1)
            (subst (λ k. IsDegreeBy c.args.instruction.now c.args.targets.now c.args.counts.now k one)
            (sym (h.0 ∙ c.loop-at.invariant.number)) c.degree_at.ensures)
      ];
    }

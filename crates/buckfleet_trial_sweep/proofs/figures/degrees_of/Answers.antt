use Rattle.buckfleet_trial_sweep.proofs.Words.{◌≡◌, [], ◌∷◌, ◌++◌, length, inl, inr, ap, sym, ◌∙◌, arith, length-append, slice_get}
use Rattle.buck_book_postings.proofs.Extend.{slice_get-push}
use Rattle.buckfleet_trial_sweep.proofs.figures.degrees_of.Goals as goal

pub loop-at-preserved : goal.loop-at-preserved
loop-at-preserved c =
    let before = c.loop-at.degrees.items in
    let one = c.degrees_at.result in
    let is : c.push.new.self.items ≡ before ++ one ∷ [] = c.in_ok-push.ensures.items in
    record {
      number = ap length is ∙ length-append before (one ∷ []) ∙ omega (arith, c.loop-at.invariant.number);
      each = λ a d there. elim (slice_get-push before one d a (ap (λ l. slice_get l a) (sym is) ∙ there)) [
        | inl h ↦ c.loop-at.invariant.each a d h.1
        | inr h ↦ rw (h.1, h.0 ∙ c.loop-at.invariant.number) c.degrees_at.ensures
      ];
    }

use Rattle.buck_dp.proofs.Words.{Contains-push, inl, inr, rules}
use Rattle.buck_dp.proofs.CandidateLemmas.{put_behind}
use Rattle.buck_dp.proofs.pricing.put_candidate.Goals.{then-candidate-leader+then-key-ge36, else-candidate-leader}
use Rattle.buck_dp.proofs.pricing.put_candidate.Goals as goal

pub returns : goal.returns
returns c = elim c.if-candidate-leader.branch [
  | then-candidate-leader+then-key-ge36 w ↦
      rw (c.in_ok-push.ensures.items, w.list-is, w.leader-is) (record {
        next = put_behind c.args.key _ _ c.args.candidate w.drop_led.ensures.real (search rules);
        leads = λ x which. (
          c.args.candidate,
          Contains-push _ _,
          elim which [ inl led ↦ inr (inl (search rules, led)) | inr tied ↦ inr (inr tied) ],
        );
      })
  | else-candidate-leader w ↦
      let next = put_behind c.args.key c.args.list.now.items _ c.args.candidate (λ x has. has) (λ x has. inl has) in
      rw (c.in_ok-push.ensures.items, w.list-is, w.leader-is)
      (record { next = next; leads = λ x which. next.met x (c.requires.leads x which) })
]

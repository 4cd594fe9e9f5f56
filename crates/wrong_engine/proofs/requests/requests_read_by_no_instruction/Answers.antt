use Rattle.std.proofs.Common.{◌≡◌, ◌∙◌, sym, refl}
use Rattle.wrong_engine.proofs.Ruled.{unread}
use Rattle.wrong_engine.proofs.requests.requests_read_by_no_instruction.Goals as goal

pub prove-unreachable-requires : goal.prove-unreachable-requires
prove-unreachable-requires g c =
    let same : c.serve_live-outcome.new.input ≡ c.args.requests =
    unread _ _ _ _ _ _ _ _ _ _ _ _ c.serve_live-outcome.ensures
    (sym c.conclude-status.ensures.status ∙ c.if-status-refused.true) in
    c.if-prove.true (rw same refl)

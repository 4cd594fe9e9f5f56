use Rattle.std.proofs.Common.{◌≡◌, ◌++◌, ◌∙◌, List, ℕ, ap, append-nil, append_assoc, sym}
use Rattle.buckfleet_trial_sweep.specs.Table.{head_line}
use Rattle.buckfleet_trial.specs.Lines.{columns_of}
use Rattle.buckfleet_trial.proofs.table.put_first.Goals as goal
use Rattle.buckfleet_trial.proofs.table.put_first.Goals.{then-has_draws+in_ok-extend_from_slice-2, else-has_draws}

first_line : (own old opened one columns two end new : List ℕ) → opened ≡ own → one ≡ old ++ opened
    → two ≡ one ++ columns → new ≡ two ++ end → new ≡ old ++ (own ++ (columns ++ end))
first_line own old opened one columns two end new same a b c =
    c ∙ ap (λ l. l ++ end) (b ∙ ap (λ l. l ++ columns) (a ∙ ap (λ l. old ++ l) same)) ∙ simp append_assoc

pub returns : goal.returns
returns c = λ own ends.
    let opened : c.open_line.result.now ≡ own =
    c.open_line.ensures own
    (c.as_slice.ensures.value ∙ c.in_ok-put_head.ensures
    ∙ ap (λ l. l ++ head_line c.args.instruction.now) c.new-head.ensures.items ∙ ends) in
    let columns : c.if-has_draws.out.items ≡ c.extend_from_slice.new.self.items ++ columns_of c.args.has_draws =
    elim c.if-has_draws.branch [
      | then-has_draws+in_ok-extend_from_slice-2 w ↦
          ap (λ v. v.items) w.out-is ∙ w.in_ok-extend_from_slice-2.ensures.items
          ∙ ap (λ t. c.extend_from_slice.new.self.items ++ columns_of t) (sym w.if-has_draws.true)
      | else-has_draws w ↦
          ap (λ v. v.items) w.out-is ∙ sym (append-nil c.extend_from_slice.new.self.items)
          ∙ ap (λ t. c.extend_from_slice.new.self.items ++ columns_of t) (sym w.if-has_draws.false)
    ] in
    first_line own c.args.out.now.items c.open_line.result.now c.extend_from_slice.new.self.items
    (columns_of c.args.has_draws) c.if-has_draws.out.items _ c.extend_from_slice-2.new.self.items opened
    c.in_ok-extend_from_slice.ensures.items columns c.in_ok-extend_from_slice-3.ensures.items

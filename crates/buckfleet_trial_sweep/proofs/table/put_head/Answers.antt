use Rattle.std.proofs.Common.{◌≡◌, ℕ, List, ◌++◌, append_assoc}
use Rattle.buckfleet_trial_sweep.specs.Table.{head_line}
use Rattle.buckfleet_trial_sweep.proofs.table.put_head.Goals as goal

-- six pieces, one after the other
pieces : (old f g h i j k a b c d e new : List ℕ) → a ≡ old ++ f → b ≡ a ++ g → c ≡ b ++ h → d ≡ c ++ i → e ≡ d ++ j
    → new ≡ e ++ k → new ≡ old ++ (f ++ (g ++ (h ++ (i ++ (j ++ k)))))
pieces old f g h i j k a b c d e new is_a is_b is_c is_d is_e is_new =
    rw (is_new, is_e, is_d, is_c, is_b, is_a) (simp append_assoc)

pub returns : goal.returns
unfolding head_line
returns c =
    let all = c.assortments-all.ensures.items in
    pieces _ _ _ _ _ _ _ _ _ _ _ _ _ c.in_ok-extend_from_slice.ensures.items
    (rw all at c.in_ok-put_degree_heads.ensures) c.in_ok-extend_from_slice-2.ensures.items
    (rw all at c.in_ok-put_pair_heads.ensures) (rw all at c.in_ok-put_pair_heads-2.ensures) c.in_ok-push.ensures.items

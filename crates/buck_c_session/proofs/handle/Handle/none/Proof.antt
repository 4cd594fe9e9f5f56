-- `none` has no pointer, and owns nothing.
use Rattle.buck_c_session.proofs.Handles.{[], ◌∷◌, refl, lit<, None, proved, ftrue, null_ptr, ‵, raw, ◌$◌, ◌∵◌, !, qed, done, drop, suffices, enter, lit, no_more, and_then, agg, returns, alloc_all, pass_all, free_all, look_at, sets}
use Rattle.buck_c_session.proofs.Handles.{nothing}
use Rattle.buck_c_session.proofs.Handles.{on_entry, walk_of, says, ends_at, Handle, handle_val, handle_in}
use Rattle.buck_c_session.specs.contracts.handle.Handle.none as f
use Rattle.buck_c_session.proofs.handle.Handle.none.Statement.{statement}
use Rattle.buck_c_session.proofs.handle.Handle.none.Code as code

abbrev empty : Handle.Denot
empty = record { at = null_ptr; held = None }

pub none_spec : {M : Type 1} → statement M
none_spec 𝓤 𝓛 𝓜 𝓡 wired =
    let c = f.clauses 𝓛 𝓜.mem 𝓡.returns in let W = walk_of 𝓛 f.ended tt c in
    proved 𝓛 f.ended tt c 𝓜 𝓡 tt f.Key.name code.function (code.unfolded 𝓤 𝓛.H 𝓜 𝓡 wired)
    (λ κs. tt) (λ κs. tt) (λ κs qs bounds a _ are.
    let y : W.Ghost = ((κs, qs, bounds, a, tt), tt) in
    qed 𝓛 (raw (on_entry 𝓛 f.signature κs qs a tt) ∷ ‵ ftrue ∷ []) ∵ drop ! $ drop ! $
    enter ! _ _ _ _ _ $ alloc_all ! (λ l. pass_all ! refl tt $
    -- Handle { at: null_mut() }
    sets ! (agg ! (and_then ! (lit ! tt) (no_more !))) refl (tt, (record { fits = lit< tt }, tt)) $
    returns ! (look_at ! 0 refl) $ free_all ! refl $
    suffices ! _ (ends_at 𝓛 f.ended tt c y (handle_val empty) empty tt tt) $ says ! refl $
    nothing ! $ handle_in ! empty $ nothing ! $ nothing ! $ done !))

-- `of` keeps the pointer that `into_raw` gives, with the book that is owned there.
use Rattle.buck_c_session.proofs.Handles.{tables_of, Lasts, lasts, List, [], ◌∷◌, ◌++◌, refl, ap, Some, proved_at, id⊢, ftrue, Val, Ptr, RawPtr, layout, rawptr_Lawful, ‵, raw, ◌⊛◌, some, later, prop, ◌$◌, ◌∵◌, !, qed, done, drop, use1}
use Rattle.buck_c_session.proofs.Handles.{split}
use Rattle.buck_c_session.proofs.Handles.{join, feq_l, pick, await, rewrite, regoal, suffices, nothing, only, peeks, shows, yes, plain, tables, WpFn, framed, enter, of_opd, no_more, and_then, agg, returns, alloc_all, pass_all, free_all}
use Rattle.buck_c_session.proofs.Handles.{look_at, get, sets, lands_as, full_share, calls_at, Stays, walk_of, says, stay_dropped, Goes-dropped, ends_at, one_of, Handle, handle_Lawful, handle_val, handle_vals, handle_in, passed, ghosts}
use Rattle.buck_c_session.proofs.Handles.{dict}
use Rattle.buck_c_session.proofs.Handles.{Boxed, KeptArg, HeapArg, boxed_Laws, kept_arg_Laws, heap_arg_Laws, heap_drop, kept_drop, heap_drop_met, kept_drop_met, IntoRaw, into_raw_ended, tokens, hands}
use Rattle.std.proofs.boxed.Box.into_raw.Met.{met}
use Rattle.buck_c_session.specs.Block.{boxed_at}
use Rattle.buck_c_session.specs.contracts.handle.Handle.of as f
use Rattle.buck_c_session.proofs.handle.Handle.of.Statement.{statement}
use Rattle.buck_c_session.proofs.handle.Handle.of.Code as code

abbrev stayed : Stays f.ended.signature.params f.ended.kept
stayed = (stay_dropped (plain (λ _. Boxed)) yes, tt)

pub of_spec : {M : Type 1} → statement M
unfolding tables_of
of_spec {M} 𝓤 𝓛 𝓜 𝓡 wired =
    let c = f.clauses 𝓛 𝓜.mem 𝓡.returns in let W = walk_of 𝓛 f.ended stayed c in
    let 𝓣 = tables 𝓤 𝓛.H 𝓜 𝓡 𝓡.env in let G = IntoRaw 𝓤 𝓛 𝓜 𝓡 in
    let heap_is = passed 𝓡.env (code.calls-std_heap::GlobalAllocator::allocate 𝓡.env wired)
    (code.calls-std_heap::GlobalAllocator::deallocate 𝓡.env wired)
    (code.calls-std_heap::GlobalAllocator::grow 𝓡.env wired)
    (code.calls-std_heap::GlobalAllocator::shrink 𝓡.env wired) M 𝓤 𝓛 𝓜 𝓡 in
    let heap_goes = heap_drop_met 𝓤 𝓛 𝓜 𝓡 (code.calls-buck_c_session::Destruct++none::drop 𝓡.env wired) in
    let kept_goes =
    kept_drop_met 𝓤 𝓛 𝓜 𝓡 (code.calls-buck_c_session::buck_c_session++kept++KeptBook+Destruct::drop 𝓡.env wired) in
    let called = met 𝓤 𝓛 𝓜 𝓡 (code.calls-std_alloc::boxed::Box::into_raw 𝓡.env wired)
    KeptArg HeapArg kept_arg_Laws heap_arg_Laws ghosts dict heap_drop kept_drop heap_is heap_goes kept_goes in
    proved_at 𝓛 f.ended stayed c 𝓜 𝓡 (Goes-dropped 𝓛 0 (plain (λ _. Boxed)) yes (λ κs x w. refl), tt)
    f.Key.name code.function (code.unfolded 𝓤 𝓛.H 𝓜 𝓡 wired) (λ y are.
    let b = y.0.3.0 in let one = one_of (layout Boxed) y.0.4.0 ((boxed_Laws.lawful 𝓛).typed b y.0.4.0 are.0) in
    let z : G.Ghost = ((([], ([], tt)), (full_share, (full_share, tt)), tt, (b, tt), (one.0 ∷ [], tt)), tt) in
    qed 𝓛 ((‵ ftrue ⊛ ‵ (Boxed.own_val b y.0.4.0) ⊛ ‵ ftrue) ∷ ‵ ftrue ∷ []) ∵
    regoal ! (λ (us : List Val). prop (WpFn 𝓤 𝓛.H 𝓣.C 𝓣.Λ code.function (us ++ []) (W.post y))) one.1 refl $
    split ! $ drop ! $ split ! $ rewrite ! 0 (λ (us : List Val). ‵ (Boxed.own_val b us)) one.1 refl $
    -- [the box; no more parameters; nothing is asked]
    join ! $ hands ! $ use1 𝓛 (raw (G.pre z)) (id⊢ 𝓤 _) $
    enter ! _ _ _ _ _ $ alloc_all ! (λ l. pass_all ! refl (one.2, tt) $
    -- let at = Box::into_raw(book);
    sets ! (of_opd ! (get ! refl)) refl one.2 $
    calls_at ! (framed 𝓤 𝓛.H 𝓜 𝓣) G called z (and_then ! (get ! refl) (no_more !)) (λ v.
    use1 𝓛 (later (some (λ (p : Ptr). (tokens ⊛ ‵ (RawPtr.own_val p (v ∷ []))) ⊛
    some (λ (ws : Lasts into_raw_ended z.0.0 z.0.3). ‵ (lasts into_raw_ended z.0.0 z.0.3 ws) ⊛ ‵
    (boxed_at KeptArg p b.value))))) (id⊢ 𝓤 _) $
    await ! tt $ pick ! (λ p. split ! $ split ! $ drop ! $ feq_l ! (λ at. pick ! (λ _. split ! $ drop ! $
    let typed = ((rawptr_Lawful 𝓛).typed p _ refl).0 in lands_as ! (ap only at) refl typed $
    -- [the book's block]
    let made : Handle.Denot = record { at = p; held = Some b.value } in
    handle_in ! made $ peeks ! Handle _ (shows 𝓛 Handle) made (handle_vals made) (λ shown.
    -- Handle { at: at as *mut u8 }
    sets ! (of_opd ! (get ! refl)) refl typed $
    sets ! (agg ! (and_then ! (get ! refl) (no_more !))) refl
    ((handle_Lawful 𝓛).typed made (handle_vals made) shown).0 $
    returns ! (look_at ! 0 refl) $ free_all ! refl $
    suffices ! _ (ends_at 𝓛 f.ended stayed c y (handle_val made) made (tt, tt) (tt, tt)) $ says ! refl $
    nothing ! $ nothing ! $ join ! $ nothing ! $ done !)))))))

-- `into_box` hands its pointer to `from_raw`, with the book that is owned there.
use Rattle.buck_c_session.proofs.Handles.{tables_of, Lasts, lasts, [], ◌∷◌, refl, sym, ap, ◌∙◌, ◌≡◌, Option, Some, IsSome, proved, id⊢, ftrue, fact, heap_val, heap_Tells, ‵, raw, ◌⊛◌, some, later, at_ret, ◌$◌, ◌∵◌, !, qed, done, move, drop}
use Rattle.buck_c_session.proofs.Handles.{use1, split, split3, join, fsplit, feq_i, pick, await, rewrite, suffices, nothing, heard, peeks, shows, all_Typed, yes, plain, tables, framed, enter, of_opd, stop, fld, no_more, and_then, sub}
use Rattle.buck_c_session.proofs.Handles.{whole}
use Rattle.buck_c_session.proofs.Handles.{first, blocks, exec, returns, alloc_all, pass_all, free_all, look_at, get, get_in, sets, lands_last, env, full_share, calls_at_last, Stays, walk_of, says, stay_dropped, Goes-dropped, ends_at}
use Rattle.buck_c_session.proofs.Handles.{the_value, rawptr_vals, rawptr_Lawful, Handle, handle_Lawful, handle_vals, handle_Tells, passed, ghosts, dict, KeptBook, Heap, Boxed, KeptArg, HeapArg, heap_Laws, boxed_Laws, kept_arg_Laws}
use Rattle.buck_c_session.proofs.Handles.{heap_arg_Laws, heap_drop, heap_drop_met, FromRaw, from_raw_ended, tokens, hands}
use Rattle.std.proofs.boxed.Box.from_raw.Met.{met}
use Rattle.buck_c_session.specs.Block.{where_some, boxed_at}
use Rattle.buck_c_session.specs.contracts.handle.Handle.into_box as f
use Rattle.buck_c_session.proofs.handle.Handle.into_box.Statement.{statement}
use Rattle.buck_c_session.proofs.handle.Handle.into_box.Code as code

abbrev stayed : Stays f.ended.signature.params f.ended.kept
stayed = (stay_dropped (plain (λ _. Handle)) yes, (stay_dropped (plain (λ _. Heap)) yes, tt))

pub into_box_spec : {M : Type 1} → statement M
unfolding tables_of
into_box_spec {M} 𝓤 𝓛 𝓜 𝓡 wired =
    let c = f.clauses 𝓛 𝓜.mem 𝓡.returns in let W = walk_of 𝓛 f.ended stayed c in
    let 𝓣 = tables 𝓤 𝓛.H 𝓜 𝓡 𝓡.env in let G = FromRaw 𝓤 𝓛 𝓜 𝓡 in
    let heap_is = passed 𝓡.env (code.calls-std_heap::GlobalAllocator::allocate 𝓡.env wired)
    (code.calls-std_heap::GlobalAllocator::deallocate 𝓡.env wired)
    (code.calls-std_heap::GlobalAllocator::grow 𝓡.env wired)
    (code.calls-std_heap::GlobalAllocator::shrink 𝓡.env wired) M 𝓤 𝓛 𝓜 𝓡 in
    let heap_goes = heap_drop_met 𝓤 𝓛 𝓜 𝓡 (code.calls-buck_c_session::Destruct++none::drop 𝓡.env wired) in
    let called = met 𝓤 𝓛 𝓜 𝓡 (code.calls-std_alloc::boxed::Box::from_raw 𝓡.env wired)
    KeptArg HeapArg kept_arg_Laws heap_arg_Laws ghosts dict heap_drop heap_is heap_goes in
    let goes = Goes-dropped 𝓛 0 (plain (λ _. Handle)) yes (λ κs x w. refl) in
    proved 𝓛 f.ended stayed c 𝓜 𝓡 (goes, (Goes-dropped 𝓛 0 (plain (λ _. Heap)) yes (λ κs x w. refl), tt))
    f.Key.name code.function (code.unfolded 𝓤 𝓛.H 𝓜 𝓡 wired)
    (λ κs. (handle_vals, (λ _. heap_val ∷ [], tt))) (λ κs. (handle_Tells, (heap_Tells, tt))) (λ κs qs bounds a _ are.
    let h = a.0 in let heap = a.1.0 in
    let y : W.Ghost = ((κs, qs, bounds, a, (handle_vals h, (heap_val ∷ [], tt))), tt) in
    qed 𝓛 ((‵ ftrue ⊛ ‵ (Handle.own_val h (handle_vals h)) ⊛ ‵ (Heap.own_val heap (heap_val ∷ [])) ⊛ ‵ ftrue)
    ∷ raw (fact 𝓤 (IsSome h.held)) ∷ []) ∵
    move ! (1 ∷ []) $ heard ! _ (λ is. let there = the_value h.held is in let x = there.0 in
    split ! $ drop ! $ split ! $ fsplit ! $ drop ! $
    rewrite ! 0 (λ (held : Option KeptBook.Denot). ‵ (where_some (boxed_at KeptBook h.at) held)) there.1 refl $
    -- [the book's block; the heap's handle]
    let z : G.Ghost = (
      (
        ([], ([], tt)),
        (full_share, (full_share, tt)),
        tt,
        (heap, (h.at, tt)),
        (heap_val ∷ [], (rawptr_vals h.at, tt)),
      ),
      x,
    ) in
    move ! (1 ∷ []) $ split ! $ move ! (1 ∷ []) $ feq_i ! _ (rawptr_vals h.at) _ refl $ join ! $ move ! (1 ∷ 0 ∷ [])
    $ join ! $
    hands ! $ use1 𝓛 (raw (G.pre z)) (id⊢ 𝓤 _) $
    let stored = all_Typed 𝓛 (Handle ∷ Heap ∷ []) (handle_Lawful 𝓛, (heap_Laws.lawful 𝓛, tt)) a _ are in
    let typed = ((rawptr_Lawful 𝓛).typed h.at _ refl).0 in
    enter ! _ _ _ _ _ $ alloc_all ! (λ l. pass_all ! refl stored $
    -- let Handle { at } = self;
    sets ! (of_opd ! (get_in ! (fld ! refl (stop !)) (sub ! 0 refl (whole !)))) refl typed $
    -- unsafe { Box::from_raw(alloc, at as *mut KeptBook) }
    first ! $ blocks ! $ sets ! (of_opd ! (get ! refl)) refl typed $
    calls_at_last ! (framed 𝓤 𝓛.H 𝓜 𝓣) G called z (and_then ! (get ! refl) (and_then ! (get ! refl) (no_more !))) (λ v.
    use1 𝓛 (later (some (λ (r : Boxed.Denot). (tokens ⊛ ‵ (Boxed.own_val r (v ∷ []))) ⊛
    some (λ (ws : Lasts from_raw_ended z.0.0 z.0.3). ‵ (lasts from_raw_ended z.0.0 z.0.3 ws) ⊛
    raw (fact 𝓤 (r.value ≡ x)) ⊛ raw (fact 𝓤 (r.alloc ≡ heap)))))) (id⊢ 𝓤 _) $
    await ! tt $ pick ! (λ r. split ! $ split ! $ drop ! $ move ! (1 ∷ []) $
    pick ! (λ _. split3 ! $ drop ! $ heard ! _ (λ same. drop ! $
    -- [the box]
    peeks ! Boxed _ (shows 𝓛 Boxed) r (v ∷ []) (λ shown. let good = ((boxed_Laws.lawful 𝓛).typed r (v ∷ []) shown).0 in
    lands_last ! refl good $ exec ! 𝓣.C 𝓣.Λ (env code.Mir.locals l) code.Mir.t-3 (at_ret _ (W.post y)) $
    sets ! (of_opd ! (get ! refl)) refl good $
    returns ! (look_at ! 0 refl) $ free_all ! refl $
    suffices ! _ (ends_at 𝓛 f.ended stayed c y v r (tt, (tt, tt)) (tt, (tt, tt))) $
    says ! (there.1 ∙ ap (λ b. Some b) (sym same)) $
    nothing ! $ nothing ! $ join ! $ nothing ! $ join ! $ nothing ! $ done !))))))))

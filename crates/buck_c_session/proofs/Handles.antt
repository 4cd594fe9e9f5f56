-- What the walks of a handle share: the names that they cite, a box of a kept book with the calls that make it a
-- pointer and back, and a handle's machine value.
pub use Rattle.std.proofs.Common.{◌≡◌, List, [], ◌∷◌, ◌++◌, refl, sym, ap, ◌∙◌, lit<, subst}
pub use Rattle.std.proofs.Handle.{heap_val, heap_Tells}
pub use Rattle.std.proofs.raw_atomic.Walks.{proved, proved_at}
pub use Rattle.std.specs.Prelude.{Option, Some, None, IsSome}
pub use base.Fraction.{full_share}
pub use base.Logic.{id⊢, emp, emp∗, sep, ex}
pub use base.Fml.{ftrue, flft, fsep}
pub use mir.Val.{Val, has_ty, WT}
pub use prog.Wp.{WpFn}
pub use contract.Monad.{fact, fact_i}
pub use contract.Running.{tables, Running}
pub use types.ByLocal.{alloc_all, pass_all, free_all, look_at, get, get_in, sets, lands_last, lands_as, env}
pub use types.Kit.{‵, raw, ◌⊛◌, some, later, prop, at_ret, ◌$◌, ◌∵◌, !, qed, done, move, drop, use0, use1, split, split3, join, fsplit, feq_i, feq_l, pick, await, rewrite, regoal, suffices, Item, Goal, Step, step, fjoin, keep, show}
pub use types.Part.{agg, sub, whole}
pub use types.Run.{enter, of_opd, lit, stop, fld, no_more, and_then, first, blocks, exec, returns}
pub use denote.Exit.{yes, no}
pub use denote.Laws.{Is, shows, all_Typed, Typed, Lawful}
pub use denote.Param.{layout, arg}
pub use denote.RawPtr.{Ptr, RawPtr, null_ptr, ptr_val, rawptr_vals, rawptr_Lawful, rawptr_pure}
pub use denote.Signature.{plain}
pub use denote.Steps.{nothing, owned, heard, only, peeks}
pub use denote.Triple.Call.{calls_at, calls_at_last}
pub use denote.Triple.Clauses.{Lasts, lasts, Ended}
pub use denote.Triple.Entry.{on_entry}
pub use denote.Triple.Table.{framed, widened, run_framed}
pub use denote.Triple.Walked.{Stays, walk_of, says, stay_dropped, Goes-dropped, ends_at}
use lib.Dec.{T}
use seplogic.Ra.Ura.{Ura}
use mir.Syntax.{Ty, Dict, impl, tnil, tcons, dnil, method, no_args}
use types.Logic.{Logic, sem}
use denote.RattleType.{RattleType}
use denote.Struct.Owning.{shape}
use denote.Struct.Struct.{Struct, Struct-Makes}
pub use Rattle.std.proofs.impls.GlobalAllocator.TheImpl.Met.{passed}
pub use Rattle.std.specs.contracts.impls.GlobalAllocator.TheImpl.{ghosts, dict}
use mir.Raw.{raw as bare}
use contract.BorrowLft.{◌⊑◌}
use prog.Model.{Model}
use prog.Wired.{Wired}
use denote.Param.Glue.{Met, signature, spent}
use denote.Param.Laws.{Laws, arg_laws}
use denote.Param.NoDrop.{glues}
use denote.Triple.Carry.{beside, spared}
use denote.Triple.Spec.{Spec, triple_of}
use denote.Triple.Statement.{Contract}
use Rattle.buck_c_session.proofs.buck_c_session++kept++KeptBook+Destruct.drop.Met.{met}
unfoldable pub use contract.Running.{tables_of}
use Rattle.buck_c_session.proofs.handle.Handle.TheLaws as laws
use Rattle.buck_c_session.specs.contracts.handle.Handle as handle
use Rattle.std.proofs.alloc.Global.TheLaws as heap_laws
use Rattle.std.proofs.boxed.Box.TheLaws as box_laws
use Rattle.std.specs.contracts.alloc.Global as heap
use Rattle.std.specs.contracts.boxed.Box as box
use Rattle.std.specs.contracts.boxed.Box.from_raw as from_raw
use Rattle.std.specs.contracts.boxed.Box.into_raw as into_raw
use Rattle.buck_c_session.proofs.Destruct++none.drop.Code as no_drop
use Rattle.buck_c_session.proofs.buck_c_session++kept++KeptBook+Destruct.drop.Symbol as drop_symbol
use Rattle.buck_c_session.proofs.kept.KeptBook.TheLaws as kept_laws
use Rattle.buck_c_session.specs.contracts.buck_c_session++kept++KeptBook+Destruct.drop as drop
use Rattle.buck_c_session.specs.contracts.kept.KeptBook as kept

abbrev pub KeptBook : RattleType
KeptBook = kept.the_row

abbrev pub Heap : RattleType
Heap = heap.the_row

abbrev pub Boxed : RattleType
Boxed = box.the_row KeptBook Heap ghosts

abbrev pub heap_Laws : Laws Heap
heap_Laws = heap_laws.the_row_laws

abbrev pub boxed_Laws : Laws Boxed
boxed_Laws = box_laws.the_row_laws KeptBook Heap ghosts kept_laws.the_row_laws heap_Laws

-- the two types as a call passes them. Neither names a lifetime
abbrev pub KeptArg : RattleType
KeptArg = arg (bare (layout KeptBook)) no KeptBook

abbrev pub HeapArg : RattleType
HeapArg = arg (bare (layout Heap)) no Heap

abbrev pub kept_arg_Laws : Laws KeptArg
kept_arg_Laws = arg_laws (bare (layout KeptBook)) no KeptBook kept_laws.the_row_laws refl

abbrev pub heap_arg_Laws : Laws HeapArg
heap_arg_Laws = arg_laws (bare (layout Heap)) no Heap heap_Laws refl

-- what lets go of a handle of the heap, and of a kept book
abbrev pub heap_drop : Dict
heap_drop = impl ("buck_c_session::Destruct++none::drop" ∷ []) (tcons (layout HeapArg) tnil) dnil

abbrev pub kept_drop : Dict
kept_drop = impl ("buck_c_session::buck_c_session++kept++KeptBook+Destruct::drop" ∷ []) tnil dnil

module _ {M : Type 1} (𝓤 : Ura M) (𝓛 : Logic 𝓤) (𝓜 : Model 𝓤 𝓛.H) (𝓡 : Running 𝓤 𝓛.H 𝓜) where
  pub heap_drop_met : Wired 𝓡.env no_drop.code → Met 𝓛 𝓜 𝓡 𝓡.env HeapArg heap_drop
  unfolding no_drop.code
  heap_drop_met wired = glues "buck_c_session::Destruct++none::drop" 𝓡.env wired HeapArg heap_arg_Laws M 𝓤 𝓛 𝓜 𝓡

  -- it asks nothing, and says nothing
  abbrev silent : Spec 𝓤 drop.signature
  silent κs a = record {
    ghost = Unit {0};
    requires = λ _. emp 𝓤;
    ensures = λ _ r. ex 𝓤 (λ (ws : Unit {0} × Unit {0}). sep 𝓤 (sem 𝓛 (fsep ftrue ftrue)) (emp 𝓤));
  }

  pub kept_drop_met : Wired 𝓡.env drop_symbol.code → Met 𝓛 𝓜 𝓡 𝓡.env KeptArg kept_drop
  kept_drop_met wired =
      let it = 𝓡.env drop_symbol.name in let framed = run_framed 𝓤 𝓛.H 𝓜 𝓡 it in
      let by_name = method kept_drop 0 no_args in let said = drop.spec 𝓛 𝓜.mem 𝓡.returns in
      widened 𝓤 𝓛.H (triple_of 𝓛 (signature KeptArg) (spent 𝓛 KeptArg)) 𝓜 𝓡 𝓡.env it (𝓡.env by_name)
      (drop_symbol.as_method 𝓡.env wired by_name refl)
      (spared 𝓛 drop.signature (𝓡.run it) framed 1 (KeptArg.lives, tt) silent
      (beside 𝓛 drop.signature (𝓡.run it) framed said silent (λ κs a g. g) (λ κs a g. emp 𝓤) (λ κs a g. emp∗ 𝓤 (emp 𝓤))
      (λ κs a g r. qed 𝓛 (raw ((said κs a).ensures g r) ∷ raw (emp 𝓤) ∷ []) ∵ keep ! [] $
      show ! (λ (ws : Unit {0} × Unit {0}). sep 𝓤 (sem 𝓛 (fsep ftrue ftrue)) (emp 𝓤)) (tt, tt) $
      nothing ! $ nothing ! $ nothing ! $ join ! $ done !) (met 𝓤 𝓛 𝓜 𝓡 wired)))

  abbrev pub IntoRaw : Contract 𝓤
  IntoRaw = triple_of 𝓛 (into_raw.signature KeptArg HeapArg ghosts dict heap_drop kept_drop)
      (into_raw.spec KeptArg HeapArg ghosts dict heap_drop kept_drop 𝓛 𝓜.mem 𝓡.returns)

  abbrev pub FromRaw : Contract 𝓤
  FromRaw = triple_of 𝓛 (from_raw.signature KeptArg HeapArg ghosts dict heap_drop)
      (from_raw.spec KeptArg HeapArg ghosts dict heap_drop 𝓛 𝓜.mem 𝓡.returns)

abbrev pub into_raw_ended : Ended
into_raw_ended = into_raw.ended KeptArg HeapArg ghosts dict heap_drop kept_drop

abbrev pub from_raw_ended : Ended
from_raw_ended = from_raw.ended KeptArg HeapArg ghosts dict heap_drop

-- the tokens of the two types' lifetimes, which don't end
abbrev pub tokens : {M : Type 1} {𝓤 : Ura M} → Item 𝓤
tokens = ‵ (flft [] full_share) ⊛ ‵ (flft [] full_share) ⊛ ‵ ftrue

module _ {M : Type 1} {𝓤 : Ura M} {𝓛 : Logic 𝓤} {K : Type 0} {Γ : List (Item 𝓤)} {G : Goal 𝓤 𝓛.H} where
  -- what such a call is handed: [the parameters; what it asks], beside what it asks of the lifetimes
  pub hands : K → {P Q : Item 𝓤}
      → Step K 𝓛 (((tokens ⊛ P) ⊛ (raw (fact 𝓤 ([] ⊑ KeptArg.lives)) ⊛ raw (fact 𝓤 ([] ⊑ HeapArg.lives)) ⊛ Q)) ∷ Γ) G
      (P ∷ Q ∷ Γ) G
  hands t = step (λ rest.
      move t (1 ∷ []) $
      use0 𝓛 (raw (fact 𝓤 ([] ⊑ HeapArg.lives))) (fact_i 𝓤 _ (emp 𝓤) (heap_laws.the_within [])) $ join t $
      use0 𝓛 (raw (fact 𝓤 ([] ⊑ KeptArg.lives))) (fact_i 𝓤 _ (emp 𝓤) (kept_laws.the_within [])) $ join t $
      move t (1 ∷ []) $ nothing t $ use0 𝓛 (‵ (flft [] full_share)) (𝓛.lfts.lft-nil full_share) $ join t $
      use0 𝓛 (‵ (flft [] full_share)) (𝓛.lfts.lft-nil full_share) $ join t $ join t $ join t $ rest)

abbrev pub Handle : RattleType
Handle = handle.the_row

abbrev pub handle_Lawful : {M : Type 1} {𝓤 : Ura M} (𝓛 : Logic 𝓤) → Lawful 𝓛 Handle
handle_Lawful 𝓛 = laws.the_row_laws.lawful 𝓛

-- a handle is stored as its pointer
abbrev pub handle_val : Handle.Denot → Val
handle_val = laws.lowered

abbrev pub handle_vals : Handle.Denot → List Val
handle_vals h = handle_val h ∷ []

pub handle_Tells : (h : Handle.Denot) (vs : List Val) → Is Handle h vs → vs ≡ handle_vals h
handle_Tells = laws.lowers.val_is

-- a pointer makes a handle, with what is owned there
pub handle_in : {M : Type 1} {𝓤 : Ura M} {𝓛 : Logic 𝓤} {K : Type 0} {Γ : List (Item 𝓤)} {G : Goal 𝓤 𝓛.H}
    → K → (h : Handle.Denot)
    → Step K 𝓛 (‵ (Handle.own_val h (handle_vals h)) ∷ Γ) G (‵ (handle.the_heap h) ∷ Γ) G
handle_in {𝓛 = 𝓛} t h = step (λ rest.
    let Pointer = Struct (shape handle.the_type) in let made =
    Struct-Makes 𝓛 (shape handle.the_type) (rawptr_pure, tt) in
    owned t Pointer (Is Pointer) made (h.at, tt) (handle_vals h) ((rawptr_vals h.at, tt), (refl, (refl, tt)))
    $ fjoin t $ rest)

-- the value that is there
pub the_value : {X : Type 0} (held : Option X) → IsSome held → (x : X) × (held ≡ Some x)
the_value None is = absurd (subst T (sym is) tt)
the_value (Some x) is = (x, refl)

-- what has one machine type is one machine value
pub one_of : (τ : Ty) (vs : List Val) → Typed (τ ∷ []) vs → (w : Val) × (vs ≡ w ∷ []) × (T (has_ty τ w) × WT w)
one_of τ [] typed = absurd typed
one_of τ (w ∷ []) typed = (w, refl, typed.0)
one_of τ (w ∷ v ∷ vs) typed = absurd typed.1

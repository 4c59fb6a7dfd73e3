-- `into_parts` takes a full handle apart, and lets an empty one go. Assumes `Logic`.
use Rattle.std.proofs.Common.{◌≡◌, List, [], ◌∷◌, ◌++◌, refl, Some, None, lit<}
use mathlib.Core.Bool.{Bool, true, false}
use seplogic.Ra.Ura.{Ura}
use mir.Raw.{raw as bare}
use denote.Memory.{lone}
use mir.Val.{Val, vcons, vnil}
use base.Logic.{SProp, ent, emp, id⊢, never, never_e, fst∗, via}
use prog.Wp.{WpFn, Calls, Loops}
use prog.Routine.{Routine}
use contract.Monad.{Fun}
use prog.Memory.{Memory}
use types.Logic.{Logic, sem}
use contract.Monad.{fact, fact_i}
use contract.Running.{tables}
use types.Kit.{‵, raw, ◌⊛◌, prop, at_ret, ◌$◌, ◌∵◌, !, qed, by, move, keep, drop, use0, use1, split, join, regoal, fsplit, fjoin}
use types.Match.{live}
use types.Part.{whole, sub, agg}
use types.Run.{stop, fld, lit, of_opd, no_more, and_then, first, branches, skips, exec, returns, returns_within, enter}
use types.ByLocal.{alloc_all, pass_all, free_all, look_at, get, get_in, sets, env}
use denote.RattleType.{owns}
use denote.RawPtr.{Ptr, block_ptr, null_ptr}
use denote.Exit.{yes}
use denote.Signature.{types_at, type_at, plain}
use denote.Steps.{nothing}
use denote.Triple.Entry.{alive}
use denote.Triple.Clauses.{Clauses}
use denote.Triple.Walked.{Stays, stay_dropped, Goes-dropped, walk_of}
use Rattle.std.proofs.raw_atomic.Walks.{proved_at, leaves}
use Rattle.std.proofs.option.Made.{Some-of, none_of}
use Rattle.std.specs.contracts.impls.GlobalAllocator.TheImpl.{ghosts}
use Rattle.std.specs.declared.alloc.Global.{Global}
use Rattle.std.specs.declared.option.Option.{Option}
use Rattle.std.specs.Box.Ownership.{box_owns}
use Rattle.c_handles.proofs.Words.{PartsOf, two, two_own, two_made, two_typed, word, word_told, word_typed, ptr_typed, heap_typed}
use Rattle.c_handles.specs.Owned.{owned}
use Rattle.c_handles.specs.contracts.parse.Parse as Held
use Rattle.c_handles.specs.contracts.parse_handle.ParseHandle as Handle
use Rattle.c_handles.specs.contracts.parse_handle.ParseHandle.into_parts.{ended, clauses}
use Rattle.c_handles.specs.contracts.parse_handle.ParseHandle.into_parts.Key.{name as #self}
use Rattle.c_handles.proofs.parse_handle.ParseHandle.into_parts.Statement.{statement}
use Rattle.c_handles.proofs.parse_handle.ParseHandle.into_parts.Code as code

abbrev stayed : Stays ended.signature.params ended.kept
stayed = (stay_dropped (plain (λ _. Handle.the_row)) yes, tt)

module _ {M : Type 1} {𝓤 : Ura M} (𝓛 : Logic 𝓤) (at_mem : Memory → SProp 𝓤) (run : Routine → Fun 𝓤) (C : Calls 𝓤 𝓛.H) (Λ : Loops 𝓤 𝓛.H) where
  open 𝓛 use {H}

  abbrev held : Clauses 𝓤 ended
  held = clauses 𝓛 at_mem run

  abbrev Hand : Type 0
  Hand = (Handle.the_row).Denot

  abbrev X : Type 0
  X = (Held.the_row).Denot

  abbrev called : Hand → List Val → (walk_of 𝓛 ended stayed held).Ghost
  called h vs = ((tt, tt, tt, (h, tt), (vs, tt)), tt)

  abbrev Runs : Hand → List Val → SProp 𝓤
  Runs h vs = WpFn 𝓤 H C Λ code.function (vs ++ []) ((walk_of 𝓛 ended stayed held).post (called h vs))

  abbrev Entry : Hand → List Val → SProp 𝓤
  Entry h vs = (walk_of 𝓛 ended stayed held).pre (called h vs)

  abbrev hand : Ptr → Global → Bool → Option X → Hand
  hand p a y x = record { at = p; alloc = a; full = y; held = x }

  -- what a handle owns beside its fields, of which there is nothing where it is neither full nor empty
  nothing_owned : (h : Hand) (vs : List Val) → ent 𝓤 (sem 𝓛 (owned (ghosts.dealloc_token h.alloc) Held.the_row h.full h.at h.held)) (never 𝓤) → ent 𝓤 (Entry h vs) (Runs h vs)
  nothing_owned h vs none =
      qed 𝓛 ((raw (alive 𝓛 ended.signature tt tt) ⊛ ‵ (owns (types_at ended.signature.params tt) (h, tt) (vs, tt))) ∷ raw (emp 𝓤) ∷ []) ∵
      split ! $ move ! (1 ∷ []) $ fsplit ! $ fsplit ! $ move ! (1 ∷ []) $ keep ! (0 ∷ []) $ by ! (via 𝓤 (never 𝓤) none (never_e 𝓤 _))

  walk : (y : Bool) (x : Option X) (p : Ptr) (a : Global) (vs : List Val) → vs ≡ word p y ∷ [] → ent 𝓤 (Entry (hand p a y x) vs) (Runs (hand p a y x) vs)
  walk true None p a vs e = nothing_owned (hand p a true None) vs (id⊢ 𝓤 (never 𝓤))
  walk true (Some x) null_ptr a vs e = nothing_owned (hand null_ptr a true (Some x)) vs (fst∗ 𝓤 (never 𝓤) (sem 𝓛 (ghosts.dealloc_token a (bare (lone (Held.the_row).mir)) null_ptr)))
  walk true (Some x) (block_ptr b o) a vs e =
      let p = block_ptr b o in let h = hand p a true (Some x) in let z = called h vs in let Post = (walk_of 𝓛 ended stayed held).post z in let Out = type_at ended.signature.result tt in
      let made : (PartsOf Held.the_row).Denot = record { ptr = p; alloc = a; value = x } in let v : Val = live 1 (vcons (two p) vnil) in
      qed 𝓛 ((raw (alive 𝓛 ended.signature tt tt) ⊛ ‵ (owns (types_at ended.signature.params tt) (h, tt) (vs, tt))) ∷ raw (emp 𝓤) ∷ []) ∵
      move ! (1 ∷ []) $ drop ! $ split ! $ move ! (1 ∷ []) $ fsplit ! $ move ! (1 ∷ []) $ drop ! $ fsplit ! $ drop ! $
      use1 𝓛 (‵ (box_owns (ghosts.dealloc_token a) Held.the_row p x)) (id⊢ 𝓤 _) $
      regoal ! (λ (us : List Val). prop (WpFn 𝓤 H C Λ code.function us Post)) (λ i. e i ++ []) refl $
      enter ! C Λ code.function (word p true ∷ []) Post $ alloc_all ! (λ l. pass_all ! refl (word_typed p true, tt) $
      sets ! (of_opd ! (get_in ! (fld ! refl (stop !)) (sub ! 0 refl (whole !)))) refl (tt, tt) $
      sets ! (of_opd ! (get_in ! (fld ! refl (stop !)) (sub ! 1 refl (whole !)))) refl heap_typed $
      sets ! (of_opd ! (get_in ! (fld ! refl (stop !)) (sub ! 2 refl (whole !)))) refl (tt, tt) $
      sets ! (of_opd ! (get ! refl)) refl (tt, tt) $
      first ! $ branches ! (get ! refl)
      (λ full. sets ! (of_opd ! (get ! refl)) refl (tt, tt) $
      sets ! (agg ! (and_then ! (get ! refl) (and_then ! (get ! refl) (no_more !)))) refl (two_typed p) $
      sets ! (agg ! (and_then ! (lit ! tt) (and_then ! (get ! refl) (no_more !)))) refl (tt, (record { fits = lit< tt }, ((two_typed p).1, tt))) $
      returns_within ! Post refl (look_at ! 0 refl) $ free_all ! refl $
      use0 𝓛 (‵ (two_own p a (two p ∷ []))) (two_made 𝓛 p a) $ fjoin ! $ use1 𝓛 (‵ ((PartsOf Held.the_row).own_val made (two p ∷ []))) (id⊢ 𝓤 _) $
      use1 𝓛 (‵ (Out.own_val (Some made) (v ∷ []))) (Some-of 𝓛 (PartsOf Held.the_row) made (two p)) $
      use0 𝓛 (raw (fact 𝓤 (Unit {0}))) (fact_i 𝓤 (Unit {0}) (emp 𝓤) tt) $
      use0 𝓛 (raw (fact 𝓤 (h.held ≡ Some x))) (fact_i 𝓤 (h.held ≡ Some x) (emp 𝓤) refl) $ join ! $ nothing ! $ nothing ! $ fjoin ! $ move ! (3 ∷ 0 ∷ 2 ∷ 1 ∷ []) $
      by ! (leaves 𝓛 ended stayed held z v (Some made) (tt, tt) (tt, tt)))
      (λ empty. absurd empty))
  walk false (Some x) p a vs e = nothing_owned (hand p a false (Some x)) vs (id⊢ 𝓤 (never 𝓤))
  walk false None p a vs e =
      let h = hand p a false None in let z = called h vs in let Post = (walk_of 𝓛 ended stayed held).post z in let Out = type_at ended.signature.result tt in let v : Val = live 0 vnil in
      qed 𝓛 ((raw (alive 𝓛 ended.signature tt tt) ⊛ ‵ (owns (types_at ended.signature.params tt) (h, tt) (vs, tt))) ∷ raw (emp 𝓤) ∷ []) ∵
      move ! (1 ∷ []) $ drop ! $ split ! $ move ! (1 ∷ []) $ drop ! $
      regoal ! (λ (us : List Val). prop (WpFn 𝓤 H C Λ code.function us Post)) (λ i. e i ++ []) refl $
      enter ! C Λ code.function (word p false ∷ []) Post $ alloc_all ! (λ l. pass_all ! refl (word_typed p false, tt) $
      sets ! (of_opd ! (get_in ! (fld ! refl (stop !)) (sub ! 0 refl (whole !)))) refl (ptr_typed p) $
      sets ! (of_opd ! (get_in ! (fld ! refl (stop !)) (sub ! 1 refl (whole !)))) refl heap_typed $
      sets ! (of_opd ! (get_in ! (fld ! refl (stop !)) (sub ! 2 refl (whole !)))) refl (tt, tt) $
      sets ! (of_opd ! (get ! refl)) refl (tt, tt) $
      first ! $ branches ! (get ! refl)
      (λ full. absurd full)
      (λ empty. skips ! $ exec ! C Λ (env code.Mir.locals l) code.Mir.t-6 (at_ret (env code.Mir.locals l) Post) $
      sets ! (agg ! (and_then ! (lit ! tt) (no_more !))) refl (tt, (record { fits = lit< tt }, tt)) $
      returns ! (look_at ! 0 refl) $ free_all ! refl $
      use0 𝓛 (‵ (Out.own_val None (v ∷ []))) (none_of 𝓛 (PartsOf Held.the_row)) $
      use0 𝓛 (raw (fact 𝓤 (h.held ≡ None))) (fact_i 𝓤 (h.held ≡ None) (emp 𝓤) refl) $
      use0 𝓛 (raw (fact 𝓤 (Unit {0}))) (fact_i 𝓤 (Unit {0}) (emp 𝓤) tt) $ join ! $ nothing ! $ nothing ! $ fjoin ! $ move ! (3 ∷ 0 ∷ 2 ∷ 1 ∷ []) $
      by ! (leaves 𝓛 ended stayed held z v None (tt, tt) (tt, tt))))

pub into_parts_spec : {M : Type 1} → statement M
into_parts_spec 𝓤 𝓛 𝓜 𝓡 wired =
    let H = 𝓛.H in let c = clauses 𝓛 𝓜.mem 𝓡.returns in let 𝓣 = tables 𝓤 H 𝓜 𝓡 𝓡.env in
    proved_at 𝓛 ended stayed c 𝓜 𝓡 (Goes-dropped 𝓛 0 (plain (λ _. Handle.the_row)) yes (λ κs x w. refl), tt) #self code.function (code.unfolded 𝓤 H 𝓜 𝓡 wired)
    (λ z are. let h = z.0.3.0 in walk 𝓛 𝓜.mem 𝓡.returns 𝓣.C 𝓣.Λ h.full h.held h.at h.alloc z.0.4.0 (word_told h.at h.alloc h.full z.0.4.0 are.0.0))

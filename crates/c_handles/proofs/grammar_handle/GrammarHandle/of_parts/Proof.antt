-- `of_parts` moves two fields, and what they own goes with them. Assumes `Logic`.
use Rattle.std.proofs.Common.{◌≡◌, List, [], ◌∷◌, ◌++◌, refl, Some}
use mathlib.Core.Bool.{true}
use mir.Val.{Val}
use base.Logic.{SProp, emp, id⊢}
use prog.Wp.{WpFn}
use contract.Monad.{fact, fact_i}
use contract.Running.{tables}
use types.Kit.{‵, raw, ◌⊛◌, prop, ◌$◌, ◌∵◌, !, qed, by, move, drop, use0, use1, split, regoal, fsplit, fjoin}
use types.Part.{whole, sub, agg}
use types.Run.{stop, fld, true_lit, of_opd, no_more, and_then, returns, enter}
use types.ByLocal.{alloc_all, pass_all, free_all, look_at, get, get_in, sets}
use denote.RattleType.{owns}
use denote.Exit.{yes}
use denote.Signature.{types_at, type_at, plain}
use denote.Steps.{nothing}
use denote.Triple.Entry.{alive}
use denote.Triple.Walked.{Stays, stay_dropped, Goes-dropped, walk_of}
use Rattle.std.proofs.raw_atomic.Walks.{proved_at, leaves}
use Rattle.std.specs.contracts.impls.GlobalAllocator.TheImpl.{ghosts}
use Rattle.c_handles.proofs.Words.{PartsOf, two, two_told, word, word_own, word_made, word_typed, two_typed, heap_typed, ptr_typed}
use Rattle.c_handles.specs.Owned.{owned}
use Rattle.c_handles.specs.contracts.shared.SharedGrammar as Held
use Rattle.c_handles.specs.contracts.grammar_handle.GrammarHandle.of_parts.{ended, clauses}
use Rattle.c_handles.specs.contracts.grammar_handle.GrammarHandle.of_parts.Key.{name as #self}
use Rattle.c_handles.proofs.grammar_handle.GrammarHandle.of_parts.Statement.{statement}
use Rattle.c_handles.proofs.grammar_handle.GrammarHandle.of_parts.Code as code

abbrev stayed : Stays ended.signature.params ended.kept
stayed = (stay_dropped (plain (λ _. PartsOf Held.the_row)) yes, tt)

pub of_parts_spec : {M : Type 1} → statement M
of_parts_spec 𝓤 𝓛 𝓜 𝓡 wired =
    let H = 𝓛.H in let c = clauses 𝓛 𝓜.mem 𝓡.returns in let 𝓣 = tables 𝓤 H 𝓜 𝓡 𝓡.env in
    proved_at 𝓛 ended stayed c 𝓜 𝓡 (Goes-dropped 𝓛 0 (plain (λ _. PartsOf Held.the_row)) yes (λ κs x w. refl), tt) #self code.function (code.unfolded 𝓤 H 𝓜 𝓡 wired) (λ z are.
    let Post : Val → SProp 𝓤 = (walk_of 𝓛 ended stayed c).post z in let p = z.0.3.0.ptr in let a = z.0.3.0.alloc in let x = z.0.3.0.value in let Out = type_at ended.signature.result z.0.0 in
    let made : Out.Denot = record { at = p; alloc = a; full = true; held = Some x } in
    qed 𝓛 ((raw (alive 𝓛 ended.signature z.0.0 z.0.1) ⊛ ‵ (owns (types_at ended.signature.params z.0.0) z.0.3 z.0.4)) ∷ raw ((c z.0.0 z.0.3).requires z.1) ∷ []) ∵
    move ! (1 ∷ []) $ drop ! $ split ! $ move ! (1 ∷ []) $ fsplit ! $ move ! (1 ∷ []) $ drop ! $ fsplit ! $ drop ! $
    use1 𝓛 (‵ (owned (ghosts.dealloc_token a) Held.the_row true p (Some x))) (id⊢ 𝓤 _) $
    -- [the block with its value; the tokens]
    regoal ! (λ (us : List Val). prop (WpFn 𝓤 H 𝓣.C 𝓣.Λ code.function us Post)) (λ i. two_told p a z.0.4.0 are.0.0 i ++ []) refl $
    enter ! 𝓣.C 𝓣.Λ code.function (two p ∷ []) Post $
    let typed = ptr_typed p in
    alloc_all ! (λ l. pass_all ! refl (two_typed p, tt) $
    sets ! (of_opd ! (get_in ! (fld ! refl (stop !)) (sub ! 0 refl (whole !)))) refl typed $
    sets ! (of_opd ! (get_in ! (fld ! refl (stop !)) (sub ! 1 refl (whole !)))) refl heap_typed $
    sets ! (of_opd ! (get ! refl)) refl typed $
    sets ! (agg ! (and_then ! (get ! refl) (and_then ! (get ! refl) (and_then ! (true_lit !) (no_more !))))) refl (word_typed p true) $
    returns ! (look_at ! 0 refl) $ free_all ! refl $
    use0 𝓛 (‵ (word_own p a true (word p true ∷ []))) (word_made 𝓛 p a true) $ fjoin ! $
    use1 𝓛 (‵ (Out.own_val made (word p true ∷ []))) (id⊢ 𝓤 _) $
    use0 𝓛 (raw (fact 𝓤 (made.held ≡ Some x))) (fact_i 𝓤 (made.held ≡ Some x) (emp 𝓤) refl) $ nothing ! $ nothing ! $ fjoin ! $ move ! (3 ∷ 0 ∷ 2 ∷ 1 ∷ []) $
    by ! (leaves 𝓛 ended stayed c z (word p true) made (tt, tt) (tt, tt))))

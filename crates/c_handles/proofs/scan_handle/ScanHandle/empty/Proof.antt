-- `empty` makes a handle of a null pointer. Assumes `Logic`.
use Rattle.std.proofs.Common.{◌≡◌, List, [], ◌∷◌, ◌++◌, refl, None}
use mathlib.Core.Bool.{false}
use mir.Val.{Val}
use base.Logic.{SProp, emp, id⊢}
use base.Fml.{ftrue}
use prog.Wp.{WpFn}
use contract.Monad.{fact, fact_i}
use contract.Running.{tables}
use types.Kit.{‵, raw, ◌⊛◌, prop, ◌$◌, ◌∵◌, !, qed, by, move, drop, use0, use1, split, regoal, fjoin}
use types.Part.{agg}
use types.Run.{lit, false_lit, no_more, and_then, returns, enter}
use types.ByLocal.{alloc_all, pass_all, free_all, look_at, get, sets}
use denote.RattleType.{owns}
use denote.RawPtr.{null_ptr}
use denote.Exit.{yes}
use denote.Signature.{types_at, type_at, plain}
use denote.Steps.{nothing}
use denote.Triple.Entry.{alive}
use denote.Triple.Walked.{Stays, stay_dropped, Goes-dropped, walk_of}
use Rattle.std.proofs.raw_atomic.Walks.{proved_at, leaves}
use Rattle.std.proofs.Handle.{heap_val, heap_Tells}
use Rattle.std.specs.contracts.alloc.Global as Heap
use Rattle.c_handles.proofs.Words.{word, word_own, word_made, word_typed, heap_typed}
use Rattle.c_handles.specs.contracts.scan_handle.ScanHandle.empty.{ended, clauses}
use Rattle.c_handles.specs.contracts.scan_handle.ScanHandle.empty.Key.{name as #self}
use Rattle.c_handles.proofs.scan_handle.ScanHandle.empty.Statement.{statement}
use Rattle.c_handles.proofs.scan_handle.ScanHandle.empty.Code as code

abbrev stayed : Stays ended.signature.params ended.kept
stayed = (stay_dropped (plain (λ _. Heap.the_row)) yes, tt)

pub empty_spec : {M : Type 1} → statement M
empty_spec 𝓤 𝓛 𝓜 𝓡 wired =
    let H = 𝓛.H in let c = clauses 𝓛 𝓜.mem 𝓡.returns in let 𝓣 = tables 𝓤 H 𝓜 𝓡 𝓡.env in
    proved_at 𝓛 ended stayed c 𝓜 𝓡 (Goes-dropped 𝓛 0 (plain (λ _. Heap.the_row)) yes (λ κs x w. refl), tt) #self code.function (code.unfolded 𝓤 H 𝓜 𝓡 wired) (λ z are.
    let Post : Val → SProp 𝓤 = (walk_of 𝓛 ended stayed c).post z in let a = z.0.3.0 in let Out = type_at ended.signature.result z.0.0 in
    let made : Out.Denot = record { at = null_ptr; alloc = a; full = false; held = None } in
    qed 𝓛 ((raw (alive 𝓛 ended.signature z.0.0 z.0.1) ⊛ ‵ (owns (types_at ended.signature.params z.0.0) z.0.3 z.0.4)) ∷ raw ((c z.0.0 z.0.3).requires z.1) ∷ []) ∵
    move ! (1 ∷ []) $ drop ! $ split ! $ move ! (1 ∷ []) $ drop ! $
    regoal ! (λ (us : List Val). prop (WpFn 𝓤 H 𝓣.C 𝓣.Λ code.function us Post)) (λ i. heap_Tells a z.0.4.0 are.0 i ++ []) refl $
    enter ! 𝓣.C 𝓣.Λ code.function (heap_val ∷ []) Post $
    alloc_all ! (λ l. pass_all ! refl (heap_typed, tt) $
    sets ! (agg ! (and_then ! (lit ! tt) (and_then ! (get ! refl) (and_then ! (false_lit !) (no_more !))))) refl (word_typed null_ptr false) $
    returns ! (look_at ! 0 refl) $ free_all ! refl $
    use0 𝓛 (‵ ftrue) (id⊢ 𝓤 _) $ use0 𝓛 (‵ (word_own null_ptr a false (word null_ptr false ∷ []))) (word_made 𝓛 null_ptr a false) $ fjoin ! $
    use1 𝓛 (‵ (Out.own_val made (word null_ptr false ∷ []))) (id⊢ 𝓤 _) $
    use0 𝓛 (raw (fact 𝓤 (made.held ≡ None))) (fact_i 𝓤 (made.held ≡ None) (emp 𝓤) refl) $ nothing ! $ nothing ! $ fjoin ! $ move ! (3 ∷ 0 ∷ 2 ∷ 1 ∷ []) $
    by ! (leaves 𝓛 ended stayed c z (word null_ptr false) made (tt, tt) (tt, tt))))

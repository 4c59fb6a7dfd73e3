use Rattle.std.proofs.Common.{rules, ◌≡◌, ◌<◌, [], Contains, refl, sym, subst, arith}
use Rattle.std.proofs.lemmas.List.{append-nil}
use Rattle.grammar_model.specs.Trees.{Nulled}
use Rattle.recognizer_model.specs.declared.NodeKey.{NodeKey}
use Rattle.recognizer_model.specs.Flat.{FlatGrammar, IsNullable}
use Rattle.recognizer_model.specs.FlatDerives.{Null}
use Rattle.earley_sets.specs.Recognizer.{set_at}
use Rattle.bocage.specs.declared.rows.CauseRow.TheVariants as row
use Rattle.bocage.specs.Walk.{IsNew, node_of_item}
use Rattle.bocage.proofs.Growing.{lists_none, grows_weaker}
use Rattle.bocage.proofs.Noting.{noted_more}
use Rattle.bocage.proofs.Putting.{put_one, prefix_new}
use Rattle.bocage.proofs.walk.put_nothing.Goals.{else-nullable-via-then-nullable+else-has, else-nullable-via-else-nullable}
use Rattle.std.proofs.lemmas.Result.{IfOk-from_err}
use Rattle.bocage.proofs.walk.put_nothing.Goals as goal

pub returns-in_ok-push : goal.returns-in_ok-push
returns-in_ok-push c =
    let at = c.has.ensures.0 (search rules) in
    let null : IsNullable c.args.known.now.recce.now.flat c.args.symbol = subst (λ (g : FlatGrammar). IsNullable g c.args.symbol) c.flat.ensures (c.nullable.ensures.0 (search rules)) in
    put_one c.args.known.now c.requires.knows c.args.predecessor c.args.symbol c.args.known.now.end (omega arith) at c.requires.next (Nulled c.args.symbol c.args.known.now.end) (Null null) (λ m. (m ≡ c.args.known.now.end) × IsNullable c.args.known.now.recce.now.flat c.args.symbol) c.args.found.now _ c.in_ok-predecessor.predecessor row.Nothing []
    (refl, null) (λ n d. d.0) c.in_ok-push.ensures.ok (sym (append-nil c.args.found.now.wholes.items))
    (grows_weaker (IsNew c.args.known.now) (λ (z : NodeKey). (0 < c.args.predecessor.dot) × (z ≡ node_of_item c.args.predecessor c.args.known.now.end)) c.args.found.now.keys.keys c.predecessor_of.new.keys.keys
    (λ z (lt, q). subst (λ (y : NodeKey). IsNew c.args.known.now y) (sym q) (prefix_new c.args.known.now c.requires.knows c.args.predecessor c.args.symbol c.args.known.now.end (omega arith) at c.requires.next (Nulled c.args.symbol c.args.known.now.end) (Null null) lt)) c.in_ok-predecessor.ensures.grows)
    c.in_ok-predecessor.ensures.predecessor (refl, null) tt
    (noted_more c.args.known.now c.args.found.now _ (c.in_ok-predecessor.ensures.grows).0 [] (c.in_ok-predecessor.ensures.grows).1 (sym (append-nil c.args.found.now.wholes.items)) refl c.requires.noted)

pub returns-else-nullable : goal.returns-else-nullable
returns-else-nullable c =
    lists_none c.args.known.now c.args.predecessor c.args.symbol (λ m. (m ≡ c.args.known.now.end) × IsNullable c.args.known.now.recce.now.flat c.args.symbol) c.args.found.now
    (λ m (e, null) h. elim c.else-nullable.branch [
      | else-nullable-via-then-nullable+else-has w ↦ (let t = w.has.ensures.1 (subst (λ z. Contains (set_at c.args.known.now.recce.now z) c.args.predecessor) e h) in absurd (search rules))
      | else-nullable-via-else-nullable w ↦ (let t = c.nullable.ensures.1 (subst (λ (g : FlatGrammar). IsNullable g c.args.symbol) (sym c.flat.ensures) null) in absurd (search rules))
    ])
    c.requires.noted

pub returns-in_err-predecessor : goal.returns-in_err-predecessor
returns-in_err-predecessor c = IfOk-from_err _ _ c.from_residual.ensures.0

pub returns-in_err-push : goal.returns-in_err-push
returns-in_err-push c = IfOk-from_err _ _ c.from_residual-in_err-push.ensures.0

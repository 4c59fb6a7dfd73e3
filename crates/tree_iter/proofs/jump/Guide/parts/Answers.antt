use Rattle.std.proofs.Common.{◌≡◌, ℕ, ◌==◌, Bool, true, false, cond, List, Option, Some, None, position, refl, sym, ap, ◌∙◌, subst}
use Rattle.std.proofs.lemmas.Bool.{eq-eqb, ne_eqb}
use Rattle.recognizer_model.specs.declared.NodeKey.{NodeKey}
use Rattle.grammar_core.specs.declared.steps.TreeStep.{TreeStep}
use Rattle.forest_model.specs.Forest.{Alternative}
use Rattle.tree_iter.specs.declared.leads.LeadRow.{LeadRow}
use Rattle.bocage.specs.Readers.{node_at}
use Rattle.tree_iter.specs.Leads.{sought, upper_of}
use Rattle.tree_iter.proofs.LedWalk.{some_same}
use Rattle.tree_iter.proofs.jump.Guide.parts.Goals.{then-first, else-first, then-first-2, else-first-2}
use Rattle.tree_iter.proofs.jump.Guide.parts.Goals as goal

never : {X : Type 0} (x : X) → None ≡ Some x → ⊥
never x e = cc

sought_is : (k key : NodeKey) (from start : ℕ) (b : Bool) → k ≡ key → (k.dot == 1) ≡ b → start ≡ cond b k.origin from → start ≡ sought key from
sought_is k key from start b same e s = s ∙ ap (λ x. cond x k.origin from) (sym e) ∙ ap (λ (x : NodeKey). sought x from) same

upper_is : (k key : NodeKey) (below : ℕ) (upper : Option ℕ) (b : Bool) → k ≡ key → (k.dot == 1) ≡ b → upper ≡ cond b None (Some below) → upper ≡ upper_of key below
upper_is k key below upper b same e s = s ∙ ap (λ x. cond x None (Some below)) (sym e) ∙ ap (λ (x : NodeKey). upper_of x below) same

rows_same : (a b : TreeStep) (r s : LeadRow) (found : Option (TreeStep × LeadRow)) → found ≡ Some (a, r) → found ≡ Some (b, s) → r ≡ s
rows_same a b r s found e e' = ap (λ (x : TreeStep × LeadRow). x.1) (some_same (a, r) (b, s) (sym e ∙ e'))

pub returns-in_err-row-clause-leads : goal.returns-in_err-row-clause-leads
returns-in_err-row-clause-leads g c = λ step row h some at e. absurd (never (step, row) (sym c.in_err-row.was ∙ c.last.ensures step row h))

pub returns-in_err-at-clause-leads : goal.returns-in_err-at-clause-leads
returns-in_err-at-clause-leads g c = λ step row h some at e.
    let k : NodeKey = c.key-key.result in
    let key : NodeKey = (node_at c.args.forest.now c.args.node).key in
    let alternatives : List Alternative = (node_at c.args.forest.now c.args.node).alternatives in
    let same : c.in_ok-row.row ≡ row = rows_same c.in_ok-row.field-0-0 step c.in_ok-row.row row c.last.result c.in_ok-row.was (c.last.ensures step row h) in
    let here : c.if-first.start ≡ sought key row.from = elim c.if-first.branch [
      | then-first w ↦ sought_is k key row.from c.if-first.start true c.key-key.ensures.value (eq-eqb k.dot 1 w.if-first.true) w.start-is
      | else-first w ↦ sought_is k key row.from c.if-first.start false c.key-key.ensures.value (ne_eqb k.dot 1 w.if-first.false) (w.start-is ∙ ap (λ (r : LeadRow). r.from) same)
    ] in
    let none : position (λ (a : Alternative). a.start == c.if-first.start) alternatives ≡ None = c.in_err-at.ensures.none refl in
    absurd (never at (sym (subst (λ s. position (λ (a : Alternative). a.start == s) alternatives ≡ None) here none) ∙ e))

pub returns-clause-leads : goal.returns-clause-leads
returns-clause-leads g c = λ step row h some at e.
    let k : NodeKey = c.key-key.result in
    let key : NodeKey = (node_at c.args.forest.now c.args.node).key in
    let alternatives : List Alternative = (node_at c.args.forest.now c.args.node).alternatives in
    let same : c.in_ok-row.row ≡ row = rows_same c.in_ok-row.field-0-0 step c.in_ok-row.row row c.last.result c.in_ok-row.was (c.last.ensures step row h) in
    let here : c.if-first.start ≡ sought key row.from = elim c.if-first.branch [
      | then-first w ↦ sought_is k key row.from c.if-first.start true c.key-key.ensures.value (eq-eqb k.dot 1 w.if-first.true) w.start-is
      | else-first w ↦ sought_is k key row.from c.if-first.start false c.key-key.ensures.value (ne_eqb k.dot 1 w.if-first.false) (w.start-is ∙ ap (λ (r : LeadRow). r.from) same)
    ] in
    let upper : c.if-first-2.result ≡ upper_of key row.below = elim c.if-first-2.branch [
      | then-first-2 w ↦ upper_is k key row.below c.if-first-2.result true c.key-key.ensures.value (eq-eqb k.dot 1 w.if-first-2.true) w.result-is
      | else-first-2 w ↦ upper_is k key row.below c.if-first-2.result false c.key-key.ensures.value (ne_eqb k.dot 1 w.if-first-2.false) (w.result-is ∙ ap (λ (r : LeadRow). Some r.below) same)
    ] in
    let found : position (λ (a : Alternative). a.start == c.if-first.start) alternatives ≡ Some c.in_ok-at.at = c.in_ok-at.ensures.at.0 in
    record {
      led = _;
      is = refl;
      at_is = some_same c.in_ok-at.at at (sym (subst (λ s. position (λ (a : Alternative). a.start == s) alternatives ≡ Some c.in_ok-at.at) here found) ∙ e);
      aim_is = refl;
      upper_is = upper;
    }

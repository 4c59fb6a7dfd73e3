use Rattle.std.proofs.Common.{◌≡◌, ◌↔◌, ℕ, Bool, true, false, Option, Some, None, sym, ap, ◌∙◌, subst}
use Rattle.std.specs.Prelude.{IsTrue}
use Rattle.recognizer_model.specs.declared.NodeKey.{NodeKey}
use Rattle.grammar_core.specs.declared.steps.TreeStep.{TreeStep}
use Rattle.grammar_core.specs.Steps.{step_of}
use Rattle.grammar_model.specs.Steps.{Step}
use Rattle.forest_model.specs.Forest.{Forest}
use Rattle.forest_laws.specs.Written.{is_list_rule}
use Rattle.tree_iter.specs.declared.leads.LeadRow.{LeadRow}
use Rattle.tree_iter.specs.Leads.{IsRuleTold, IsToldBy, IsTold}
use Rattle.tree_iter.proofs.LedWalk.{some_same}
use Rattle.tree_iter.proofs.jump.Guide.fits.Goals as goal

never : {X : Type 0} (x : X) → None ≡ Some x → ⊥
never x e = cc

told_list : (f : Forest) (key k : NodeKey) (s : Step) (below b done : ℕ) (r : Bool) → is_list_rule f.flat key.rule ≡ true → k ≡ key → b ≡ below → IsTrue r ↔ ((k.dot ≡ 1) ↔ (b ≡ done)) → IsTrue r ↔ IsTold f key s below done
told_list f key k s below b done r list same at h =
    subst (λ x. IsTrue r ↔ IsToldBy x f key s below done) (sym list)
    (subst (λ (x : NodeKey). IsTrue r ↔ ((x.dot ≡ 1) ↔ (below ≡ done))) same (subst (λ n. IsTrue r ↔ ((k.dot ≡ 1) ↔ (n ≡ done))) at h))

told_rule : (f : Forest) (key : NodeKey) (s t : Step) (below done : ℕ) (r : Bool) → is_list_rule f.flat key.rule ≡ false → t ≡ s → IsTrue r ↔ IsRuleTold f key t → IsTrue r ↔ IsTold f key s below done
told_rule f key s t below done r none same h = subst (λ x. IsTrue r ↔ IsToldBy x f key s below done) (sym none) (subst (λ x. IsTrue r ↔ IsRuleTold f key x) same h)

row_same : (a b : TreeStep) (r s : LeadRow) (found : Option (TreeStep × LeadRow)) → found ≡ Some (a, r) → found ≡ Some (b, s) → r ≡ s
row_same a b r s found e e' = ap (λ (x : TreeStep × LeadRow). x.1) (some_same (a, r) (b, s) (sym e ∙ e'))

step_same : (a b : TreeStep) (r s : LeadRow) (found : Option (TreeStep × LeadRow)) → found ≡ Some (a, r) → found ≡ Some (b, s) → a ≡ b
step_same a b r s found e e' = ap (λ (x : TreeStep × LeadRow). x.0) (some_same (a, r) (b, s) (sym e ∙ e'))

pub returns-in_default : goal.returns-in_default
returns-in_default c = λ step row h. absurd (never (step, row) (sym c.in_default.is ∙ c.last.ensures step row h))

pub returns-then-is_list_node : goal.returns-then-is_list_node
returns-then-is_list_node c = λ step row h.
    let same = row_same c.in-Some.step step c.in-Some.row row c.last.result c.in-Some.is (c.last.ensures step row h) in
    told_list c.args.forest.now _ c.key.result (step_of step) row.below c.in-Some.row.below c.args.done c.is_list_told.result (sym c.is_list_node.ensures ∙ c.if-is_list_node.true) c.key.ensures.value
    (ap (λ (r : LeadRow). r.below) same) c.is_list_told.ensures

pub returns : goal.returns
returns c = λ step row h.
    let same = step_same c.in-Some.step step c.in-Some.row row c.last.result c.in-Some.is (c.last.ensures step row h) in
    told_rule c.args.forest.now _ (step_of step) (step_of c.in-Some.step) row.below c.args.done c.is_rule_told.result (sym c.is_list_node.ensures ∙ c.if-is_list_node.false) (ap step_of same) c.is_rule_told.ensures

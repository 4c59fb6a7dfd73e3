use Rattle.std.proofs.Common.{◌≡◌, ◌∙◌, ◌↔◌, ◌⊎◌, List, Contains, ap, subst}
use Rattle.std.specs.Prelude.{OnOk}
use Rattle.grammar_model.specs.declared.Edge.{Edge as HeldEdge}
use Rattle.grammar_core.specs.Long.{all_held}
use Rattle.grammar_core.proofs.long.LongEdges.list_to.Goals as goal

pub list_chain-requires-clause-apart : goal.list_chain-requires-clause-apart
list_chain-requires-clause-apart c e h l = c.requires.apart e h (subst (λ (held : List HeldEdge). Contains held e) (ap all_held c.deref.ensures.value ∙ c.self.view_is) l)

pub returns-clause-listed : goal.returns-clause-listed
returns-clause-listed c =
    subst (λ (l : List HeldEdge). OnOk c.list_chain.result ((e : HeldEdge) → Contains c.list_chain.new.edges.items e ↔ (Contains c.args.edges.now.items e ⊎ (Contains l e × (e.to ≡ c.args.place)))))
    (ap all_held c.deref.ensures.value ∙ c.self.view_is) c.list_chain.ensures.listed

use Rattle.std.proofs.Common.{◌≤◌, ◌↔◌, sym, subst}
use Rattle.std.specs.Prelude.{IsTrue}
use Rattle.recognizer_model.specs.declared.Item.{Item}
use Rattle.recognizer_model.specs.Leo.{IsHidden}
use Rattle.earley_sets.specs.Below.{SomeStepsTwice}
use Rattle.earley_sets.specs.Recognizer.{Recognizer, earleme_of, edges_of, top_of}
use Rattle.earley_sets.proofs.Below.{twice_there, none_there}
use Rattle.earley_sets.proofs.recce.Recce.may_hide.Goals as goal

pub returns-clause-exact : goal.returns-clause-exact
returns-clause-exact c =
    let is = twice_there c.self.inside.flat.now c.self.inside.start c.self.inside.edges c.self.inside.rows.sets c.self.inside.top c.self.inside.memo c.self.invariant.0 c.args.j
    (subst (λ (r : Recognizer). c.args.j ≤ earleme_of r) (sym c.self.view_is) c.requires) c.args.from in
    subst (λ (r : Recognizer). IsTrue c.leads_twice.result ↔ SomeStepsTwice r c.args.j c.args.from) c.self.view_is
    (λ t. is.0 (c.leads_twice.ensures.0 t), λ s. c.leads_twice.ensures.1 (is.1 s))

pub returns-clause-none : goal.returns-clause-none
returns-clause-none c =
    let le = subst (λ (r : Recognizer). c.args.j ≤ earleme_of r) (sym c.self.view_is) c.requires in
    let is = twice_there c.self.inside.flat.now c.self.inside.start c.self.inside.edges c.self.inside.rows.sets c.self.inside.top c.self.inside.memo c.self.invariant.0 c.args.j le c.args.from in
    subst (λ (r : Recognizer). (¬ IsTrue c.leads_twice.result) → (item : Item) → c.args.from ≤ item.origin → ¬ IsHidden r.flat (edges_of r) (top_of r) c.args.j item) c.self.view_is
    (λ none item late hidden. none_there c.self.inside.flat.now c.self.inside.start c.self.inside.edges c.self.inside.rows.sets c.self.inside.top c.self.inside.memo c.self.invariant.0 c.args.j le c.args.from
    (λ twice. none (c.leads_twice.ensures.1 (is.1 twice))) item late hidden)

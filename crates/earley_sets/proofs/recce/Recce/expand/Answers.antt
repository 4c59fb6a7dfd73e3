use Rattle.std.proofs.Common.{◌≤◌, ◌↔◌, ◌⊎◌, ◌∙◌, true≢false, sym, subst, Contains}
use Rattle.recognizer_model.specs.declared.Item.{Item}
use Rattle.recognizer_model.specs.Items.{IsWhole, InSet}
use Rattle.recognizer_model.specs.Leo.{IsHidden}
use Rattle.recognizer_model.specs.Counts.{IsListOf}
use Rattle.earley_sets.specs.Recognizer.{Recognizer, earleme_of, set_at, edges_of, top_of}
use Rattle.earley_sets.proofs.Expanding.{lists_none, lists_hidden, lists_full}
use Rattle.earley_sets.proofs.Below.{twice_there, none_there}
use Rattle.earley_sets.proofs.recce.Recce.expand.Goals as goal

pub returns-clause-hidden : goal.returns-clause-hidden
returns-clause-hidden g c =
    subst (λ (r : Recognizer). IsListOf (λ item. IsHidden r.flat (edges_of r) (top_of r) c.args.j item × (c.args.from ≤ item.origin)) c.in_ok-hidden.hidden.items) c.self.view_is
    (lists_hidden c.self.inside.flat.now c.self.inside.start c.self.inside.edges c.self.inside.rows.sets c.self.inside.top c.self.inside.memo c.self.invariant.0 c.args.j c.args.from
    (subst (λ (r : Recognizer). c.args.j ≤ earleme_of r) (sym c.self.view_is) c.requires) c.in_ok-hidden.hidden.items c.in_ok-hidden.ensures)

pub returns-clause-full : goal.returns-clause-full
returns-clause-full g c =
    subst (λ (r : Recognizer). (item : Item) → IsWhole r.flat item → c.args.from ≤ item.origin → (Contains (set_at r c.args.j) item ⊎ Contains c.in_ok-hidden.hidden.items item) ↔ InSet r.flat (edges_of r) (top_of r) c.args.j item) c.self.view_is
    (lists_full c.self.inside.flat.now c.self.inside.start c.self.inside.edges c.self.inside.rows.sets c.self.inside.top c.self.inside.memo c.self.invariant.0 c.args.j c.args.from
    (subst (λ (r : Recognizer). c.args.j ≤ earleme_of r) (sym c.self.view_is) c.requires) c.in_ok-hidden.hidden.items c.in_ok-hidden.ensures)

pub returns-then-not-leads_twice-clause-hidden : goal.returns-then-not-leads_twice-clause-hidden
returns-then-not-leads_twice-clause-hidden g c =
    let le = subst (λ (r : Recognizer). c.args.j ≤ earleme_of r) (sym c.self.view_is) c.requires in
    let none = none_there c.self.inside.flat.now c.self.inside.start c.self.inside.edges c.self.inside.rows.sets c.self.inside.top c.self.inside.memo c.self.invariant.0 c.args.j le c.args.from
    (λ twice. true≢false (sym (c.leads_twice.ensures.1 ((twice_there c.self.inside.flat.now c.self.inside.start c.self.inside.edges c.self.inside.rows.sets c.self.inside.top c.self.inside.memo c.self.invariant.0 c.args.j le c.args.from).1 twice)) ∙ c.if-not-leads_twice.true)) in
    subst (λ (r : Recognizer). IsListOf (λ item. IsHidden r.flat (edges_of r) (top_of r) c.args.j item × (c.args.from ≤ item.origin)) c.new.result.items) c.self.view_is
    (lists_hidden c.self.inside.flat.now c.self.inside.start c.self.inside.edges c.self.inside.rows.sets c.self.inside.top c.self.inside.memo c.self.invariant.0 c.args.j c.args.from le c.new.result.items
    (lists_none c.self.inside.flat.now c.self.inside.start c.self.inside.edges c.self.inside.rows.sets c.self.inside.top c.self.inside.memo c.self.invariant.0 c.args.j c.args.from le none c.new.result.items c.new.ensures.items))

pub returns-then-not-leads_twice-clause-full : goal.returns-then-not-leads_twice-clause-full
returns-then-not-leads_twice-clause-full g c =
    let le = subst (λ (r : Recognizer). c.args.j ≤ earleme_of r) (sym c.self.view_is) c.requires in
    let none = none_there c.self.inside.flat.now c.self.inside.start c.self.inside.edges c.self.inside.rows.sets c.self.inside.top c.self.inside.memo c.self.invariant.0 c.args.j le c.args.from
    (λ twice. true≢false (sym (c.leads_twice.ensures.1 ((twice_there c.self.inside.flat.now c.self.inside.start c.self.inside.edges c.self.inside.rows.sets c.self.inside.top c.self.inside.memo c.self.invariant.0 c.args.j le c.args.from).1 twice)) ∙ c.if-not-leads_twice.true)) in
    subst (λ (r : Recognizer). (item : Item) → IsWhole r.flat item → c.args.from ≤ item.origin → (Contains (set_at r c.args.j) item ⊎ Contains c.new.result.items item) ↔ InSet r.flat (edges_of r) (top_of r) c.args.j item) c.self.view_is
    (lists_full c.self.inside.flat.now c.self.inside.start c.self.inside.edges c.self.inside.rows.sets c.self.inside.top c.self.inside.memo c.self.invariant.0 c.args.j c.args.from le c.new.result.items
    (lists_none c.self.inside.flat.now c.self.inside.start c.self.inside.edges c.self.inside.rows.sets c.self.inside.top c.self.inside.memo c.self.invariant.0 c.args.j c.args.from le none c.new.result.items c.new.ensures.items))

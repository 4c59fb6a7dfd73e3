use Rattle.std.proofs.Common.{◌<◌, ◌≤◌, ◌∷◌, [], true, None, List, length, refl, sym, subst}
use Rattle.std.proofs.lemmas.List.Elements.{Contains-append_right}
use Rattle.recognizer_model.specs.declared.NodeKey.{NodeKey}
use Rattle.recognizer_model.specs.Flat.{FlatGrammar, rhs_of}
use Rattle.earley_sets.proofs.Membership.{Contains-first}
use Rattle.bocage.proofs.Splits.{used_within}
use Rattle.first_walk.specs.Going.{backwards, AreAhead}
use Rattle.first_walk.proofs.Choices.{empty_chosen}
use Rattle.first_walk.proofs.Goings.{walks_on, ahead_empty}
use Rattle.first_walk.proofs.walk.go_empty.Goals as goal

pub put_chosen-requires-clause-some : goal.put_chosen-requires-clause-some
put_chosen-requires-clause-some c =
    (used_within c.args.w.now c.args.ranking c.args.recce.now c.requires.read c.args.key (c.requires.walking.used c.args.key (Contains-append_right c.args.walk.now.goals.items (c.args.key ∷ []) c.args.key (Contains-first c.args.key [])))).some

pub put_chosen-requires-clause-rule : goal.put_chosen-requires-clause-rule
put_chosen-requires-clause-rule c =
    subst (λ (f : FlatGrammar). c.args.key.rule < length f.rules) (sym c.flat.ensures)
    (used_within c.args.w.now c.args.ranking c.args.recce.now c.requires.read c.args.key (c.requires.walking.used c.args.key (Contains-append_right c.args.walk.now.goals.items (c.args.key ∷ []) c.args.key (Contains-first c.args.key [])))).is_rule

pub put_chosen-requires-clause-dot : goal.put_chosen-requires-clause-dot
put_chosen-requires-clause-dot c =
    subst (λ (f : FlatGrammar). c.args.key.dot ≤ length (rhs_of f c.args.key.rule)) (sym c.flat.ensures)
    (used_within c.args.w.now c.args.ranking c.args.recce.now c.requires.read c.args.key (c.requires.walking.used c.args.key (Contains-append_right c.args.walk.now.goals.items (c.args.key ∷ []) c.args.key (Contains-first c.args.key [])))).parts

pub returns-clause-walking : goal.returns-clause-walking
returns-clause-walking c =
    walks_on c.args.w.now c.args.ranking c.args.recce.now c.requires.read c.requires.tree c.args.walk.now.goals.items c.args.key (backwards c.args.walk.now.steps.items) c.args.walk.now.alone c.requires.walking
    (record { part = None; alone = true })
    (empty_chosen c.args.w.now c.args.ranking c.args.recce.now c.requires.read c.args.key (c.requires.walking.used c.args.key (Contains-append_right c.args.walk.now.goals.items (c.args.key ∷ []) c.args.key (Contains-first c.args.key [])))
    (rhs_of c.args.recce.now.flat c.args.key.rule) refl c.requires.empty)
    c.flat.result.now c.flat.ensures c.put_chosen.new.walk.goals.items (backwards c.put_chosen.new.walk.steps.items) c.put_chosen.new.walk.alone
    c.in_ok-put_chosen.ensures.goals c.in_ok-put_chosen.ensures.steps c.in_ok-put_chosen.ensures.alone

pub returns-clause-ahead : goal.returns-clause-ahead
returns-clause-ahead c first h =
    subst (λ (l : List NodeKey). AreAhead c.args.w.now c.args.ranking c.args.recce.now first l) (sym c.in_ok-put_chosen.ensures.goals)
    (ahead_empty c.args.w.now c.args.ranking c.args.recce.now c.requires.read c.requires.tree c.args.walk.now.goals.items c.args.key (c.requires.walking.used c.args.key (Contains-append_right c.args.walk.now.goals.items (c.args.key ∷ []) c.args.key (Contains-first c.args.key []))) c.requires.empty first h)

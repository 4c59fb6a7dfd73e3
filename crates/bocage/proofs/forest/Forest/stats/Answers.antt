use Rattle.std.proofs.Common.{◌∙◌, ◌≤◌, ◌↔◌, List, length, map, Contains, sym, ap, subst}
use Rattle.recognizer_model.specs.declared.NodeKey.{NodeKey}
use Rattle.recognizer_model.specs.Counts.{IsCountOf}
use Rattle.recognizer_model.specs.Leo.{InReduced}
use Rattle.recognizer_model.specs.Nodes.{Placed, IsStats}
use Rattle.earley_sets.specs.Recognizer.{earleme_of, edges_of, top_of}
use Rattle.forest_model.specs.Forest.{Forest, ForestNode}
use Rattle.forest_model.specs.Forest as model
use Rattle.bocage.specs.Rows.{nodes_of}
use Rattle.forest_parts.specs.Counts.{IsHiddenBy}
use Rattle.bocage.specs.Expanded.{IsExpandedIn}
use Rattle.bocage.specs.Walk.{IsUsedIn}
use Rattle.bocage.proofs.Telling.{keys_of_nodes}
use Rattle.bocage.proofs.Expanding.{kept_counted}
use Rattle.forest_parts.proofs.Counting.{count_of}
use Rattle.bocage.proofs.Splits.{used_within}
use Rattle.bocage.proofs.forest.Forest.stats.Goals as goal

pub count_expanded-requires : goal.count_expanded-requires
count_expanded-requires c key h =
    let keys = keys_of_nodes c.self.inside.wholes.items c.self.inside.keys.items (map (λ r. r.now) c.self.inside.table.items) c.self.invariant.1.long in
    let there : Contains (map (λ (n : ForestNode). n.key) (nodes_of c.self.inside.wholes.items c.self.inside.keys.items (map (λ r. r.now) c.self.inside.table.items))) key =
    subst (λ (l : List NodeKey). Contains l key) (c.deref.ensures.value ∙ sym keys) h in
    (used_within c.self.inside.written.now c.self.inside.ranking c.self.inside.recce.now
    (record { checked = c.self.invariant.0.derived.checked; flat_of = c.self.invariant.0.derived.flat_of; is = c.place.ensures.is }) key ((c.self.invariant.0.used.exact key).0 there)).inside

pub returns : goal.returns
returns c =
    let keys = keys_of_nodes c.self.inside.wholes.items c.self.inside.keys.items (map (λ r. r.now) c.self.inside.table.items) c.self.invariant.1.long in
    let used : (key : NodeKey) → Contains c.self.inside.keys.items key ↔ IsUsedIn c.self.inside.written.now c.self.inside.ranking c.self.inside.recce.now key = λ key. (
      λ h. (c.self.invariant.0.used.exact key).0 (subst (λ (l : List NodeKey). Contains l key) (sym keys) h),
      λ u. subst (λ (l : List NodeKey). Contains l key) keys ((c.self.invariant.0.used.exact key).1 u),
    ) in
    subst (λ (f : Forest). IsStats f.flat (model.edges_of f) (model.allowed_of f) (model.top_of f) f.place c.from-tokens.result c.from.result (length c.as_slice.result.now) c.from-2.result) c.self.view_is
    (record {
      places = c.from-tokens.ensures ∙ c.place.ensures.place;
      kept_items = subst (λ n. IsCountOf {A = Placed} (λ p. (p.place ≤ earleme_of c.self.inside.recce.now) × InReduced c.self.inside.recce.now.flat (edges_of c.self.inside.recce.now) (top_of c.self.inside.recce.now) p.place p.item) n)
          (sym (c.from.ensures ∙ c.item_count.ensures)) (kept_counted c.self.inside.recce.now c.place.ensures.is);
      used_nodes = (
        map (λ (n : ForestNode). n.key) (nodes_of c.self.inside.wholes.items c.self.inside.keys.items (map (λ r. r.now) c.self.inside.table.items)),
        c.self.invariant.0.used,
        ap (λ (l : List NodeKey). length l) (keys ∙ sym c.as_slice.ensures.value),
      );
      hidden_items = subst (λ n. IsCountOf (IsExpandedIn c.self.inside.written.now c.self.inside.ranking c.self.inside.recce.now) n) (sym c.from-2.ensures)
          (count_of (IsHiddenBy c.self.inside.recce.now c.self.inside.keys.items) (IsExpandedIn c.self.inside.written.now c.self.inside.ranking c.self.inside.recce.now) c.in_ok-expanded.expanded
          (λ p. (
            λ (hidden, (key, there, e, le)). (hidden, (key, (used key).0 there, e, le)),
            λ (hidden, (key, u, e, le)). (hidden, (key, (used key).1 u, e, le)),
          ))
          (subst (λ (l : List NodeKey). IsCountOf (IsHiddenBy c.self.inside.recce.now l) c.in_ok-expanded.expanded) c.deref.ensures.value c.in_ok-expanded.ensures));
    })

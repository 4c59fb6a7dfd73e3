-- The items that the reduced sets of a reading keep, and the hidden ones that are counted, have lists, where each place has a list of
-- its items and the used nodes have a list; so do the hidden ones that have a used node.
use Rattle.std.proofs.Common.{arith, ◌≡◌, ℕ, suc, ◌≤◌, List, map, flat_map, ap, subst}
use Rattle.grammar_model.specs.Derives.{Edges}
use Rattle.recognizer_model.specs.declared.Item.{Item}
use Rattle.recognizer_model.specs.declared.NodeKey.{NodeKey}
use Rattle.recognizer_model.specs.Flat.{FlatGrammar}
use Rattle.recognizer_model.specs.Items.{InSet}
use Rattle.recognizer_model.specs.Contexts.{IsTop}
use Rattle.recognizer_model.specs.Leo.{InReduced, IsHidden, GoesForward}
use Rattle.recognizer_model.specs.Below.{node_of}
use Rattle.recognizer_model.specs.Counts.{IsListOf}
use Rattle.recognizer_model.specs.Chosen.{Allowed}
use Rattle.recognizer_model.specs.Nodes.{IsUsed, Placed, IsExpanded}
use Rattle.recognizer_model.proofs.Leo.{reduced_inside}
use Rattle.finite_sets.specs.Decided.{IsDecided}
use Rattle.finite_sets.proofs.Deciding.{both, moved, equal, at_most}
use Rattle.finite_sets.proofs.Members.{Among, among_from, contains_from, among_map, among_flat_map, values, among_values, some_among, member}
use Rattle.number_laws.proofs.Lists.{list_of}
use Rattle.number_laws.proofs.Kept.{in_set, kept_decided, hidden_decided, hidden_inside}
use Rattle.grammar_laws.proofs.ItemSets.{same_item}
use Rattle.forest_laws.proofs.Existing.{same_key}

same_placed : (x y : Placed) → IsDecided (x ≡ y)
same_placed x y =
    moved (λ (a, b) i. record { place = a i; item = b i }) (λ e. (ap (λ (u : Placed). u.place) e, ap (λ (u : Placed). u.item) e))
    (both (equal x.place y.place) (same_item x.item y.item))

module _ (g : FlatGrammar) (E : Edges) (top : ℕ) (is_top : IsTop g top) (forward : GoesForward E) (edge : (x p q : ℕ) → IsDecided (E x p q))
    (sets : (j : ℕ) → (items : List Item) × IsListOf (InSet g E top j) items) where
  -- all items of these places
  items_at : List ℕ → List Placed
  items_at places = flat_map (λ j. map (λ item. record { place = j; item = item }) (sets j).0) places

  in_items : (places : List ℕ) (p : Placed) → Among p.place places → InSet g E top p.place p.item → Among p (items_at places)
  unfolding items_at
  in_items places p m i =
      among_flat_map (λ j. map (λ item. record { place = j; item = item }) (sets j).0) p.place p places m
      (among_map (λ item. record { place = p.place; item = item }) p.item (sets p.place).0 (in_set g E top is_top forward edge sets p.place p.item i))

  pub kept_list : (place : ℕ) → (xs : List Placed) × IsListOf (λ p. (p.place ≤ place) × InReduced g E top p.place p.item) xs
  kept_list place =
      list_of (λ p. (p.place ≤ place) × InReduced g E top p.place p.item) same_placed (λ p. both (at_most p.place place) (kept_decided g E top is_top forward edge sets p.place p.item)) (items_at (values (λ j. j) (suc place)))
      (λ p (le, k). in_items (values (λ j. j) (suc place)) p (among_values (λ j. j) (suc place) p.place (omega (arith, le))) (reduced_inside g E top is_top forward k))

  module _ (allowed : Allowed) (place : ℕ) (used : List NodeKey) (are : IsListOf (IsUsed g E allowed top place) used) where
    expanded_decided : (p : Placed) → IsDecided (IsExpanded g E allowed top place p)
    expanded_decided p =
        both (hidden_decided g E top is_top forward edge sets p.place p.item)
        (moved (λ (n, m, (e, le)). (n, (are.exact n).0 (contains_from used n m), e, le)) (λ (n, u, e, le). (n, among_from used n ((are.exact n).1 u), (e, le)))
        (some_among (λ n. (n.end ≡ p.place) × (n.origin ≤ p.item.origin)) used (λ n m. both (equal n.end p.place) (at_most n.origin p.item.origin))))

    pub expanded_list : (xs : List Placed) × IsListOf (IsExpanded g E allowed top place) xs
    expanded_list =
        list_of (IsExpanded g E allowed top place) same_placed expanded_decided (items_at (map (λ n. n.end) used))
        (λ p (hidden, (n, u, e, le)). in_items (map (λ n. n.end) used) p (subst (λ k. Among k (map (λ (n : NodeKey). n.end) used)) e (among_map (λ (n : NodeKey). n.end) n used (among_from used n ((are.exact n).1 u))))
        (hidden_inside g E top is_top forward edge sets p.place p.item hidden))

    abbrev pub HasNode : Placed → Type 0
    HasNode p = IsHidden g E top p.place p.item × IsUsed g E allowed top place (node_of p.item p.place)

    has_node : (p : Placed) → IsDecided (HasNode p)
    has_node p =
        let n = node_of p.item p.place in
        both (hidden_decided g E top is_top forward edge sets p.place p.item)
        (moved (λ m. (are.exact n).0 (contains_from used n m)) (λ u. among_from used n ((are.exact n).1 u)) (member same_key n used))

    pub hidden_list : (xs : List Placed) × IsListOf HasNode xs
    hidden_list =
        list_of HasNode same_placed has_node (items_at (map (λ n. n.end) used))
        (λ p (hidden, u). in_items (map (λ n. n.end) used) p (among_map (λ (n : NodeKey). n.end) (node_of p.item p.place) used (among_from used (node_of p.item p.place) ((are.exact (node_of p.item p.place)).1 u)))
        (hidden_inside g E top is_top forward edge sets p.place p.item hidden))

-- Nodes by their numbers.
use Rattle.std.proofs.Common.{◌≡◌, ℕ, zero, suc, ◌<◌, ◌≤◌, List, [], ◌∷◌, Some, None, cond, nat_lt, ◌==◌, position, length, map, get_or, slice_get, refl, sym, ap, arith}
use Rattle.std.proofs.lemmas.List.{length-map}
use Rattle.grammar_core.proofs.Growth.{position_or_len-map}
use Rattle.std.proofs.lemmas.Option.{slice_get-get_or}
use Rattle.finite_sets.proofs.Lists.{got_at}
use Rattle.recognizer_model.specs.declared.NodeKey.{NodeKey}
use Rattle.forest_model.specs.Forest.{Alternative, ForestNode}
use Rattle.bocage.specs.declared.rows.AlternativeRow.{AlternativeRow}
use Rattle.bocage.specs.Rows.{alternative_of, nodes_of, IsTable}

pub get_node : (wholes : List ℕ) (keys : List NodeKey) (table : List (List AlternativeRow)) (n : ℕ) (key : NodeKey) (rows : List AlternativeRow) → slice_get keys n ≡ Some key → slice_get table n ≡ Some rows →
    slice_get (nodes_of wholes keys table) n ≡ Some (record { key = key; alternatives = map (alternative_of wholes) rows })
get_node wholes [] table n key rows a b = absurd (cc)
get_node wholes (k ∷ keys) [] n key rows a b = absurd (cc)
get_node wholes (k ∷ keys) (x ∷ table) zero key rows a b =
    let e : k ≡ key = cc in
    let f : x ≡ rows = cc in
    λ i. Some (record { key = e i; alternatives = map (alternative_of wholes) (f i) })
get_node wholes (k ∷ keys) (x ∷ table) (suc n) key rows a b = get_node wholes keys table n key rows a b

pub got_node : (wholes : List ℕ) (keys : List NodeKey) (table : List (List AlternativeRow)) (n : ℕ) (node : ForestNode) → slice_get (nodes_of wholes keys table) n ≡ Some node →
    (rows : List AlternativeRow) × (slice_get keys n ≡ Some node.key) × (slice_get table n ≡ Some rows) × (node.alternatives ≡ map (alternative_of wholes) rows)
got_node wholes [] table n node a = absurd (cc)
got_node wholes (k ∷ keys) [] n node a = absurd (cc)
got_node wholes (k ∷ keys) (x ∷ table) zero node a =
    let e : record { key = k; alternatives = map (alternative_of wholes) x } ≡ node = cc in
    (x, ap (λ (z : ForestNode). Some z.key) e, refl, sym (ap (λ (z : ForestNode). z.alternatives) e))
got_node wholes (k ∷ keys) (x ∷ table) (suc n) node a = got_node wholes keys table n node a

pub keys_of_nodes : (wholes : List ℕ) (keys : List NodeKey) (table : List (List AlternativeRow)) → length keys ≤ length table → map (λ (n : ForestNode). n.key) (nodes_of wholes keys table) ≡ keys
keys_of_nodes wholes [] table le = refl
keys_of_nodes wholes (k ∷ keys) [] le = absurd (omega arith)
keys_of_nodes wholes (k ∷ keys) (x ∷ table) le = ap (λ l. k ∷ l) (keys_of_nodes wholes keys table (omega arith))

pub nodes_long : (wholes : List ℕ) (keys : List NodeKey) (table : List (List AlternativeRow)) → length keys ≤ length table → length (nodes_of wholes keys table) ≡ length keys
nodes_long wholes [] table le = refl
nodes_long wholes (k ∷ keys) [] le = absurd (omega arith)
nodes_long wholes (k ∷ keys) (x ∷ table) le = ap suc (nodes_long wholes keys table (omega arith))

-- the node of a number
pub node_told : (wholes : List ℕ) (keys : List NodeKey) (table : List (List AlternativeRow)) (n : ℕ) (key : NodeKey) (rows : List AlternativeRow) (d : ForestNode) → slice_get keys n ≡ Some key → slice_get table n ≡ Some rows →
    get_or (nodes_of wholes keys table) n d ≡ record { key = key; alternatives = map (alternative_of wholes) rows }
node_told wholes keys table n key rows d a b = (got_at (nodes_of wholes keys table) n _ d (sym (get_node wholes keys table n key rows a b))).1

module _ (wholes : List ℕ) (keys : List NodeKey) (table : List (List AlternativeRow)) (is : IsTable keys table wholes) where
  pub key_told : (n : ℕ) (key : NodeKey) (d : ForestNode) → slice_get keys n ≡ Some key → (get_or (nodes_of wholes keys table) n d).key ≡ key
  key_told n key d a =
      let (lt, e) = got_at keys n key key (sym a) in
      let long = is.long in
      ap (λ (z : ForestNode). z.key) (node_told wholes keys table n key (get_or table n []) d a (slice_get-get_or table n [] (omega arith)))

  pub rows_told : (n : ℕ) (rows : List AlternativeRow) (d : ForestNode) → n < length keys → slice_get table n ≡ Some rows → (get_or (nodes_of wholes keys table) n d).alternatives ≡ map (alternative_of wholes) rows
  rows_told n rows d lt b = ap (λ (z : ForestNode). z.alternatives) (node_told wholes keys table n _ rows d (slice_get-get_or keys n (record { rule = 0; dot = 0; origin = 0; end = 0 }) lt) b)

-- where an alternative stands, by the rows that are kept
pub position_told : (wholes : List ℕ) (rows : List AlternativeRow) (start : ℕ) → position (λ (row : AlternativeRow). row.start == start) rows ≡ position (λ (a : Alternative). a.start == start) (map (alternative_of wholes) rows)
position_told wholes rows start =
    let at = sym (position_or_len-map (λ (a : Alternative). a.start == start) (alternative_of wholes) rows) in
    let long = sym (length-map rows (alternative_of wholes)) in
    λ i. cond (nat_lt (at i) (long i)) (Some (at i)) None

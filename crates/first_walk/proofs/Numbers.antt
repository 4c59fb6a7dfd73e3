-- The numbers of a forest's nodes.
use Rattle.std.proofs.Common.{◌≡◌, ◌⊎◌, inl, inr, ℕ, zero, suc, Bool, true, false, if◌then◌else◌, List, [], ◌∷◌, map, Some, slice_get, refl, sym, ◌∙◌, ap, subst, eq-eqb}
use Rattle.std.specs.Prelude.{◌==◌, ◌&&◌}
use Rattle.std.proofs.lemmas.Bool.{and_parts, and_from, eqb-true}
use Rattle.finite_sets.proofs.Lists.{get_among}
use Rattle.finite_sets.proofs.Members.{Among, Once, among_map}
use Rattle.recognizer_model.specs.declared.NodeKey.{NodeKey}
use Rattle.forest_model.specs.Forest.{ForestNode}
use Rattle.first_walk.specs.Going.{is_key, number_of}

key_true : (a b : NodeKey) → is_key a b ≡ true → a ≡ b
key_true a b h =
    let (r, h1) = and_parts (a.rule == b.rule) ((a.dot == b.dot) && ((a.origin == b.origin) && (a.end == b.end))) h in
    let (d, h2) = and_parts (a.dot == b.dot) ((a.origin == b.origin) && (a.end == b.end)) h1 in
    let (o, e) = and_parts (a.origin == b.origin) (a.end == b.end) h2 in
    let er = eqb-true a.rule b.rule r in
    let ed = eqb-true a.dot b.dot d in
    let eo = eqb-true a.origin b.origin o in
    let ee = eqb-true a.end b.end e in
    λ i. record { rule = er i; dot = ed i; origin = eo i; end = ee i }

true_key : (a b : NodeKey) → a ≡ b → is_key a b ≡ true
true_key a b e =
    and_from (a.rule == b.rule) ((a.dot == b.dot) && ((a.origin == b.origin) && (a.end == b.end))) (eq-eqb a.rule b.rule (ap (λ (z : NodeKey). z.rule) e))
    (and_from (a.dot == b.dot) ((a.origin == b.origin) && (a.end == b.end)) (eq-eqb a.dot b.dot (ap (λ (z : NodeKey). z.dot) e))
    (and_from (a.origin == b.origin) (a.end == b.end) (eq-eqb a.origin b.origin (ap (λ (z : NodeKey). z.origin) e)) (eq-eqb a.end b.end (ap (λ (z : NodeKey). z.end) e))))

abbrev keys_of : List ForestNode → List NodeKey
keys_of nodes = map (λ (n : ForestNode). n.key) nodes

-- a key among those of the nodes has its number
pub numbered : (nodes : List ForestNode) (key : NodeKey) → Among key (keys_of nodes) → (node : ForestNode) × (slice_get nodes (number_of nodes key) ≡ Some node) × (node.key ≡ key)
numbered [] key h = absurd h
numbered (node ∷ nodes) key h = go (is_key node.key key) refl h (λ i. numbered nodes key i)
  where
    go : (b : Bool) → is_key node.key key ≡ b → (node.key ≡ key) ⊎ Among key (keys_of nodes) →
        (Among key (keys_of nodes) → (n : ForestNode) × (slice_get nodes (number_of nodes key) ≡ Some n) × (n.key ≡ key)) → (n : ForestNode) × (slice_get (node ∷ nodes) (if b then 0 else suc (number_of nodes key)) ≡ Some n) × (n.key ≡ key)
    go true e h rest = (node, refl, key_true node.key key e)
    go false e (inl same) rest = let no : false ≡ true = sym e ∙ true_key node.key key same in absurd (cc)
    go false e (inr i) rest = rest i

-- and no other
pub only_number : (nodes : List ForestNode) → Once (keys_of nodes) → (n : ℕ) (node : ForestNode) (key : NodeKey) → slice_get nodes n ≡ Some node → node.key ≡ key → n ≡ number_of nodes key
only_number [] once n node key at is = absurd (cc)
only_number (first ∷ nodes) once zero node key at is =
    let same : first ≡ node = cc in
    sym (ap (λ b. if b then 0 else suc (number_of nodes key)) (true_key first.key key (ap (λ (z : ForestNode). z.key) same ∙ is)))
only_number (first ∷ nodes) once (suc n) node key at is = go (is_key first.key key) refl (only_number nodes once.1 n node key at is)
  where
    there : Among key (keys_of nodes)
    there = subst (λ z. Among z (keys_of nodes)) is (among_map (λ (z : ForestNode). z.key) node nodes (get_among nodes n node at))

    go : (b : Bool) → is_key first.key key ≡ b → n ≡ number_of nodes key → suc n ≡ (if b then 0 else suc (number_of nodes key))
    go true e rest = absurd (once.0 (subst (λ z. Among z (keys_of nodes)) (sym (key_true first.key key e)) there))
    go false e rest = ap suc rest

-- The shapes of a slot over a span, by the walks from the nodes of its group.
use Rattle.std.proofs.Common.{◌≡◌, ◌≢◌, ℕ, List, [], ◌∷◌, ◌++◌, map, flat_map, Some, refl, sym, ap, ◌∙◌, subst}
use Rattle.std.specs.Prelude.{slice_get}
use Rattle.finite_sets.proofs.Members.{Among}
use Rattle.grammar_model.specs.Grammar.{Slot}
use Rattle.grammar_model.specs.Trees.{Tree, Children, Node}
use Rattle.grammar_model.specs.Derives.{Held}
use Rattle.grammar_model.specs.Order.{rank_order}
use Rattle.grammar_model.specs.All.{IsAll}
use Rattle.recognizer_model.specs.Flat.{FlatGrammar, source_of}
use Rattle.recognizer_model.specs.declared.flat.FlatSource.TheVariants.{Written}
use Rattle.recognizer_model.specs.FlatForm.{tree_of, children_of, node_by}
use Rattle.forest_model.specs.Forest.{Forest, IsForest}
use Rattle.glade_model.specs.Glades.{Shape, shape_of, HasShapes}
use Rattle.glade_model.proofs.Turning.{turn_shapes}
use Rattle.forest_laws.specs.Lists.{Lists, AreLists, rule_of, whole_by}
use Rattle.glade_laws.specs.Walks.{IsFirst, IsOnly, IsSecond}
use Rattle.glade_laws.proofs.Walked.{Kinds, written_starts, Begins, AreAll, Turns, Has, first_is, only_is, second_is, begins_append, begins_map, all_map, all_append, turns_append, turns_after, turns_map}
use Rattle.glade_laws.proofs.Differing.{other_starts, only_first}

abbrev pub the_shape : ℕ → List ℕ → Shape
the_shape i s = record { rule = i; starts = s }

module _ (f : Forest) (is : IsForest f) (lists : Lists) (are : AreLists f lists) (kinds : Kinds f lists) (p q : ℕ) where
  abbrev g : FlatGrammar
  g = f.flat

  -- a tree of the written grammar has the shape
  abbrev pub HasShape : ℕ → List ℕ → Tree → Type 0
  HasShape i s t = shape_of t ≡ Some (the_shape i s)

  -- the trees of a node's rule
  abbrev pub trees_at : ℕ → List Tree
  trees_at k = map (tree_of f.written g) (whole_by f lists p q k)

  module _ (k i : ℕ) (source : source_of g (rule_of (slice_get f.nodes k)) ≡ Written i) where
    shaped : (s : List ℕ) (cs : Children) → written_starts f cs ≡ s → HasShape i s (tree_of f.written g (Node (rule_of (slice_get f.nodes k)) cs p q))
    shaped s cs h = ap (λ x. shape_of (node_by x (children_of f.written g cs) p q)) source ∙ ap (λ z. Some (the_shape i z)) h

    abbrev FlatShape : List ℕ → Tree → Type 0
    FlatShape s t = HasShape i s (tree_of f.written g t)

    pub first_trees : (s : List ℕ) → IsFirst f k s → Begins (HasShape i s) (trees_at k)
    first_trees s walk = begins_map (FlatShape s) (HasShape i s) (tree_of f.written g) (λ t h. h) _ (begins_map (Has f lists are kinds s) (FlatShape s) _ (shaped s) (lists k) (first_is f lists are kinds k s walk))

    pub only_trees : (s : List ℕ) → IsOnly f k s → AreAll (HasShape i s) (trees_at k)
    only_trees s walk = all_map (FlatShape s) (HasShape i s) (tree_of f.written g) (λ t h. h) _ (all_map (Has f lists are kinds s) (FlatShape s) _ (shaped s) (lists k) (only_is f lists are kinds k s walk))

    pub second_trees : (s s' : List ℕ) → IsSecond f k s s' → Turns (HasShape i s) (HasShape i s') (trees_at k)
    second_trees s s' walk =
        turns_map (FlatShape s) (FlatShape s') (HasShape i s) (HasShape i s') (tree_of f.written g) (λ t h. h) (λ t h. h) _
        (turns_map (Has f lists are kinds s) (Has f lists are kinds s') (FlatShape s) (FlatShape s') _ (shaped s) (shaped s') (lists k) (second_is f lists are kinds k s s' walk))

  pub trees_join : (nodes : List ℕ) → map (tree_of f.written g) (flat_map (whole_by f lists p q) nodes) ≡ flat_map trees_at nodes
  trees_join [] = refl
  trees_join (k ∷ ks) = map_join (tree_of f.written g) (whole_by f lists p q k) (flat_map (whole_by f lists p q) ks) ∙ ap (λ l. trees_at k ++ l) (trees_join ks)
    where
      map_join : {X Y : Type 0} (h : X → Y) (xs ys : List X) → map h (xs ++ ys) ≡ map h xs ++ map h ys
      map_join h [] ys = refl
      map_join h (x ∷ xs) ys = ap (λ l. h x ∷ l) (map_join h xs ys)

  module _ (slot : Slot) (nodes : List ℕ) (all : IsAll f.written (Held f.edges) (rank_order f.written f.ranking) slot p q (map (tree_of f.written g) (flat_map (whole_by f lists p q) nodes))) where
    abbrev HasTwo : Shape → Shape → Type 0
    HasTwo a b = HasShapes f.written (Held f.edges) (rank_order f.written f.ranking) slot p q a b

    same_shape : (i i' : ℕ) (s s' : List ℕ) (t : Tree) → HasShape i s t → HasShape i' s' t → the_shape i s ≡ the_shape i' s'
    same_shape i i' s s' t h h' = some_inj (sym h ∙ h')
      where
        some_inj : {a b : Shape} → Some a ≡ Some b → a ≡ b
        some_inj e = cc

    -- a list of trees that turns from a shape to another has these two
    by_turn : (i i' : ℕ) (s s' : List ℕ) → the_shape i' s' ≢ the_shape i s → Begins (HasShape i s) (flat_map trees_at nodes) → Turns (HasShape i s) (HasShape i' s') (flat_map trees_at nodes) → HasTwo (the_shape i s) (the_shape i' s')
    by_turn i i' s s' other (t, rest, e, h) ([], u, behind, e', before, h') =
        let same : t ∷ rest ≡ u ∷ behind = sym e ∙ e' in
        let t_is : t ≡ u = head same in
        absurd (other (same_shape i' i s' s u h' (subst (HasShape i s) t_is h)))
      where
        head : {x y : Tree} {xs ys : List Tree} → x ∷ xs ≡ y ∷ ys → x ≡ y
        head e = cc
    by_turn i i' s s' other begins (t ∷ front, u, behind, e', before, h') =
        turn_shapes f.written (Held f.edges) (rank_order f.written f.ranking) slot p q _ all (the_shape i s) (the_shape i' s') t front u behind (trees_join nodes ∙ e') before h' other

    -- the second shape is one of the first rule
    pub in_one_rule : (k : ℕ) (more : List ℕ) (i : ℕ) (s s' : List ℕ) → nodes ≡ k ∷ more → source_of g (rule_of (slice_get f.nodes k)) ≡ Written i → IsFirst f k s → IsSecond f k s s' → HasTwo (the_shape i s) (the_shape i s')
    in_one_rule k more i s s' e source first second =
        by_turn i i s s' (λ same. other_starts f is lists are kinds k s s' second (sym (ap (λ (x : Shape). x.starts) same)))
        (subst (λ ns. Begins (HasShape i s) (flat_map trees_at ns)) (sym e) (begins_append (HasShape i s) _ _ (first_trees k i source s first)))
        (subst (λ ns. Turns (HasShape i s) (HasShape i s') (flat_map trees_at ns)) (sym e) (turns_append (HasShape i s) (HasShape i s') _ _ (second_trees k i source s s' second)))

    -- the first rule has one shape, and the second is that of the next
    pub in_two_rules : (k k' : ℕ) (more : List ℕ) (i i' : ℕ) (s s' : List ℕ) → nodes ≡ k ∷ k' ∷ more → source_of g (rule_of (slice_get f.nodes k)) ≡ Written i → source_of g (rule_of (slice_get f.nodes k')) ≡ Written i' →
        IsOnly f k s → IsFirst f k' s' → the_shape i' s' ≢ the_shape i s → HasTwo (the_shape i s) (the_shape i' s')
    in_two_rules k k' more i i' s s' e source source' only first other =
        by_turn i i' s s' other
        (subst (λ ns. Begins (HasShape i s) (flat_map trees_at ns)) (sym e) (begins_append (HasShape i s) _ _ (first_trees k i source s (only_first f is lists are kinds k s only))))
        (subst (λ ns. Turns (HasShape i s) (HasShape i' s') (flat_map trees_at ns)) (sym e)
        (turns_after (HasShape i s) (HasShape i' s') _ _ (only_trees k i source s only) (begins_append (HasShape i' s') _ _ (first_trees k' i' source' s' first))))

    -- one rule with one shape: all trees have it
    pub in_one_shape : (k : ℕ) (i : ℕ) (s : List ℕ) → nodes ≡ k ∷ [] → source_of g (rule_of (slice_get f.nodes k)) ≡ Written i → IsOnly f k s → (t : Tree) → Among t (flat_map trees_at nodes) → HasShape i s t
    in_one_shape k i s e source only t m =
        all_append (HasShape i s) _ [] (only_trees k i source s only) (λ x n. absurd n) t (subst (λ ns. Among t (flat_map trees_at ns)) e m)

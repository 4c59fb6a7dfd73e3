-- What is found at one node.
use Rattle.std.proofs.Common.{◌≡◌, ℕ, ◌+◌, ◌<◌, Bool, true, false, List, [], ◌∷◌, ◌++◌, map, take, length, Some, Contains, refl, sym, ap, ◌∙◌, subst, arith}
use Rattle.std.specs.Prelude.{slice_get}
use Rattle.std.proofs.lemmas.List.{take_more}
use Rattle.std.proofs.lemmas.Option.{slice_get-get_or}
use Rattle.finite_sets.proofs.Lists.{get_item}
use Rattle.grammar_model.specs.declared.Ranking.TheVariants.{Rule as RuleRanks}
use Rattle.forest_model.specs.Forest.{AnEdge, Wholes, Alternative, Forest, IsForest}
use Rattle.bocage.specs.Readers.{alternative_at, node_at}
use Rattle.glade_laws.specs.Walks.{is_list_part, before_at, whole_nodes}
use Rattle.glade_laws.proofs.Choosing.{AreChoices, choices}
use Rattle.glades.specs.declared.links.Link.{Link}
use Rattle.glades.specs.Links.{link_by, link_to, link_of}
use Rattle.glades.proofs.Nodes.{node_there}
use Rattle.glades.proofs.Noting.{cause_within}

map_append : {X Y : Type 0} (h : X → Y) (xs ys : List X) → map h (xs ++ ys) ≡ map h xs ++ map h ys
map_append h [] ys = refl
map_append h (x ∷ xs) ys = ap (λ l. h x ∷ l) (map_append h xs ys)

pub links_next : (f : Forest) (k : ℕ) → k < length f.nodes → map (link_of f) (take (k + 1) f.nodes) ≡ map (link_of f) (take k f.nodes) ++ link_of f (node_at f k) ∷ []
links_next f k lt = ap (map (link_of f)) (take_more f.nodes k (record { key = record { rule = 0; dot = 0; origin = 0; end = 0 }; alternatives = [] }) lt) ∙ map_append (link_of f) (take k f.nodes) (node_at f k ∷ [])

module _ (f : Forest) (is : IsForest f) (n : ℕ) (lt : n < length f.nodes) (alternatives : List Alternative) (same : alternatives ≡ (node_at f n).alternatives) where
  pub first_within : (at k : ℕ) → at < length alternatives → slice_get (whole_nodes (alternative_at alternatives at).cause) 0 ≡ Some k → k < length f.nodes
  first_within at k below e =
      cause_within f is n (node_at f n) (node_there f n lt) (alternative_at alternatives at)
      (subst (λ (l : List Alternative). Contains l (alternative_at alternatives at)) same
      (get_item alternatives at (alternative_at alternatives at) (slice_get-get_or alternatives at (record { start = 0; predecessor = Rattle.std.specs.Prelude.None; cause = AnEdge }) below))) k e

  module _ (rule : f.ranking ≡ RuleRanks) where
    known : AreChoices f (node_at f n)
    known = choices f is rule n (node_at f n) (node_there f n lt)

    pub some_there : 0 < length alternatives
    some_there = let long = ap (λ (l : List Alternative). length l) (same ∙ known.alternatives) in omega (arith, long)

    -- the link, however it was found
    pub link_found : (list : Bool) → list ≡ is_list_part f (node_at f n).key → (link : Link) → (list ≡ true → (nodes : List ℕ) → (alternative_at alternatives 0).cause ≡ Wholes nodes → link ≡ link_to nodes) →
        (list ≡ false → link ≡ link_by (before_at (slice_get alternatives 0)) (before_at (slice_get alternatives 1))) → link ≡ link_of f (node_at f n)
    link_found true e link by_list by_child =
        let (nodes, cause, is_options) = known.list (sym e) in
        by_list refl nodes (ap (λ l. (alternative_at l 0).cause) (same ∙ known.alternatives) ∙ cause) ∙ ap link_to (sym is_options)
    link_found false e link by_list by_child =
        let (first, second) = known.child (sym e) in
        by_child refl ∙ (λ i. link_by (before_at (slice_get ((same ∙ known.alternatives) i) 0)) (before_at (slice_get ((same ∙ known.alternatives) i) 1))) ∙ (λ i. link_by (sym first i) (sym second i))

-- From each node the walks by choices come to an end, and there is a second one or none.
use Rattle.std.proofs.Common.{◌≡◌, ℕ, zero, suc, ◌<◌, Bool, true, false, List, [], ◌∷◌, ◌⊎◌, inl, inr, Option, Some, None, refl, sym, ap, ◌∙◌, subst, arith}
use Rattle.std.specs.Prelude.{slice_get, slice_index_or}
use Rattle.std.proofs.lemmas.Option.{slice_get-get_or}
use Rattle.finite_sets.proofs.Lists.{get_among, get_index, among_get}
use Rattle.finite_sets.proofs.Members.{Among, contains_from, among_flat_map_from}
use Rattle.forest_model.specs.Forest.{Cause, AnEdge, Nothing, Wholes, Alternative, ForestNode, Forest, IsForest, IsCause, IsPredecessor, AreAlternatives}
use Rattle.glade_laws.specs.Walks.{is_list_part, option_by, options, passed, IsFirst, IsOnly, IsSecond}
use Rattle.glade_laws.specs.Walks.IsFirst.{FirstEnds, FirstGoes}
use Rattle.glade_laws.specs.Walks.IsOnly.{OnlyEnds, OnlyGoes}
use Rattle.glade_laws.specs.Walks.IsSecond.{Here, Below}
use Rattle.glade_laws.proofs.Falling.{to_walk, falls}

module _ (f : Forest) (is : IsForest f) where
  abbrev alternatives_of : (n : ℕ) (node : ForestNode) → slice_get f.nodes n ≡ Some node → AreAlternatives f node.key node.alternatives
  alternatives_of n node there = is.alternatives node (contains_from f.nodes node (get_among f.nodes n node there))

  abbrev IsThere : ℕ → Type 0
  IsThere m = (inner : ForestNode) × (slice_get f.nodes m ≡ Some inner)

  option_there : (node : ForestNode) (a : AreAlternatives f node.key node.alternatives) (b : Alternative) (o : Option ℕ) (cause : Cause) (t : Bool) →
      IsPredecessor f node.key.rule a.dot node.key.origin b.start o → IsCause f a.symbol b.start node.key.end cause → (m : ℕ) → Among m (option_by t o cause) → IsThere m
  option_there node a b (Some n) cause t (some, (inner, at, key)) h m (inl e) = (inner, ap (slice_get f.nodes) (sym e) ∙ at)
  option_there node a b (Some n) cause t before h m (inr k) = absurd k
  option_there node a b None cause false before h m k = absurd k
  option_there node a b None AnEdge true before h m k = absurd k
  option_there node a b None Nothing true before h m k = absurd k
  option_there node a b None (Wholes nodes) true before h m k =
      let (i, at) = among_get nodes m k in
      let lt = (get_index nodes i 0 m at).0 in
      let count = h.all in
      let (inner, e, key) = h.each i m (slice_index_or h.rules i 0) at (slice_get-get_or h.rules i 0 (omega (arith, lt, count))) in
      (inner, e)

  pub next_there : (n : ℕ) (node : ForestNode) → slice_get f.nodes n ≡ Some node → (m : ℕ) → Among m (options f node) → IsThere m
  next_there n node there m among =
      let a = alternatives_of n node there in
      let (b, held, inside) = among_flat_map_from (λ (c : Alternative). option_by (is_list_part f node.key) c.predecessor c.cause) m node.alternatives among in
      let h = a.each b (contains_from node.alternatives b held) in
      option_there node a b b.predecessor b.cause (is_list_part f node.key) h.predecessor h.cause m inside

  abbrev pub Walks : ℕ → Type 0
  Walks n = (s : List ℕ) × IsFirst f n s × (IsOnly f n s ⊎ ((other : List ℕ) × IsSecond f n s other))

  walks_below : (bound n : ℕ) (node : ForestNode) → slice_get f.nodes n ≡ Some node → to_walk f node.key < bound → Walks n
  walks_below zero n node there lt = absurd (omega (arith, lt))
  walks_below (suc bound) n node there lt =
      by (options f node) refl
      (λ m among. (let (inner, at) = next_there n node there m among in
      let less = falls f is node (alternatives_of n node there) m among inner at in
      walks_below bound m inner at (omega (arith, less, lt))))
    where
      by : (os : List ℕ) → options f node ≡ os → ((m : ℕ) → Among m (options f node) → Walks m) → Walks n
      by [] e walk = (node.key.origin ∷ [], FirstEnds node there e, inl (OnlyEnds node there e))
      by (m ∷ []) e walk = go (walk m (subst (Among m) (sym e) (inl refl)))
        where
          go : Walks m → Walks n
          go (s, first, inl only) = (passed f node m s, FirstGoes node m [] s there e first, inl (OnlyGoes node m s there e only))
          go (s, first, inr (other, second)) = (passed f node m s, FirstGoes node m [] s there e first, inr (passed f node m other, Below node m [] s other there e second))
      by (m ∷ m' ∷ more) e walk = go (walk m (subst (Among m) (sym e) (inl refl))) (walk m' (subst (Among m') (sym e) (inr (inl refl))))
        where
          go : Walks m → Walks m' → Walks n
          go (s, first, inl only) (s', first', rest) = (passed f node m s, FirstGoes node m (m' ∷ more) s there e first, inr (passed f node m' s', Here node m m' more s s' there e only first'))
          go (s, first, inr (other, second)) w = (passed f node m s, FirstGoes node m (m' ∷ more) s there e first, inr (passed f node m other, Below node m (m' ∷ more) s other there e second))

  pub walks : (n : ℕ) (node : ForestNode) → slice_get f.nodes n ≡ Some node → Walks n
  walks n node there = walks_below (suc (to_walk f node.key)) n node there (omega arith)

-- What a node's first two choices are, read off its alternatives; and what follows for the walks.
use Rattle.std.proofs.Common.{◌≡◌, ℕ, Bool, true, false, List, [], ◌∷◌, ◌++◌, flat_map, inl, inr, Some, None, refl, sym, ap, ◌∙◌, subst}
use Rattle.std.specs.Prelude.{slice_get}
use Rattle.std.proofs.lemmas.Bool.{true≢false}
use Rattle.std.proofs.lemmas.List.{append-nil}
use Rattle.finite_sets.proofs.Members.{Among}
use Rattle.grammar_model.specs.declared.Ranking.TheVariants.{Rule as RuleRanks}
use Rattle.forest_model.specs.Forest.{Wholes, Alternative, ForestNode, Forest, IsForest}
use Rattle.forest_laws.specs.Lists.{Lists, AreLists}
use Rattle.forest_laws.proofs.Exact.{forests_have_lists}
use Rattle.glade_laws.specs.Walks.{is_list_part, option_by, options, before_at, passed, IsFirst, IsOnly, IsSecond, HasSecond}
use Rattle.glade_laws.specs.Walks.IsFirst.{FirstEnds, FirstGoes}
use Rattle.glade_laws.specs.Walks.IsOnly.{OnlyEnds, OnlyGoes}
use Rattle.glade_laws.specs.Walks.IsSecond.{Here, Below}
use Rattle.glade_laws.proofs.Walked.{Kind, OfList, OfFirst, OfLater, Kinds, list_options, first_options, later_options}
use Rattle.glade_laws.proofs.NodeKinds.{kinds}
use Rattle.glade_laws.proofs.Reaching.{Walks, walks, next_there}
use Rattle.glade_laws.proofs.Stocked.{stocked}

module _ (f : Forest) where
  -- what the first two choices of a node are
  pub record AreChoices (node : ForestNode) : Type 0 where
    pub first : Alternative
    pub more : List Alternative
    pub alternatives : node.alternatives ≡ first ∷ more
    pub list : is_list_part f node.key ≡ true → (nodes : List ℕ) × (first.cause ≡ Wholes nodes) × (options f node ≡ nodes)
    pub child : is_list_part f node.key ≡ false → (slice_get (options f node) 0 ≡ first.predecessor) × (slice_get (options f node) 1 ≡ before_at (slice_get more 0))

  -- ---- walks along first choices

  none_some : {X : Type 0} {x : X} → None ≡ Some x → ⊥
  none_some e = cc

  some_is : {X : Type 0} {x y : X} → Some x ≡ Some y → x ≡ y
  some_is e = cc

  one_node : (n : ℕ) (a b : ForestNode) → slice_get f.nodes n ≡ Some a → slice_get f.nodes n ≡ Some b → a ≡ b
  one_node n a b e e' = some_is (sym e ∙ e')

  nil_cons : {X : Type 0} {x : X} {xs : List X} → [] ≡ x ∷ xs → ⊥
  nil_cons e = cc

  head_is : {X : Type 0} {x y : X} {xs ys : List X} → x ∷ xs ≡ y ∷ ys → x ≡ y
  head_is e = cc

  -- two walks by first choices pass the same
  pub one_first : (n : ℕ) (s t : List ℕ) → IsFirst f n s → IsFirst f n t → s ≡ t
  one_first n s t (FirstEnds a e o) (FirstEnds b e' o') = ap (λ (x : ForestNode). x.key.origin ∷ []) (one_node n a b e e')
  one_first n s t (FirstEnds a e o) (FirstGoes b m more starts e' o' w) = absurd (nil_cons (sym o ∙ ap (options f) (one_node n a b e e') ∙ o'))
  one_first n s t (FirstGoes a m more starts e o w) (FirstEnds b e' o') = absurd (nil_cons (sym o' ∙ ap (options f) (sym (one_node n a b e e')) ∙ o))
  one_first n s t (FirstGoes a m more starts e o w) (FirstGoes b m' more' starts' e' o' w') =
      let node = one_node n a b e e' in
      let next : m ≡ m' = head_is (sym o ∙ ap (options f) node ∙ o') in
      let inner = one_first m starts starts' w (subst (λ k. IsFirst f k starts') (sym next) w') in
      λ i. passed f (node i) (next i) (inner i)

  -- where there is no second choice there is none
  pub only_or_second : (n : ℕ) (s t u : List ℕ) → IsOnly f n s → IsSecond f n t u → ⊥
  only_or_second n s t u (OnlyEnds a e o) (Here b m m' more starts others e' o' w v) = nil_cons (sym o ∙ ap (options f) (one_node n a b e e') ∙ o')
  only_or_second n s t u (OnlyEnds a e o) (Below b m more starts others e' o' w) = nil_cons (sym o ∙ ap (options f) (one_node n a b e e') ∙ o')
  only_or_second n s t u (OnlyGoes a m starts e o w) (Here b k k' more starts' others e' o' w' v) = none_some (ap (λ l. slice_get l 1) (sym o ∙ ap (options f) (one_node n a b e e') ∙ o'))
  only_or_second n s t u (OnlyGoes a m starts e o w) (Below b k more starts' others e' o' w') =
      only_or_second m starts starts' others w (subst (λ j. IsSecond f j starts' others) (sym (head_is (sym o ∙ ap (options f) (one_node n a b e e') ∙ o'))) w')

  module _ (is : IsForest f) (rule : f.ranking ≡ RuleRanks) where
    are : AreLists f (forests_have_lists f is).0
    are = (forests_have_lists f is).1.equal

    known : Kinds f (forests_have_lists f is).0
    known = kinds f is (forests_have_lists f is).0 are (stocked f is rule (forests_have_lists f is).0 (forests_have_lists f is).1)

    pub choices : (n : ℕ) (node : ForestNode) → slice_get f.nodes n ≡ Some node → AreChoices node
    choices n node there = by (known n node there)
      where
        lists : Lists
        lists = (forests_have_lists f is).0

        by : Kind f (forests_have_lists f is).0 node → AreChoices node
        by (OfList start m more alternatives list of) = record {
          first = record { start = start; predecessor = None; cause = Wholes (m ∷ more) };
          more = [];
          alternatives = alternatives;
          list = λ e. (m ∷ more, refl, list_options f (forests_have_lists f is).0 are known node start (m ∷ more) alternatives list ∙ append-nil (m ∷ more));
          child = λ e. absurd (true≢false (sym list ∙ e));
        }
        by (OfFirst a alternatives before list start cause) = record {
          first = a;
          more = [];
          alternatives = alternatives;
          list = λ e. absurd (true≢false (sym e ∙ list));
          child = λ e. (let none = first_options f (forests_have_lists f is).0 are known node a alternatives before list in (ap (λ l. slice_get l 0) none ∙ sym before, ap (λ l. slice_get l 1) none));
        }
        by (OfLater a more alternatives list each) = record {
          first = a;
          more = more;
          alternatives = alternatives;
          list = λ e. absurd (true≢false (sym e ∙ list));
          child = λ e. (
              let (k, before, end, cause) = each a (subst (Among a) (sym alternatives) (inl refl)) in
              let opened = later_options f (forests_have_lists f is).0 are known node a more k alternatives before in
              (ap (λ l. slice_get l 0) opened ∙ sym before, ap (λ l. slice_get l 1) opened ∙ second more (λ b m. each b (subst (Among b) (sym alternatives) (inr m))))
              );
        }
          where
            second : (bs : List Alternative) → ((b : Alternative) → Among b bs → (m : ℕ) × (b.predecessor ≡ Some m) × (Rattle.glade_laws.specs.Walks.end_of (slice_get f.nodes m) ≡ b.start) × Rattle.glade_laws.proofs.Walked.IsChildCause f (forests_have_lists f is).0 node b) →
                slice_get (flat_map (λ b. option_by (is_list_part f node.key) b.predecessor b.cause) bs) 0 ≡ before_at (slice_get bs 0)
            second [] h = refl
            second (b ∷ bs) h =
                let (m, before, end, cause) = h b (inl refl) in
                ap (λ p. slice_get (option_by (is_list_part f node.key) p b.cause ++ flat_map (λ d. option_by (is_list_part f node.key) d.predecessor d.cause) bs) 0) before ∙ sym before

    -- ---- whether there is a second choice, by where the first one leads

    module _ (n : ℕ) (node : ForestNode) (there : slice_get f.nodes n ≡ Some node) where
      pub second_ends : options f node ≡ [] → HasSecond f n false
      second_ends none = (node.key.origin ∷ [], OnlyEnds node there none)

      pub second_here : (m m' : ℕ) (more : List ℕ) → options f node ≡ m ∷ m' ∷ more → HasSecond f n true
      second_here m m' more e =
          let (inner, at) = next_there f is n node there m (subst (Among m) (sym e) (inl refl)) in
          let (inner', at') = next_there f is n node there m' (subst (Among m') (sym e) (inr (inl refl))) in
          go (walks f is m inner at) (walks f is m' inner' at')
        where
          go : Walks f is m → Walks f is m' → HasSecond f n true
          go (s, first, inl only) (t, first', rest) = (passed f node m s, passed f node m' t, Here node m m' more s t there e only first')
          go (s, first, inr (u, second)) w = (passed f node m s, passed f node m u, Below node m (m' ∷ more) s u there e second)

      -- with one choice it is as where that leads
      pub second_next : (m : ℕ) → options f node ≡ m ∷ [] → (b : Bool) → HasSecond f m b → HasSecond f n b
      second_next m e true (s, t, second) = (passed f node m s, passed f node m t, Below node m [] s t there e second)
      second_next m e false (s, only) = (passed f node m s, OnlyGoes node m s there e only)

      pub next_second : (m : ℕ) → options f node ≡ m ∷ [] → (b : Bool) → HasSecond f n b → HasSecond f m b
      next_second m e true (s, t, Here a k k' more starts others e' o w v) = absurd (none_some (ap (λ l. slice_get l 1) (sym e ∙ ap (options f) (one_node n node a there e') ∙ o)))
      next_second m e true (s, t, Below a k more starts others e' o w) =
          (starts, others, subst (λ j. IsSecond f j starts others) (sym (head_is (sym e ∙ ap (options f) (one_node n node a there e') ∙ o))) w)
      next_second m e false (s, OnlyEnds a e' o) = absurd (nil_cons (sym o ∙ ap (options f) (sym (one_node n node a there e')) ∙ e))
      next_second m e false (s, OnlyGoes a k starts e' o w) =
          (starts, subst (λ j. IsOnly f j starts) (sym (head_is (sym e ∙ ap (options f) (one_node n node a there e') ∙ o))) w)

      -- a second choice is somewhere
      pub second_some : options f node ≡ [] → HasSecond f n true → ⊥
      second_some e (s, t, Here a k k' more starts others e' o w v) = nil_cons (sym e ∙ ap (options f) (one_node n node a there e') ∙ o)
      second_some e (s, t, Below a k more starts others e' o w) = nil_cons (sym e ∙ ap (options f) (one_node n node a there e') ∙ o)

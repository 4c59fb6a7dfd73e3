-- The second walk passes other starts than the first.
use Rattle.std.proofs.Common.{◌≡◌, ◌≢◌, ℕ, suc, ◌<◌, ◌≤◌, Bool, true, false, cond, List, [], ◌∷◌, ◌++◌, map, length, ◌⊎◌, inl, inr, Some, None, refl, sym, ap, ◌∙◌, subst, arith}
use Rattle.std.specs.Prelude.{slice_get}
use Rattle.std.specs.List.Sorted.{IsStrictlySortedBy}
use Rattle.std.specs.declared.cmp.Ordering.{Ordering}
use Rattle.std.specs.declared.cmp.Ordering.TheVariants.{Less, Equal}
use Rattle.std.specs.Ordering.{ordering_then}
use Rattle.std.specs.Cmp.{tied_itself, nat_cmp_total}
use Rattle.std.proofs.lemmas.Bool.{true≢false}
use Rattle.finite_sets.proofs.Lists.{get_among}
use Rattle.finite_sets.proofs.Members.{Among, contains_from}
use Rattle.recognizer_model.specs.declared.NodeKey.{NodeKey}
use Rattle.recognizer_model.specs.declared.flat.FlatSymbol.{FlatSymbol}
use Rattle.recognizer_model.specs.declared.flat.FlatSymbol.TheVariants.{Terminal, Slot, Sequence, Top}
use Rattle.recognizer_model.specs.Invariant.{IsFlat}
use Rattle.recognizer_model.specs.Flat.{FlatGrammar, IsRule, lhs_of, rhs_of}
use Rattle.recognizer_model.specs.FlatForm.{symbol_at, is_list}
use Rattle.recognizer_model.proofs.FlatNamed.{form}
use Rattle.recognizer_model.proofs.FlatJoin.{lhs_is, rhs_is}
use Rattle.recognizer_model.proofs.FlatKeeps.{keeps, flat_order_laws}
use Rattle.recognizer_model.proofs.Views.{in_view}
use Rattle.forest_model.specs.Forest.{Wholes, Alternative, ForestNode, Forest, edges_of, IsForest, AreWholes, IsPredecessor, AreAlternatives, starts_cmp, start_place, ranks_high, rules_cmp, whole_key}
use Rattle.glade_model.proofs.Shapes.{same_ends}
use Rattle.forest_laws.specs.Lists.{Lists, AreLists}
use Rattle.glade_laws.specs.Walks.{is_list_part, option_by, end_of, IsFirst, IsOnly, IsSecond}
use Rattle.glade_laws.specs.Walks.IsFirst.{FirstEnds, FirstGoes}
use Rattle.glade_laws.specs.Walks.IsOnly.{OnlyEnds, OnlyGoes}
use Rattle.glade_laws.specs.Walks.IsSecond.{Here, Below}
use Rattle.glade_laws.proofs.Walked.{Kind, OfList, OfFirst, OfLater, Kinds, list_options, first_options, later_options, no_nil}
use Rattle.glade_laws.proofs.NodeKinds.{sorted_two}
use Rattle.glade_laws.proofs.Falling.{whole_ends, list_is as part_list}

none_none : {x : ℕ} {xs : List ℕ} → x ∷ xs ≡ [] → ⊥
none_none e = cc

head_is : {x y : ℕ} {xs ys : List ℕ} → x ∷ xs ≡ y ∷ ys → x ≡ y
head_is e = cc

tail_is : {x y : ℕ} {xs ys : List ℕ} → x ∷ xs ≡ y ∷ ys → xs ≡ ys
tail_is e = cc

module _ (f : Forest) (is : IsForest f) (lists : Lists) (are : AreLists f lists) (kinds : Kinds f lists) where
  abbrev g : FlatGrammar
  g = f.flat

  abbrev flat : IsFlat f.flat
  flat = is.derived.flat

  -- of two rules of a list, one has one part and the other more
  list_lengths : (r r' : ℕ) → IsRule g r → IsRule g r' → lhs_of g r ≡ lhs_of g r' → is_list (symbol_at g (lhs_of g r)) ≡ true → r ≢ r' →
      ((length (rhs_of g r) ≡ 1) × (2 ≤ length (rhs_of g r'))) ⊎ ((2 ≤ length (rhs_of g r)) × (length (rhs_of g r') ≡ 1))
  list_lengths r r' rule rule' left list other = by (symbol_at g (lhs_of g r)) refl list
    where
      by : (s : FlatSymbol) → symbol_at g (lhs_of g r) ≡ s → is_list s ≡ true → ((length (rhs_of g r) ≡ 1) × (2 ≤ length (rhs_of g r'))) ⊎ ((2 ≤ length (rhs_of g r)) × (length (rhs_of g r') ≡ 1))
      by (Terminal t) e h = absurd (true≢false (sym h))
      by (Slot t k) e h = absurd (true≢false (sym h))
      by (Top k) e h = absurd (true≢false (sym h))
      by (Sequence i) e h =
          let l = lhs_is f.flat f.written flat is.derived.flat_of is.derived.checked r rule in
          let l' = lhs_is f.flat f.written flat is.derived.flat_of is.derived.checked r' rule' in
          let c = ap length (rhs_is f.flat f.written flat is.derived.flat_of is.derived.checked r rule) in
          let c' = ap length (rhs_is f.flat f.written flat is.derived.flat_of is.derived.checked r' rule') in
          let some = flat.some r rule in
          let some' = flat.some r' rule' in
          elim ((keeps f.flat f.written flat is.derived.flat_of is.derived.checked (edges_of f) f.ranking).list_order i r r' (in_view f.flat r rule) (in_view f.flat r' rule') (omega (arith, c, some)) (omega (arith, c', some'))
          (ap (λ k. form (symbol_at g k)) l ∙ ap form e) (l ∙ left ∙ sym l')) [
            | inl same ↦ absurd (other same)
            | inr (inl (long, one, lt)) ↦ inr (omega (arith, long, c), omega (arith, one, c'))
            | inr (inr (one, long, gt)) ↦ inl (omega (arith, one, c), omega (arith, long, c'))
          ]

  -- ---- how many starts a walk passes

  more_length : (xs : List ℕ) (x : ℕ) → length (xs ++ x ∷ []) ≡ suc (length xs)
  more_length [] x = refl
  more_length (y ∷ ys) x = ap suc (more_length ys x)

  some_starts : (n : ℕ) (s : List ℕ) → IsFirst f n s → 1 ≤ length s
  some_starts n s (FirstEnds node there e) = omega arith
  some_starts n s (FirstGoes node m more starts there e walk) = by (is_list_part f node.key) (some_starts m starts walk)
    where
      by : (t : Bool) → 1 ≤ length starts → 1 ≤ length (cond t starts (starts ++ end_of (slice_get f.nodes m) ∷ []))
      by true le = le
      by false le = let more' = more_length starts (end_of (slice_get f.nodes m)) in omega (arith, more')

  alternatives_of : (n : ℕ) (node : ForestNode) → slice_get f.nodes n ≡ Some node → AreAlternatives f node.key node.alternatives
  alternatives_of n node there = is.alternatives node (contains_from f.nodes node (get_among f.nodes n node there))

  no_part : (a : ℕ) (dot key : ℕ) → key ≡ suc dot → 0 < dot → key ≡ 1 → ⊥
  no_part a dot key e some one = omega (arith, e, some, one)

  -- a node with a predecessor has more than one part
  one_part : (n : ℕ) (node : ForestNode) (there : slice_get f.nodes n ≡ Some node) → is_list_part f node.key ≡ false → node.key.dot ≡ 1 → (s : List ℕ) → IsFirst f n s → length s ≡ 1
  one_part n node there none one s (FirstEnds other there' e) = refl
  one_part n node there none one s (FirstGoes other m more starts there' e walk) = absurd (by (kinds n other there'))
    where
      some_inj : {x y : ForestNode} → Some x ≡ Some y → x ≡ y
      some_inj e = cc

      same : other ≡ node
      same = some_inj (sym there' ∙ there)

      by : Kind f lists other → ⊥
      by (OfFirst a alternatives before list start cause) = no_nil m more (sym (first_options f lists (λ k x y. are k x y) kinds other a alternatives before list) ∙ e)
      by (OfList start k ks alternatives list of) = true≢false (sym list ∙ ap (λ (x : ForestNode). is_list_part f x.key) same ∙ none)
      by (OfLater a rest alternatives list each) =
          let held = subst (Among a) (sym alternatives) (inl refl) in
          let (k, before, end, cause) = each a held in
          let al = alternatives_of n other there' in
          let p = subst (IsPredecessor f other.key.rule al.dot other.key.origin a.start) before (al.each a (contains_from other.alternatives a held)).predecessor in
          let dot = al.dot_is in
          let key = ap (λ (x : ForestNode). x.key.dot) same ∙ one in
          no_part 0 al.dot other.key.dot dot p.0 key

  more_parts : (n : ℕ) (node : ForestNode) (there : slice_get f.nodes n ≡ Some node) → is_list_part f node.key ≡ false → 2 ≤ node.key.dot → (s : List ℕ) → IsFirst f n s → 2 ≤ length s
  more_parts n node there none long s (FirstEnds other there' e) = absurd (by (kinds n other there'))
    where
      some_inj : {x y : ForestNode} → Some x ≡ Some y → x ≡ y
      some_inj e = cc

      same : other ≡ node
      same = some_inj (sym there' ∙ there)

      by : Kind f lists other → ⊥
      by (OfFirst a alternatives before list start cause) =
          let al = alternatives_of n other there' in
          let p = subst (IsPredecessor f other.key.rule al.dot other.key.origin a.start) before (al.each a (contains_from other.alternatives a (subst (Among a) (sym alternatives) (inl refl)))).predecessor in
          let dot = al.dot_is in
          let z = p.0 in
          let key = ap (λ (x : ForestNode). x.key.dot) same in
          omega (arith, dot, z, key, long)
      by (OfList start k ks alternatives list of) = true≢false (sym list ∙ ap (λ (x : ForestNode). is_list_part f x.key) same ∙ none)
      by (OfLater a rest alternatives list each) =
          let (k, before, end, cause) = each a (subst (Among a) (sym alternatives) (inl refl)) in
          none_none (sym (later_options f lists (λ k x y. are k x y) kinds other a rest k alternatives before) ∙ e)
  more_parts n node there none long s (FirstGoes other m more starts there' e walk) = by (is_list_part f other.key) (ap (λ (x : ForestNode). is_list_part f x.key) same ∙ none)
    where
      some_inj : {x y : ForestNode} → Some x ≡ Some y → x ≡ y
      some_inj e = cc

      same : other ≡ node
      same = some_inj (sym there' ∙ there)

      by : (t : Bool) → t ≡ false → 2 ≤ length (cond t starts (starts ++ end_of (slice_get f.nodes m) ∷ []))
      by true bad = absurd (true≢false bad)
      by false h = let more' = more_length starts (end_of (slice_get f.nodes m)) in let le = some_starts m starts walk in omega (arith, more', le)

  pub only_first : (n : ℕ) (s : List ℕ) → IsOnly f n s → IsFirst f n s
  only_first n s (OnlyEnds node there e) = FirstEnds node there e
  only_first n s (OnlyGoes node m starts there e only) = FirstGoes node m [] starts there e (only_first m starts only)

  -- ---- the second walk

  -- by the two rules of a list
  lists_differ : (node : ForestNode) (a : AreAlternatives f node.key node.alternatives) → is_list (symbol_at g a.symbol) ≡ true → (start k k' : ℕ) (more : List ℕ) → AreWholes f a.symbol start node.key.end (k ∷ k' ∷ more) →
      (s s' : List ℕ) → IsFirst f k s → IsFirst f k' s' → s ≢ s'
  lists_differ node a list start k k' more wholes s s' first first' same = by wholes.rules refl
    where
      rule_known : (i r : ℕ) → slice_get wholes.rules i ≡ Some r → IsRule g r × (lhs_of g r ≡ a.symbol)
      rule_known i r at = let over = ((wholes.exact r).0 (contains_from wholes.rules r (get_among wholes.rules i r at))).0 in (over.is_rule, over.left)

      length_is : (n r : ℕ) → IsRule g r → lhs_of g r ≡ a.symbol → (inner : ForestNode) → slice_get f.nodes n ≡ Some inner → inner.key ≡ whole_key f r start node.key.end → (t : List ℕ) → IsFirst f n t →
          ((length (rhs_of g r) ≡ 1 → length t ≡ 1) × (2 ≤ length (rhs_of g r) → 2 ≤ length t))
      length_is n r rule left inner there key t walk =
          let none : is_list_part f inner.key ≡ false = ap (is_list_part f) key ∙ whole_ends f is r rule (ap (λ y. is_list (symbol_at g y)) left ∙ list) start node.key.end in
          let dot : inner.key.dot ≡ length (rhs_of g r) = ap (λ (z : NodeKey). z.dot) key in (
            λ one. one_part n inner there none (dot ∙ one) t walk,
            λ long. more_parts n inner there none (omega (arith, dot, long)) t walk,
          )

      apart : (r r' : ℕ) → (length (rhs_of g r) ≡ 1 → length s ≡ 1) × (2 ≤ length (rhs_of g r) → 2 ≤ length s) → (length (rhs_of g r') ≡ 1 → length s' ≡ 1) × (2 ≤ length (rhs_of g r') → 2 ≤ length s') →
          ((length (rhs_of g r) ≡ 1) × (2 ≤ length (rhs_of g r'))) ⊎ ((2 ≤ length (rhs_of g r)) × (length (rhs_of g r') ≡ 1)) → ⊥
      apart r r' h h' (inl (one, long)) = let x = h.0 one in let y = h'.1 long in let e = ap length same in omega (arith, x, y, e)
      apart r r' h h' (inr (long, one)) = let x = h.1 long in let y = h'.0 one in let e = ap length same in omega (arith, x, y, e)

      tied : (r : ℕ) → rules_cmp f r r ≡ Equal
      tied r = tied_itself (flat_order_laws f.written f.ranking f.flat).total (r, length (rhs_of g r))

      not_less : Less ≡ Equal → ⊥
      not_less e = cc

      by : (rules : List ℕ) → wholes.rules ≡ rules → ⊥
      by [] e = let count = wholes.all in let c = ap length e in omega (arith, count, c)
      by (r ∷ []) e = let count = wholes.all in let c = ap length e in omega (arith, count, c)
      by (r ∷ r' ∷ rest) e =
          let at : slice_get wholes.rules 0 ≡ Some r = ap (λ (rs : List ℕ). slice_get rs 0) e in
          let at' : slice_get wholes.rules 1 ≡ Some r' = ap (λ (rs : List ℕ). slice_get rs 1) e in
          let (rule, left) = rule_known 0 r at in
          let (rule', left') = rule_known 1 r' at' in
          let (inner, there, key) = wholes.each 0 k r refl at in
          let (inner', there', key') = wholes.each 1 k' r' refl at' in
          let less = sorted_two (rules_cmp f) r r' rest (subst (IsStrictlySortedBy (rules_cmp f)) e wholes.sorted) in
          apart r r' (length_is k r rule left inner there key s first) (length_is k' r' rule' left' inner' there' key' s' first')
          (list_lengths r r' rule rule' (left ∙ sym left') (ap (λ y. is_list (symbol_at g y)) left ∙ list) (λ same'. not_less (sym less ∙ ap (rules_cmp f r) (sym same') ∙ tied r)))

  some_node : {x y : ForestNode} → Some x ≡ Some y → x ≡ y
  some_node e = cc

  -- what is passed after others that differ
  passed_apart : (t : Bool) (xs ys : List ℕ) (x : ℕ) → xs ≢ ys → cond t xs (xs ++ x ∷ []) ≡ cond t ys (ys ++ x ∷ []) → ⊥
  passed_apart true xs ys x other same = other same
  passed_apart false xs ys x other same = other (same_ends xs ys x x same).0

  pub other_starts : (n : ℕ) (s s' : List ℕ) → IsSecond f n s s' → s ≢ s'
  other_starts n s s' (Below node m more starts others there e second) same = passed_apart (is_list_part f node.key) starts others (end_of (slice_get f.nodes m)) (other_starts m starts others second) same
  other_starts n s s' (Here node m m' more starts others there e only first) same = by (kinds n node there)
    where
      al : AreAlternatives f node.key node.alternatives
      al = alternatives_of n node there

      cmp : ℕ → ℕ → Ordering
      cmp = starts_cmp (ranks_high f node.key.rule) node.key.end

      not_less : Less ≡ Equal → ⊥
      not_less e = cc

      nothing_more : m' ∷ more ≡ [] → ⊥
      nothing_more e = none_none e

      by : Kind f lists node → ⊥
      by (OfFirst a alternatives before list start cause) = no_nil m (m' ∷ more) (sym (first_options f lists (λ k x y. are k x y) kinds node a alternatives before list) ∙ e)
      by (OfList start k [] alternatives list of) = no_nil m' more (tail_is (sym (list_options f lists (λ k x y. are k x y) kinds node start (k ∷ []) alternatives list) ∙ e))
      by (OfList start k (k' ∷ ks) alternatives list of) =
          let options_are = sym (list_options f lists (λ k x y. are k x y) kinds node start (k ∷ k' ∷ ks) alternatives list) ∙ e in
          let k_is : k ≡ m = head_is options_are in
          let k'_is : k' ≡ m' = head_is (tail_is options_are) in
          let held = contains_from node.alternatives (record { start = start; predecessor = None; cause = Wholes (k ∷ k' ∷ ks) }) (subst (Among (record { start = start; predecessor = None; cause = Wholes (k ∷ k' ∷ ks) })) (sym alternatives) (inl refl)) in
          let wholes = (al.each (record { start = start; predecessor = None; cause = Wholes (k ∷ k' ∷ ks) }) held).cause in
          let plain : starts ≡ others = subst (λ t. cond t starts (starts ++ end_of (slice_get f.nodes m) ∷ []) ≡ cond t others (others ++ end_of (slice_get f.nodes m') ∷ [])) list same in
          lists_differ node al (sym (part_list f is node al) ∙ list) start k k' ks wholes starts others
          (subst (λ j. IsFirst f j starts) (sym k_is) (only_first m starts only)) (subst (λ j. IsFirst f j others) (sym k'_is) first) plain
      by (OfLater a [] alternatives list each) =
          let (k, before, end, cause) = each a (subst (Among a) (sym alternatives) (inl refl)) in
          no_nil m' more (tail_is (sym (later_options f lists (λ k x y. are k x y) kinds node a [] k alternatives before) ∙ e))
      by (OfLater a (b ∷ rest) alternatives list each) =
          let (k, before, end, cause) = each a (subst (Among a) (sym alternatives) (inl refl)) in
          let (k', before', end', cause') = each b (subst (Among b) (sym alternatives) (inr (inl refl))) in
          let options_are = sym (later_options f lists (λ k x y. are k x y) kinds node a (b ∷ rest) k alternatives before) ∙ e in
          let k_is : k ≡ m = head_is options_are in
          let opened = ap (λ p. option_by (is_list_part f node.key) p b.cause ++ Rattle.std.specs.List.flat_map (λ d. option_by (is_list_part f node.key) d.predecessor d.cause) rest) before' in
          let k'_is : k' ≡ m' = head_is (sym opened ∙ tail_is options_are) in
          let plain : starts ++ end_of (slice_get f.nodes m) ∷ [] ≡ others ++ end_of (slice_get f.nodes m') ∷ [] =
          subst (λ t. cond t starts (starts ++ end_of (slice_get f.nodes m) ∷ []) ≡ cond t others (others ++ end_of (slice_get f.nodes m') ∷ [])) list same in
          let ends : end_of (slice_get f.nodes m) ≡ end_of (slice_get f.nodes m') = (same_ends starts others _ _ plain).1 in
          let tie : a.start ≡ b.start = sym end ∙ ap (λ j. end_of (slice_get f.nodes j)) k_is ∙ ends ∙ ap (λ j. end_of (slice_get f.nodes j)) (sym k'_is) ∙ end' in
          let less = sorted_two cmp a.start b.start (map (λ d. d.start) rest) (subst (λ (zs : List Alternative). IsStrictlySortedBy cmp (map (λ d. d.start) zs)) alternatives al.sorted) in
          let tied : cmp a.start a.start ≡ Equal = λ i. ordering_then (tied_itself nat_cmp_total (start_place (ranks_high f node.key.rule) a.start node.key.end) i) (tied_itself nat_cmp_total a.start i) in
          not_less (sym less ∙ ap (cmp a.start) (sym tie) ∙ tied)

-- How what is found grows, and lists of alternatives one after another.
use Rattle.std.proofs.Common.{◌≡◌, ℕ, zero, suc, ◌≤◌, ◌-◌, ◌++◌, ◌⊎◌, inl, inr, ◌↔◌, Bool, Contains, List, [], ◌∷◌, Option, Some, None, length, map, take, drop, slice_get, refl, sym, ◌∙◌, ap, subst, arith}
use Rattle.std.specs.declared.cmp.Ordering.{Ordering}
use Rattle.std.specs.declared.cmp.Ordering.TheVariants.{Less}
use Rattle.std.specs.List.{AllByRecursion}
use Rattle.std.specs.List.Sorted.{IsStrictlySortedBy}
use Rattle.std.proofs.lemmas.List.{append-nil, append_assoc, map-append, take-append-le}
use Rattle.std.proofs.lemmas.List.Elements.{Contains-append_left, Contains-append_right, Contains-append_cases}
use Rattle.finite_sets.proofs.Lists.{Contains-none, get_map, get_left, get_mapped}
use Rattle.grammar_model.specs.declared.Ranking.{Ranking}
use Rattle.grammar_model.specs.Grammar.{Grammar}
use Rattle.recognizer_model.specs.declared.Item.{Item}
use Rattle.recognizer_model.specs.declared.NodeKey.{NodeKey}
use Rattle.earley_sets.specs.Recognizer.{Recognizer, set_at}
use Rattle.earley_sets.proofs.Membership.{Contains-first, Contains-rest}
use Rattle.forest_model.specs.Forest.{Forest, ForestNode, Cause, AnEdge, Nothing, Wholes, Alternative, IsNode, IsPredecessor, IsCause, IsWholeOver, IsAlternative, starts_cmp}
use Rattle.forest_parts.specs.Lists.{between}
use Rattle.bocage.specs.declared.rows.AlternativeRow.{AlternativeRow}
use Rattle.bocage.specs.declared.rows.CauseRow.{CauseRow}
use Rattle.bocage.specs.declared.rows.CauseRow.TheVariants as row
use Rattle.bocage.specs.declared.walk.Known.{Known}
use Rattle.bocage.specs.declared.walk.Found.{Found}
use Rattle.bocage.specs.Rows.{cause_of, alternative_of, IsCauseWithin}
use Rattle.bocage.specs.Walk.{bare, seen, seen_by, GrowsBy, IsNew, AreNoted, AreListed, Lists, is_high, whole_keys, whole_keys_by, AreNumbers, AddsWholes}
use Rattle.recognizer_model.specs.Flat.{FlatGrammar}
use Rattle.forest_parts.specs.declared.parts.Part.{Part}

module _ (P : NodeKey → Type 0) where
  pub grows_none : (keys : List NodeKey) → GrowsBy P keys keys
  grows_none keys = ([], sym (append-nil keys), λ k h. absurd (Contains-none k h))

  pub grows_then : (old mid new : List NodeKey) → GrowsBy P old mid → GrowsBy P mid new → GrowsBy P old new
  grows_then old mid new (m, e, p) (n, f, q) = (
    m ++ n,
    f ∙ ap (λ l. l ++ n) e ∙ append_assoc old m n,
    λ k h. elim (Contains-append_cases m n k h) [ inl a ↦ p k a | inr b ↦ q k b ],
  )

  pub grows_weaker : (Q : NodeKey → Type 0) (old new : List NodeKey) → ((k : NodeKey) → Q k → P k) → GrowsBy Q old new → GrowsBy P old new
  grows_weaker Q old new w (m, e, p) = (m, e, λ k h. w k (p k h))

-- NODES BY THEIR NUMBERS

module _ (w : Grammar) (ranking : Ranking) (r : Recognizer) (keys : List NodeKey) where
  pub node_seen : (n : ℕ) (k : NodeKey) → slice_get keys n ≡ Some k → IsNode (seen w ranking r keys) n k
  node_seen n k e = (bare k, get_map bare keys n k e, refl)

  pub seen_node : (n : ℕ) (k : NodeKey) → IsNode (seen w ranking r keys) n k → slice_get keys n ≡ Some k
  seen_node n k (node, e, s) = let (x, e', q) = get_mapped bare keys n node e in e' ∙ ap Some (ap (λ (z : ForestNode). z.key) q ∙ s)

  module _ (more : List NodeKey) where
    whole_more : (symbol m q rule : ℕ) → IsWholeOver (seen w ranking r keys) symbol m q rule ↔ IsWholeOver (seen w ranking r (keys ++ more)) symbol m q rule
    whole_more symbol m q rule = (
      λ h. record { is_rule = h.is_rule; left = h.left; children = h.children; spans = h.spans },
      λ h. record { is_rule = h.is_rule; left = h.left; children = h.children; spans = h.spans },
    )

    pub node_more : (n : ℕ) (k : NodeKey) → IsNode (seen w ranking r keys) n k → IsNode (seen w ranking r (keys ++ more)) n k
    node_more n k (node, e, s) = (node, subst (λ l. slice_get l n ≡ Some node) (sym (map-append bare keys more)) (get_left (map bare keys) (map bare more) n node e), s)

    predecessor_more : (rule dot origin m : ℕ) (o : Option ℕ) → IsPredecessor (seen w ranking r keys) rule dot origin m o → IsPredecessor (seen w ranking r (keys ++ more)) rule dot origin m o
    predecessor_more rule dot origin m None h = h
    predecessor_more rule dot origin m (Some n) (lt, h) = (lt, node_more n (record { rule = rule; dot = dot; origin = origin; end = m }) h)

    last_more : (symbol m q : ℕ) (l : Cause) → IsCause (seen w ranking r keys) symbol m q l → IsCause (seen w ranking r (keys ++ more)) symbol m q l
    last_more symbol m q AnEdge h = h
    last_more symbol m q Nothing h = h
    last_more symbol m q (Wholes nodes) h = record {
      spans = h.spans;
      some = h.some;
      rules = h.rules;
      sorted = h.sorted;
      exact = λ x. ((λ i. (let (over, best) = (h.exact x).0 i in ((whole_more symbol m q x).0 over, best))), (λ (over, best). (h.exact x).1 ((whole_more symbol m q x).1 over, best)));
      all = h.all;
      each = λ i n s a b. node_more n _ (h.each i n s a b);
    }

    pub alternative_more : (rule dot origin symbol q : ℕ) (a : Alternative) → IsAlternative (seen w ranking r keys) rule dot origin symbol q a → IsAlternative (seen w ranking r (keys ++ more)) rule dot origin symbol q a
    alternative_more rule dot origin symbol q a h = record { predecessor = predecessor_more rule dot origin a.start a.predecessor h.predecessor; cause = last_more symbol a.start q a.cause h.cause }

-- PARTS OF A LIST THAT GROWS

pub between_more : {X : Type 0} (first end : ℕ) (xs ys : List X) → first ≤ end → end ≤ length xs → between first end (xs ++ ys) ≡ between first end xs
between_more zero end xs ys le bound = let e : end - 0 ≡ end = omega arith in ap (λ n. take n (xs ++ ys)) e ∙ take-append-le end xs ys bound ∙ ap (λ n. take n xs) (sym e)
between_more (suc first) zero xs ys le bound = absurd (omega arith)
between_more (suc first) (suc end) [] ys le bound = absurd (omega arith)
between_more (suc first) (suc end) (x ∷ xs) ys le bound =
    let e : suc end - suc first ≡ end - first = omega arith in
    ap (λ n. take n (drop first (xs ++ ys))) e ∙ between_more first end xs ys (omega arith) (omega arith) ∙ ap (λ n. take n (drop first xs)) (sym e)

pub last_same : (wholes more : List ℕ) (l : CauseRow) → IsCauseWithin wholes l → cause_of (wholes ++ more) l ≡ cause_of wholes l
last_same wholes more row.Edge h = refl
last_same wholes more row.Nothing h = refl
last_same wholes more (row.Wholes first end) (le, bound) = ap Wholes (between_more first end wholes more le bound)

pub length_more : {X : Type 0} (xs ys : List X) → length xs ≤ length (xs ++ ys)
length_more [] ys = omega arith
length_more (x ∷ xs) ys = let l = length_more xs ys in omega arith

pub within_more : (wholes more : List ℕ) (l : CauseRow) → IsCauseWithin wholes l → IsCauseWithin (wholes ++ more) l
within_more wholes more row.Edge h = h
within_more wholes more row.Nothing h = h
within_more wholes more (row.Wholes first end) (le, bound) = let l = length_more wholes more in (le, omega arith)

pub alternative_same : (wholes more : List ℕ) (a : AlternativeRow) → IsCauseWithin wholes a.cause → alternative_of (wholes ++ more) a ≡ alternative_of wholes a
alternative_same wholes more a h = λ i. record { start = a.start; predecessor = a.predecessor; cause = last_same wholes more a.cause h i }

-- LISTS OF ALTERNATIVES

module _ {K : Type 0} (c : K → K → Ordering) where
  all_both : (P : K → Type 0) (xs ys : List K) → AllByRecursion P xs → ((y : K) → Contains ys y → P y) → AllByRecursion P (xs ++ ys)
  all_both P [] [] h g = tt
  all_both P [] (y ∷ ys) h g = (g y (Contains-first y ys), all_both P [] ys h (λ z i. g z (Contains-rest y ys z i)))
  all_both P (x ∷ xs) ys h g = (h.0, all_both P xs ys h.1 g)

  pub sorted_both : (xs ys : List K) → IsStrictlySortedBy c xs → IsStrictlySortedBy c ys → ((x y : K) → Contains xs x → Contains ys y → c x y ≡ Less) → IsStrictlySortedBy c (xs ++ ys)
  unfolding IsStrictlySortedBy
  sorted_both [] ys h g less = g
  sorted_both (x ∷ xs) ys h g less = (all_both (λ y. c x y ≡ Less) xs ys h.0 (λ y i. less x y (Contains-first x xs) i), sorted_both xs ys h.1 g (λ z y i j. less z y (Contains-rest x xs z i) j))

abbrev starts : List AlternativeRow → List ℕ
starts rows = map (λ (a : AlternativeRow). a.start) rows

module _ (w : Grammar) (ranking : Ranking) (r : Recognizer) (high : Bool) (predecessor : Item) (symbol end : ℕ) where
  -- what was listed stays listed
  pub listed_more : (D : ℕ → Type 0) (keys keys' mk : List NodeKey) (wholes wholes' mw : List ℕ) (rows : List AlternativeRow) → keys' ≡ keys ++ mk → wholes' ≡ wholes ++ mw →
      AreListed (seen w ranking r keys) r high predecessor symbol end D wholes rows → AreListed (seen w ranking r keys') r high predecessor symbol end D wholes' rows
  listed_more D keys keys' mk wholes wholes' mw rows ek ew h = record {
    exact = h.exact;
    sorted = h.sorted;
    each = λ a i. (
      subst (λ k. IsAlternative (seen w ranking r k) predecessor.rule predecessor.dot predecessor.origin symbol end (alternative_of wholes' a)) (sym ek)
          (subst (λ l. IsAlternative (seen w ranking r (keys ++ mk)) predecessor.rule predecessor.dot predecessor.origin symbol end (alternative_of l a)) (sym ew)
          (subst (λ b. IsAlternative (seen w ranking r (keys ++ mk)) predecessor.rule predecessor.dot predecessor.origin symbol end b) (sym (alternative_same wholes mw a (h.each a i).1))
          (alternative_more w ranking r keys mk predecessor.rule predecessor.dot predecessor.origin symbol end (alternative_of wholes a) (h.each a i).0))),
      subst (λ l. IsCauseWithin l a.cause) (sym ew) (within_more wholes mw a.cause (h.each a i).1),
    );
  }

  -- one list after another
  pub listed_both : (D D' D'' : ℕ → Type 0) (F : Forest) (wholes : List ℕ) (rows rows' : List AlternativeRow) → AreListed F r high predecessor symbol end D wholes rows → AreListed F r high predecessor symbol end D' wholes rows' →
      ((m n : ℕ) → D m → D' n → starts_cmp high end m n ≡ Less) → ((m : ℕ) → Contains (set_at r m) predecessor → D'' m ↔ (D m ⊎ D' m)) → AreListed F r high predecessor symbol end D'' wholes (rows ++ rows')
  listed_both D D' D'' F wholes rows rows' h g less iff = record {
    exact = λ m. (
      λ i. elim (Contains-append_cases (starts rows) (starts rows') m (subst (λ l. Contains l m) (map-append (λ (a : AlternativeRow). a.start) rows rows') i)) [
        | inl a ↦ let (d, s) = (h.exact m).0 a in ((iff m s).1 (inl d), s)
        | inr b ↦ let (d, s) = (g.exact m).0 b in ((iff m s).1 (inr d), s)
      ],
      λ (d, s). subst (λ l. Contains l m) (sym (map-append (λ (a : AlternativeRow). a.start) rows rows')) (elim ((iff m s).0 d) [
        | inl a ↦ Contains-append_left (starts rows) (starts rows') m ((h.exact m).1 (a, s))
        | inr b ↦ Contains-append_right (starts rows) (starts rows') m ((g.exact m).1 (b, s))
      ]),
    );
    sorted = subst (λ l. IsStrictlySortedBy (starts_cmp high end) l) (sym (map-append (λ (a : AlternativeRow). a.start) rows rows'))
        (sorted_both (starts_cmp high end) (starts rows) (starts rows') h.sorted g.sorted (λ m n a b. less m n ((h.exact m).0 a).0 ((g.exact n).0 b).0));
    each = λ a i. elim (Contains-append_cases rows rows' a i) [ inl x ↦ h.each a x | inr y ↦ g.each a y ];
  }

module _ (k : Known) (predecessor : Item) (symbol : ℕ) where
  pub lists_none : (D : ℕ → Type 0) (t : Found) → ((m : ℕ) → D m → Contains (set_at k.recce.now m) predecessor → ⊥) → AreNoted k t → Lists k predecessor symbol D t t
  unfolding IsStrictlySortedBy
  lists_none D t never noted = record {
    rows = [];
    is = sym (append-nil t.alternatives.items);
    listed = record {
      exact = λ m. ((λ h. absurd (Contains-none m h)), (λ (d, s). absurd (never m d s)));
      sorted = tt;
      each = λ a h. absurd (Contains-none a h);
    };
    keys = grows_none (IsNew k) t.keys.keys;
    more = [];
    wholes = sym (append-nil t.wholes.items);
    noted = noted;
  }

  pub lists_then : (D D' D'' : ℕ → Type 0) (old mid new : Found) → Lists k predecessor symbol D old mid → Lists k predecessor symbol D' mid new →
      ((m n : ℕ) → D m → D' n → starts_cmp (is_high k predecessor) k.end m n ≡ Less) → ((m : ℕ) → Contains (set_at k.recce.now m) predecessor → D'' m ↔ (D m ⊎ D' m)) → Lists k predecessor symbol D'' old new
  lists_then D D' D'' old mid new h g less iff = record {
    rows = h.rows ++ g.rows;
    is = g.is ∙ ap (λ l. l ++ g.rows) h.is ∙ append_assoc old.alternatives.items h.rows g.rows;
    listed = listed_both k.written.now k.ranking k.recce.now (is_high k predecessor) predecessor symbol k.end D D' D'' (seen_by k new.keys.keys) new.wholes.items h.rows g.rows
        (listed_more k.written.now k.ranking k.recce.now (is_high k predecessor) predecessor symbol k.end D mid.keys.keys new.keys.keys (g.keys).0 mid.wholes.items new.wholes.items g.more h.rows (g.keys).1 g.wholes h.listed)
        g.listed less iff;
    keys = grows_then (IsNew k) old.keys.keys mid.keys.keys new.keys.keys h.keys g.keys;
    more = h.more ++ g.more;
    wholes = g.wholes ∙ ap (λ l. l ++ g.more) h.wholes ∙ append_assoc old.wholes.items h.more g.more;
    noted = g.noted;
  }

-- THE NODES OF WHOLE RULES

pub keys_both : (g : FlatGrammar) (ps qs : List Part) → whole_keys g (ps ++ qs) ≡ whole_keys g ps ++ whole_keys g qs
keys_both g [] qs = refl
keys_both g (p ∷ ps) qs = ap (λ l. whole_keys_by g p p.whole ++ l) (keys_both g ps qs) ∙ sym (append_assoc (whole_keys_by g p p.whole) (whole_keys g ps) (whole_keys g qs))

pub numbers_more : (keys more : List NodeKey) (ns : List ℕ) (of : List NodeKey) → AreNumbers keys ns of → AreNumbers (keys ++ more) ns of
numbers_more keys more [] [] h = refl
numbers_more keys more [] (k ∷ ks) h = absurd (cc)
numbers_more keys more (n ∷ ns) [] h = absurd (cc)
numbers_more keys more (n ∷ ns) (k ∷ ks) h =
    let a : slice_get keys n ≡ Some k = cc in
    let b : map (slice_get keys) ns ≡ map Some ks = cc in
    let a' = get_left keys more n k a in
    let b' = numbers_more keys more ns ks b in
    λ i. a' i ∷ b' i

pub wholes_none : (keys : List NodeKey) (old : List ℕ) → AddsWholes keys [] old old
wholes_none keys old = ([], sym (append-nil old), refl)

pub wholes_then : (P : NodeKey → Type 0) (keys keys' of of' : List NodeKey) (old mid new : List ℕ) → GrowsBy P keys keys' → AddsWholes keys of old mid → AddsWholes keys' of' mid new → AddsWholes keys' (of ++ of') old new
wholes_then P keys keys' of of' old mid new (mk, ek, p) (ns, e, h) (ms, f, g) = (
  ns ++ ms,
  f ∙ ap (λ l. l ++ ms) e ∙ append_assoc old ns ms,
  map-append (slice_get keys') ns ms ∙ (λ i. subst (λ ks. AreNumbers ks ns of) (sym ek) (numbers_more keys mk ns of h) i ++ g i) ∙ sym (map-append Some of of'),
)

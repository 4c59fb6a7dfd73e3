-- Where a walk is led among the alternatives of a node.
use Rattle.std.proofs.Common.{◌≡◌, inl, inr, ℕ, zero, suc, ◌+◌, ◌-◌, ◌<◌, ◌==◌, Bool, true, false, cond, nat_lt, not, List, [], ◌∷◌, length, map, position, Some, None, refl, sym, ap, ◌∙◌, subst, arith}
use Rattle.std.specs.Prelude.{slice_get, slice_index_or, Contains}
use Rattle.std.specs.List.{AllByRecursion, position_or_len}
use Rattle.std.specs.List.Sorted.{IsStrictlySortedBy}
use Rattle.std.proofs.lemmas.List.{length-map}
use Rattle.std.proofs.lemmas.Bool.{true≢false, ne_eqb, eq-eqb, lt-ltb}
use Rattle.std.proofs.lemmas.Option.{slice_get_within, slice_get-get_or}
use Rattle.std.specs.declared.cmp.Ordering.{Ordering}
use Rattle.std.specs.declared.cmp.Ordering.TheVariants.{Less, Equal}
use Rattle.std.specs.Cmp.{IsTotalOrder, tied_itself, on_total, back_total, then_total, nat_cmp_total}
use Rattle.finite_sets.proofs.Members.{Among, contains_from, among_from, among_map}
use Rattle.finite_sets.proofs.Lists.{get_among, get_map}
use Rattle.grammar_model.specs.Grammar.{Grammar, WrittenRule, Plain, child_slot, slot_of}
use Rattle.grammar_model.specs.Trees.{Tree, Children, Child}
use Rattle.grammar_model.specs.Derives.{Edges}
use Rattle.recognizer_model.specs.declared.NodeKey.{NodeKey}
use Rattle.recognizer_model.specs.declared.flat.FlatSymbol.{FlatSymbol}
use Rattle.recognizer_model.specs.Flat.{FlatGrammar, IsRule, no_rule, lhs_of, rhs_of, part_of}
use Rattle.recognizer_model.specs.FlatForm.{StandAll, NamedRule, IsRuleOf, OfPlain, OfList, OfTrailing, OfItem, OfItems, OfSeparated, OfTop, named, symbol_at, is_list, is_list_node}
use Rattle.recognizer_model.specs.FlatDerives.{Derives, Spans, More}
use Rattle.recognizer_model.proofs.Sources.{rule_there}
use Rattle.forest_model.specs.Forest.{Forest, Alternative, IsDerived, AreAlternatives, starts_cmp, start_place, edges_of, ranks_high}
use Rattle.forest_laws.proofs.Written.{no_list, list_node}

-- ---- the alternative that begins at a place

starts_total : (high : Bool) (end : ℕ) → IsTotalOrder (λ (m n : ℕ). starts_cmp high end m n)
starts_total high end = then_total (on_total (λ (m : ℕ). start_place high m end) nat_cmp_total) (back_total nat_cmp_total)

each_among : {X : Type 0} (P : X → Type 0) (xs : List X) (x : X) → AllByRecursion P xs → Among x xs → P x
each_among P [] x all m = absurd m
each_among P (y ∷ ys) x all (inl e) = subst P e all.0
each_among P (y ∷ ys) x all (inr m) = each_among P ys x all.1 m

-- what a search finds, one place on
place_on : (p : Alternative → Bool) (x : Alternative) (xs : List Alternative) (k : ℕ) → p x ≡ false → position_or_len p xs ≡ k → position_or_len p (x ∷ xs) ≡ suc k
place_on p x xs k e h = let on : 1 + position_or_len p xs ≡ suc k = omega (arith, h) in ap (λ b. cond (not b) (1 + position_or_len p xs) 0) e ∙ on

place_here : (p : Alternative → Bool) (x : Alternative) (xs : List Alternative) → p x ≡ true → position_or_len p (x ∷ xs) ≡ 0
place_here p x xs e = ap (λ b. cond (not b) (1 + position_or_len p xs) 0) e

record IsFoundAt (xs : List Alternative) (s : ℕ) (a : Alternative) : Type 0 where
  k : ℕ
  at : position_or_len (λ (x : Alternative). x.start == s) xs ≡ k
  there : slice_get xs k ≡ Some a

found_at : (R : ℕ → ℕ → Ordering) → ((k : ℕ) → R k k ≡ Less → ⊥) → (xs : List Alternative) (s : ℕ) (a : Alternative) → IsStrictlySortedBy R (map (λ (x : Alternative). x.start) xs) → Among a xs → a.start ≡ s → IsFoundAt xs s a
unfolding IsStrictlySortedBy
found_at R apart [] s a sorted m is = absurd m
found_at R apart (x ∷ xs) s a sorted (inl e) is =
    record { k = 0; at = place_here (λ (y : Alternative). y.start == s) x xs (eq-eqb x.start s (ap (λ (y : Alternative). y.start) e ∙ is)); there = ap Some e }
found_at R apart (x ∷ xs) s a sorted (inr m) is =
    let r = found_at R apart xs s a sorted.1 m is in
    let less : R x.start a.start ≡ Less = each_among (λ z. R x.start z ≡ Less) (map (λ (y : Alternative). y.start) xs) a.start sorted.0 (among_map (λ (y : Alternative). y.start) a xs m) in
    let other : (x.start == s) ≡ false = ne_eqb x.start s (λ e. apart x.start (ap (R x.start) (e ∙ sym is) ∙ less)) in
    record { k = suc r.k; at = place_on (λ (y : Alternative). y.start == s) x xs r.k other r.at; there = r.there }

-- a search for where an alternative begins finds it
pub position_is : (f : Forest) (key : NodeKey) (xs : List Alternative) (s k : ℕ) (a : Alternative) → AreAlternatives f key xs → Contains xs a → a.start ≡ s → position (λ (x : Alternative). x.start == s) xs ≡ Some k → slice_get xs k ≡ Some a
position_is f key xs s k a are held is at =
    let R : ℕ → ℕ → Ordering = starts_cmp (ranks_high f key.rule) key.end in
    let total = starts_total (ranks_high f key.rule) key.end in
    let r = found_at R (λ m less. never m (sym (tied_itself total m) ∙ less)) xs s a are.sorted (among_from xs a held) is in
    let within = slice_get_within xs r.k a r.there in
    let lt : nat_lt (position_or_len (λ (x : Alternative). x.start == s) xs) (length xs) ≡ true = lt-ltb _ _ (subst (λ m. m < length xs) (sym r.at) within) in
    let found : Some (position_or_len (λ (x : Alternative). x.start == s) xs) ≡ Some k = sym (ap (λ b. cond b (Some (position_or_len (λ (x : Alternative). x.start == s) xs)) None) lt) ∙ at in
    let same : position_or_len (λ (x : Alternative). x.start == s) xs ≡ k = cc in
    subst (λ m. slice_get xs m ≡ Some a) (sym r.at ∙ same) r.there
  where
    never : (m : ℕ) → Equal ≡ Less → ⊥
    never m e = cc

-- and finds one
pub position_some : (f : Forest) (key : NodeKey) (xs : List Alternative) (s : ℕ) (a : Alternative) → AreAlternatives f key xs → Contains xs a → a.start ≡ s → position (λ (x : Alternative). x.start == s) xs ≡ None → ⊥
position_some f key xs s a are held is none =
    let R : ℕ → ℕ → Ordering = starts_cmp (ranks_high f key.rule) key.end in
    let total = starts_total (ranks_high f key.rule) key.end in
    let r = found_at R (λ m less. never m (sym (tied_itself total m) ∙ less)) xs s a are.sorted (among_from xs a held) is in
    let within = slice_get_within xs r.k a r.there in
    let lt : nat_lt (position_or_len (λ (x : Alternative). x.start == s) xs) (length xs) ≡ true = lt-ltb _ _ (subst (λ m. m < length xs) (sym r.at) within) in
    let found : Some (position_or_len (λ (x : Alternative). x.start == s) xs) ≡ None = sym (ap (λ b. cond b (Some (position_or_len (λ (x : Alternative). x.start == s) xs)) None) lt) ∙ none in
    cc
  where
    never : (m : ℕ) → Equal ≡ Less → ⊥
    never m e = cc

-- ---- which last children are no lists

all_no_list : (w : Grammar) (rule : WrittenRule) (k : ℕ) (ss : List FlatSymbol) → StandAll w rule k ss → (j : ℕ) (s : FlatSymbol) → slice_get ss j ≡ Some s → is_list s ≡ false
all_no_list w rule k [] h j s e = absurd (cc e)
all_no_list w rule k (x ∷ xs) h zero s e = let same : x ≡ s = cc in ap is_list (sym same) ∙ no_list w (child_slot rule k) x h.0
all_no_list w rule k (x ∷ xs) h (suc j) s e = all_no_list w rule (suc k) xs h.1 j s e

-- a list stands only first
later_no_list : (w : Grammar) (n : NamedRule) → IsRuleOf w n → (k : ℕ) (s : FlatSymbol) → slice_get n.right (suc k) ≡ Some s → is_list s ≡ false
later_no_list w n (OfPlain i x l r right a b c d e f h j) k s at = all_no_list w (Plain r) 0 right j (suc k) s at
later_no_list w n (OfList i r a b) k s at = absurd (cc at)
later_no_list w n (OfTrailing i separator r c a b d e f h) zero s at = let same : c ≡ s = cc in ap is_list (sym same) ∙ no_list w (slot_of separator) c h
later_no_list w n (OfTrailing i separator r c a b d e f h) (suc k) s at = absurd (cc at)
later_no_list w n (OfItem i r b a c d) k s at = absurd (cc at)
later_no_list w n (OfItems i r b a c d e) zero s at = let same : b ≡ s = cc in ap is_list (sym same) ∙ no_list w (slot_of r.item) b e
later_no_list w n (OfItems i r b a c d e) (suc k) s at = absurd (cc at)
later_no_list w n (OfSeparated i separator r b c a d e f h j) zero s at = let same : c ≡ s = cc in ap is_list (sym same) ∙ no_list w (slot_of separator) c h
later_no_list w n (OfSeparated i separator r b c a d e f h j) (suc zero) s at = let same : b ≡ s = cc in ap is_list (sym same) ∙ no_list w (slot_of r.item) b j
later_no_list w n (OfSeparated i separator r b c a d e f h j) (suc (suc k)) s at = absurd (cc at)
later_no_list w n (OfTop k' start x a st) k s at = absurd (cc at)

-- a list of one part is an item
short_no_list : (w : Grammar) (n : NamedRule) → IsRuleOf w n → is_list n.left ≡ true → length n.right ≡ 1 → (s : FlatSymbol) → slice_get n.right 0 ≡ Some s → is_list s ≡ false
short_no_list w n (OfPlain i x l r right a b c d e f h j) list one s at = absurd (true≢false (sym list))
short_no_list w n (OfList i r a b) list one s at = absurd (true≢false (sym list))
short_no_list w n (OfTrailing i separator r c a b d e f h) list one s at = absurd (true≢false (sym list))
short_no_list w n (OfItem i r b a c d) list one s at = let same : b ≡ s = cc in ap is_list (sym same) ∙ no_list w (slot_of r.item) b d
short_no_list w n (OfItems i r b a c d e) list one s at = absurd (omega arith)
short_no_list w n (OfSeparated i separator r b c a d e f h j) list one s at = absurd (omega arith)
short_no_list w n (OfTop k' start x a st) list one s at = absurd (true≢false (sym list))

module _ (f : Forest) (derived : IsDerived f) where
  abbrev g : FlatGrammar
  g = f.flat

  abbrev E : Edges
  E = edges_of f

  rule_is : (r : ℕ) → IsRule g r → IsRuleOf f.written (named g (slice_index_or g.rules r no_rule))
  rule_is r rule =
      let at = get_among g.rules r (slice_index_or g.rules r no_rule) (slice_get-get_or g.rules r no_rule rule) in
      (derived.flat_of.rules.exact (named g (slice_index_or g.rules r no_rule))).0 (contains_from (map (named g) g.rules) (named g (slice_index_or g.rules r no_rule)) (among_map (named g) (slice_index_or g.rules r no_rule) g.rules at))

  pub part_no_list : (r k x : ℕ) → part_of g r (suc k) ≡ Some x → is_list (symbol_at g x) ≡ false
  part_no_list r k x part =
      later_no_list f.written (named g (slice_index_or g.rules r no_rule)) (rule_is r (rule_there g.rules r (suc k) x part)) k (symbol_at g x) (get_map (symbol_at g) (rhs_of g r) (suc k) x part)

  pub item_no_list : (r x : ℕ) → IsRule g r → is_list (symbol_at g (lhs_of g r)) ≡ true → length (rhs_of g r) ≡ 1 → part_of g r 0 ≡ Some x → is_list (symbol_at g x) ≡ false
  item_no_list r x rule list one part =
      short_no_list f.written (named g (slice_index_or g.rules r no_rule)) (rule_is r rule) list (length-map (rhs_of g r) (symbol_at g) ∙ one) (symbol_at g x) (get_map (symbol_at g) (rhs_of g r) 0 x part)

  -- the last of some children
  pub record IsLastPart (r n p q : ℕ) (prefix : Children) (last : Tree) : Type 0 where
    pub d : ℕ
    pub count : n ≡ suc d
    pub m : ℕ
    pub x : ℕ
    pub part : part_of g r d ≡ Some x
    pub before : Spans g E r d p m prefix
    pub derives : Derives g E x m q last

  pub last_part : {r n p q : ℕ} {prefix : Children} {last : Tree} → Spans g E r n p q (Child prefix last) → IsLastPart r n p q prefix last
  last_part (More {d = d} {m = m} {x = x} s e t) = record { d = d; count = refl; m = m; x = x; part = e; before = s; derives = t }

  pub last_no_list : {r n p q : ℕ} {prefix : Children} {last : Tree} → Spans g E r n p q (Child prefix last) → 1 < n → is_list_node g last ≡ false
  last_no_list {r = r} {n = n} {p = p} {q = q} {prefix = prefix} {last = last} s long = go (last_part s)
    where
      go : IsLastPart r n p q prefix last → is_list_node f.flat last ≡ false
      go h = at h.d h.count h.part
        where
          at : (d : ℕ) → n ≡ suc d → part_of f.flat r d ≡ Some h.x → is_list_node f.flat last ≡ false
          at zero e part = absurd (omega (arith, e, long))
          at (suc d) e part = list_node f derived h.derives (part_no_list r d h.x part)

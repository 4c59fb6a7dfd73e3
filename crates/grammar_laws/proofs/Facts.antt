-- Trees over edges, and the first children of rules, found round by round; so it is decided what is found. Of a sequence's
-- children it counts whether there are some, and whether their number is even.
use Rattle.std.proofs.Common.{arith, ◌≡◌, ◌⊎◌, inl, inr, ℕ, zero, suc, ◌+◌, ◌<◌, ◌≤◌, Bool, true, false, not, IsTrue, IsFalse, List, [], ◌∷◌, ◌++◌, length, flat_map, Option, Some, None, refl, sym, ◌∙◌, ap, subst}
use Rattle.std.proofs.Common.{if◌then◌else◌, option_to_list}
use Rattle.grammar_model.specs.Grammar.{WrittenRule, SequenceRule, Plain, Sequence, Grammar, Slot, slot_of, rule_at, IsTerminal, Fits, child_slot, slot_count, sequence_symbol, is_even, ends_with_separator, IsChildCount}
use Rattle.grammar_model.specs.Trees.{Tree, Children, Leaf, Nulled, Node, NoChild, Child, child_count}
use Rattle.grammar_model.specs.Analysis.{IsNullable, IsProductive}
use Rattle.grammar_model.proofs.Productive.{productive}
use Rattle.grammar_model.specs.Derives.{Edges, Derives, DerivesPrefix}
use Rattle.finite_sets.specs.Decided.{IsDecided}
use Rattle.finite_sets.proofs.Deciding.{both, both_then, one_of, equal, less, at_most, implied, some_below, is_true}
use Rattle.finite_sets.proofs.Members.{Among, among_left, among_right, among_either, among_flat_map, among_flat_map_from, values, among_values, among_values_from}
use Rattle.finite_sets.proofs.Rounds.{AreRounds, decided}
use Rattle.grammar_laws.specs.Laws.{GoForward}
use Rattle.grammar_laws.proofs.Slots.{slots, child_among, fits_decided, terminal_decided, false_or}

-- ---- numbers of children

-- none, or the least number that is as even
abbrev pub squash : ℕ → ℕ
squash zero = 0
squash (suc zero) = 1
squash (suc (suc zero)) = 2
squash (suc (suc (suc n))) = squash (suc n)

squash_next : (n : ℕ) → squash (suc n) ≡ squash (suc (squash n))
squash_next zero = refl
squash_next (suc zero) = refl
squash_next (suc (suc zero)) = refl
squash_next (suc (suc (suc n))) = squash_next (suc n)

squash_most : (n : ℕ) → squash n ≤ 2
squash_most zero = omega arith
squash_most (suc zero) = omega arith
squash_most (suc (suc zero)) = omega arith
squash_most (suc (suc (suc n))) = squash_most (suc n)

twice_not : (b : Bool) → not (not b) ≡ b
twice_not true = refl
twice_not false = refl

squash_even : (n : ℕ) → is_even (squash n) ≡ is_even n
squash_even zero = refl
squash_even (suc zero) = refl
squash_even (suc (suc zero)) = refl
squash_even (suc (suc (suc n))) = squash_even (suc n) ∙ sym (twice_not (is_even (suc n)))

squash_some : (n : ℕ) → 0 < n → 0 < squash n
squash_some zero lt = lt
squash_some (suc zero) lt = omega arith
squash_some (suc (suc zero)) lt = omega arith
squash_some (suc (suc (suc n))) lt = squash_some (suc n) (omega arith)

some_squash : (n : ℕ) → 0 < squash n → 0 < n
some_squash zero lt = lt
some_squash (suc n) lt = omega arith

-- what counts of a number of children
abbrev pub class : WrittenRule → ℕ → ℕ
class (Plain r) n = n
class (Sequence r) n = squash n

-- the class of one child more
abbrev pub after : WrittenRule → ℕ → ℕ
after (Plain r) c = suc c
after (Sequence r) c = squash (suc c)

pub class_after : (rule : WrittenRule) (n : ℕ) → class rule (suc n) ≡ after rule (class rule n)
class_after (Plain r) n = refl
class_after (Sequence r) n = squash_next n

-- the greatest class
abbrev pub most : WrittenRule → ℕ
most (Plain r) = length r.rhs
most (Sequence r) = 2

separated_same : (item : ℕ) (separator : Option ℕ) (n : ℕ) → sequence_symbol item separator (squash n) ≡ sequence_symbol item separator n
separated_same item None n = refl
separated_same item (Some s) n = ap (λ b. if b then item else s) (squash_even n)

pub slot_same : (rule : WrittenRule) (n : ℕ) → child_slot rule (class rule n) ≡ child_slot rule n
slot_same (Plain r) n = refl
slot_same (Sequence r) n = ap slot_of (separated_same r.item r.separator n)

ends_same : (separator : Option ℕ) (n : ℕ) → ends_with_separator separator (squash n) ≡ ends_with_separator separator n
ends_same None n = refl
ends_same (Some s) n = squash_even n

pub count_class : (rule : WrittenRule) (n : ℕ) → IsChildCount rule n → IsChildCount rule (class rule n)
count_class (Plain r) n h = h
count_class (Sequence r) n (some, last) = (squash_some n some, subst (λ b. IsTrue b → IsFalse r.proper) (sym (ends_same r.separator n)) last)

pub class_count : (rule : WrittenRule) (n : ℕ) → IsChildCount rule (class rule n) → IsChildCount rule n
class_count (Plain r) n h = h
class_count (Sequence r) n (some, last) = (some_squash n some, subst (λ b. IsTrue b → IsFalse r.proper) (ends_same r.separator n) last)

pub count_most : (rule : WrittenRule) (n : ℕ) → IsChildCount rule n → class rule n ≤ most rule
count_most (Plain r) n h = omega (arith, h)
count_most (Sequence r) n h = squash_most n

count_decided : (rule : WrittenRule) (n : ℕ) → IsDecided (IsChildCount rule n)
count_decided (Plain r) n = equal n (length r.rhs)
count_decided (Sequence r) n = both (less 0 n) (implied (is_true (ends_with_separator r.separator n)) (false_or r.proper))

-- the child slot of a class has its place among the rule's child slots
separated_known : (r : SequenceRule) (separator : Option ℕ) (c : ℕ) → r.separator ≡ separator → (k : ℕ) × (k < suc (length (option_to_list separator))) × (sequence_symbol r.item separator k ≡ sequence_symbol r.item separator c)
separated_known r None c e = (0, omega arith, refl)
separated_known r (Some s) c e = go (is_even c) refl
  where
    go : (b : Bool) → is_even c ≡ b → (k : ℕ) × (k < suc (length (s ∷ []))) × ((if is_even k then r.item else s) ≡ (if is_even c then r.item else s))
    go true f = (0, omega arith, ap (λ b. if b then r.item else s) (sym f))
    go false f = (1, omega arith, ap (λ b. if b then r.item else s) (sym f))

slot_known : (rule : WrittenRule) (c : ℕ) → after rule c ≤ most rule → (k : ℕ) × (k < slot_count rule) × (child_slot rule k ≡ child_slot rule c)
slot_known (Plain r) c le = (c, omega (arith, le), refl)
slot_known (Sequence r) c le = let (k, kl, e) = separated_known r r.separator c refl in (k, kl, ap slot_of e)

pub class_zero : (rule : WrittenRule) → class rule 0 ≡ 0
class_zero (Plain r) = refl
class_zero (Sequence r) = refl

pub class_less : (rule : WrittenRule) (n : ℕ) → class rule (suc n) ≤ most rule → class rule n ≤ most rule
class_less (Plain r) n le = omega (arith, le)
class_less (Sequence r) n le = squash_most n

-- ---- what is found: trees, and the first children of a rule by their class

pub data Fact : Type 0 where
  TreeOf : (slot : Slot) (p q : ℕ) → Fact
  PrefixOf : (i c p q : ℕ) → Fact

-- over edges, and where what slots may span nothing
module _ (g : Grammar) (E : Edges) (Free : ℕ → Slot → Type 0) where
  abbrev pub Base : Fact → Type 0
  Base (TreeOf s p q) = (IsTerminal g s.symbol × E s.symbol p q) ⊎ ((p ≡ q) × Free p s)
  Base (PrefixOf i c p q) = (c ≡ 0) × (p ≡ q)

  -- a node over all children of a rule, and one child more
  abbrev pub Next : (Fact → Type 0) → Fact → Type 0
  Next R (TreeOf s p q) = (p < q) × ((i : ℕ) × (i < length g.rules) × (Fits (rule_at g i) s × ((c : ℕ) × (c < suc (most (rule_at g i))) × (IsChildCount (rule_at g i) c × R (PrefixOf i c p q)))))
  Next R (PrefixOf i c p q) =
      (b : ℕ) × (b < suc (most (rule_at g i))) × (((after (rule_at g i) b ≡ c) × (c ≤ most (rule_at g i))) × ((r : ℕ) × (r < suc q) × (R (PrefixOf i b p r) × R (TreeOf (child_slot (rule_at g i) b) r q))))

  abbrev pub In : ℕ → Fact → Type 0
  In zero x = Base x
  In (suc k) x = Base x ⊎ Next (In k) x

  next_on : (R S : Fact → Type 0) → ((x : Fact) → R x → S x) → (x : Fact) → Next R x → Next S x
  next_on R S f (TreeOf s p q) (lt, (i, il, (fits, (c, cl, (count, h))))) = (lt, (i, il, (fits, (c, cl, (count, f (PrefixOf i c p q) h)))))
  next_on R S f (PrefixOf i c p q) (b, bl, (e, (r, rl, (h, t)))) = (b, bl, (e, (r, rl, (f (PrefixOf i b p r) h, f (TreeOf (child_slot (rule_at g i) b) r q) t))))

  grows : (k : ℕ) (x : Fact) → In k x → In (suc k) x
  grows zero x b = inl b
  grows (suc k) x (inl b) = inl b
  grows (suc k) x (inr n) = inr (next_on (In k) (In (suc k)) (λ y h. grows k y h) x n)

  grown : (j k : ℕ) (x : Fact) → In j x → In (j + k) x
  grown j zero x h = subst (λ n. In n x) (let e : j ≡ j + 0 = omega arith in e) h
  grown j (suc k) x h = subst (λ n. In n x) (let e : suc (j + k) ≡ j + suc k = omega arith in e) (grows (j + k) x (grown j k x h))

  -- ---- what is there is found

  -- of a tree over other edges, whose places are moved
  module _ (D : Edges) (forward : GoForward D) (move : ℕ → ℕ) (rise : (a b : ℕ) → a ≤ b → move a ≤ move b) (none : (p : ℕ) (s : Slot) → IsNullable g s → Free p s)
      (leaf : (x a b : ℕ) → IsTerminal g x → D x a b → E x (move a) (move b) ⊎ ((move a ≡ move b) × ((s : Slot) → s.symbol ≡ x → Free (move a) s)))
      (node : (a b : ℕ) → a < b → (move a < move b) ⊎ ((move a ≡ move b) × ((s : Slot) → IsProductive g s → Free (move a) s))) where
    tree_order : (t : Tree) (s : Slot) (p q : ℕ) → Derives g D s p q t → p ≤ q
    tree_order (Leaf x a b) s p q d = let lt = forward x a b d.held in let e = d.from_is in let f = d.to_is in omega (arith, lt, e, f)
    tree_order (Nulled x a) s p q d = let e = d.from_is in let f = d.to_is in omega (arith, e, f)
    tree_order (Node i cs a b) s p q d = let lt = d.spans in omega (arith, lt)

    leaf_in : (x p q : ℕ) (s : Slot) → x ≡ s.symbol → IsTerminal g x → D x p q → Base (TreeOf s (move p) (move q))
    leaf_in x p q s e terminal h = elim (leaf x p q terminal h) [
      | inl held ↦ inl (subst (IsTerminal g) e terminal, subst (λ y. E y (move p) (move q)) e held)
      | inr (same, free) ↦ inr (same, free s (sym e))
    ]

    mutual
      pub tree_in : (t : Tree) (s : Slot) (p q : ℕ) → Derives g D s p q t → (k : ℕ) × In k (TreeOf s (move p) (move q))
      tree_in (Leaf x a b) s p q d = (0, leaf_in x p q s d.symbol_is d.terminal (subst (λ n. D x n q) d.from_is (subst (λ n. D x a n) d.to_is d.held)))
      tree_in (Nulled x a) s p q d = (0, inr (ap move (sym d.from_is ∙ d.to_is), none (move p) s d.nullable))
      tree_in (Node i cs a b) s p q d = over (prefix_in cs i p q (count_most (rule_at g i) (child_count cs) d.complete) d.prefix)
        where
          over : (k : ℕ) × In k (PrefixOf i (class (rule_at g i) (child_count cs)) (move p) (move q)) → (k : ℕ) × In k (TreeOf s (move p) (move q))
          over (k, h) =
              let le = count_most (rule_at g i) (child_count cs) d.complete in
              elim (node p q d.spans) [
                | inl lt ↦ (suc k, inr (lt, (i, d.in_range, (d.fits, (class (rule_at g i) (child_count cs), omega (arith, le), (count_class (rule_at g i) (child_count cs) d.complete, h))))))
                | inr (same, free) ↦ (0, inr (same, free s (productive g D (Node i cs a b) s p q d)))
              ]

      prefix_in : (cs : Children) (i p q : ℕ) → class (rule_at g i) (child_count cs) ≤ most (rule_at g i) → DerivesPrefix g D (rule_at g i) p q cs → (k : ℕ) × In k (PrefixOf i (class (rule_at g i) (child_count cs)) (move p) (move q))
      prefix_in NoChild i p q le e = (0, (class_zero (rule_at g i), ap move e))
      prefix_in (Child prefix last) i p q le (r, f, d) =
          let low = class_less (rule_at g i) (child_count prefix) le in
          let (j, a) = prefix_in prefix i p r low f in
          let (k, b) = tree_in last (child_slot (rule_at g i) (child_count prefix)) r q d in
          let order = rise r q (tree_order last (child_slot (rule_at g i) (child_count prefix)) r q d) in
          let b' = subst (λ s. In k (TreeOf s (move r) (move q))) (sym (slot_same (rule_at g i) (child_count prefix))) b in (
            suc (j + k),
            inr (
              class (rule_at g i) (child_count prefix),
              omega (arith, low),
              (
                (sym (class_after (rule_at g i) (child_count prefix)), le),
                (
                  move r,
                  omega (arith, order),
                  (
                    grown j k (PrefixOf i (class (rule_at g i) (child_count prefix)) (move p) (move r)) a,
                    subst (λ n. In n (TreeOf (child_slot (rule_at g i) (class (rule_at g i) (child_count prefix))) (move r) (move q))) (let e : k + j ≡ j + k = omega arith in e)
                        (grown k j (TreeOf (child_slot (rule_at g i) (class (rule_at g i) (child_count prefix))) (move r) (move q)) b'),
                  ),
                ),
              ),
            ),
          )

  -- ---- the rounds up to a place

  numbers : ℕ → List ℕ
  numbers n = values (λ k. k) (suc n)

  trees_at : (end : ℕ) (s : Slot) (p : ℕ) → List Fact
  trees_at end s p = values (λ q. TreeOf s p q) (suc end)

  trees_of : (end : ℕ) (s : Slot) → List Fact
  trees_of end s = flat_map (trees_at end s) (numbers end)

  prefixes_at : (end i c p : ℕ) → List Fact
  prefixes_at end i c p = values (λ q. PrefixOf i c p q) (suc end)

  prefixes_by : (end i c : ℕ) → List Fact
  prefixes_by end i c = flat_map (prefixes_at end i c) (numbers end)

  prefixes_of : (end i : ℕ) → List Fact
  prefixes_of end i = flat_map (prefixes_by end i) (numbers (most (rule_at g i)))

  facts : ℕ → List Fact
  facts end = flat_map (trees_of end) (slots g) ++ flat_map (prefixes_of end) (values (λ i. i) (length g.rules))

  abbrev pub Known : ℕ → Fact → Type 0
  Known end (TreeOf s p q) = (p ≤ end) × (q ≤ end)
  Known end (PrefixOf i c p q) = (i < length g.rules) × (c ≤ most (rule_at g i)) × (p ≤ end) × (q ≤ end)

  number_among : (n k : ℕ) → k ≤ n → Among k (numbers n)
  unfolding numbers
  number_among n k le = among_values (λ k. k) (suc n) k (omega (arith, le))

  among_number : (n k : ℕ) → Among k (numbers n) → k ≤ n
  unfolding numbers
  among_number n k m = let (j, lt, e) = among_values_from (λ k. k) (suc n) k m in omega (arith, lt, e)

  tree_among : (end : ℕ) (s : Slot) (p q : ℕ) → Among s (slots g) → p ≤ end → q ≤ end → Among (TreeOf s p q) (facts end)
  unfolding facts trees_of trees_at
  tree_among end s p q m pl ql =
      among_left (TreeOf s p q) (flat_map (trees_of end) (slots g)) (flat_map (prefixes_of end) (values (λ i. i) (length g.rules)))
      (among_flat_map (trees_of end) s (TreeOf s p q) (slots g) m
      (among_flat_map (trees_at end s) p (TreeOf s p q) (numbers end) (number_among end p pl)
      (among_values (λ q. TreeOf s p q) (suc end) q (omega (arith, ql)))))

  prefix_among : (end i c p q : ℕ) → i < length g.rules → c ≤ most (rule_at g i) → p ≤ end → q ≤ end → Among (PrefixOf i c p q) (facts end)
  unfolding facts prefixes_of prefixes_by prefixes_at
  prefix_among end i c p q il cl pl ql =
      among_right (PrefixOf i c p q) (flat_map (trees_of end) (slots g)) (flat_map (prefixes_of end) (values (λ i. i) (length g.rules)))
      (among_flat_map (prefixes_of end) i (PrefixOf i c p q) (values (λ i. i) (length g.rules)) (among_values (λ i. i) (length g.rules) i il)
      (among_flat_map (prefixes_by end i) c (PrefixOf i c p q) (numbers (most (rule_at g i))) (number_among (most (rule_at g i)) c cl)
      (among_flat_map (prefixes_at end i c) p (PrefixOf i c p q) (numbers end) (number_among end p pl)
      (among_values (λ q. PrefixOf i c p q) (suc end) q (omega (arith, ql))))))

  known_tree : (end : ℕ) (x : Fact) → Among x (flat_map (trees_of end) (slots g)) → Known end x
  unfolding trees_of trees_at
  known_tree end x m =
      let (s, sm, m) = among_flat_map_from (trees_of end) x (slots g) m in
      let (p, pm, m) = among_flat_map_from (trees_at end s) x (numbers end) m in
      let (q, ql, e) = among_values_from (λ q. TreeOf s p q) (suc end) x m in
      subst (Known end) e (among_number end p pm, omega (arith, ql))

  prefix_known : (end i c p q : ℕ) (x : Fact) → PrefixOf i c p q ≡ x → i < length g.rules → c ≤ most (rule_at g i) → p ≤ end → q ≤ end → Known end x
  prefix_known end i c p q x e il cl pl ql = subst (Known end) e (il, cl, pl, ql)

  known_prefix : (end : ℕ) (x : Fact) → Among x (flat_map (prefixes_of end) (values (λ i. i) (length g.rules))) → Known end x
  unfolding prefixes_of prefixes_by prefixes_at
  known_prefix end x m =
      let (i, im, mi) = among_flat_map_from (prefixes_of end) x (values (λ i. i) (length g.rules)) m in
      let (j, jl, same) = among_values_from (λ i. i) (length g.rules) i im in
      let (c, cm, mc) = among_flat_map_from (prefixes_by end i) x (numbers (most (rule_at g i))) mi in
      let (p, pm, mp) = among_flat_map_from (prefixes_at end i c) x (numbers end) mc in
      let (q, ql, e) = among_values_from (λ q. PrefixOf i c p q) (suc end) x mp in
      prefix_known end i c p q x e (omega (arith, jl, same)) (among_number (most (rule_at g i)) c cm) (among_number end p pm) (omega (arith, ql))

  known_among : (end : ℕ) (x : Fact) → Among x (facts end) → Known end x
  unfolding facts
  known_among end x m = elim (among_either x (flat_map (trees_of end) (slots g)) (flat_map (prefixes_of end) (values (λ i. i) (length g.rules))) m) [
    | inl t ↦ known_tree end x t
    | inr f ↦ known_prefix end x f
  ]

  -- the child slot of a class is a member
  child_member : (i b : ℕ) → i < length g.rules → after (rule_at g i) b ≤ most (rule_at g i) → Among (child_slot (rule_at g i) b) (slots g)
  child_member i b il le = let (k, kl, e) = slot_known (rule_at g i) b le in subst (λ s. Among s (slots g)) e (child_among g i k il kl)

  next_in : (end : ℕ) (R S : Fact → Type 0) → ((x : Fact) → Among x (facts end) → R x → S x) → (x : Fact) → Known end x → Next R x → Next S x
  next_in end R S f (TreeOf s p q) (pl, ql) (lt, (i, il, (fits, (c, cl, (count, h))))) =
      (lt, (i, il, (fits, (c, cl, (count, f (PrefixOf i c p q) (prefix_among end i c p q il (omega (arith, cl)) pl ql) h)))))
  next_in end R S f (PrefixOf i c p q) (il, cl, pl, ql) (b, bl, ((e, le), (r, rl, (h, t)))) = (
    b,
    bl,
    (
      (e, le),
      (
        r,
        rl,
        (
          f (PrefixOf i b p r) (prefix_among end i b p r il (omega (arith, bl)) pl (omega (arith, rl, ql))) h,
          f (TreeOf (child_slot (rule_at g i) b) r q) (tree_among end (child_slot (rule_at g i) b) r q (child_member i b il (omega (arith, e, le))) (omega (arith, rl, ql)) ql) t,
        ),
      ),
    ),
  )

  module _ (edge : (x p q : ℕ) → IsDecided (E x p q)) (free : (p : ℕ) (s : Slot) → IsDecided (Free p s)) where
    base_decided : (x : Fact) → IsDecided (Base x)
    base_decided (TreeOf s p q) = one_of (both (terminal_decided g s.symbol) (edge s.symbol p q)) (both (equal p q) (free p s))
    base_decided (PrefixOf i c p q) = both (equal c 0) (equal p q)

    next_decided : (end : ℕ) (R : Fact → Type 0) → ((x : Fact) → Among x (facts end) → IsDecided (R x)) → (x : Fact) → Known end x → IsDecided (Next R x)
    next_decided end R d (TreeOf s p q) (pl, ql) =
        both (less p q)
        (some_below (λ i. Fits (rule_at g i) s × ((c : ℕ) × (c < suc (most (rule_at g i))) × (IsChildCount (rule_at g i) c × R (PrefixOf i c p q)))) (length g.rules)
        (λ i il. both (fits_decided (rule_at g i) s)
        (some_below (λ c. IsChildCount (rule_at g i) c × R (PrefixOf i c p q)) (suc (most (rule_at g i)))
        (λ c cl. both (count_decided (rule_at g i) c) (d (PrefixOf i c p q) (prefix_among end i c p q il (omega (arith, cl)) pl ql))))))
    next_decided end R d (PrefixOf i c p q) (il, cl, pl, ql) =
        some_below (λ b. ((after (rule_at g i) b ≡ c) × (c ≤ most (rule_at g i))) × ((r : ℕ) × (r < suc q) × (R (PrefixOf i b p r) × R (TreeOf (child_slot (rule_at g i) b) r q)))) (suc (most (rule_at g i)))
        (λ b bl. both_then (both (equal (after (rule_at g i) b) c) (at_most c (most (rule_at g i))))
        (λ (e, le). some_below (λ r. R (PrefixOf i b p r) × R (TreeOf (child_slot (rule_at g i) b) r q)) (suc q)
        (λ r rl. both (d (PrefixOf i b p r) (prefix_among end i b p r il (omega (arith, bl)) pl (omega (arith, rl, ql))))
        (d (TreeOf (child_slot (rule_at g i) b) r q) (tree_among end (child_slot (rule_at g i) b) r q (child_member i b il (omega (arith, e, le))) (omega (arith, rl, ql)) ql)))))

    rounds : (end : ℕ) → AreRounds (facts end) (Known end) In
    rounds end = record {
      members = known_among end;
      grows = λ k x h a. grows k x a;
      next = λ j k f x h a. elim a [ inl b ↦ inl b | inr n ↦ inr (next_in end (In j) (In k) f x h n) ];
      first_decided = λ x h. base_decided x;
      next_decided = λ k d x h. one_of (base_decided x) (next_decided end (In k) d x h);
    }

    pub fact_decided : (end : ℕ) (x : Fact) → Known end x → IsDecided ((k : ℕ) × In k x)
    fact_decided end x h = decided (facts end) (Known end) In (rounds end) x h

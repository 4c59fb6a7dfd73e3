-- What a flat derivation stands for is a derivation.
use Rattle.std.proofs.Common.{◌≡◌, ℕ, suc, ◌<◌, ◌≤◌, true, false, cond, not, length, ◌⊎◌, inl, inr, Option, Some, None, refl, sym, ap, ◌∙◌, subst, arith}
use Rattle.std.specs.Prelude.{slice_index}
use Rattle.std.proofs.lemmas.Bool.{true≢false, cond-true, cond-false}
use Rattle.grammar_model.specs.Grammar.{Grammar, Slot, WrittenRule, Plain, Sequence, slot_of, rule_at, Fits, IsChildCount, IsTerminal, child_slot, is_item, sequence_symbol, ends_with_separator}
use Rattle.grammar_model.specs.Trees.{Tree, Children, Leaf, Nulled, Node, NoChild, Child, child_count}
use Rattle.grammar_model.specs.Analysis.{IsNullable}
use Rattle.grammar_model.specs.Derives.{Edges, Derives, DerivesPrefix}
use Rattle.recognizer_model.specs.FlatForm.{join}
use Rattle.recognizer_model.specs.View.{plain_rule}
use Rattle.recognizer_model.proofs.Forms.{FlatSymbol, FlatTerminal, FlatSlot, FlatList, FlatTop, FlatNames, IsFlatOf, IsHead, IsInner, IsPart, StandsFor, written_symbol, is_list_symbol, is_list_node, tree_of, children_of, inside, EndsWithItem}

-- two numbers of children after which a rule goes on alike
abbrev pub Alike : WrittenRule → ℕ → ℕ → Type 0
Alike (Plain r) m n = m ≡ n
Alike (Sequence r) m n = (0 < m → 0 < n) × (is_item r.separator m ≡ is_item r.separator n)

pub alike_same : (rule : WrittenRule) (m : ℕ) → Alike rule m m
alike_same (Plain r) m = refl
alike_same (Sequence r) m = ((λ h. h), refl)

item_next : (separator : Option ℕ) (m n : ℕ) → is_item separator m ≡ is_item separator n → is_item separator (suc m) ≡ is_item separator (suc n)
item_next None m n e = refl
item_next (Some c) m n e = ap not e

pub alike_next : (rule : WrittenRule) (m n : ℕ) → Alike rule m n → Alike rule (suc m) (suc n)
alike_next (Plain r) m n e = ap suc e
alike_next (Sequence r) m n e = ((λ h. omega arith), item_next r.separator m n e.1)

symbol_alike : (item : ℕ) (separator : Option ℕ) (m n : ℕ) → is_item separator m ≡ is_item separator n → sequence_symbol item separator m ≡ sequence_symbol item separator n
symbol_alike item None m n e = refl
symbol_alike item (Some c) m n e = ap (λ b. cond b item c) e

pub slot_alike : (rule : WrittenRule) (m n : ℕ) → Alike rule m n → child_slot rule m ≡ child_slot rule n
slot_alike (Plain r) m n e = ap (child_slot (Plain r)) e
slot_alike (Sequence r) m n e = ap slot_of (symbol_alike r.item r.separator m n e.1)

trailing_alike : (separator : Option ℕ) (m n : ℕ) → is_item separator m ≡ is_item separator n → ends_with_separator separator m ≡ ends_with_separator separator n
trailing_alike None m n e = refl
trailing_alike (Some c) m n e = e

pub count_alike : (rule : WrittenRule) (m n : ℕ) → Alike rule m n → IsChildCount rule m → IsChildCount rule n
count_alike (Plain r) m n e c = sym e ∙ c
count_alike (Sequence r) m n e c = (e.0 c.0, λ t. c.1 (trailing_alike r.separator m n e.1 ∙ t))

ends_one : (separator : Option ℕ) (n : ℕ) → ends_with_separator separator n ≡ false → is_item separator 1 ≡ is_item separator n ⊎ (separator ≡ None)
ends_one None n e = inr refl
ends_one (Some c) n e = inl (sym e)

-- a list that ends with an item is as good as one item
pub alike_one : (rule : WrittenRule) (n : ℕ) → EndsWithItem rule n → Alike rule 1 n
alike_one (Plain r) n e = absurd e
alike_one (Sequence r) n e = ((λ h. e.0), go r.separator e.1)
  where
    go : (separator : Option ℕ) → ends_with_separator separator n ≡ false → is_item separator 1 ≡ is_item separator n
    go None h = refl
    go (Some c) h = sym h

pub ends_alike : (rule : WrittenRule) (m n : ℕ) → Alike rule m n → EndsWithItem rule m → EndsWithItem rule n
ends_alike (Plain r) m n a e = absurd e
ends_alike (Sequence r) m n a e = (a.0 e.0, sym (trailing_alike r.separator m n a.1) ∙ e.1)

pub join-NoChild : (cs : Children) → join NoChild cs ≡ cs
join-NoChild NoChild = refl
join-NoChild (Child prefix last) = ap (λ c. Child c last) (join-NoChild prefix)

pub inner_from : (symbol : FlatSymbol) (slot : Slot) → StandsFor symbol slot → IsInner symbol
inner_from (FlatTerminal s) slot e = tt
inner_from (FlatSlot s) slot e = tt
inner_from (FlatList i) slot e = tt
inner_from (FlatTop k) slot e = absurd e

pub inner_list : (symbol : FlatSymbol) (i : ℕ) → symbol ≡ FlatList i → IsInner symbol
inner_list symbol i e = subst IsInner (sym e) tt

no_list : (symbol : FlatSymbol) (slot : Slot) → StandsFor symbol slot → is_list_symbol symbol ≡ false
no_list (FlatTerminal s) slot e = refl
no_list (FlatSlot s) slot e = refl
no_list (FlatList i) slot e = absurd e
no_list (FlatTop k) slot e = absurd e

module _ (f g : Grammar) (n : FlatNames) (flat_edge edge : Edges) (laws : IsFlatOf f g n flat_edge edge) where
  -- a flat rule that makes a node has parts
  pub has_parts : (x p q r : ℕ) (cs : Children) (a b : ℕ) → Derives f flat_edge (slot_of x) p q (Node r cs a b) → (child_count cs ≡ length (n.rhs r)) × (n.lhs r ≡ x) × (0 < length (n.rhs r))
  has_parts x p q r cs a b d =
      let e = laws.flat r d.in_range in
      let count : child_count cs ≡ length (n.rhs r) = subst (λ rule. IsChildCount rule (child_count cs)) e d.complete in
      let fits : Fits (plain_rule (n.lhs r) (n.rhs r)) (slot_of x) = subst (λ rule. Fits rule (slot_of x)) e d.fits in
      (count, fits.0, go cs count d.prefix)
    where
      go : (cs : Children) → child_count cs ≡ length (n.rhs r) → DerivesPrefix f flat_edge (rule_at f r) p q cs → 0 < length (n.rhs r)
      go NoChild c fr = let s = d.spans in absurd (omega arith)
      go (Child prefix last) c fr = omega arith

  -- a node of a symbol that stands for a slot is no list's
  pub not_list : (x p q : ℕ) (slot : Slot) (t : Tree) → Derives f flat_edge (slot_of x) p q t → StandsFor (n.symbol x) slot → is_list_node n t ≡ false
  not_list x p q slot (Leaf y a b) d s = refl
  not_list x p q slot (Nulled y a) d s = refl
  not_list x p q slot (Node r cs a b) d s = ap (λ y. is_list_symbol (n.symbol y)) (has_parts x p q r cs a b d).1 ∙ no_list (n.symbol x) slot s

  node_sound : (symbol : FlatSymbol) (slot : Slot) (r : ℕ) (cs : Children) (a b p q : ℕ) → StandsFor symbol slot → IsHead g symbol (n.source r) (length (n.rhs r)) → child_count cs ≡ length (n.rhs r) → a ≡ p → b ≡ q → p < q →
      DerivesPrefix g edge (rule_at g (n.source r)) p q (children_of n cs) × Alike (rule_at g (n.source r)) (child_count cs) (child_count (children_of n cs)) → Derives g edge slot p q (Node (n.source r) (children_of n cs) a b)
  node_sound (FlatTerminal t) slot r cs a b p q s h c e e' lt d = absurd h
  node_sound (FlatSlot t) slot r cs a b p q s h c e e' lt d = record {
    from_is = e;
    to_is = e';
    spans = lt;
    in_range = h.0;
    fits = subst (Fits (rule_at g (n.source r))) (sym s) h.1;
    complete = count_alike (rule_at g (n.source r)) _ _ d.1 (subst (IsChildCount (rule_at g (n.source r))) (sym c) h.2);
    prefix = d.0;
  }
  node_sound (FlatList i) slot r cs a b p q s h c e e' lt d = absurd s
  node_sound (FlatTop k) slot r cs a b p q s h c e e' lt d = absurd s

  pub list_node : (x p q i : ℕ) (t : Tree) → Derives f flat_edge (slot_of x) p q t → n.symbol x ≡ FlatList i → is_list_node n t ≡ true
  list_node x p q i (Leaf y a b) d e =
      let l = laws.leaf y a b d.terminal d.held in
      let e' : FlatTerminal l.0 ≡ FlatList i = sym l.1 ∙ ap n.symbol d.symbol_is ∙ e in cc
  list_node x p q i (Nulled y a) d e =
      let l = laws.nulled x (inner_list (n.symbol x) i e) d.nullable in
      let e' : FlatSlot l.0 ≡ FlatList i = sym l.1 ∙ e in cc
  list_node x p q i (Node r cs a b) d e = ap (λ y. is_list_symbol (n.symbol y)) (has_parts x p q r cs a b d).1 ∙ ap is_list_symbol e

  -- what a rule's first children stand for, and how many they are
  abbrev Sound : ℕ → ℕ → ℕ → ℕ → Children → Type 0
  Sound i count p q cs = DerivesPrefix g edge (rule_at g i) p q cs × Alike (rule_at g i) count (child_count cs)

  prefix_step : (prefix : Children) (last : Tree) (r p q m x : ℕ) → DerivesPrefix f flat_edge (rule_at f r) p m prefix → Derives f flat_edge (slot_of x) m q last →
      Sound (n.source r) (child_count prefix) p m (children_of n prefix) → IsPart g (n.symbol x) (n.source r) (child_count prefix) →
      ((slot : Slot) → StandsFor (n.symbol x) slot → Derives g edge slot m q (tree_of n last)) →
      (n.symbol x ≡ FlatList (n.source r) → DerivesPrefix g edge (rule_at g (n.source r)) m q (inside n last) × EndsWithItem (rule_at g (n.source r)) (child_count (inside n last))) →
      Sound (n.source r) (suc (child_count prefix)) p q (children_of n (Child prefix last))
  prefix_step prefix last r p q m x fr d ih (inl s) as_tree as_list =
      let rule = rule_at g (n.source r) in
      let here = as_tree (child_slot rule (child_count prefix)) s in
      subst (Sound (n.source r) (suc (child_count prefix)) p q) (sym (cond-false _ _ _ (not_list x m q _ last d s)))
      ((m, ih.0, subst (λ slot. Derives g edge slot m q (tree_of n last)) (slot_alike rule _ _ ih.1) here), alike_next rule _ _ ih.1)
  prefix_step NoChild last r p q m x fr d ih (inr e) as_tree as_list =
      let rule = rule_at g (n.source r) in
      let l = as_list e.1 in
      subst (Sound (n.source r) 1 p q) (sym (join-NoChild (inside n last)) ∙ sym (cond-true _ _ _ (list_node x m q _ last d e.1)))
      (subst (λ z. DerivesPrefix g edge rule z q (inside n last)) (sym fr) l.0, alike_one rule _ l.1)
  prefix_step (Child prefix more) last r p q m x fr d ih (inr e) as_tree as_list = let z = e.0 in absurd (omega arith)

  list_head : (i r len count : ℕ) (symbol : FlatSymbol) (p q : ℕ) (cs : Children) → symbol ≡ FlatList i → IsHead g symbol (n.source r) len → count ≡ len → Sound (n.source r) count p q cs → DerivesPrefix g edge (rule_at g i) p q cs × EndsWithItem (rule_at g i) (child_count cs)
  list_head i r len count symbol p q cs e h c s =
      let head = subst (λ z. IsHead g z (n.source r) len) e h in
      let ends : EndsWithItem (rule_at g (n.source r)) count = subst (EndsWithItem (rule_at g (n.source r))) (sym c) head.1 in
      subst (λ j. DerivesPrefix g edge (rule_at g j) p q cs × EndsWithItem (rule_at g j) (child_count cs)) head.0
      (s.0, ends_alike (rule_at g (n.source r)) _ _ s.1 ends)

  mutual
    pub tree_sound : (t : Tree) (x p q : ℕ) (slot : Slot) → StandsFor (n.symbol x) slot → Derives f flat_edge (slot_of x) p q t → Derives g edge slot p q (tree_of n t)
    tree_sound (Leaf y a b) x p q slot s d =
        let e : n.symbol y ≡ n.symbol x = ap n.symbol d.symbol_is in
        let l = laws.leaf y a b d.terminal d.held in
        let s' : slot ≡ slot_of l.0 = subst (λ z. StandsFor z slot) (sym e ∙ l.1) s in
        let w : written_symbol (n.symbol y) ≡ l.0 = ap written_symbol l.1 in
        record {
          symbol_is = w ∙ sym (ap (λ (z : Slot). z.symbol) s');
          from_is = d.from_is;
          to_is = d.to_is;
          terminal = subst (IsTerminal g) (sym w) l.2;
          held = subst (λ z. edge z a b) (sym w) l.3;
        }
    tree_sound (Nulled y a) x p q slot s d =
        let l = laws.nulled x (inner_from (n.symbol x) slot s) d.nullable in
        let s' : slot ≡ l.0 = subst (λ z. StandsFor z slot) l.1 s in
        record {
          symbol_is = ap (λ z. written_symbol (n.symbol z)) d.symbol_is ∙ ap written_symbol l.1 ∙ sym (ap (λ (z : Slot). z.symbol) s');
          from_is = d.from_is;
          to_is = d.to_is;
          nullable = subst (IsNullable g) (sym s') l.2;
        }
    tree_sound (Node r cs a b) x p q slot s d =
        let h = has_parts x p q r cs a b d in
        let prefix = prefix_sound cs r p q d.in_range (subst (λ z. IsInner (n.symbol z)) (sym h.1) (inner_from (n.symbol x) slot s)) (omega (arith, h.0)) d.prefix in
        let head = subst (λ z. IsHead g (n.symbol z) (n.source r) (length (n.rhs r))) h.1 (laws.head r d.in_range h.2) in
        node_sound (n.symbol x) slot r cs a b p q s head h.0 d.from_is d.to_is d.spans prefix

    -- a rule's first flat children: what they stand for are its first children, and go on alike
    pub prefix_sound : (cs : Children) (r p q : ℕ) → r < length f.rules → IsInner (n.symbol (n.lhs r)) → child_count cs ≤ length (n.rhs r) → DerivesPrefix f flat_edge (rule_at f r) p q cs → DerivesPrefix g edge (rule_at g (n.source r)) p q (children_of n cs) × Alike (rule_at g (n.source r)) (child_count cs) (child_count (children_of n cs))
    prefix_sound NoChild r p q lt inner c d = (d, alike_same (rule_at g (n.source r)) 0)
    prefix_sound (Child prefix last) r p q lt inner c (m, fr, l) =
        let ih = prefix_sound prefix r p m lt inner (omega arith) fr in
        let k = child_count prefix in
        let l' : Derives f flat_edge (slot_of (slice_index (n.rhs r) k)) m q last = subst (λ rule. Derives f flat_edge (child_slot rule k) m q last) (laws.flat r lt) l in
        prefix_step prefix last r p q m (slice_index (n.rhs r) k) fr l' ih (laws.part r k lt (omega arith) inner)
        (λ slot s. tree_sound last (slice_index (n.rhs r) k) m q slot s l')
        (λ e. list_sound last (slice_index (n.rhs r) k) (n.source r) m q e l')

    -- a list's node stands for children that end with an item
    pub list_sound : (t : Tree) (x i p q : ℕ) → n.symbol x ≡ FlatList i → Derives f flat_edge (slot_of x) p q t → DerivesPrefix g edge (rule_at g i) p q (inside n t) × EndsWithItem (rule_at g i) (child_count (inside n t))
    list_sound (Leaf y a b) x i p q e d = absurd (true≢false (sym (list_node x p q i (Leaf y a b) d e)))
    list_sound (Nulled y a) x i p q e d = absurd (true≢false (sym (list_node x p q i (Nulled y a) d e)))
    list_sound (Node r cs a b) x i p q e d =
        let h = has_parts x p q r cs a b d in
        let prefix = prefix_sound cs r p q d.in_range (subst (λ z. IsInner (n.symbol z)) (sym h.1) (inner_list (n.symbol x) i e)) (omega (arith, h.0)) d.prefix in
        let head = subst (λ z. IsHead g (n.symbol z) (n.source r) (length (n.rhs r))) h.1 (laws.head r d.in_range h.2) in
        list_head i r (length (n.rhs r)) (child_count cs) (n.symbol x) p q (children_of n cs) e head h.0 prefix

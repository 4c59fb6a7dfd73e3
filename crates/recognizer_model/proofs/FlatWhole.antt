-- Each derivation is what a flat derivation stands for.
use Rattle.std.proofs.Common.{◌≡◌, ℕ, zero, suc, ◌<◌, ◌≤◌, ◌+◌, Bool, true, false, not, length, ◌⊎◌, inl, inr, Option, Some, None, refl, sym, ap, ◌∙◌, subst, arith}
use Rattle.std.specs.Prelude.{slice_index}
use Rattle.std.proofs.lemmas.Bool.{true≢false, cond-true, cond-false, cases_Bool}
use Rattle.grammar_model.specs.Grammar.{PlainRule, Grammar, Slot, WrittenRule, Plain, Sequence, slot_of, rule_at, slot_count, child_slot, Fits, IsTerminal, IsChildCount, EachChildSlot, is_even, is_item, has_trailing, ends_with_separator}
use Rattle.grammar_model.specs.Trees.{Tree, Children, Leaf, Nulled, Node, NoChild, Child, child_count}
use Rattle.grammar_model.specs.Analysis.{IsNullable, IsProductive, IsLive}
use Rattle.grammar_model.specs.Derives.{Edges, Derives, DerivesPrefix}
use Rattle.recognizer_model.specs.FlatForm.{join}
use Rattle.recognizer_model.proofs.Forms.{FlatSymbol, FlatTerminal, FlatSlot, FlatList, FlatTop, FlatNames, IsFlatOf, HasFlatRules, HasListRule, IsPart, IsInner, StandsFor, written_symbol, tree_of, children_of, inside, IsSequence, EndsWithItem}
use Rattle.grammar_model.proofs.Total.{nullable_not_terminal}
use Rattle.grammar_model.proofs.Compose.{GoForward}
use Rattle.recognizer_model.proofs.FlatSound.{Alike, alike_one, slot_alike, not_list, list_node, join-NoChild, inner_from, inner_list}
use Rattle.grammar_model.proofs.Productive.{prefix_productive, node_live}

module _ (f g : Grammar) (n : FlatNames) (flat_edge edge : Edges) (laws : IsFlatOf f g n flat_edge edge) (has : HasFlatRules f g n flat_edge edge) (forward : GoForward edge) where
  abbrev TreeFlat : ℕ → ℕ → ℕ → Tree → Type 0
  TreeFlat x p q t = (u : Tree) × Derives f flat_edge (slot_of x) p q u × (tree_of n u ≡ t)

  -- first flat children of the flat rule r, so many
  abbrev PrefixFlat : ℕ → ℕ → ℕ → Children → ℕ → Type 0
  PrefixFlat r p q cs j = (ds : Children) × DerivesPrefix f flat_edge (rule_at f r) p q ds × (child_count ds ≡ j) × (children_of n ds ≡ cs)

  abbrev ListFlat : ℕ → ℕ → ℕ → Children → Type 0
  ListFlat y p q cs = (u : Tree) × Derives f flat_edge (slot_of y) p q u × (inside n u ≡ cs)

  part_of : ℕ → ℕ → ℕ
  part_of r j = slice_index (n.rhs r) j

  no_children : (r p q : ℕ) → p ≡ q → PrefixFlat r p q NoChild 0
  no_children r p q e = (NoChild, e, refl, refl)

  at_rule : (r j m q : ℕ) (u : Tree) → r < length f.rules → Derives f flat_edge (slot_of (slice_index (n.rhs r) j)) m q u → Derives f flat_edge (child_slot (rule_at f r) j) m q u
  at_rule r j m q u lt d = subst (λ rule. Derives f flat_edge (child_slot rule j) m q u) (sym (laws.flat r lt)) d

  add_last : (r j p m q : ℕ) (prefix : Children) (t : Tree) (slot : Slot) → r < length f.rules → PrefixFlat r p m prefix j → StandsFor (n.symbol (slice_index (n.rhs r) j)) slot → TreeFlat (slice_index (n.rhs r) j) m q t → PrefixFlat r p q (Child prefix t) (suc j)
  add_last r j p m q prefix t slot lt (ds, d, c, e) s (u, du, eu) = (
    Child ds u,
    (m, d, subst (λ k. Derives f flat_edge (child_slot (rule_at f r) k) m q u) (sym c) (at_rule r j m q u lt du)),
    ap suc c,
    cond-false _ (join (children_of n ds) (inside n u)) (Child (children_of n ds) (tree_of n u)) (not_list f g n flat_edge edge laws _ m q slot u du s) ∙ (λ i. Child (e i) (eu i)),
  )

  add_list : (r p q y i : ℕ) (cs : Children) → r < length f.rules → slice_index (n.rhs r) 0 ≡ y → n.symbol y ≡ FlatList i → ListFlat y p q cs → PrefixFlat r p q cs 1
  add_list r p q y i cs lt first s (u, du, eu) = (
    Child NoChild u,
    (p, refl, at_rule r 0 p q u lt (subst (λ z. Derives f flat_edge (slot_of z) p q u) (sym first) du)),
    refl,
    cond-true _ (join NoChild (inside n u)) (Child NoChild (tree_of n u)) (list_node f g n flat_edge edge laws y p q i u du s) ∙ join-NoChild (inside n u) ∙ eu,
  )

  flat_node : (x r p q : ℕ) (cs : Children) → r < length f.rules → n.lhs r ≡ x → p < q → (w : PrefixFlat r p q cs (length (n.rhs r))) → Derives f flat_edge (slot_of x) p q (Node r w.0 p q)
  flat_node x r p q cs lt l spans (ds, d, c, e) = record {
    from_is = refl;
    to_is = refl;
    spans = spans;
    in_range = lt;
    fits = subst (λ rule. Fits rule (slot_of x)) (sym (laws.flat r lt)) (l, omega arith);
    complete = subst (λ rule. IsChildCount rule (child_count ds)) (sym (laws.flat r lt)) c;
    prefix = d;
  }

  -- the part at place j stands for the child slot of a place that is like it
  stands_at : (r j k i : ℕ) → r < length f.rules → IsInner (n.symbol (n.lhs r)) → n.source r ≡ i → j < length (n.rhs r) → 0 < j → Alike (rule_at g i) j k → StandsFor (n.symbol (slice_index (n.rhs r) j)) (child_slot (rule_at g i) k)
  stands_at r j k i lt inner src h pos a = pick (laws.part r j lt h inner)
    where
      pick : IsPart g (n.symbol (slice_index (n.rhs r) j)) (n.source r) j → StandsFor (n.symbol (slice_index (n.rhs r) j)) (child_slot (rule_at g i) k)
      pick (inl s) = subst (StandsFor (n.symbol (slice_index (n.rhs r) j))) (ap (λ z. child_slot (rule_at g z) j) src ∙ slot_alike (rule_at g i) j k a) s
      pick (inr z) = let z0 = z.0 in absurd (omega arith)

  plain_at : (r j i : ℕ) (rule : PlainRule) → r < length f.rules → IsInner (n.symbol (n.lhs r)) → n.source r ≡ i → rule_at g i ≡ Plain rule → j < length (n.rhs r) → StandsFor (n.symbol (slice_index (n.rhs r) j)) (child_slot (rule_at g i) j)
  plain_at r j i rule lt inner src is h = pick (laws.part r j lt h inner)
    where
      pick : IsPart g (n.symbol (slice_index (n.rhs r) j)) (n.source r) j → StandsFor (n.symbol (slice_index (n.rhs r) j)) (child_slot (rule_at g i) j)
      pick (inl s) = subst (StandsFor (n.symbol (slice_index (n.rhs r) j))) (ap (λ z. child_slot (rule_at g z) j) src) s
      pick (inr z) = absurd (subst IsSequence (ap (rule_at g) src ∙ is) z.2)

  spans_of : (i k m q : ℕ) (t : Tree) → IsSequence (rule_at g i) → Derives g edge (child_slot (rule_at g i) k) m q t → m < q
  spans_of i k m q (Leaf s a b) sq d = let h = forward s a b d.held in let e = d.from_is in let e' = d.to_is in omega arith
  spans_of i k m q (Nulled s a) sq d = absurd (has.items i k sq d.nullable)
  spans_of i k m q (Node r cs a b) sq d = d.spans

  prefix_spans : (i p q : ℕ) (cs : Children) → IsSequence (rule_at g i) → DerivesPrefix g edge (rule_at g i) p q cs → p + child_count cs ≤ q
  prefix_spans i p q NoChild sq d = omega arith
  prefix_spans i p q (Child prefix t) sq (m, fr, l) =
      let a = prefix_spans i p m prefix sq fr in
      let b = spans_of i (child_count prefix) m q t sq l in
      omega arith

  -- the children of a sequence, as a list where they end with an item, and else as a list and a separator
  record SequenceFlat (i y p q : ℕ) (cs : Children) : Type 0 where
    ended : EndsWithItem (rule_at g i) (child_count cs) → ListFlat y p q cs
    parted : 0 < child_count cs → has_trailing (rule_at g i) (child_count cs) ≡ true → (r : ℕ) → r < length f.rules → IsInner (n.symbol (n.lhs r)) → n.source r ≡ i → slice_index (n.rhs r) 0 ≡ y → 2 ≤ length (n.rhs r) → PrefixFlat r p q cs 2

  -- what the recursion gives of a tree
  abbrev Trees : ℕ → ℕ → Tree → Type 0
  Trees m q t = (x : ℕ) (slot : Slot) → StandsFor (n.symbol x) slot → Derives g edge slot m q t → TreeFlat x m q t

  ended_or_parted : (separator : Option ℕ) (k : ℕ) → (ends_with_separator separator k ≡ false) ⊎ (ends_with_separator separator k ≡ true)
  ended_or_parted separator k = pick (cases_Bool (ends_with_separator separator k))
    where
      pick : (ends_with_separator separator k ≡ true) ⊎ (ends_with_separator separator k ≡ false) → (ends_with_separator separator k ≡ false) ⊎ (ends_with_separator separator k ≡ true)
      pick (inl e) = inr e
      pick (inr e) = inl e

  -- what precedes an item after k children: with no separators a list of items, and else such a list and a separator
  before_item : (rule : WrittenRule) (k : ℕ) → 0 < k → EndsWithItem rule (suc k) → (EndsWithItem rule k × (slot_count rule ≡ 1) × Alike rule 1 k) ⊎ ((has_trailing rule k ≡ true) × (slot_count rule ≡ 2) × (2 ≤ k) × Alike rule 2 k)
  before_item (Plain r) k pos e = absurd e
  before_item (Sequence r) k pos e = go r.separator e.1
    where
      even_two : (k : ℕ) → 0 < k → is_even k ≡ true → 2 ≤ k
      even_two zero h e = absurd (omega arith)
      even_two (suc zero) h e = absurd (true≢false (sym e))
      even_two (suc (suc k)) h e = omega arith

      turn : (b : Bool) → not b ≡ false → b ≡ true
      turn true e = refl
      turn false e = sym e

      go : (separator : Option ℕ) → ends_with_separator separator (suc k) ≡ false →
          ((0 < k) × (ends_with_separator separator k ≡ false)) × (suc (length (Rattle.std.specs.Option.option_to_list separator)) ≡ 1) × ((0 < 1 → 0 < k) × (is_item separator 1 ≡ is_item separator k))
          ⊎ (ends_with_separator separator k ≡ true) × (suc (length (Rattle.std.specs.Option.option_to_list separator)) ≡ 2) × (2 ≤ k) × ((0 < 2 → 0 < k) × (is_item separator 2 ≡ is_item separator k))
      go None h = inl ((pos, refl), refl, ((λ z. pos), refl))
      go (Some c) h = let e : is_even k ≡ true = turn (is_even k) h in inr (e, refl, even_two k pos e, ((λ z. pos), sym e))

  before_separator : (rule : WrittenRule) (k : ℕ) → has_trailing rule (suc k) ≡ true → EndsWithItem rule k
  before_separator (Plain r) k e = absurd (true≢false (sym e))
  before_separator (Sequence r) k e = go r.separator e
    where
      turn : (b : Bool) → not b ≡ true → b ≡ false
      turn true e = sym e
      turn false e = refl

      some : (k : ℕ) → is_even k ≡ false → 0 < k
      some zero e = absurd (true≢false e)
      some (suc k) e = omega arith

      go : (separator : Option ℕ) → ends_with_separator separator (suc k) ≡ true → (0 < k) × (ends_with_separator separator k ≡ false)
      go None h = absurd (true≢false (sym h))
      go (Some c) h = let e : is_even k ≡ false = turn (is_even k) h in (some k e, e)

  each_productive : (i p q : ℕ) (cs : Children) → DerivesPrefix g edge (rule_at g i) p q cs → slot_count (rule_at g i) ≤ child_count cs → EachChildSlot (IsProductive g) (rule_at g i)
  each_productive i p q cs d h = let w = prefix_productive g edge cs (rule_at g i) p q d in (λ k lt. (w.0, w.1 k (omega arith)))

  long_rule : (y i : ℕ) → IsSequence (rule_at g i) → n.symbol y ≡ FlatList i → EachChildSlot (IsProductive g) (rule_at g i) → HasListRule f n y i (suc (slot_count (rule_at g i))) y
  long_rule y i sq s each = go (rule_at g i) refl sq
    where
      go : (rule : WrittenRule) → rule_at g i ≡ rule → IsSequence rule → HasListRule f n y i (suc (slot_count (rule_at g i))) y
      go (Plain r) is h = absurd h
      go (Sequence r) is h = subst (λ rule. HasListRule f n y i (suc (slot_count rule)) y) (sym is) (has.long y i r s is (subst (EachChildSlot (IsProductive g)) is each))

  short_rule : (y i : ℕ) → IsSequence (rule_at g i) → n.symbol y ≡ FlatList i → (k : ℕ) × (k < length f.rules) × (n.lhs k ≡ y) × (n.source k ≡ i) × (length (n.rhs k) ≡ 1) × StandsFor (n.symbol (slice_index (n.rhs k) 0)) (child_slot (rule_at g i) 0)
  short_rule y i sq s = go (rule_at g i) refl sq
    where
      go : (rule : WrittenRule) → rule_at g i ≡ rule → IsSequence rule → (k : ℕ) × (k < length f.rules) × (n.lhs k ≡ y) × (n.source k ≡ i) × (length (n.rhs k) ≡ 1) × StandsFor (n.symbol (slice_index (n.rhs k) 0)) (child_slot (rule_at g i) 0)
      go (Plain r) is h = absurd h
      go (Sequence r) is h =
          let a = has.short y i r s is in
          (a.0, a.1, a.2, a.3, a.4, subst (λ rule. StandsFor (n.symbol (slice_index (n.rhs a.0) 0)) (child_slot rule 0)) (sym is) a.5)

  list_of_prefix : (y r p q : ℕ) (cs : Children) → r < length f.rules → n.lhs r ≡ y → p < q → PrefixFlat r p q cs (length (n.rhs r)) → ListFlat y p q cs
  list_of_prefix y r p q cs lt l spans w = (Node r w.0 p q, flat_node y r p q cs lt l spans w, w.3)

  long_enough : (r p q k : ℕ) (cs : Children) → length (n.rhs r) ≡ k → PrefixFlat r p q cs k → PrefixFlat r p q cs (length (n.rhs r))
  long_enough r p q k cs e w = subst (PrefixFlat r p q cs) (sym e) w

  sequence_step : (i y p m q : ℕ) (prefix : Children) (t : Tree) → IsSequence (rule_at g i) → n.symbol y ≡ FlatList i → DerivesPrefix g edge (rule_at g i) p m prefix → Derives g edge (child_slot (rule_at g i) (child_count prefix)) m q t →
      SequenceFlat i y p m prefix → Trees m q t → SequenceFlat i y p q (Child prefix t)
  sequence_step i y p m q prefix t sq s fr d ih trees = record {
    ended = λ h. ended prefix fr d ih h;
    parted = λ z h r lt inner src first long.
        (let e = before_separator (rule_at g i) (child_count prefix) h in
        let slot = child_slot (rule_at g i) (child_count prefix) in
        let st = stands_at r 1 (child_count prefix) i lt inner src (omega arith) (omega arith) (alike_one (rule_at g i) (child_count prefix) e) in
        add_last r 1 p m q prefix t slot lt (add_list r p m y i prefix lt first s (ih.ended e)) st (trees _ slot st d));
  }
    where
      ended : (prefix : Children) → DerivesPrefix g edge (rule_at g i) p m prefix → Derives g edge (child_slot (rule_at g i) (child_count prefix)) m q t → SequenceFlat i y p m prefix → EndsWithItem (rule_at g i) (suc (child_count prefix)) → ListFlat y p q (Child prefix t)
      ended NoChild fr d ih h =
          let a = short_rule y i sq s in
          let lt = spans_of i 0 m q t sq d in
          list_of_prefix y a.0 p q (Child NoChild t) a.1 a.2 (omega arith) (long_enough a.0 p q 1 (Child NoChild t) a.4
          (add_last a.0 0 p m q NoChild t (child_slot (rule_at g i) 0) a.1 (no_children a.0 p m fr) a.5 (trees _ (child_slot (rule_at g i) 0) a.5 d)))
      ended (Child more last) fr d ih h = pick (before_item (rule_at g i) (suc (child_count more)) (omega arith) h)
        where
          spans : p < q
          spans = let z = prefix_spans i p q (Child (Child more last) t) sq (m, fr, d) in omega arith

          pick : (EndsWithItem (rule_at g i) (suc (child_count more)) × (slot_count (rule_at g i) ≡ 1) × Alike (rule_at g i) 1 (suc (child_count more)))
              ⊎ ((has_trailing (rule_at g i) (suc (child_count more)) ≡ true) × (slot_count (rule_at g i) ≡ 2) × (2 ≤ suc (child_count more)) × Alike (rule_at g i) 2 (suc (child_count more))) → ListFlat y p q (Child (Child more last) t)
          pick (inl (e, count, a)) =
              let l = long_rule y i sq s (each_productive i p q (Child (Child more last) t) (m, fr, d) (omega arith)) in
              let len : length (n.rhs l.0) ≡ 2 = l.4 ∙ ap suc count in
              let st = stands_at l.0 1 (suc (child_count more)) i l.1 (subst (λ z. IsInner (n.symbol z)) (sym l.2) (inner_list (n.symbol y) i s)) l.3 (omega arith) (omega arith) a in
              let sl = child_slot (rule_at g i) (suc (child_count more)) in
              list_of_prefix y l.0 p q (Child (Child more last) t) l.1 l.2 spans (long_enough l.0 p q 2 (Child (Child more last) t) len
              (add_last l.0 1 p m q (Child more last) t sl l.1 (add_list l.0 p m y i (Child more last) l.1 l.5 s (ih.ended e)) st (trees _ sl st d)))
          pick (inr (e, count, two, a)) =
              let l = long_rule y i sq s (each_productive i p q (Child (Child more last) t) (m, fr, d) (omega arith)) in
              let len : length (n.rhs l.0) ≡ 3 = l.4 ∙ ap suc count in
              let st = stands_at l.0 2 (suc (child_count more)) i l.1 (subst (λ z. IsInner (n.symbol z)) (sym l.2) (inner_list (n.symbol y) i s)) l.3 (omega arith) (omega arith) a in
              let sl = child_slot (rule_at g i) (suc (child_count more)) in
              list_of_prefix y l.0 p q (Child (Child more last) t) l.1 l.2 spans (long_enough l.0 p q 3 (Child (Child more last) t) len
              (add_last l.0 2 p m q (Child more last) t sl l.1 (ih.parted (omega arith) e l.0 l.1 (subst (λ z. IsInner (n.symbol z)) (sym l.2) (inner_list (n.symbol y) i s)) l.3 l.5 (omega arith)) st (trees _ sl st d)))

  -- what the recursion gives of children
  abbrev PlainFlat : ℕ → ℕ → ℕ → Children → Type 0
  PlainFlat i p q cs = (r : ℕ) (rule : PlainRule) → r < length f.rules → IsInner (n.symbol (n.lhs r)) → n.source r ≡ i → rule_at g i ≡ Plain rule → child_count cs ≤ length (n.rhs r) → PrefixFlat r p q cs (child_count cs)

  abbrev SequencesFlat : ℕ → ℕ → ℕ → Children → Type 0
  SequencesFlat i p q cs = (y : ℕ) → IsSequence (rule_at g i) → n.symbol y ≡ FlatList i → SequenceFlat i y p q cs

  node_flat : (x i p q a b : ℕ) (cs : Children) (slot : Slot) → StandsFor (n.symbol x) slot → Derives g edge slot p q (Node i cs a b) → PlainFlat i p q cs → SequencesFlat i p q cs → TreeFlat x p q (Node i cs a b)
  node_flat x i p q a b cs slot s d plain sequence = by_symbol (n.symbol x) refl s
    where
      same : (r : ℕ) (w : PrefixFlat r p q cs (length (n.rhs r))) → n.source r ≡ i → tree_of n (Node r w.0 p q) ≡ Node i cs a b
      same r w src = λ j. Node (src j) (w.3 j) (sym d.from_is j) (sym d.to_is j)

      some_child : p < q → (cs : Children) → DerivesPrefix g edge (rule_at g i) p q cs → 0 < child_count cs
      some_child lt NoChild fr = absurd (omega arith)
      some_child lt (Child prefix t) fr = omega arith

      by_rule : (slot' : Slot) → n.symbol x ≡ FlatSlot slot' → slot ≡ slot' → (rule : WrittenRule) → rule_at g i ≡ rule → TreeFlat x p q (Node i cs a b)
      by_rule slot' e same_slot (Plain r) is =
          let live = node_live g edge (rule_at g i) p q cs d.complete d.prefix in
          let count : child_count cs ≡ length r.rhs = subst (λ rule. IsChildCount rule (child_count cs)) is d.complete in
          let some = some_child d.spans cs d.prefix in
          let fits : Fits (Plain r) slot' = subst (λ z. Fits (Plain r) z) same_slot (subst (λ rule. Fits rule slot) is d.fits) in
          let k = has.plain x i slot' r e d.in_range is fits (subst (IsLive g) is live) (omega arith) in
          let len = k.4 in
          let w = long_enough k.0 p q (child_count cs) cs (k.4 ∙ sym count) (plain k.0 r k.1 (subst (λ z. IsInner (n.symbol z)) (sym k.2) (inner_from (n.symbol x) slot s)) k.3 is (omega arith)) in
          (Node k.0 w.0 p q, flat_node x k.0 p q cs k.1 k.2 d.spans w, same k.0 w k.3)
      by_rule slot' e same_slot (Sequence r) is = by_end (ended_or_parted r.separator (child_count cs))
        where
          sq : IsSequence (rule_at g i)
          sq = subst IsSequence (sym is) tt

          complete : IsChildCount (Sequence r) (child_count cs)
          complete = subst (λ rule. IsChildCount rule (child_count cs)) is d.complete

          fits : Fits (Sequence r) slot'
          fits = subst (λ z. Fits (Sequence r) z) same_slot (subst (λ rule. Fits rule slot) is d.fits)

          two_children : (separator : Option ℕ) (k : ℕ) → 0 < k → ends_with_separator separator k ≡ true → (suc (length (Rattle.std.specs.Option.option_to_list separator)) ≤ k) × (ends_with_separator separator 2 ≡ true)
          two_children None k pos e = absurd (true≢false (sym e))
          two_children (Some c) zero pos e = absurd (omega arith)
          two_children (Some c) (suc zero) pos e = absurd (true≢false (sym e))
          two_children (Some c) (suc (suc k)) pos e = (omega arith, refl)

          by_end : (ends_with_separator r.separator (child_count cs) ≡ false) ⊎ (ends_with_separator r.separator (child_count cs) ≡ true) → TreeFlat x p q (Node i cs a b)
          by_end (inl h) =
              let live = node_live g edge (rule_at g i) p q cs d.complete d.prefix in
              let k = has.whole x i slot' r e d.in_range is fits (subst (IsLive g) is live) in
              let rule = k.2 in
              let ends : EndsWithItem (rule_at g i) (child_count cs) = subst (λ z. EndsWithItem z (child_count cs)) (sym is) (complete.0, h) in
              let l = (sequence k.0 sq k.1).ended ends in
              let w = long_enough rule.0 p q 1 cs rule.4 (add_list rule.0 p q k.0 i cs rule.1 rule.5 k.1 l) in
              (Node rule.0 w.0 p q, flat_node x rule.0 p q cs rule.1 rule.2 d.spans w, same rule.0 w rule.3)
          by_end (inr h) =
              let two = two_children r.separator (child_count cs) complete.0 h in
              let enough : slot_count (rule_at g i) ≤ child_count cs = subst (λ z. slot_count z ≤ child_count cs) (sym is) two.0 in
              let each = subst (EachChildSlot (IsProductive g)) is (each_productive i p q cs d.prefix enough) in
              let proper = complete.1 h in
              let k = has.trailing x i slot' r e d.in_range is fits each two.1 proper in
              let rule = k.2 in
              let parts = rule.4 in
              let ends : has_trailing (rule_at g i) (child_count cs) ≡ true = subst (λ z. has_trailing z (child_count cs) ≡ true) (sym is) h in
              let w = long_enough rule.0 p q 2 cs rule.4 ((sequence k.0 sq k.1).parted complete.0 ends rule.0 rule.1 (subst (λ z. IsInner (n.symbol z)) (sym rule.2) (inner_from (n.symbol x) slot s)) rule.3 rule.5 (omega arith)) in
              (Node rule.0 w.0 p q, flat_node x rule.0 p q cs rule.1 rule.2 d.spans w, same rule.0 w rule.3)

      by_symbol : (symbol : FlatSymbol) → n.symbol x ≡ symbol → StandsFor symbol slot → TreeFlat x p q (Node i cs a b)
      by_symbol (FlatTerminal t) e st =
          let terminal = (has.terminals x t e).0 in
          absurd (terminal i d.in_range (d.fits.0 ∙ ap (λ (z : Slot). z.symbol) st))
      by_symbol (FlatSlot slot') e st = by_rule slot' e st (rule_at g i) refl
      by_symbol (FlatList k) e st = absurd st
      by_symbol (FlatTop k) e st = absurd st

  leaf_flat : (x p q s a b : ℕ) (slot : Slot) → StandsFor (n.symbol x) slot → Derives g edge slot p q (Leaf s a b) → TreeFlat x p q (Leaf s a b)
  leaf_flat x p q s a b slot st d = by_symbol (n.symbol x) refl st
    where
      by_symbol : (symbol : FlatSymbol) → n.symbol x ≡ symbol → StandsFor symbol slot → TreeFlat x p q (Leaf s a b)
      by_symbol (FlatTerminal t) e st =
          let same : s ≡ t = d.symbol_is ∙ ap (λ (z : Slot). z.symbol) st in
          let held = has.edges x t a b e (subst (λ z. edge z a b) same d.held) in (
            Leaf x a b,
            record { symbol_is = refl; from_is = d.from_is; to_is = d.to_is; terminal = (has.terminals x t e).1; held = held },
            (λ j. Leaf ((ap written_symbol e ∙ sym same) j) a b),
          )
      by_symbol (FlatSlot slot') e st = absurd (has.slots x slot' e (subst (λ z. IsTerminal g z) (d.symbol_is ∙ ap (λ (z : Slot). z.symbol) st) d.terminal))
      by_symbol (FlatList k) e st = absurd st
      by_symbol (FlatTop k) e st = absurd st

  nulled_flat : (x p q s a : ℕ) (slot : Slot) → StandsFor (n.symbol x) slot → Derives g edge slot p q (Nulled s a) → TreeFlat x p q (Nulled s a)
  nulled_flat x p q s a slot st d = by_symbol (n.symbol x) refl st
    where
      by_symbol : (symbol : FlatSymbol) → n.symbol x ≡ symbol → StandsFor symbol slot → TreeFlat x p q (Nulled s a)
      by_symbol (FlatTerminal t) e st =
          let same : slot.symbol ≡ t = ap (λ (z : Slot). z.symbol) st in
          absurd (nullable_not_terminal g slot d.nullable (subst (IsTerminal g) (sym same) (has.terminals x t e).0))
      by_symbol (FlatSlot slot') e st = (
        Nulled x a,
        record { symbol_is = refl; from_is = d.from_is; to_is = d.to_is; nullable = has.nulled x slot' e (subst (IsNullable g) st d.nullable) },
        (λ j. Nulled ((ap written_symbol e ∙ sym (ap (λ (z : Slot). z.symbol) st) ∙ sym d.symbol_is) j) a),
      )
      by_symbol (FlatList k) e st = absurd st
      by_symbol (FlatTop k) e st = absurd st

  nothing : (rule : WrittenRule) → EndsWithItem rule 0 → ⊥
  nothing (Plain r) e = e
  nothing (Sequence r) e = let z = e.0 in omega arith

  mutual
    pub tree_whole : (t : Tree) (x p q : ℕ) (slot : Slot) → StandsFor (n.symbol x) slot → Derives g edge slot p q t → TreeFlat x p q t
    tree_whole (Leaf s a b) x p q slot st d = leaf_flat x p q s a b slot st d
    tree_whole (Nulled s a) x p q slot st d = nulled_flat x p q s a slot st d
    tree_whole (Node i cs a b) x p q slot st d =
        node_flat x i p q a b cs slot st d (plain_whole cs i p q d.prefix) (λ y sq s. sequence_whole cs i y p q sq s d.prefix)

    plain_whole : (cs : Children) (i p q : ℕ) → DerivesPrefix g edge (rule_at g i) p q cs → PlainFlat i p q cs
    plain_whole NoChild i p q d r rule lt inner src is h = no_children r p q d
    plain_whole (Child prefix t) i p q (m, fr, l) r rule lt inner src is h =
        let st = plain_at r (child_count prefix) i rule lt inner src is (omega arith) in
        add_last r (child_count prefix) p m q prefix t (child_slot (rule_at g i) (child_count prefix)) lt (plain_whole prefix i p m fr r rule lt inner src is (omega arith)) st
        (tree_whole t (slice_index (n.rhs r) (child_count prefix)) m q (child_slot (rule_at g i) (child_count prefix)) st l)

    sequence_whole : (cs : Children) (i y p q : ℕ) → IsSequence (rule_at g i) → n.symbol y ≡ FlatList i → DerivesPrefix g edge (rule_at g i) p q cs → SequenceFlat i y p q cs
    sequence_whole NoChild i y p q sq s d = record {
      ended = λ h. absurd (nothing (rule_at g i) h);
      parted = λ z. absurd (omega arith);
    }
    sequence_whole (Child prefix t) i y p q sq s (m, fr, l) =
        sequence_step i y p m q prefix t sq s fr l (sequence_whole prefix i y p m sq s fr) (λ x slot st d. tree_whole t x m q slot st d)

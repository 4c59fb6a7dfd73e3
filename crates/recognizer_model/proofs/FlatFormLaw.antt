-- The derivations of a flat grammar stand for those of its checked written grammar, one to one and in order, tops included.
use Rattle.std.proofs.Common.{◌≡◌, ℕ, ◌<◌, ◌≤◌, Bool, false, cond, [], ◌∷◌, length, ◌⊎◌, inl, inr, Some, refl, sym, ap, ◌∙◌, subst, arith, lit≤}
use Rattle.std.specs.Prelude.{slice_get, slice_index, slice_index_or}
use Rattle.std.specs.declared.cmp.Ordering.TheVariants.{Equal}
use Rattle.std.specs.Ordering.{ordering_then, nat_cmp}
use Rattle.std.specs.Cmp.{nat_cmp_total, tied_itself}
use Rattle.std.proofs.lemmas.Bool.{cond-false}
use Rattle.std.proofs.lemmas.Option.{slice_get-get_or}
use Rattle.finite_sets.proofs.Lists.{get_index}
use Rattle.grammar_model.specs.Grammar.{Grammar, rule_at, slot_of, child_slot, Fits, IsChildCount}
use Rattle.grammar_model.specs.Grammar
use Rattle.grammar_model.specs.Trees.{Tree, Children, Leaf, Nulled, Node, NoChild, Child, child_count}
use Rattle.grammar_model.specs.Analysis
use Rattle.grammar_model.specs.Derives.{Edges, Derives, DerivesPrefix}
use Rattle.grammar_model.specs.declared.Ranking.{Ranking}
use Rattle.grammar_model.specs.Order.{rank_order, tree_cmp, children_cmp, null_place, start_cmp}
use Rattle.grammar_model.specs.Checked.{IsChecked}
use Rattle.grammar_model.proofs.Sorting.{ranks_order, trees_total}
use Rattle.grammar_model.proofs.Total.{same_tree, from_is}
use Rattle.grammar_model.proofs.Compose.{GoForward}
use Rattle.recognizer_model.specs.Flat.{FlatGrammar, IsRule, lhs_of, rhs_of, source_of, IsNullable}
use Rattle.recognizer_model.specs.declared.flat.FlatSymbol.{FlatSymbol}
use Rattle.recognizer_model.specs.declared.flat.FlatSymbol.TheVariants.{Terminal, Slot, Sequence, Top}
use Rattle.recognizer_model.specs.declared.flat.FlatSource.{FlatSource}
use Rattle.recognizer_model.specs.declared.flat.FlatSource.TheVariants.{Written, Top as OfStart}
use Rattle.recognizer_model.specs.Invariant.{IsFlat, IsTopOf, HasSource}
use Rattle.recognizer_model.specs.FlatForm
use Rattle.recognizer_model.specs.FlatForm.{Stands, NamedRule, IsRuleOf, OfPlain, OfList, OfTrailing, OfItem, OfItems, OfSeparated, OfTop, IsFlatOf, SpansNothing, IsFlatForm, symbol_at, named, source_number, is_list, is_list_node, node_by, join, tree_of, children_of, inside, written_symbol, flat_order, FlatEdges}
use Rattle.recognizer_model.proofs.Forms
use Rattle.recognizer_model.proofs.Forms.{FlatNames, IsInner, IsPart}
use Rattle.recognizer_model.proofs.FlatSound
use Rattle.recognizer_model.proofs.FlatOrder
use Rattle.recognizer_model.proofs.FlatWhole
use Rattle.recognizer_model.proofs.FlatAll
use Rattle.recognizer_model.proofs.FlatNamed.{form}
use Rattle.recognizer_model.proofs.FlatJoin.{view, names, told, at_symbol, form_slot, form_terminal, flat_at, is_rule, left_is, source_is, length_is, part_is, real, lhs_is, rhs_is, view_part, view_leaf, view_nulled, reads, has}
use Rattle.recognizer_model.proofs.FlatKeeps.{flat_order_laws, keeps}
use Rattle.recognizer_model.proofs.Views.{in_view, nullable_viewed, marked_back, rule_viewed}

is_list_same : (s : FlatSymbol) → is_list s ≡ Forms.is_list_symbol (form s)
is_list_same (Terminal t) = refl
is_list_same (Slot s k) = refl
is_list_same (Sequence i) = refl
is_list_same (Top k) = refl

part_inner : (w : Grammar) (s : FlatSymbol) (i k : ℕ) → IsPart w (form s) i k → IsInner (form s)
part_inner w s i k (inl st) = FlatSound.inner_from (form s) (child_slot (rule_at w i) k) st
part_inner w s i k (inr z) = subst IsInner (sym z.1) tt

source_written : (w : Grammar) (s : FlatSymbol) (o : FlatSource) → HasSource s o → IsInner (form s) → o ≡ Written (source_number w o)
source_written w (Terminal t) (Written i) h inner = absurd h
source_written w (Terminal t) (OfStart k) h inner = absurd h
source_written w (Slot s k) (Written i) h inner = refl
source_written w (Slot s k) (OfStart l) h inner = absurd h
source_written w (Sequence j) (Written i) h inner = refl
source_written w (Sequence j) (OfStart l) h inner = absurd h
source_written w (Top k) o h inner = absurd inner

pub inner_stands : (w : Grammar) (s : FlatSymbol) (slot : Grammar.Slot) → FlatForm.StandsFor w s slot → IsInner (form s) → Forms.StandsFor (form s) slot
inner_stands w (Terminal t) slot st inner = st
inner_stands w (Slot s k) slot st inner = st
inner_stands w (Sequence i) slot st inner = absurd st
inner_stands w (Top k) slot st inner = absurd inner

outer_stands : (w : Grammar) (s : FlatSymbol) (slot : Grammar.Slot) → Stands w slot s → (Grammar.IsTerminal w slot.symbol → slot ≡ slot_of slot.symbol) → FlatForm.StandsFor w s slot × IsInner (form s)
outer_stands w s slot (FlatForm.AsTerminal t) h = (h t, tt)
outer_stands w s slot (FlatForm.AsSlot other) h = (refl, tt)

module _ (f : FlatGrammar) (w : Grammar) (flat : IsFlat f) (made : IsFlatOf f w) (checked : IsChecked w) (edge : Edges) (forward : GoForward edge) (ranking : Ranking) where
  abbrev F : Grammar
  F = view f w flat made checked

  abbrev n : FlatNames
  n = names f w flat made checked

  abbrev E : Edges
  E = FlatEdges f edge

  flat_forward : GoForward E
  flat_forward x p q (t, is, h) = forward t p q h

  laws : Forms.IsFlatOf F w n E edge
  laws = reads f w flat made checked edge

  all_rules : Forms.HasFlatRules F w n E edge
  all_rules = has f w flat made checked edge

  ordered : Forms.KeepsOrder F w n (flat_order w ranking f) (rank_order w ranking)
  ordered = keeps f w flat made checked edge ranking

  has_parts : (x p q r : ℕ) (cs : Children) (a b : ℕ) → Derives F E (slot_of x) p q (Node r cs a b) → (child_count cs ≡ length (n.rhs r)) × (n.lhs r ≡ x) × (0 < length (n.rhs r))
  has_parts = FlatSound.has_parts F w n E edge laws

  is_real : (r : ℕ) → r < length F.rules → 0 < length (n.rhs r) → IsRule f r
  is_real = real f w flat made checked

  -- ---- what trees stand for, by either reading

  same_test : (x p q : ℕ) (t : Tree) → Derives F E (slot_of x) p q t → is_list_node f t ≡ Forms.is_list_node n t
  same_test x p q (Leaf y a b) d = refl
  same_test x p q (Nulled y a) d = refl
  same_test x p q (Node r cs a b) d =
      let hp = has_parts x p q r cs a b d in
      let rule = is_real r d.in_range hp.2 in
      is_list_same (symbol_at f (lhs_of f r)) ∙ ap (λ z. Forms.is_list_symbol (form (symbol_at f z))) (sym (lhs_is f w flat made checked r rule))

  inner_left : (x r : ℕ) → n.lhs r ≡ x → IsInner (form (symbol_at f x)) → IsInner (n.symbol (n.lhs r))
  inner_left x r e inner = subst (λ z. IsInner (n.symbol z)) (sym e) inner

  written_source : (r : ℕ) → IsRule f r → IsInner (n.symbol (n.lhs r)) → source_of f r ≡ Written (n.source r)
  written_source r rule inner =
      let inner' : IsInner (form (symbol_at f (lhs_of f r))) = subst (λ z. IsInner (form (symbol_at f z))) (lhs_is f w flat made checked r rule) inner in
      source_written w (symbol_at f (lhs_of f r)) (source_of f r) (flat.sources r (symbol_at f (lhs_of f r)) rule (told f w flat made checked (lhs_of f r) inner')) inner'

  last_at : (r k m q : ℕ) (t : Tree) → IsRule f r → Derives F E (child_slot (rule_at F r) k) m q t → Derives F E (slot_of (slice_index (n.rhs r) k)) m q t
  last_at r k m q t rule d = subst (λ z. Derives F E (child_slot z k) m q t) (laws.flat r (in_view f r rule)) d

  mutual
    pub agree_tree : (t : Tree) (x p q : ℕ) → IsInner (form (symbol_at f x)) → Derives F E (slot_of x) p q t → tree_of w f t ≡ Forms.tree_of n t
    agree_tree (Leaf y a b) x p q inner d =
        let l = view_leaf f w flat made checked edge y a b d.terminal d.held in
        ap (λ z. Leaf z a b) (subst (λ z. written_symbol w z ≡ Forms.written_symbol (form z)) (sym (form_terminal f w flat made checked (symbol_at f y) l.0 l.1)) refl)
    agree_tree (Nulled y a) x p q inner d =
        let l = view_nulled f w flat made checked edge x inner d.nullable in
        let same : symbol_at f y ≡ Slot l.0.symbol l.0.level = ap (symbol_at f) d.symbol_is ∙ form_slot f w flat made checked (symbol_at f x) l.0 l.1 in
        ap (λ z. Nulled z a) (subst (λ z. written_symbol w z ≡ Forms.written_symbol (form z)) (sym same) refl)
    agree_tree (Node r cs a b) x p q inner d =
        let hp = has_parts x p q r cs a b d in
        let rule = is_real r d.in_range hp.2 in
        let left = inner_left x r hp.1 inner in
        ap (λ o. node_by o (children_of w f cs) a b) (written_source r rule left)
        ∙ ap (λ c. Node (n.source r) c a b) (agree_prefix cs r p q rule left (omega (arith, hp.0)) d.prefix)

    agree_prefix : (cs : Children) (r p q : ℕ) → IsRule f r → IsInner (n.symbol (n.lhs r)) → child_count cs ≤ length (n.rhs r) → DerivesPrefix F E (rule_at F r) p q cs → children_of w f cs ≡ Forms.children_of n cs
    agree_prefix NoChild r p q rule inner le d = refl
    agree_prefix (Child prefix last) r p q rule inner le (m, fr, l) =
        let l' = last_at r (child_count prefix) m q last rule l in
        let y : ℕ = slice_index (n.rhs r) (child_count prefix) in
        let part = part_inner w (symbol_at f y) (n.source r) (child_count prefix) (view_part f w flat made checked r (child_count prefix) (in_view f r rule) (omega arith) inner) in
        let A = agree_prefix prefix r p m rule inner (omega arith) fr in
        let T = agree_tree last y m q part l' in
        let I = agree_inside last y m q part l' in
        let b = same_test y m q last l' in
        λ z. cond (b z) (join (A z) (I z)) (Child (A z) (T z))

    agree_inside : (t : Tree) (x p q : ℕ) → IsInner (form (symbol_at f x)) → Derives F E (slot_of x) p q t → inside w f t ≡ Forms.inside n t
    agree_inside (Leaf y a b) x p q inner d = refl
    agree_inside (Nulled y a) x p q inner d = refl
    agree_inside (Node r cs a b) x p q inner d =
        let hp = has_parts x p q r cs a b d in
        agree_prefix cs r p q (is_real r d.in_range hp.2) (inner_left x r hp.1 inner) (omega (arith, hp.0)) d.prefix

  -- ---- symbols that are no tops

  inner_sound : (x p q : ℕ) (slot : Grammar.Slot) (t : Tree) → IsInner (form (symbol_at f x)) → FlatForm.StandsFor w (symbol_at f x) slot → Derives F E (slot_of x) p q t → Derives w edge slot p q (tree_of w f t)
  inner_sound x p q slot t inner st d =
      subst (Derives w edge slot p q) (sym (agree_tree t x p q inner d)) (FlatSound.tree_sound F w n E edge laws t x p q slot (inner_stands w (symbol_at f x) slot st inner) d)

  inner_whole : (x p q : ℕ) (slot : Grammar.Slot) (t : Tree) → IsInner (form (symbol_at f x)) → FlatForm.StandsFor w (symbol_at f x) slot → Derives w edge slot p q t → (u : Tree) × Derives F E (slot_of x) p q u × (tree_of w f u ≡ t)
  inner_whole x p q slot t inner st d =
      let v = FlatWhole.tree_whole F w n E edge laws all_rules forward t x p q slot (inner_stands w (symbol_at f x) slot st inner) d in
      (v.0, v.1, agree_tree v.0 x p q inner v.1 ∙ v.2)

  inner_order : (x p q : ℕ) (slot : Grammar.Slot) (t u : Tree) → IsInner (form (symbol_at f x)) → FlatForm.StandsFor w (symbol_at f x) slot → Derives F E (slot_of x) p q t → Derives F E (slot_of x) p q u →
      tree_cmp (flat_order w ranking f) t u ≡ tree_cmp (rank_order w ranking) (tree_of w f t) (tree_of w f u)
  inner_order x p q slot t u inner st d e =
      FlatOrder.tree_same F w n E edge laws flat_forward (flat_order w ranking f) (rank_order w ranking) (flat_order_laws w ranking f) ordered
      (FlatAll.trailing F w n E edge laws all_rules flat_forward forward (flat_order w ranking f) (flat_order_laws w ranking f) ranking ordered)
      t u x p q slot (inner_stands w (symbol_at f x) slot st inner) d e
      ∙ (λ z. tree_cmp (rank_order w ranking) (sym (agree_tree t x p q inner d) z) (sym (agree_tree u x p q inner e) z))

  -- ---- tops

  -- what a top's node has: its start's symbol alone
  pub record TopNode (k r p q : ℕ) (cs : Children) : Type 0 where
    pub child : Tree
    pub symbol : ℕ
    pub start : ℕ
    pub is_child : cs ≡ Child NoChild child
    pub is_part : slice_index (n.rhs r) 0 ≡ symbol
    pub source : source_of f r ≡ OfStart k
    pub in_range : symbol < length f.symbols
    pub inner : IsInner (form (symbol_at f symbol))
    pub at : slice_get w.starts k ≡ Some start
    pub stands : FlatForm.StandsFor w (symbol_at f symbol) (slot_of start)
    pub derives : Derives F E (slot_of symbol) p q child

  record TopRight (k : ℕ) (name : NamedRule) : Type 0 where
    start : ℕ
    symbol : FlatSymbol
    source : name.source ≡ OfStart k
    right : name.right ≡ symbol ∷ []
    at : slice_get w.starts k ≡ Some start
    stands : Stands w (slot_of start) symbol

  top_right : (k : ℕ) (name : NamedRule) → IsRuleOf w name → name.left ≡ Top k → TopRight k name
  top_right k name (OfPlain i s l r right lt is some live fits used len stand) e = cc
  top_right k name (OfList i r s is) e = cc
  top_right k name (OfTrailing i x r c s is sep proper prod st) e = cc
  top_right k name (OfItem i r b s is st) e = cc
  top_right k name (OfItems i r b s is none st) e = cc
  top_right k name (OfSeparated i x r b c s is sep prod st st') e = cc
  top_right k name (OfTop l start s at st) e =
      let same : l ≡ k = cc in
      record { start = start; symbol = s; source = ap OfStart same; right = refl; at = subst (λ z. slice_get w.starts z ≡ Some start) same at; stands = st }

  only_child : (r p q : ℕ) (cs : Children) → child_count cs ≡ 1 → DerivesPrefix F E (rule_at F r) p q cs → (u : Tree) × (cs ≡ Child NoChild u) × Derives F E (child_slot (rule_at F r) 0) p q u
  only_child r p q NoChild c d = absurd (omega arith)
  only_child r p q (Child (Child prefix v) u) c d = absurd (omega arith)
  only_child r p q (Child NoChild u) c (m, e, d) = (u, refl, subst (λ z. Derives F E (child_slot (rule_at F r) 0) z q u) (sym e) d)

  -- the one part of a top's rule
  record TopRule (k r : ℕ) : Type 0 where
    symbol : ℕ
    start : ℕ
    source : source_of f r ≡ OfStart k
    one : length (n.rhs r) ≡ 1
    is_symbol : slice_index (n.rhs r) 0 ≡ symbol
    in_range : symbol < length f.symbols
    inner : IsInner (form (symbol_at f symbol))
    at : slice_get w.starts k ≡ Some start
    stands : FlatForm.StandsFor w (symbol_at f symbol) (slot_of start)

  top_rule : (k r : ℕ) → IsRule f r → symbol_at f (lhs_of f r) ≡ Top k → TopRule k r
  top_rule k r rule is =
      let t = top_right k (named f (flat_at f w flat made checked r)) (is_rule f w flat made checked r rule) (left_is f w flat made checked r ∙ is) in
      let len : length (rhs_of f r) ≡ 1 = sym (length_is f w flat made checked r) ∙ ap length t.right in
      let y : ℕ = slice_index (n.rhs r) 0 in
      let same : n.rhs r ≡ rhs_of f r = rhs_is f w flat made checked r rule in
      let symbol : symbol_at f y ≡ t.symbol = ap (λ z. symbol_at f (slice_index z 0)) same ∙ sym (part_is f w flat made checked r 0 (omega arith)) ∙ ap (λ z. slice_index_or z 0 (Top 0)) t.right in
      let st = outer_stands w t.symbol (slot_of t.start) t.stands (λ h. refl) in
      let inner : IsInner (form (symbol_at f y)) = subst (λ z. IsInner (form z)) (sym symbol) st.1 in
      record {
        symbol = y;
        start = t.start;
        source = sym (source_is f w flat made checked r) ∙ t.source;
        one = ap length same ∙ len;
        is_symbol = refl;
        in_range = (get_index f.symbols y (Top 0) (symbol_at f y) (told f w flat made checked y inner)).0;
        inner = inner;
        at = t.at;
        stands = subst (λ z. FlatForm.StandsFor w z (slot_of t.start)) (sym symbol) st.0;
      }

  pub top_node : (x k p q r : ℕ) (cs : Children) (a b : ℕ) → symbol_at f x ≡ Top k → Derives F E (slot_of x) p q (Node r cs a b) → IsRule f r × (n.lhs r ≡ x) × TopNode k r p q cs
  top_node x k p q r cs a b is d =
      let hp = has_parts x p q r cs a b d in
      let rule = is_real r d.in_range hp.2 in
      let t = top_rule k r rule (ap (symbol_at f) (sym (lhs_is f w flat made checked r rule) ∙ hp.1) ∙ is) in
      let (u, e, l) = only_child r p q cs (hp.0 ∙ t.one) d.prefix in (
        rule,
        hp.1,
        record {
          child = u;
          symbol = t.symbol;
          start = t.start;
          is_child = e;
          is_part = t.is_symbol;
          source = t.source;
          in_range = t.in_range;
          inner = t.inner;
          at = t.at;
          stands = t.stands;
          derives = subst (λ z. Derives F E (slot_of z) p q u) t.is_symbol (last_at r 0 p q u rule l);
        },
      )

  one_start : (k : ℕ) {a b : ℕ} → slice_get w.starts k ≡ Some a → slice_get w.starts k ≡ Some b → a ≡ b
  one_start k {a = a} {b = b} e e' = let s : Some a ≡ Some b = sym e ∙ e' in cc

  -- a top's node stands for what its child does
  pub top_tree : (k r p q : ℕ) (cs : Children) (a b : ℕ) (t : TopNode k r p q cs) → tree_of w f (Node r cs a b) ≡ tree_of w f t.child
  top_tree k r p q cs a b t =
      let st = inner_stands w (symbol_at f t.symbol) (slot_of t.start) t.stands t.inner in
      let other : is_list_node f t.child ≡ false = same_test t.symbol p q t.child t.derives ∙ FlatSound.not_list F w n E edge laws t.symbol p q (slot_of t.start) t.child t.derives st in
      ap (λ o. node_by o (children_of w f cs) a b) t.source
      ∙ ap (λ c. node_by (OfStart k) (children_of w f c) a b) t.is_child
      ∙ ap (λ c. node_by (OfStart k) c a b) (cond-false _ (join NoChild (inside w f t.child)) (Child NoChild (tree_of w f t.child)) other)

  pub top_told : (x k : ℕ) → x < length f.symbols → symbol_at f x ≡ Top k → slice_get f.symbols x ≡ Some (Top k)
  top_told x k lt is = slice_get-get_or f.symbols x (Top 0) lt ∙ ap Some is

  pub no_top_leaf : (x k p q y a b : ℕ) → symbol_at f x ≡ Top k → Derives F E (slot_of x) p q (Leaf y a b) → ⊥
  no_top_leaf x k p q y a b is d =
      let (t, at, h) = d.held in
      let bad : Terminal t ≡ Top k = sym (at_symbol f w flat made checked y (Terminal t) at) ∙ ap (symbol_at f) d.symbol_is ∙ is in cc

  top_nulled : (x k : ℕ) → x < length f.symbols → symbol_at f x ≡ Top k → Analysis.IsNullable F (slot_of x) → SpansNothing w (Top k)
  top_nulled x k lt is null = (made.marks x (Top k) (top_told x k lt is)).0 (marked_back f flat.marks null.0 (slot_of x) null.1)

  top_sound : (x k p q start : ℕ) (t : Tree) → x < length f.symbols → symbol_at f x ≡ Top k → slice_get w.starts k ≡ Some start → Derives F E (slot_of x) p q t → Derives w edge (slot_of start) p q (tree_of w f t)
  top_sound x k p q start (Leaf y a b) lt is at d = absurd (no_top_leaf x k p q y a b is d)
  top_sound x k p q start (Nulled y a) lt is at d =
      let (s, at', null) = top_nulled x k lt is d.nullable in
      let same : s ≡ start = one_start k at' at in
      record {
        symbol_is = ap (written_symbol w) (ap (symbol_at f) d.symbol_is ∙ is) ∙ (get_index w.starts k 0 start at).1;
        from_is = d.from_is;
        to_is = d.to_is;
        nullable = subst (λ z. Analysis.IsNullable w (slot_of z)) same null;
      }
  top_sound x k p q start (Node r cs a b) lt is at d =
      let (rule, left, t) = top_node x k p q r cs a b is d in
      let under = inner_sound t.symbol p q (slot_of t.start) t.child t.inner t.stands t.derives in
      subst (λ z. Derives w edge (slot_of start) p q z) (sym (top_tree k r p q cs a b t)) (subst (λ z. Derives w edge (slot_of z) p q (tree_of w f t.child)) (one_start k t.at at) under)

  -- a top's symbol has one rule
  pub only_top : (k r r' : ℕ) → IsRule f r → IsRule f r' → symbol_at f (lhs_of f r) ≡ Top k → symbol_at f (lhs_of f r') ≡ Top k → lhs_of f r' ≡ lhs_of f r → r' ≡ r
  only_top k r r' rule rule' s s' same =
      let in_tops = flat.all_tops (lhs_of f r) k (top_told (lhs_of f r) k (flat.in_range.left r rule) s) in
      let at = slice_get-get_or f.tops k 0 in_tops in
      let top = flat.tops k (slice_index_or f.tops k 0) at in
      let there : lhs_of f r ≡ lhs_of f (slice_index_or f.tops k 0) = flat.differ (lhs_of f r) (lhs_of f (slice_index_or f.tops k 0)) (Top k) (top_told (lhs_of f r) k (flat.in_range.left r rule) s) top.symbol in
      top.is_top.alone r' rule' (same ∙ there) ∙ sym (top.is_top.alone r rule there)

  top_order : (x k p q : ℕ) (t u : Tree) → x < length f.symbols → symbol_at f x ≡ Top k → Derives F E (slot_of x) p q t → Derives F E (slot_of x) p q u →
      tree_cmp (flat_order w ranking f) t u ≡ tree_cmp (rank_order w ranking) (tree_of w f t) (tree_of w f u)
  top_order x k p q (Leaf y a b) u lt is d e = absurd (no_top_leaf x k p q y a b is d)
  top_order x k p q (Nulled y a) (Leaf y' a' b') lt is d e = absurd (no_top_leaf x k p q y' a' b' is e)
  top_order x k p q (Nulled y a) (Nulled y' a') lt is d e = refl
  top_order x k p q (Nulled y a) (Node r cs a' b') lt is d e = let s = e.spans in let z = d.from_is in let z' = d.to_is in absurd (omega arith)
  top_order x k p q (Node r cs a b) (Leaf y' a' b') lt is d e = absurd (no_top_leaf x k p q y' a' b' is e)
  top_order x k p q (Node r cs a b) (Nulled y' a') lt is d e = let s = d.spans in let z = e.from_is in let z' = e.to_is in absurd (omega arith)
  top_order x k p q (Node r cs a b) (Node r' ds a' b') lt is d e =
      let (rule, left, t) = top_node x k p q r cs a b is d in
      let (rule', left', u) = top_node x k p q r' ds a' b' is e in
      let l = sym (lhs_is f w flat made checked r rule) ∙ left in
      let l' = sym (lhs_is f w flat made checked r' rule') ∙ left' in
      let one : r' ≡ r = only_top k r r' rule rule' (ap (symbol_at f) l ∙ is) (ap (symbol_at f) l' ∙ is) (l' ∙ sym l) in
      let symbols : u.symbol ≡ t.symbol = sym u.is_part ∙ ap (λ z. slice_index (n.rhs z) 0) one ∙ t.is_part in
      let ud : Derives F E (slot_of t.symbol) p q u.child = subst (λ z. Derives F E (slot_of z) p q u.child) symbols u.derives in
      let under = inner_order t.symbol p q (slot_of t.start) t.child u.child t.inner t.stands t.derives ud in
      compare t u one under
    where
      high : Bool
      high = (flat_order w ranking f).null_high r

      spans : (v : Tree) (y : ℕ) → Derives F E (slot_of y) p q v → null_place high v ≡ 1
      spans (Leaf s c e') y h = refl
      spans (Nulled s c) y h = let s = d.spans in let z = h.from_is in let z' = h.to_is in absurd (omega arith)
      spans (Node i vs c e') y h = refl

      compare : (t : TopNode k r p q cs) (u : TopNode k r' p q ds) → r' ≡ r → tree_cmp (flat_order w ranking f) t.child u.child ≡ tree_cmp (rank_order w ranking) (tree_of w f t.child) (tree_of w f u.child) →
          tree_cmp (flat_order w ranking f) (Node r cs a b) (Node r' ds a' b') ≡ tree_cmp (rank_order w ranking) (tree_of w f (Node r cs a b)) (tree_of w f (Node r' ds a' b'))
      compare t u one under =
          let counts : (flat_order w ranking f).cmp r (child_count cs) r' (child_count ds) ≡ Equal =
          (λ z. (flat_order w ranking f).cmp r (child_count (t.is_child z)) (one z) (child_count (u.is_child z))) ∙ tied_itself (flat_order_laws w ranking f).total (r, 1) in
          let starts : start_cmp high t.child u.child ≡ Equal =
          (λ z. ordering_then (nat_cmp (spans t.child t.symbol t.derives z) (spans u.child u.symbol u.derives z)) (nat_cmp (from_is F E (slot_of u.symbol) p q u.child u.derives z) (from_is F E (slot_of t.symbol) p q t.child t.derives z))) ∙ tied_itself nat_cmp_total p in
          ap (λ o. ordering_then o (children_cmp (flat_order w ranking f) high cs ds)) counts
          ∙ (λ z. children_cmp (flat_order w ranking f) high (t.is_child z) (u.is_child z))
          ∙ ap (λ o. ordering_then o (tree_cmp (flat_order w ranking f) t.child u.child)) starts
          ∙ under
          ∙ (λ z. tree_cmp (rank_order w ranking) (sym (top_tree k r p q cs a b t) z) (sym (top_tree k r' p q ds a' b' u) z))

  top_whole : (x k p q start : ℕ) (t : Tree) → x < length f.symbols → symbol_at f x ≡ Top k → slice_get w.starts k ≡ Some start → Derives w edge (slot_of start) p q t → (u : Tree) × Derives F E (slot_of x) p q u × (tree_of w f u ≡ t)
  top_whole x k p q start t lt is at d = go t d
    where
      k_in : k < length f.tops
      k_in = flat.all_tops x k (top_told x k lt is)

      r : ℕ
      r = slice_index_or f.tops k 0

      top : IsTopOf f k r
      top = flat.tops k r (slice_get-get_or f.tops k 0 k_in)

      left : lhs_of f r ≡ x
      left = flat.differ (lhs_of f r) x (Top k) top.symbol (top_told x k lt is)

      rule : IsRule f r
      rule = top.is_top.is_rule

      t_rule : TopRule k r
      t_rule = top_rule k r rule (ap (symbol_at f) left ∙ is)

      -- what derives the start's symbol, under the top's node
      under : (t : Tree) → p < q → Derives w edge (slot_of start) p q t → (u : Tree) × Derives F E (slot_of x) p q u × (tree_of w f u ≡ t)
      under t spans d =
          let same : t_rule.start ≡ start = one_start k t_rule.at at in
          let (v, dv, ev) = inner_whole t_rule.symbol p q (slot_of t_rule.start) t t_rule.inner t_rule.stands (subst (λ z. Derives w edge (slot_of z) p q t) (sym same) d) in
          let viewed = rule_viewed f r rule in
          let one : length (rhs_of f r) ≡ 1 = sym (ap length (rhs_is f w flat made checked r rule)) ∙ t_rule.one in
          let here : child_slot (rule_at F r) 0 ≡ slot_of t_rule.symbol = ap (λ z. child_slot z 0) viewed ∙ ap (λ z. slot_of (slice_index z 0)) (sym (rhs_is f w flat made checked r rule)) ∙ ap slot_of t_rule.is_symbol in
          let node : Derives F E (slot_of x) p q (Node r (Child NoChild v) p q) = record {
            from_is = refl;
            to_is = refl;
            spans = spans;
            in_range = in_view f r rule;
            fits = subst (λ z. Fits z (slot_of x)) (sym viewed) (left, lit≤ tt);
            complete = subst (λ z. IsChildCount z 1) (sym viewed) (sym one);
            prefix = (p, refl, subst (λ z. Derives F E z p q v) (sym here) dv);
          } in
          let (rule', left', t') = top_node x k p q r (Child NoChild v) p q is node in
          let same_child : Child NoChild v ≡ Child NoChild t'.child = t'.is_child in
          let child_is : v ≡ t'.child = cc in
          (Node r (Child NoChild v) p q, node, top_tree k r p q (Child NoChild v) p q t' ∙ ap (tree_of w f) (sym child_is) ∙ ev)

      go : (t : Tree) → Derives w edge (slot_of start) p q t → (u : Tree) × Derives F E (slot_of x) p q u × (tree_of w f u ≡ t)
      go (Leaf s a b) d = let h = forward s a b d.held in let z = d.from_is in let z' = d.to_is in under (Leaf s a b) (omega arith) d
      go (Nulled s a) d =
          let marked = (made.marks x (Top k) (top_told x k lt is)).1 (start, at, d.nullable) in (
            Nulled x a,
            record { symbol_is = refl; from_is = d.from_is; to_is = d.to_is; nullable = nullable_viewed f x marked },
            ap (λ z. Nulled z a) (ap (written_symbol w) is ∙ (get_index w.starts k 0 start at).1 ∙ sym d.symbol_is),
          )
      go (Node i cs a b) d = under (Node i cs a b) d.spans d

  -- ---- all symbols

  abbrev pub Standing : ℕ → Grammar.Slot → Type 0
  Standing x slot = IsInner (form (symbol_at f x)) ⊎ ((k : ℕ) × (start : ℕ) × (symbol_at f x ≡ Top k) × (slice_get w.starts k ≡ Some start) × (slot ≡ slot_of start))

  pub standing : (s : FlatSymbol) (x : ℕ) (slot : Grammar.Slot) → symbol_at f x ≡ s → FlatForm.StandsFor w s slot → Standing x slot
  standing (Terminal t) x slot e st = inl (subst (λ z. IsInner (form z)) (sym e) tt)
  standing (Slot s k) x slot e st = inl (subst (λ z. IsInner (form z)) (sym e) tt)
  standing (Sequence i) x slot e st = absurd st
  standing (Top k) x slot e (start, at, is) = inr (k, start, e, at, is)

  form_order : (x p q : ℕ) (slot : Grammar.Slot) (t u : Tree) → x < length f.symbols → FlatForm.StandsFor w (symbol_at f x) slot → Derives F E (slot_of x) p q t → Derives F E (slot_of x) p q u →
      tree_cmp (flat_order w ranking f) t u ≡ tree_cmp (rank_order w ranking) (tree_of w f t) (tree_of w f u)
  form_order x p q slot t u lt st d e = go (standing (symbol_at f x) x slot refl st)
    where
      go : Standing x slot → tree_cmp (flat_order w ranking f) t u ≡ tree_cmp (rank_order w ranking) (tree_of w f t) (tree_of w f u)
      go (inl inner) = inner_order x p q slot t u inner st d e
      go (inr (k, start, is, at, same)) = top_order x k p q t u lt is d e

  pub flat_form : IsFlatForm f w edge ranking
  flat_form = record {
    sound = λ x p q slot t lt st d. sound x p q slot t lt st d (standing (symbol_at f x) x slot refl st);
    whole = λ x p q slot t lt st d. whole x p q slot t lt st d (standing (symbol_at f x) x slot refl st);
    one = λ x p q slot t u lt st d e same. same_tree F E (flat_order w ranking f) (flat_order_laws w ranking f) t u (slot_of x) p q
        (form_order x p q slot t u lt st d e ∙ ap (λ z. tree_cmp (rank_order w ranking) z (tree_of w f u)) same ∙ tied_itself (trees_total (rank_order w ranking) (ranks_order w ranking)) (tree_of w f u)) d e;
    in_order = form_order;
  }
    where
      sound : (x p q : ℕ) (slot : Grammar.Slot) (t : Tree) → x < length f.symbols → FlatForm.StandsFor w (symbol_at f x) slot → Derives F E (slot_of x) p q t → Standing x slot → Derives w edge slot p q (tree_of w f t)
      sound x p q slot t lt st d (inl inner) = inner_sound x p q slot t inner st d
      sound x p q slot t lt st d (inr (k, start, is, at, same)) = subst (λ z. Derives w edge z p q (tree_of w f t)) (sym same) (top_sound x k p q start t lt is at d)

      whole : (x p q : ℕ) (slot : Grammar.Slot) (t : Tree) → x < length f.symbols → FlatForm.StandsFor w (symbol_at f x) slot → Derives w edge slot p q t → Standing x slot → (u : Tree) × Derives F E (slot_of x) p q u × (tree_of w f u ≡ t)
      whole x p q slot t lt st d (inl inner) = inner_whole x p q slot t inner st d
      whole x p q slot t lt st d (inr (k, start, is, at, same)) = top_whole x k p q start t lt is at (subst (λ z. Derives w edge z p q t) same d)

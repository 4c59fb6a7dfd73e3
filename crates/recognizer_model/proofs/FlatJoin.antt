-- The flat grammar of a checked grammar is its flat form.
use Rattle.std.proofs.Common.{◌≡◌, ◌≢◌, ℕ, suc, ◌<◌, Bool, true, false, cond, List, [], ◌∷◌, map, length, ◌⊎◌, inl, inr, Option, Some, None, refl, sym, ap, ◌∙◌, subst, arith}
use Rattle.std.specs.Prelude.{slice_get, slice_index, slice_index_or, IsFalse}
use Rattle.std.proofs.lemmas.Bool.{true≢false}
use Rattle.std.proofs.lemmas.List.{length-map}
use Rattle.std.proofs.lemmas.Option.{slice_get-get_or}
use Rattle.finite_sets.proofs.Lists.{get_index}
use Rattle.finite_sets.proofs.Members.{among_from, contains_from, among_map, among_map_from, among_at, Among}
use Rattle.grammar_model.specs.Grammar.{PlainRule, SequenceRule, WrittenRule, Plain, Grammar, rule_at, slot_of, Fits, child_slot, slot_count, has_trailing, ends_with_separator, is_even, sequence_symbol, IsTerminal, EachChildSlot}
use Rattle.grammar_model.specs.Grammar
use Rattle.grammar_model.specs.Analysis.{IsProductive, IsLive}
use Rattle.grammar_model.specs.Analysis
use Rattle.grammar_model.specs.Derives.{Edges}
use Rattle.grammar_model.specs.Checked.{IsChecked}
use Rattle.grammar_model.proofs.Productive.{item_first}
use Rattle.recognizer_model.specs.Flat.{FlatGrammar, FlatRule, no_rule, IsRule, lhs_of, rhs_of, source_of, IsNullable}
use Rattle.recognizer_model.specs.declared.flat.FlatSymbol.{FlatSymbol}
use Rattle.recognizer_model.specs.declared.flat.FlatSymbol.TheVariants.{Terminal, Slot, Sequence, Top}
use Rattle.recognizer_model.specs.declared.flat.FlatSource.TheVariants.{Written}
use Rattle.recognizer_model.specs.View.{plain_rule, grammar_view}
use Rattle.recognizer_model.specs.Acceptable
use Rattle.recognizer_model.specs.Acceptable.{OnlyTerminals}
use Rattle.recognizer_model.specs.Invariant.{IsFlat}
use Rattle.recognizer_model.specs.FlatForm
use Rattle.recognizer_model.specs.FlatForm.{IsSymbolOf, NamedRule, IsRuleOf, OfPlain, OfList, OfTrailing, OfItem, OfItems, OfSeparated, IsFlatOf, SpansNothing, symbol_at, named, source_number, FlatEdges}
use Rattle.recognizer_model.proofs.Forms
use Rattle.recognizer_model.proofs.Forms.{FlatTerminal, FlatSlot, FlatList, FlatNames, IsInner, IsHead, IsPart, StandsFor, IsSequence, HasFlatRules, HasRule, HasListRule}
use Rattle.recognizer_model.proofs.Views.{IsKindOf, kind_of, rule_viewed, in_view, nullable_viewed, marked_back, terminal_viewed}
use Rattle.recognizer_model.proofs.FlatNamed.{form, get_or, at_among, map_at, one_place, stand_some, all_some, stands_for, head_of, part_of}

abbrev pub parts : WrittenRule → List ℕ
parts (Plain p) = p.rhs
parts (Grammar.Sequence q) = []

module _ (f : FlatGrammar) (w : Grammar) (flat : IsFlat f) (made : IsFlatOf f w) (checked : IsChecked w) where
  abbrev pub view : Grammar
  view = grammar_view f

  abbrev pub names : FlatNames
  names = record { symbol = λ x. form (symbol_at f x); lhs = λ r. Grammar.lhs_of (rule_at view r); rhs = λ r. parts (rule_at view r); source = λ r. source_number w (source_of f r) }

  -- ---- symbols

  -- a symbol that is no top is one of those of the list
  pub told : (x : ℕ) → IsInner (form (symbol_at f x)) → slice_get f.symbols x ≡ Some (symbol_at f x)
  told x inner = go (get_or f.symbols x (Top 0))
    where
      go : (slice_get f.symbols x ≡ Some (symbol_at f x)) ⊎ (symbol_at f x ≡ Top 0) → slice_get f.symbols x ≡ Some (symbol_at f x)
      go (inl e) = e
      go (inr e) = absurd (subst (λ z. IsInner (form z)) e inner)

  pub is_symbol : (x : ℕ) (s : FlatSymbol) → slice_get f.symbols x ≡ Some s → IsSymbolOf w s
  is_symbol x s e =
      let (lt, is) = get_index f.symbols x (Top 0) s e in
      (made.symbols.exact s).0 (contains_from f.symbols s (subst (λ z. Among z f.symbols) is (among_at f.symbols x (Top 0) lt)))

  -- and each that there has to be is there
  pub has_symbol : (s : FlatSymbol) → IsSymbolOf w s → (x : ℕ) × (slice_get f.symbols x ≡ Some s)
  has_symbol s h =
      let (x, lt, e) = at_among f.symbols s (Top 0) (among_from f.symbols s ((made.symbols.exact s).1 h)) in
      (x, slice_get-get_or f.symbols x (Top 0) lt ∙ ap Some e)

  pub at_symbol : (x : ℕ) (s : FlatSymbol) → slice_get f.symbols x ≡ Some s → symbol_at f x ≡ s
  at_symbol x s e = (get_index f.symbols x (Top 0) s e).1

  pub form_slot : (s : FlatSymbol) (slot : Grammar.Slot) → form s ≡ FlatSlot slot → s ≡ Slot slot.symbol slot.level
  form_slot (Terminal t) slot e = cc
  form_slot (Slot s k) slot e = let same : record { symbol = s; level = k } ≡ slot = cc in λ i. Slot (same i).symbol (same i).level
  form_slot (Sequence i) slot e = cc
  form_slot (Top k) slot e = cc

  pub form_terminal : (s : FlatSymbol) (t : ℕ) → form s ≡ FlatTerminal t → s ≡ Terminal t
  form_terminal (Terminal t') t e = cc
  form_terminal (Slot s k) t e = cc
  form_terminal (Sequence i) t e = cc
  form_terminal (Top k) t e = cc

  pub form_list : (s : FlatSymbol) (j : ℕ) → form s ≡ FlatList j → s ≡ Sequence j
  form_list (Terminal t') t e = cc
  form_list (Slot s k) t e = cc
  form_list (Sequence i) t e = cc
  form_list (Top k) t e = cc

  inner_of : {s t : Forms.FlatSymbol} → s ≡ t → IsInner t → IsInner s
  inner_of e i = subst IsInner (sym e) i

  pub slot_told : (x : ℕ) (slot : Grammar.Slot) → form (symbol_at f x) ≡ FlatSlot slot → slice_get f.symbols x ≡ Some (Slot slot.symbol slot.level)
  slot_told x slot e = told x (inner_of e tt) ∙ ap Some (form_slot (symbol_at f x) slot e)

  pub list_told : (x j : ℕ) → form (symbol_at f x) ≡ FlatList j → slice_get f.symbols x ≡ Some (Sequence j)
  list_told x j e = told x (inner_of e tt) ∙ ap Some (form_list (symbol_at f x) j e)

  terminal_told : (x t : ℕ) → form (symbol_at f x) ≡ FlatTerminal t → slice_get f.symbols x ≡ Some (Terminal t)
  terminal_told x t e = told x (inner_of e tt) ∙ ap Some (form_terminal (symbol_at f x) t e)

  -- ---- rules

  pub flat_at : ℕ → FlatRule
  flat_at r = slice_index_or f.rules r no_rule

  pub is_rule : (r : ℕ) → IsRule f r → IsRuleOf w (named f (flat_at r))
  unfolding flat_at
  is_rule r lt = (made.rules.exact (named f (flat_at r))).0 (contains_from _ _ (among_map (named f) (flat_at r) f.rules (among_at f.rules r no_rule lt)))

  has_rule : (n : NamedRule) → IsRuleOf w n → (r : ℕ) × IsRule f r × (named f (flat_at r) ≡ n)
  unfolding flat_at
  has_rule n h =
      let (rule, m, e) = among_map_from (named f) n f.rules (among_from _ n ((made.rules.exact n).1 h)) in
      let (r, lt, e') = at_among f.rules rule no_rule m in
      (r, lt, ap (named f) e' ∙ e)

  pub same_place : (r s : ℕ) → IsRule f r → IsRule f s → named f (flat_at r) ≡ named f (flat_at s) → r ≡ s
  unfolding flat_at
  same_place r s lr ls e =
      let len : length (map (named f) f.rules) ≡ length f.rules = length-map f.rules (named f) in
      let d : NamedRule = named f no_rule in
      one_place (map (named f) f.rules) made.rules.once r s d (omega arith) (omega arith)
      (map_at (named f) f.rules r no_rule d lr ∙ e ∙ sym (map_at (named f) f.rules s no_rule d ls))

  pub left_is : (r : ℕ) → (named f (flat_at r)).left ≡ symbol_at f (lhs_of f r)
  unfolding flat_at
  left_is r = refl

  pub source_is : (r : ℕ) → (named f (flat_at r)).source ≡ source_of f r
  unfolding flat_at
  source_is r = refl

  pub right_is : (r : ℕ) → (named f (flat_at r)).right ≡ map (symbol_at f) (rhs_of f r)
  unfolding flat_at
  right_is r = refl

  pub length_is : (r : ℕ) → length (named f (flat_at r)).right ≡ length (rhs_of f r)
  length_is r = ap length (right_is r) ∙ length-map (rhs_of f r) (symbol_at f)

  pub part_is : (r k : ℕ) → k < length (rhs_of f r) → slice_index_or (named f (flat_at r)).right k (Top 0) ≡ symbol_at f (slice_index (rhs_of f r) k)
  part_is r k lt = ap (λ z. slice_index_or z k (Top 0)) (right_is r) ∙ map_at (symbol_at f) (rhs_of f r) k 0 (Top 0) lt

  -- a rule of the view that has parts is a flat rule
  pub real : (r : ℕ) → r < length view.rules → 0 < length (names.rhs r) → IsRule f r
  real r lt some = go (kind_of f r lt)
    where
      go : IsKindOf f r → IsRule f r
      go (inl rule) = rule
      go (inr (x, m, e)) = let none : length (names.rhs r) ≡ 0 = ap (λ z. length (parts z)) e in absurd (omega arith)

  pub lhs_is : (r : ℕ) → IsRule f r → names.lhs r ≡ lhs_of f r
  lhs_is r rule = ap Grammar.lhs_of (rule_viewed f r rule)

  pub rhs_is : (r : ℕ) → IsRule f r → names.rhs r ≡ rhs_of f r
  rhs_is r rule = ap parts (rule_viewed f r rule)

  -- ---- what each rule, part and mark stands for

  view_flat : (r : ℕ) → r < length view.rules → rule_at view r ≡ plain_rule (names.lhs r) (names.rhs r)
  view_flat r lt = go (kind_of f r lt)
    where
      go : IsKindOf f r → rule_at view r ≡ plain_rule (names.lhs r) (names.rhs r)
      go (inl rule) = rule_viewed f r rule ∙ (λ i. plain_rule (sym (lhs_is r rule) i) (sym (rhs_is r rule) i))
      go (inr (x, m, e)) = e ∙ (λ i. plain_rule (sym (ap Grammar.lhs_of e) i) (sym (ap parts e) i))

  view_head : (r : ℕ) → r < length view.rules → 0 < length (names.rhs r) → IsHead w (names.symbol (names.lhs r)) (names.source r) (length (names.rhs r))
  view_head r lt some =
      let rule = real r lt some in
      let h = head_of w (named f (flat_at r)) (is_rule r rule) in
      let h1 = subst (λ z. IsHead w (form z) (source_number w (named f (flat_at r)).source) (length (named f (flat_at r)).right)) (left_is r ∙ ap (symbol_at f) (sym (lhs_is r rule))) h in
      let h2 = subst (λ z. IsHead w (names.symbol (names.lhs r)) (source_number w z) (length (named f (flat_at r)).right)) (source_is r) h1 in
      subst (λ z. IsHead w (names.symbol (names.lhs r)) (names.source r) z) (length_is r ∙ sym (ap length (rhs_is r rule))) h2

  pub view_part : (r k : ℕ) → r < length view.rules → k < length (names.rhs r) → IsInner (names.symbol (names.lhs r)) → IsPart w (names.symbol (slice_index (names.rhs r) k)) (names.source r) k
  view_part r k lt h inner =
      let rule = real r lt (omega arith) in
      let len = ap length (rhs_is r rule) in
      let h' : k < length (rhs_of f r) = omega arith in
      let len' = length_is r in
      let p = part_of w (named f (flat_at r)) (is_rule r rule) k (omega arith) (subst (λ z. IsInner (form z)) (ap (symbol_at f) (lhs_is r rule) ∙ sym (left_is r)) inner) in
      let p1 = subst (λ z. IsPart w (form z) (source_number w (named f (flat_at r)).source) k) (part_is r k h' ∙ ap (λ z. symbol_at f (slice_index z k)) (sym (rhs_is r rule))) p in
      subst (λ z. IsPart w (names.symbol (slice_index (names.rhs r) k)) (source_number w z) k) (source_is r) p1

  module _ (edge : Edges) where
    pub only : OnlyTerminals f (FlatEdges f edge)
    only x p q (t, is, e) = (t, is)

    pub view_leaf : (x p q : ℕ) → IsTerminal view x → FlatEdges f edge x p q → (s : ℕ) × (names.symbol x ≡ FlatTerminal s) × IsTerminal w s × edge s p q
    view_leaf x p q t (s, is, e) = (s, ap form (at_symbol x (Terminal s) is), (is_symbol x (Terminal s) is).0, e)

    -- a marked symbol that is no top is a nullable slot
    marked_slot : (x : ℕ) → IsNullable f x → (s : FlatSymbol) → slice_get f.symbols x ≡ Some s → IsInner (form s) → (slot : Grammar.Slot) × (form s ≡ FlatSlot slot) × Analysis.IsNullable w slot
    marked_slot x n s is inner = go s ((made.marks x s is).0 n) inner
      where
        go : (s : FlatSymbol) → SpansNothing w s → IsInner (form s) → (slot : Grammar.Slot) × (form s ≡ FlatSlot slot) × Analysis.IsNullable w slot
        go (Terminal t) h i = absurd h
        go (Slot s k) h i = (record { symbol = s; level = k }, refl, h)
        go (Sequence j) h i = absurd h
        go (Top k) h i = absurd i

    pub view_nulled : (x : ℕ) → IsInner (names.symbol x) → Analysis.IsNullable view (slot_of x) → (slot : Grammar.Slot) × (names.symbol x ≡ FlatSlot slot) × Analysis.IsNullable w slot
    view_nulled x inner n = marked_slot x (marked_back f flat.marks n.0 (slot_of x) n.1) (symbol_at f x) (told x inner) inner

    pub reads : Forms.IsFlatOf view w names (FlatEdges f edge) edge
    reads = record { flat = view_flat; head = view_head; part = view_part; leaf = view_leaf; nulled = view_nulled }

    -- ---- each rule that there has to be is there

    -- a flat rule, by its name
    record Found (n : NamedRule) (x : ℕ) : Type 0 where
      rule : ℕ
      in_range : rule < length view.rules
      left : names.lhs rule ≡ x
      source : names.source rule ≡ source_number w n.source
      count : length (names.rhs rule) ≡ length n.right
      at : (k : ℕ) → k < length n.right → symbol_at f (slice_index (names.rhs rule) k) ≡ slice_index_or n.right k (Top 0)

    found : (n : NamedRule) → IsRuleOf w n → (x : ℕ) → slice_get f.symbols x ≡ Some n.left → IsInner (form n.left) → Found n x
    found n h x told_x inner =
        let (r, rule, is) = has_rule n h in
        let left : symbol_at f (lhs_of f r) ≡ n.left = sym (left_is r) ∙ ap (λ (z : NamedRule). z.left) is in
        let there = told (lhs_of f r) (subst (λ z. IsInner (form z)) (sym left) inner) ∙ ap Some left in
        let same = flat.differ (lhs_of f r) x n.left there told_x in
        let rights : length (rhs_of f r) ≡ length n.right = sym (length_is r) ∙ ap (λ (z : NamedRule). length z.right) is in
        record {
          rule = r;
          in_range = in_view f r rule;
          left = lhs_is r rule ∙ same;
          source = ap (source_number w) (sym (source_is r) ∙ ap (λ (z : NamedRule). z.source) is);
          count = ap length (rhs_is r rule) ∙ rights;
          at = λ k lt. ap (λ z. symbol_at f (slice_index z k)) (rhs_is r rule) ∙ sym (part_is r k (omega arith)) ∙ ap (λ (z : NamedRule). slice_index_or z.right k (Top 0)) is;
        }

    -- the symbol of a list is one place
    list_place : (y i z : ℕ) → slice_get f.symbols y ≡ Some (Sequence i) → symbol_at f z ≡ Sequence i → z ≡ y
    list_place y i z told_y is = flat.differ z y (Sequence i) (told z (subst (λ s. IsInner (form s)) (sym is) tt) ∙ ap Some is) told_y

    list_rule : (n : NamedRule) (x y i count : ℕ) → Found n x → n.source ≡ Written i → 0 < count → length n.right ≡ count → slice_index_or n.right 0 (Top 0) ≡ Sequence i → slice_get f.symbols y ≡ Some (Sequence i) → HasListRule view names x i count y
    list_rule n x y i count fo src some len first told_y =
        (fo.rule, fo.in_range, fo.left, fo.source ∙ ap (source_number w) src, fo.count ∙ len, list_place y i (slice_index (names.rhs fo.rule) 0) told_y (fo.at 0 (omega arith) ∙ first))

    has_terminals : (x s : ℕ) → names.symbol x ≡ FlatTerminal s → IsTerminal w s × IsTerminal view x
    has_terminals x s e =
        let t = terminal_told x s e in
        ((is_symbol x (Terminal s) t).0, terminal_viewed f flat.marks (FlatEdges f edge) only flat.no_rules flat.terminals_span x (s, t))

    has_edges : (x s p q : ℕ) → names.symbol x ≡ FlatTerminal s → edge s p q → FlatEdges f edge x p q
    has_edges x s p q e h = (s, terminal_told x s e, h)

    has_slots : (x : ℕ) (slot : Grammar.Slot) → names.symbol x ≡ FlatSlot slot → IsTerminal w slot.symbol → ⊥
    has_slots x slot e t = (is_symbol x (Slot slot.symbol slot.level) (slot_told x slot e)).0 t

    has_nulled : (x : ℕ) (slot : Grammar.Slot) → names.symbol x ≡ FlatSlot slot → Analysis.IsNullable w slot → Analysis.IsNullable view (slot_of x)
    has_nulled x slot e n = nullable_viewed f x ((made.marks x (Slot slot.symbol slot.level) (slot_told x slot e)).1 n)

    some_parts : (ss : List FlatSymbol) → 0 < length ss → ss ≢ []
    some_parts [] lt e = omega arith
    some_parts (s ∷ ss) lt e = cc

    has_plain : (x i : ℕ) (slot : Grammar.Slot) (r : PlainRule) → names.symbol x ≡ FlatSlot slot → i < length w.rules → rule_at w i ≡ Plain r → Fits (Plain r) slot → IsLive w (Plain r) → 0 < length r.rhs → HasRule view names x i (length r.rhs)
    has_plain x i slot r e lt is fits live some =
        let (ss, len, st) = all_some w (Plain r) 0 (length r.rhs) in
        let used = (is_symbol x (Slot slot.symbol slot.level) (slot_told x slot e)).1 in
        let n : NamedRule = record { left = Slot slot.symbol slot.level; right = ss; source = Written i } in
        let fo = found n (OfPlain i slot.symbol slot.level r ss lt is (some_parts ss (omega arith)) live fits used len st) x (slot_told x slot e) tt in
        (fo.rule, fo.in_range, fo.left, fo.source, fo.count ∙ len)

    -- a sequence rule that fits a slot of the flat grammar makes lists
    sequence_symbol_of : (x i : ℕ) (slot : Grammar.Slot) (r : SequenceRule) → names.symbol x ≡ FlatSlot slot → i < length w.rules → rule_at w i ≡ Grammar.Sequence r → Fits (Grammar.Sequence r) slot → IsLive w (Grammar.Sequence r) →
        IsSymbolOf w (Sequence i) × (slice_get f.symbols x ≡ Some (Slot r.lhs 0))
    sequence_symbol_of x i slot r e lt is fits live =
        let level : slot.level ≡ 0 = let h = fits.1 in omega arith in
        let same : Slot slot.symbol slot.level ≡ Slot r.lhs 0 = λ z. Slot (sym fits.0 z) (level z) in
        let there = slot_told x slot e ∙ ap Some same in
        ((r, lt, is, live, (is_symbol x (Slot r.lhs 0) there).1), there)

    has_whole : (x i : ℕ) (slot : Grammar.Slot) (r : SequenceRule) → names.symbol x ≡ FlatSlot slot → i < length w.rules → rule_at w i ≡ Grammar.Sequence r → Fits (Grammar.Sequence r) slot → IsLive w (Grammar.Sequence r) →
        (y : ℕ) × (names.symbol y ≡ FlatList i) × HasListRule view names x i 1 y
    has_whole x i slot r e lt is fits live =
        let (symbol, there) = sequence_symbol_of x i slot r e lt is fits live in
        let (y, told_y) = has_symbol (Sequence i) symbol in
        let n : NamedRule = record { left = Slot r.lhs 0; right = Sequence i ∷ []; source = Written i } in
        (y, ap form (at_symbol y (Sequence i) told_y), list_rule n x y i 1 (found n (OfList i r symbol is) x there tt) refl (omega arith) refl refl told_y)

    item_live : (r : SequenceRule) → EachChildSlot (IsProductive w) (Grammar.Sequence r) → IsLive w (Grammar.Sequence r)
    item_live r each = subst (λ s. IsProductive w (slot_of s)) (item_first r.item r.separator) (each 0 (omega arith))

    has_trailing_rule : (x i : ℕ) (slot : Grammar.Slot) (r : SequenceRule) → names.symbol x ≡ FlatSlot slot → i < length w.rules → rule_at w i ≡ Grammar.Sequence r → Fits (Grammar.Sequence r) slot →
        EachChildSlot (IsProductive w) (Grammar.Sequence r) → has_trailing (Grammar.Sequence r) 2 ≡ true → IsFalse r.proper → (y : ℕ) × (names.symbol y ≡ FlatList i) × HasListRule view names x i 2 y
    has_trailing_rule x i slot r e lt is fits each two proper = go r.separator refl
      where
        go : (o : Option ℕ) → r.separator ≡ o → (y : ℕ) × (names.symbol y ≡ FlatList i) × HasListRule view names x i 2 y
        go None sep = absurd (true≢false (sym two ∙ ap (λ z. ends_with_separator z 2) sep))
        go (Some c) sep =
            let (symbol, there) = sequence_symbol_of x i slot r e lt is fits (item_live r each) in
            let (y, told_y) = has_symbol (Sequence i) symbol in
            let (s, st) = stand_some w (slot_of c) in
            let count : slot_count (Grammar.Sequence r) ≡ 2 = ap (λ z. suc (length (Rattle.std.specs.Option.option_to_list z))) sep in
            let prod : IsProductive w (slot_of c) = subst (λ z. IsProductive w (slot_of z)) (ap (λ z. sequence_symbol r.item z 1) sep) (each 1 (omega arith)) in
            let n : NamedRule = record { left = Slot r.lhs 0; right = Sequence i ∷ s ∷ []; source = Written i } in
            (y, ap form (at_symbol y (Sequence i) told_y), list_rule n x y i 2 (found n (OfTrailing i c r s symbol is sep proper prod st) x there tt) refl (omega arith) refl refl told_y)

    has_short : (y i : ℕ) (r : SequenceRule) → names.symbol y ≡ FlatList i → rule_at w i ≡ Grammar.Sequence r →
        (k : ℕ) × (k < length view.rules) × (names.lhs k ≡ y) × (names.source k ≡ i) × (length (names.rhs k) ≡ 1) × StandsFor (names.symbol (slice_index (names.rhs k) 0)) (child_slot (Grammar.Sequence r) 0)
    has_short y i r e is =
        let told_y = list_told y i e in
        let (b, st) = stand_some w (slot_of r.item) in
        let n : NamedRule = record { left = Sequence i; right = b ∷ []; source = Written i } in
        let fo = found n (OfItem i r b (is_symbol y (Sequence i) told_y) is st) y told_y tt in
        let stands : StandsFor (form b) (slot_of r.item) = stands_for w (slot_of r.item) b st (λ t. refl) in
        let there : StandsFor (names.symbol (slice_index (names.rhs fo.rule) 0)) (slot_of r.item) = subst (λ z. StandsFor (form z) (slot_of r.item)) (sym (fo.at 0 (omega arith))) stands in
        (fo.rule, fo.in_range, fo.left, fo.source, fo.count, subst (StandsFor (names.symbol (slice_index (names.rhs fo.rule) 0))) (ap slot_of (sym (item_first r.item r.separator))) there)

    has_long : (y i : ℕ) (r : SequenceRule) → names.symbol y ≡ FlatList i → rule_at w i ≡ Grammar.Sequence r → EachChildSlot (IsProductive w) (Grammar.Sequence r) → HasListRule view names y i (suc (slot_count (Grammar.Sequence r))) y
    has_long y i r e is each = go r.separator refl
      where
        go : (o : Option ℕ) → r.separator ≡ o → HasListRule view names y i (suc (slot_count (Grammar.Sequence r))) y
        go None sep =
            let told_y = list_told y i e in
            let (b, st) = stand_some w (slot_of r.item) in
            let count : 2 ≡ suc (slot_count (Grammar.Sequence r)) = sym (ap (λ z. suc (suc (length (Rattle.std.specs.Option.option_to_list z)))) sep) in
            let n : NamedRule = record { left = Sequence i; right = Sequence i ∷ b ∷ []; source = Written i } in
            list_rule n y y i (suc (slot_count (Grammar.Sequence r))) (found n (OfItems i r b (is_symbol y (Sequence i) told_y) is sep st) y told_y tt) refl (omega arith) count refl told_y
        go (Some c) sep =
            let told_y = list_told y i e in
            let (b, st) = stand_some w (slot_of r.item) in
            let (s, st') = stand_some w (slot_of c) in
            let count' : slot_count (Grammar.Sequence r) ≡ 2 = ap (λ z. suc (length (Rattle.std.specs.Option.option_to_list z))) sep in
            let count : 3 ≡ suc (slot_count (Grammar.Sequence r)) = sym (ap suc count') in
            let prod : IsProductive w (slot_of c) = subst (λ z. IsProductive w (slot_of z)) (ap (λ z. sequence_symbol r.item z 1) sep) (each 1 (omega arith)) in
            let n : NamedRule = record { left = Sequence i; right = Sequence i ∷ s ∷ b ∷ []; source = Written i } in
            list_rule n y y i (suc (slot_count (Grammar.Sequence r))) (found n (OfSeparated i c r b s (is_symbol y (Sequence i) told_y) is sep prod st' st) y told_y tt) refl (omega arith) count refl told_y

    pub sequence_in_range : (i : ℕ) (r : SequenceRule) → rule_at w i ≡ Grammar.Sequence r → i < length w.rules
    sequence_in_range i r is = go (get_or w.rules i Grammar.no_rule)
      where
        go : (slice_get w.rules i ≡ Some (rule_at w i)) ⊎ (rule_at w i ≡ Grammar.no_rule) → i < length w.rules
        go (inl e) = (get_index w.rules i Grammar.no_rule (rule_at w i) e).0
        go (inr e) = let bad : Grammar.Sequence r ≡ Grammar.no_rule = sym is ∙ e in cc

    has_items : (i k : ℕ) → IsSequence (rule_at w i) → Analysis.IsNullable w (child_slot (rule_at w i) k) → ⊥
    has_items i k sq n = by_rule (rule_at w i) refl sq
      where
        by_rule : (rule : WrittenRule) → rule_at w i ≡ rule → IsSequence rule → ⊥
        by_rule (Plain r) is h = h
        by_rule (Grammar.Sequence r) is h = by_separator r.separator refl
          where
            lt : i < length w.rules
            lt = sequence_in_range i r is

            null : Analysis.IsNullable w (child_slot (Grammar.Sequence r) k)
            null = subst (λ z. Analysis.IsNullable w (child_slot z k)) is n

            refuse : (j : ℕ) → j < slot_count (Grammar.Sequence r) → child_slot (Grammar.Sequence r) k ≡ child_slot (Grammar.Sequence r) j → ⊥
            refuse j h e = checked.items_span i lt (r, is, (j, h, subst (Analysis.IsNullable w) e null))

            by_place : (c : ℕ) → r.separator ≡ Some c → (is_even k ≡ true) ⊎ (is_even k ≡ false) → ⊥
            by_place c sep (inl e) = refuse 0 (omega arith) (ap slot_of (ap (λ z. sequence_symbol r.item z k) sep ∙ ap (λ b. cond b r.item c) e ∙ sym (ap (λ z. sequence_symbol r.item z 0) sep)))
            by_place c sep (inr e) =
                let count : slot_count (Grammar.Sequence r) ≡ 2 = ap (λ z. suc (length (Rattle.std.specs.Option.option_to_list z))) sep in
                refuse 1 (omega arith) (ap slot_of (ap (λ z. sequence_symbol r.item z k) sep ∙ ap (λ b. cond b r.item c) e ∙ sym (ap (λ z. sequence_symbol r.item z 1) sep)))

            by_separator : (o : Option ℕ) → r.separator ≡ o → ⊥
            by_separator None sep = refuse 0 (omega arith) (ap slot_of (ap (λ z. sequence_symbol r.item z k) sep ∙ sym (ap (λ z. sequence_symbol r.item z 0) sep)))
            by_separator (Some c) sep = by_place c sep (Rattle.std.proofs.lemmas.Bool.cases_Bool (is_even k))

    pub has : HasFlatRules view w names (FlatEdges f edge) edge
    has = record {
      terminals = has_terminals;
      edges = has_edges;
      slots = has_slots;
      nulled = has_nulled;
      plain = has_plain;
      whole = has_whole;
      trailing = has_trailing_rule;
      short = has_short;
      long = has_long;
      items = has_items;
    }

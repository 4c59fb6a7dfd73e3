-- What the written grammar's report tells is told by a flat form's item sets.
use Rattle.std.proofs.Common.{◌≡◌, ℕ, zero, suc, ◌<◌, ◌≤◌, ◌+◌, Bool, true, false, cond, not, length, ◌⊎◌, inl, inr, Option, Some, None, refl, sym, ap, ◌∙◌, subst, arith}
use Rattle.std.specs.Prelude.{is_some, slice_get, slice_index, slice_index_or}
use Rattle.std.specs.Option.{option_to_list}
use Rattle.std.proofs.lemmas.Bool.{true≢false, cases_Bool}
use Rattle.std.proofs.lemmas.Option.{slice_get-get_or}
use Rattle.grammar_model.specs.Grammar.{Grammar, PlainRule, SequenceRule, WrittenRule, Plain, Slot, slot_of, rule_at, lhs_of, Fits, child_slot, slot_count, EachChildSlot, is_even, is_item, sequence_symbol, ends_with_separator, IsChildCount}
use Rattle.grammar_model.specs.Grammar
use Rattle.grammar_model.specs.Trees.{Tree, Leaf, Nulled, Node, Children, NoChild, Child, child_count}
use Rattle.grammar_model.specs.Analysis.{IsProductive, IsLive}
use Rattle.grammar_model.specs.Derives.{Edges, Derives, DerivesPrefix}
use Rattle.grammar_model.specs.Checked.{IsChecked}
use Rattle.grammar_model.proofs.Compose.{GoForward}
use Rattle.grammar_model.proofs.Productive.{item_first, prefix_productive}
use Rattle.recognizer_model.specs.declared.Item.{Item}
use Rattle.recognizer_model.specs.declared.ReportLine.{ReportLine}
use Rattle.recognizer_model.specs.Flat.{FlatGrammar, IsRule, rhs_of, source_of, part_of}
use Rattle.recognizer_model.specs.Flat
use Rattle.recognizer_model.specs.declared.flat.FlatSymbol.TheVariants.{Top}
use Rattle.recognizer_model.specs.declared.flat.FlatSource.{FlatSource}
use Rattle.recognizer_model.specs.declared.flat.FlatSource.TheVariants.{Written, Top as OfStart}
use Rattle.recognizer_model.specs.Invariant.{IsFlat}
use Rattle.recognizer_model.specs.Items.{after, first_item, advanced, InSet, Start, Predict, Complete}
use Rattle.recognizer_model.specs.FlatForm.{NamedRule, IsRuleOf, OfPlain, OfList, OfTrailing, OfItem, OfItems, OfSeparated, OfTop, IsFlatOf, named, source_number, FlatEdges}
use Rattle.recognizer_model.specs.Report.{written_dot, line_by, line_of}
use Rattle.recognizer_model.proofs.Forms
use Rattle.recognizer_model.proofs.Forms.{FlatTerminal, FlatSlot, FlatList, FlatTop, FlatNames, HasFlatRules, HasRule, IsInner, IsPart, StandsFor, IsSequence, EndsWithItem}
use Rattle.recognizer_model.proofs.Views.{symbol_back}
use Rattle.recognizer_model.proofs.FlatNamed.{form, stands_for}
use Rattle.recognizer_model.proofs.FlatJoin.{view, names, at_symbol, flat_at, is_rule, left_is, part_is, real, lhs_is, rhs_is, only, reads, has}
use Rattle.recognizer_model.proofs.FlatSound.{Alike, alike_same, alike_one, slot_alike}
use Rattle.recognizer_model.proofs.FlatWhole.{tree_whole}
use Rattle.recognizer_model.proofs.Earley.{over_symbol}
use Rattle.report_model.specs.Report.{AreFirst, MayStand, AtStart, Next, dot_behind, IsLine}
use Rattle.report_laws.proofs.Rounds.{productive_by}

source_from : (w : Grammar) (o : FlatSource) (i : ℕ) → source_number w o ≡ i → i < length w.rules → o ≡ Written i
source_from w (Written j) i e lt = ap Written e
source_from w (OfStart k) i e lt = absurd (omega arith)

-- ---- how the children of a sequence end

data Ends (r : SequenceRule) : Children → Type 0 where
  Empty : Ends r NoChild
  WithItem : {cs : Children} → 0 < child_count cs → ends_with_separator r.separator (child_count cs) ≡ false → Ends r cs
  WithSeparator : {cs : Children} {c : ℕ} → 0 < child_count cs → r.separator ≡ Some c → is_even (child_count cs) ≡ true → Ends r cs

ends : (r : SequenceRule) (cs : Children) → Ends r cs
ends r NoChild = Empty
ends r (Child prefix last) = go (omega arith) r.separator refl
  where
    even : 0 < child_count (Child prefix last) → (c : ℕ) → r.separator ≡ Some c → (is_even (child_count (Child prefix last)) ≡ true) ⊎ (is_even (child_count (Child prefix last)) ≡ false) → Ends r (Child prefix last)
    even pos c is (inl e) = WithSeparator pos is e
    even pos c is (inr e) = WithItem pos (ap (λ z. ends_with_separator z (child_count (Child prefix last))) is ∙ e)

    go : 0 < child_count (Child prefix last) → (o : Option ℕ) → r.separator ≡ o → Ends r (Child prefix last)
    go pos None is = WithItem pos (ap (λ z. ends_with_separator z (child_count (Child prefix last))) is)
    go pos (Some c) is = even pos c is (cases_Bool (is_even (child_count (Child prefix last))))

odd_before : (m : ℕ) → is_even (suc m) ≡ false → is_even m ≡ true
odd_before m e = go (is_even m) e
  where
    go : (b : Bool) → not b ≡ false → b ≡ true
    go true e = refl
    go false e = sym e

even_before : (m : ℕ) → is_even (suc m) ≡ true → is_even m ≡ false
even_before m e = go (is_even m) e
  where
    go : (b : Bool) → not b ≡ true → b ≡ false
    go true e = sym e
    go false e = refl

abbrev by_item : Bool → ℕ
by_item b = cond b 1 2

abbrev by_separator : Bool → ℕ
by_separator b = cond b 2 1

item_dot : (r : SequenceRule) (n : ℕ) → 0 < n → ends_with_separator r.separator n ≡ false → dot_behind (Grammar.Sequence r) n ≡ 1
item_dot r zero pos e = absurd (omega arith)
item_dot r (suc m) pos e = go r.separator e
  where
    go : (o : Option ℕ) → ends_with_separator o (suc m) ≡ false → by_item (is_item o m) ≡ 1
    go None e = refl
    go (Some c) e = ap by_item (odd_before m e)

separator_dot : (r : SequenceRule) (c n : ℕ) → 0 < n → r.separator ≡ Some c → is_even n ≡ true → dot_behind (Grammar.Sequence r) n ≡ 2
separator_dot r c zero pos is e = absurd (omega arith)
separator_dot r c (suc m) pos is e = ap (λ z. by_item (is_item z m)) is ∙ ap by_item (even_before m e)

odd_some : (n : ℕ) → is_even n ≡ false → 0 < n
odd_some zero e = absurd (true≢false e)
odd_some (suc n) e = omega arith

two_at_least : (n : ℕ) → 0 < n → is_even n ≡ true → 2 ≤ n
two_at_least zero pos e = absurd (omega arith)
two_at_least (suc zero) pos e = absurd (true≢false (sym e))
two_at_least (suc (suc n)) pos e = omega arith

count_of : (r : SequenceRule) (o : Option ℕ) → r.separator ≡ o → slot_count (Grammar.Sequence r) ≡ suc (length (option_to_list o))
count_of r o is = ap (λ z. suc (length (option_to_list z))) is

module _ (f : FlatGrammar) (w : Grammar) (flat : IsFlat f) (made : IsFlatOf f w) (checked : IsChecked w) (edge : Edges) (forward : GoForward edge) where
  abbrev F : Grammar
  F = view f w flat made checked

  abbrev n : FlatNames
  n = names f w flat made checked

  abbrev E : Edges
  E = FlatEdges f edge

  laws : Forms.IsFlatOf F w n E edge
  laws = reads f w flat made checked edge

  all_rules : HasFlatRules F w n E edge
  all_rules = has f w flat made checked edge

  -- a symbol that has rules is a slot's
  no_rule_of : (x i : ℕ) (slot : Slot) → StandsFor (n.symbol x) slot → i < length w.rules → Fits (rule_at w i) slot → n.symbol x ≡ FlatSlot slot
  no_rule_of x i slot st lt fits = go (n.symbol x) refl st
    where
      go : (symbol : Forms.FlatSymbol) → n.symbol x ≡ symbol → StandsFor symbol slot → n.symbol x ≡ FlatSlot slot
      go (FlatTerminal t) e st = absurd ((all_rules.terminals x t e).0 i lt (fits.0 ∙ ap (λ (z : Slot). z.symbol) st))
      go (FlatSlot s) e st = e ∙ ap FlatSlot (sym st)
      go (FlatList j) e st = absurd st
      go (FlatTop k) e st = absurd st

  -- ---- a flat rule of a written one

  record RuleOf (x i parts : ℕ) : Type 0 where
    rule : ℕ
    is : IsRule f rule
    left : Flat.lhs_of f rule ≡ x
    source : source_of f rule ≡ Written i
    count : length (rhs_of f rule) ≡ parts
    viewed : rule < length F.rules
    left_viewed : n.lhs rule ≡ x
    number : n.source rule ≡ i
    count_viewed : length (n.rhs rule) ≡ parts

  rule_of : (x i parts : ℕ) → HasRule F n x i parts → 0 < parts → i < length w.rules → RuleOf x i parts
  rule_of x i parts (k, klt, l, src, len) pos lt =
      let is = real f w flat made checked k klt (omega (arith, len, pos)) in
      record {
        rule = k;
        is = is;
        left = sym (lhs_is f w flat made checked k is) ∙ l;
        source = source_from w (source_of f k) i src lt;
        count = ap length (sym (rhs_is f w flat made checked k is)) ∙ len;
        viewed = klt;
        left_viewed = l;
        number = src;
        count_viewed = len;
      }

  abbrev part : {x i parts : ℕ} → RuleOf x i parts → ℕ → ℕ
  part u j = slice_index (n.rhs u.rule) j

  part_at : {x i parts : ℕ} (u : RuleOf x i parts) (j : ℕ) → j < parts → part_of f u.rule j ≡ Some (part u j)
  part_at u j lt =
      let c = u.count in
      slice_get-get_or (rhs_of f u.rule) j 0 (omega (arith, c, lt)) ∙ ap (λ z. Some (slice_index z j)) (sym (rhs_is f w flat made checked u.rule u.is))

  -- a part that is no list stands for the child slot of a place like it
  part_stands : {x i parts : ℕ} (u : RuleOf x i parts) (j k : ℕ) → IsInner (n.symbol x) → j < parts → (IsSequence (rule_at w i) → 0 < j) → Alike (rule_at w i) j k → StandsFor (n.symbol (part u j)) (child_slot (rule_at w i) k)
  part_stands {x} {i} {parts} u j k inner lt pos a =
      pick (laws.part u.rule j u.viewed (let c = u.count_viewed in omega (arith, c, lt)) (subst (λ z. IsInner (n.symbol z)) (sym u.left_viewed) inner))
    where
      pick : IsPart w (n.symbol (part u j)) (n.source u.rule) j → StandsFor (n.symbol (part u j)) (child_slot (rule_at w i) k)
      pick (inl s) = subst (StandsFor (n.symbol (part u j))) (ap (λ z. child_slot (rule_at w z) j) u.number ∙ slot_alike (rule_at w i) j k a) s
      pick (inr (z, e, q)) = let h = pos (subst (λ z. IsSequence (rule_at w z)) u.number q) in absurd (omega (arith, h, z))

  -- ---- the parts of sequence rules

  each_slot : (r : SequenceRule) → IsLive w (Grammar.Sequence r) → ((c : ℕ) → r.separator ≡ Some c → IsProductive w (slot_of c)) → EachChildSlot (IsProductive w) (Grammar.Sequence r)
  each_slot r live separator zero lt = subst (λ z. IsProductive w (slot_of z)) (sym (item_first r.item r.separator)) live
  each_slot r live separator (suc zero) lt = go r.separator refl
    where
      go : (o : Option ℕ) → r.separator ≡ o → IsProductive w (child_slot (Grammar.Sequence r) 1)
      go None is = let e = count_of r None is in absurd (omega (arith, e, lt))
      go (Some c) is = subst (λ z. IsProductive w (slot_of z)) (sym (ap (λ z. sequence_symbol r.item z 1) is)) (separator c is)
  each_slot r live separator (suc (suc k)) lt = go r.separator refl
    where
      go : (o : Option ℕ) → r.separator ≡ o → IsProductive w (child_slot (Grammar.Sequence r) (suc (suc k)))
      go None is = let e = count_of r None is in absurd (omega (arith, e, lt))
      go (Some c) is = let e = count_of r (Some c) is in absurd (omega (arith, e, lt))

  -- no child of a sequence is empty
  child_spans : (i k m q : ℕ) (t : Tree) → IsSequence (rule_at w i) → Derives w edge (child_slot (rule_at w i) k) m q t → m < q
  child_spans i k m q (Leaf s a b) sq d = let h = forward s a b d.held in let e = d.from_is in let e' = d.to_is in omega arith
  child_spans i k m q (Nulled s a) sq d = absurd (all_rules.items i k sq d.nullable)
  child_spans i k m q (Node r cs a b) sq d = d.spans

  children_span : (i p q : ℕ) (cs : Children) → IsSequence (rule_at w i) → DerivesPrefix w edge (rule_at w i) p q cs → p + child_count cs ≤ q
  children_span i p q NoChild sq d = omega (arith, d)
  children_span i p q (Child prefix t) sq (m, fr, l) =
      let a = children_span i p m prefix sq fr in
      let b = child_spans i (child_count prefix) m q t sq l in
      omega arith

  module _ (start top : ℕ) (top_is : slice_get f.tops start ≡ Some top) where
    abbrev In : ℕ → Item → Type 0
    In = InSet f E top

    -- over what a slot derives, an item that waits for it is advanced
    over : (t : Tree) (m q : ℕ) (slot : Slot) (x : ℕ) (item : Item) → StandsFor (n.symbol x) slot → Derives w edge slot m q t → In m item → after f item ≡ Some x → In q (advanced item)
    over t m q slot x item st d i e =
        let (u, du, same) = tree_whole F w n E edge laws all_rules forward t x m q slot st d in
        over_symbol f E top (flat.tops start top top_is).is_top (symbol_back f flat.marks E (only f w flat made checked edge) flat.no_rules flat.terminals_span u (slot_of x) m q du) item i e

    -- an item waits for the slot
    record IsAwaited (slot : Slot) (p : ℕ) : Type 0 where
      symbol : ℕ
      stands : StandsFor (n.symbol symbol) slot
      item : Item
      inside : In p item
      waits : after f item ≡ Some symbol

    -- a rule that is under way in a slot for which an item waits
    record InSlot (i p : ℕ) (slot : Slot) : Type 0 where
      symbol : ℕ
      slot_is : n.symbol symbol ≡ FlatSlot slot
      item : Item
      inside : In p item
      waits : after f item ≡ Some symbol
      in_range : i < length w.rules
      fits : Fits (rule_at w i) slot
      live : IsLive w (rule_at w i)

    -- ---- plain rules

    module _ (i p : ℕ) (slot : Slot) (r : PlainRule) (is : rule_at w i ≡ Plain r) (s : InSlot i p slot) (pos : 0 < length r.rhs) where
      plain : RuleOf s.symbol i (length r.rhs)
      plain = rule_of s.symbol i (length r.rhs) (all_rules.plain s.symbol i slot r s.slot_is s.in_range is (subst (λ z. Fits z slot) is s.fits) (subst (IsLive w) is s.live) pos) pos s.in_range

      plain_part : (j : ℕ) → j < length r.rhs → StandsFor (n.symbol (part plain j)) (child_slot (rule_at w i) j)
      plain_part j lt = part_stands plain j j (subst IsInner (sym s.slot_is) tt) lt (λ q. absurd (subst IsSequence is q)) (alike_same (rule_at w i) j)

      plain_at : (cs : Children) (q : ℕ) → DerivesPrefix w edge (rule_at w i) p q cs → child_count cs ≤ length r.rhs → In q (record { rule = plain.rule; dot = child_count cs; origin = p })
      plain_at NoChild q d le = subst (λ z. In z (first_item plain.rule p)) d (Predict s.inside s.waits plain.is plain.left)
      plain_at (Child prefix t) q (m, fr, l) le =
          over t m q (child_slot (rule_at w i) (child_count prefix)) (part plain (child_count prefix)) (record { rule = plain.rule; dot = child_count prefix; origin = p })
          (plain_part (child_count prefix) (omega arith)) l (plain_at prefix m fr (omega arith)) (part_at plain (child_count prefix) (omega arith))

    -- ---- sequence rules

    module _ (i p : ℕ) (slot : Slot) (r : SequenceRule) (is : rule_at w i ≡ Grammar.Sequence r) (s : InSlot i p slot) where
      sq : IsSequence (rule_at w i)
      sq = subst IsSequence (sym is) tt

      live : IsLive w (Grammar.Sequence r)
      live = subst (IsLive w) is s.live

      record HasList : Type 0 where
        list : ℕ
        list_is : n.symbol list ≡ FlatList i
        whole : RuleOf s.symbol i 1
        first : part whole 0 ≡ list

      has_list : HasList
      unfolding rule_of all_rules
      has_list =
          let (y, y_is, (k, klt, l, src, len, first)) = all_rules.whole s.symbol i slot r s.slot_is s.in_range is (subst (λ z. Fits z slot) is s.fits) live in
          record { list = y; list_is = y_is; whole = rule_of s.symbol i 1 (k, klt, l, src, len) (omega arith) s.in_range; first = first }

      abbrev list : ℕ
      list = has_list.list

      list_inner : IsInner (n.symbol list)
      list_inner = subst IsInner (sym has_list.list_is) tt

      -- the list is awaited
      whole_in : In p (first_item has_list.whole.rule p)
      whole_in = Predict s.inside s.waits has_list.whole.is has_list.whole.left

      whole_waits : after f (first_item has_list.whole.rule p) ≡ Some list
      whole_waits = part_at has_list.whole 0 (omega arith) ∙ ap Some has_list.first

      record Longer : Type 0 where
        rule : RuleOf list i (suc (slot_count (Grammar.Sequence r)))
        first : part rule 0 ≡ list

      longer : EachChildSlot (IsProductive w) (Grammar.Sequence r) → Longer
      unfolding rule_of all_rules
      longer each =
          let (k, klt, l, src, len, first) = all_rules.long list i r has_list.list_is is each in
          record { rule = rule_of list i (suc (slot_count (Grammar.Sequence r))) (k, klt, l, src, len) (omega arith) s.in_range; first = first }

      -- some rule of the list is done
      record IsListed (q : ℕ) : Type 0 where
        rule : ℕ
        is_list : Flat.lhs_of f rule ≡ list
        inside : In q (record { rule = rule; dot = length (rhs_of f rule); origin = p })

      -- an item that waits for the list where it begins
      past_list : (q k : ℕ) → p < q → IsListed q → In p (first_item k p) → after f (first_item k p) ≡ Some list → In q (record { rule = k; dot = 1; origin = p })
      past_list q k lt l i e = Complete {whole = record { rule = l.rule; dot = length (rhs_of f l.rule); origin = p }} l.inside refl lt i (e ∙ ap Some (sym l.is_list))

      past_longer : (q : ℕ) (b : Longer) → p < q → IsListed q → In q (record { rule = b.rule.rule; dot = 1; origin = p })
      past_longer q b lt l = past_list q b.rule.rule lt l (Predict whole_in whole_waits b.rule.is b.rule.left) (part_at b.rule 0 (omega arith) ∙ ap Some b.first)

      listed : (q : ℕ) {parts : ℕ} (u : RuleOf list i parts) → In q (record { rule = u.rule; dot = parts; origin = p }) → IsListed q
      listed q u inside = record { rule = u.rule; is_list = u.left; inside = subst (λ z. In q (record { rule = u.rule; dot = z; origin = p })) (sym u.count) inside }

      separator_part : (b : Longer) (c k : ℕ) → 0 < k → ends_with_separator r.separator k ≡ false → r.separator ≡ Some c → StandsFor (n.symbol (part b.rule 1)) (child_slot (rule_at w i) k)
      separator_part b c k pos end sep =
          let count = count_of r (Some c) sep in
          part_stands b.rule 1 k list_inner (omega (arith, count)) (λ z. omega arith) (alike_one (rule_at w i) k (subst (λ z. EndsWithItem z k) (sym is) (pos, end)))

      item_part : (b : Longer) (k : ℕ) → 0 < k → r.separator ≡ None → StandsFor (n.symbol (part b.rule 1)) (child_slot (rule_at w i) k)
      item_part b k pos sep =
          let count = count_of r None sep in
          part_stands b.rule 1 k list_inner (omega (arith, count)) (λ z. omega arith) (alike_one (rule_at w i) k (subst (λ z. EndsWithItem z k) (sym is) (pos, ap (λ z. ends_with_separator z k) sep)))

      item_behind : (b : Longer) (c k : ℕ) → 0 < k → r.separator ≡ Some c → is_even k ≡ true → StandsFor (n.symbol (part b.rule 2)) (child_slot (rule_at w i) k)
      item_behind b c k pos sep even =
          let count = count_of r (Some c) sep in
          part_stands b.rule 2 k list_inner (omega (arith, count)) (λ z. omega arith)
          (subst (λ z. Alike z 2 k) (sym is) ((λ z. pos), ap (λ z. is_item z 2) sep ∙ sym even ∙ sym (ap (λ z. is_item z k) sep)))

      -- the separator is productive where one is among the children
      separated : (c q : ℕ) (cs : Children) → DerivesPrefix w edge (rule_at w i) p q cs → r.separator ≡ Some c → 2 ≤ child_count cs → Longer
      separated c q cs prefix sep two =
          let (k, each) = prefix_productive w edge cs (rule_at w i) p q prefix in
          longer (each_slot r live (λ c' sep'. (let here : child_slot (rule_at w i) 1 ≡ slot_of c' = ap (λ z. child_slot z 1) is ∙ ap (λ z. slot_of (sequence_symbol r.item z 1)) sep' in
          subst (IsProductive w) here (k, each 1 (omega (arith, two))))))

      -- first children are a list, or a list and a separator
      record Gone (cs : Children) (q : ℕ) : Type 0 where
        ended : 0 < child_count cs → ends_with_separator r.separator (child_count cs) ≡ false → IsListed q
        parted : (c : ℕ) → 0 < child_count cs → r.separator ≡ Some c → is_even (child_count cs) ≡ true → (b : Longer) → In q (record { rule = b.rule.rule; dot = 2; origin = p })

      further : (m k : ℕ) (prefix : Children) → DerivesPrefix w edge (rule_at w i) p m prefix → child_count prefix ≡ k → 0 < k → p < m
      further m k prefix fr e pos = let h = children_span i p m prefix sq fr in omega (arith, h, e, pos)

      short : RuleOf list i 1
      unfolding rule_of all_rules has_list
      short = let (k, klt, l, src, len, st) = all_rules.short list i r has_list.list_is is in rule_of list i 1 (k, klt, l, src, len) (omega arith) s.in_range

      short_part : StandsFor (n.symbol (part short 0)) (child_slot (rule_at w i) 0)
      unfolding short rule_of all_rules has_list
      short_part =
          let (k, klt, l, src, len, st) = all_rules.short list i r has_list.list_is is in
          subst (λ z. StandsFor (n.symbol (slice_index (n.rhs k) 0)) (child_slot z 0)) (sym is) st

      short_in : In p (first_item short.rule p)
      short_in = Predict whole_in whole_waits short.is short.left

      alone : r.separator ≡ None → Longer
      alone sep = longer (each_slot r live (λ c sep'. (let bad : None ≡ Some c = sym sep ∙ sep' in absurd (cc))))

      ended_step : (prefix : Children) (t : Tree) (m q : ℕ) → Ends r prefix → DerivesPrefix w edge (rule_at w i) p m prefix → Derives w edge (child_slot (rule_at w i) (child_count prefix)) m q t → Gone prefix m →
          ends_with_separator r.separator (suc (child_count prefix)) ≡ false → IsListed q
      ended_step prefix t m q (Empty) fr l g end =
          listed q short (over t m q (child_slot (rule_at w i) 0) (part short 0) (first_item short.rule p) short_part l (subst (λ z. In z (first_item short.rule p)) fr short_in) (part_at short 0 (omega arith)))
      ended_step prefix t m q (WithItem pos before) fr l g end = go r.separator refl
        where
          go : (o : Option ℕ) → r.separator ≡ o → IsListed q
          go None sep =
              let b = alone sep in
              let count = count_of r None sep in
              let there = over t m q (child_slot (rule_at w i) (child_count prefix)) (part b.rule 1) (record { rule = b.rule.rule; dot = 1; origin = p }) (item_part b (child_count prefix) pos sep) l
              (past_longer m b (further m (child_count prefix) prefix fr refl pos) (g.ended pos before)) (part_at b.rule 1 (omega (arith, count))) in
              listed q b.rule (subst (λ z. In q (record { rule = b.rule.rule; dot = z; origin = p })) (sym (ap suc count)) there)
          go (Some c) sep =
              let a : is_even (child_count prefix) ≡ false = sym (ap (λ z. ends_with_separator z (child_count prefix)) sep) ∙ before in
              let e : not (is_even (child_count prefix)) ≡ false = sym (ap (λ z. ends_with_separator z (suc (child_count prefix))) sep) ∙ end in
              absurd (true≢false (sym (ap not a) ∙ e))
      ended_step prefix t m q (WithSeparator {c = c} pos sep even) fr l g end =
          let b = separated c m prefix fr sep (two_at_least (child_count prefix) pos even) in
          let count = count_of r (Some c) sep in
          let there = over t m q (child_slot (rule_at w i) (child_count prefix)) (part b.rule 2) (record { rule = b.rule.rule; dot = 2; origin = p }) (item_behind b c (child_count prefix) pos sep even) l
          (g.parted c pos sep even b) (part_at b.rule 2 (omega (arith, count))) in
          listed q b.rule (subst (λ z. In q (record { rule = b.rule.rule; dot = z; origin = p })) (sym (ap suc count)) there)

      gone : (cs : Children) (q : ℕ) → DerivesPrefix w edge (rule_at w i) p q cs → Gone cs q
      gone NoChild q d = record { ended = λ pos. absurd (omega arith); parted = λ c pos. absurd (omega arith) }
      gone (Child prefix t) q (m, fr, l) =
          let g = gone prefix m fr in
          record {
            ended = λ pos end. ended_step prefix t m q (ends r prefix) fr l g end;
            parted = λ c pos sep even b.
                (let odd = even_before (child_count prefix) even in
                let end : ends_with_separator r.separator (child_count prefix) ≡ false = ap (λ z. ends_with_separator z (child_count prefix)) sep ∙ odd in
                let some = odd_some (child_count prefix) odd in
                let count = count_of r (Some c) sep in
                over t m q (child_slot (rule_at w i) (child_count prefix)) (part b.rule 1) (record { rule = b.rule.rule; dot = 1; origin = p }) (separator_part b c (child_count prefix) some end sep) l
                (past_longer m b (further m (child_count prefix) prefix fr refl some) (g.ended some end)) (part_at b.rule 1 (omega (arith, count))));
          }

      -- what comes after them
      sequence_next : (cs : Children) (q : ℕ) → Ends r cs → DerivesPrefix w edge (rule_at w i) p q cs → IsProductive w (child_slot (rule_at w i) (child_count cs)) → IsAwaited (child_slot (rule_at w i) (child_count cs)) q
      sequence_next cs q (Empty) fr prod = record {
        symbol = part short 0;
        stands = short_part;
        item = first_item short.rule p;
        inside = subst (λ z. In z (first_item short.rule p)) fr short_in;
        waits = part_at short 0 (omega arith);
      }
      sequence_next cs q (WithItem pos end) fr prod = go r.separator refl
        where
          by : (b : Longer) → StandsFor (n.symbol (part b.rule 1)) (child_slot (rule_at w i) (child_count cs)) → IsAwaited (child_slot (rule_at w i) (child_count cs)) q
          by b st = record {
            symbol = part b.rule 1;
            stands = st;
            item = record { rule = b.rule.rule; dot = 1; origin = p };
            inside = past_longer q b (further q (child_count cs) cs fr refl pos) ((gone cs q fr).ended pos end);
            waits = part_at b.rule 1 (omega arith);
          }

          go : (o : Option ℕ) → r.separator ≡ o → IsAwaited (child_slot (rule_at w i) (child_count cs)) q
          go None sep = let b = alone sep in by b (item_part b (child_count cs) pos sep)
          go (Some c) sep =
              let odd : is_even (child_count cs) ≡ false = sym (ap (λ z. ends_with_separator z (child_count cs)) sep) ∙ end in
              let here : child_slot (rule_at w i) (child_count cs) ≡ slot_of c =
              ap (λ z. child_slot z (child_count cs)) is ∙ ap (λ z. slot_of (sequence_symbol r.item z (child_count cs))) sep ∙ ap (λ b. slot_of (cond b r.item c)) odd in
              let b = longer (each_slot r live (λ c' sep'. (let both : Some c ≡ Some c' = sym sep ∙ sep' in let same : c ≡ c' = cc in subst (λ z. IsProductive w (slot_of z)) same (subst (IsProductive w) here prod)))) in
              by b (separator_part b c (child_count cs) pos end sep)
      sequence_next cs q (WithSeparator {c = c} pos sep even) fr prod =
          let b = separated c q cs fr sep (two_at_least (child_count cs) pos even) in
          let count = count_of r (Some c) sep in
          record {
            symbol = part b.rule 2;
            stands = item_behind b c (child_count cs) pos sep even;
            item = record { rule = b.rule.rule; dot = 2; origin = p };
            inside = (gone cs q fr).parted c pos sep even b;
            waits = part_at b.rule 2 (omega (arith, count));
          }

      -- an item of the rule, with its dot after them
      sequence_line : (cs : Children) (q : ℕ) → Ends r cs → DerivesPrefix w edge (rule_at w i) p q cs →
          (item : Item) × In q item × (source_of f item.rule ≡ Written i) × (item.origin ≡ p) × (written_dot (rule_at w i) item.dot ≡ dot_behind (rule_at w i) (child_count cs))
      sequence_line cs q (Empty) fr = (
        first_item has_list.whole.rule p,
        subst (λ z. In z (first_item has_list.whole.rule p)) fr whole_in,
        has_list.whole.source,
        refl,
        ap (λ z. written_dot z 0) is ∙ sym (ap (λ z. dot_behind z 0) is),
      )
      sequence_line cs q (WithItem pos end) fr = (
        record { rule = has_list.whole.rule; dot = 1; origin = p },
        past_list q has_list.whole.rule (further q (child_count cs) cs fr refl pos) ((gone cs q fr).ended pos end) whole_in whole_waits,
        has_list.whole.source,
        refl,
        ap (λ z. written_dot z 1) is ∙ sym (item_dot r (child_count cs) pos end) ∙ sym (ap (λ z. dot_behind z (child_count cs)) is),
      )
      sequence_line cs q (WithSeparator {c = c} pos sep even) fr =
          let b = separated c q cs fr sep (two_at_least (child_count cs) pos even) in (
            record { rule = b.rule.rule; dot = 2; origin = p },
            (gone cs q fr).parted c pos sep even b,
            b.rule.source,
            refl,
            ap (λ z. written_dot z 2) is ∙ ap (λ z. by_separator (is_some z)) sep ∙ sym (separator_dot r c (child_count cs) pos sep even) ∙ sym (ap (λ z. dot_behind z (child_count cs)) is),
          )

    -- ---- all slots

    top_start : (name : NamedRule) → IsRuleOf w name → (symbol : ℕ) → name.left ≡ Top start → slice_get w.starts start ≡ Some symbol → StandsFor (form (slice_index_or name.right 0 (Top 0))) (slot_of symbol)
    top_start name (OfPlain i s l r right lt is some live fits used len stand) symbol e at = cc
    top_start name (OfList i r s is) symbol e at = cc
    top_start name (OfTrailing i x r c s is sep proper prod st) symbol e at = cc
    top_start name (OfItem i r b s is st) symbol e at = cc
    top_start name (OfItems i r b s is none st) symbol e at = cc
    top_start name (OfSeparated i x r b c s is sep prod st st') symbol e at = cc
    top_start name (OfTop l symbol' s at' st) symbol e at =
        let place : l ≡ start = cc in
        let both : Some symbol' ≡ Some symbol = sym at' ∙ ap (slice_get w.starts) place ∙ at in
        let same : symbol' ≡ symbol = cc in
        subst (λ z. StandsFor (form s) (slot_of z)) same (stands_for w (slot_of symbol') s st (λ t. refl))

    at_start : (symbol : ℕ) → slice_get w.starts start ≡ Some symbol → IsAwaited (slot_of symbol) 0
    at_start symbol at =
        let t = flat.tops start top top_is in
        let rule = t.is_top.is_rule in
        let one = t.one in
        let left : (named f (flat_at f w flat made checked top)).left ≡ Top start = left_is f w flat made checked top ∙ at_symbol f w flat made checked (Flat.lhs_of f top) (Top start) t.symbol in
        let st = top_start (named f (flat_at f w flat made checked top)) (is_rule f w flat made checked top rule) symbol left at in
        record {
          symbol = slice_index (rhs_of f top) 0;
          stands = subst (λ z. StandsFor (form z) (slot_of symbol)) (part_is f w flat made checked top 0 (omega (arith, one))) st;
          item = first_item top 0;
          inside = Start;
          waits = slice_get-get_or (rhs_of f top) 0 0 (omega (arith, one));
        }

    in_slot : (slot : Slot) (i all p q : ℕ) (cs : Children) → AreFirst w edge slot i all p q cs → IsAwaited slot p → InSlot i p slot
    in_slot slot i all p q cs a s = record {
      symbol = s.symbol;
      slot_is = no_rule_of s.symbol i slot s.stands a.in_range a.fits;
      item = s.item;
      inside = s.inside;
      waits = s.waits;
      in_range = a.in_range;
      fits = a.fits;
      live = a.live;
    }

    by_next : (slot : Slot) (i all p q : ℕ) (cs : Children) → AreFirst w edge slot i all p q cs → child_count cs < all → InSlot i p slot → IsProductive w (child_slot (rule_at w i) (child_count cs)) → IsAwaited (child_slot (rule_at w i) (child_count cs)) q
    by_next slot i all p q cs a more s prod = go (rule_at w i) refl
      where
        go : (rule : WrittenRule) → rule_at w i ≡ rule → IsAwaited (child_slot (rule_at w i) (child_count cs)) q
        go (Plain r) is =
            let c : all ≡ length r.rhs = subst (λ z. IsChildCount z all) is a.complete in
            let lt : child_count cs < length r.rhs = omega (arith, c, more) in
            let u = plain i p slot r is s (omega (arith, lt)) in
            record {
              symbol = part u (child_count cs);
              stands = plain_part i p slot r is s (omega (arith, lt)) (child_count cs) lt;
              item = record { rule = u.rule; dot = child_count cs; origin = p };
              inside = plain_at i p slot r is s (omega (arith, lt)) cs q a.prefix (omega (arith, lt));
              waits = part_at u (child_count cs) lt;
            }
        go (Grammar.Sequence r) is = sequence_next i p slot r is s cs q (ends r cs) a.prefix prod

    awaited : {slot : Slot} {p : ℕ} → MayStand w edge start slot p → IsProductive w slot → IsAwaited slot p
    awaited (AtStart {symbol = symbol} at) prod = at_start symbol at
    awaited (Next {slot = slot} {i = i} {all = all} {from = p} {to = q} {children = cs} m a more) prod =
        by_next slot i all p q cs a more (in_slot slot i all p q cs a (awaited m (productive_by w i slot a.in_range a.fits a.live))) prod

    -- a line's item
    pub flat_line : (place : ℕ) (line : ReportLine) → IsLine w edge start place line → (item : Item) × InSet f E top place item × (line_of w f item ≡ Some line)
    flat_line place line l = go (rule_at w line.rule) refl
      where
        a : AreFirst w edge l.slot line.rule l.all line.origin place l.children
        a = l.first

        s : InSlot line.rule line.origin l.slot
        s = in_slot l.slot line.rule l.all line.origin place l.children a (awaited l.stands (productive_by w line.rule l.slot a.in_range a.fits a.live))

        as_line : (item : Item) → source_of f item.rule ≡ Written line.rule → item.origin ≡ line.origin → written_dot (rule_at w line.rule) item.dot ≡ dot_behind (rule_at w line.rule) (child_count l.children) → line_of w f item ≡ Some line
        as_line item src origin dot =
            let dot_is = dot ∙ sym l.dot_is in
            ap (λ o. line_by w o item) src ∙ (λ z. Some (record { rule = line.rule; dot = dot_is z; origin = origin z }))

        go : (rule : WrittenRule) → rule_at w line.rule ≡ rule → (item : Item) × InSet f E top place item × (line_of w f item ≡ Some line)
        go (Plain r) is =
            let c : l.all ≡ length r.rhs = subst (λ z. IsChildCount z l.all) is a.complete in
            let some = a.some in
            let first = a.first in
            let pos : 0 < length r.rhs = omega (arith, c, some) in
            let u = plain line.rule line.origin l.slot r is s pos in
            let item : Item = record { rule = u.rule; dot = child_count l.children; origin = line.origin } in (
              item,
              plain_at line.rule line.origin l.slot r is s pos l.children place a.prefix (omega (arith, c, first)),
              as_line item u.source refl (ap (λ z. written_dot z (child_count l.children)) is ∙ sym (ap (λ z. dot_behind z (child_count l.children)) is)),
            )
        go (Grammar.Sequence r) is =
            let (item, i, src, origin, dot) = sequence_line line.rule line.origin l.slot r is s l.children place (ends r l.children) a.prefix in
            (item, i, as_line item src origin dot)

-- A walk by choices ends: a number falls from each node to where one of its choices leads.
use Rattle.std.proofs.Common.{◌≡◌, ℕ, zero, suc, ◌+◌, ◌*◌, ◌<◌, ◌≤◌, Bool, true, false, cond, List, [], ◌∷◌, length, inl, inr, Option, Some, None, Contains, refl, sym, ap, ◌∙◌, subst, arith, lit<}
use Rattle.std.specs.Prelude.{slice_get, slice_index_or, ◌-◌, map, option_to_list}
use Rattle.std.proofs.lemmas.Bool.{true≢false}
use Rattle.std.proofs.lemmas.Option.{slice_get-get_or}
use Rattle.finite_sets.proofs.Lists.{get_among, get_index, among_get}
use Rattle.finite_sets.proofs.Members.{Among, among_from, contains_from, among_map, among_flat_map_from}
use Rattle.grammar_model.specs.Grammar.{Grammar, Slot as WrittenSlot, slot_of, rule_at, child_slot, slot_count, sequence_symbol}
use Rattle.grammar_model.specs.Grammar
use Rattle.grammar_model.specs.Trees.{Tree}
use Rattle.grammar_model.specs.Analysis
use Rattle.grammar_model.specs.Checked.{IsChecked}
use Rattle.recognizer_model.specs.declared.NodeKey.{NodeKey}
use Rattle.recognizer_model.specs.declared.flat.FlatSymbol.{FlatSymbol}
use Rattle.recognizer_model.specs.declared.flat.FlatSymbol.TheVariants.{Terminal, Slot, Sequence, Top}
use Rattle.recognizer_model.specs.Invariant.{IsFlat}
use Rattle.recognizer_model.specs.Flat.{FlatGrammar, FlatRule, no_rule, IsRule, lhs_of, rhs_of, part_of, IsNullable}
use Rattle.recognizer_model.specs.FlatForm.{Stands, AsTerminal, AsSlot, NamedRule, named, IsRuleOf, OfPlain, OfList, OfTrailing, OfItem, OfItems, OfSeparated, OfTop, symbol_at, is_list, SpansNothing}
use Rattle.recognizer_model.specs.FlatDerives.{Derives, Token, Null, Rule}
use Rattle.recognizer_model.proofs.Sources.{rule_there}
use Rattle.forest_model.specs.Forest.{Cause, AnEdge, Nothing, Wholes, Alternative, ForestNode, Forest, edges_of, IsForest, IsCause, AreWholes, IsPredecessor, AreAlternatives, whole_key}
use Rattle.forest_laws.specs.Lists.{cause_symbol}
use Rattle.glade_laws.specs.Walks.{is_list_part, option_by, options}
use Rattle.glade_laws.proofs.NodeKinds.{no_list, all_no_list, none_there, later_no_list, get_map}

-- ---- what stands after a list spans something

stands_null : (w : Grammar) (slot : WrittenSlot) (s : FlatSymbol) → Stands w slot s → SpansNothing w s → Analysis.IsNullable w slot
stands_null w slot (Terminal t) (AsTerminal h) null = absurd null
stands_null w slot (Slot t k) (AsSlot h) null = null
stands_null w slot (Sequence i) h null = absurd null
stands_null w slot (Top k) h null = elim h [ ]

item_spans : (w : Grammar) → IsChecked w → (i : ℕ) (r : Grammar.SequenceRule) → i < length w.rules → rule_at w i ≡ Grammar.Sequence r → Analysis.IsNullable w (slot_of r.item) → ⊥
item_spans w checked i r lt is null = checked.items_span i lt (r, is, (0, omega arith, subst (λ (s : WrittenSlot). Analysis.IsNullable w s) (front r.separator) null))
  where
    front : (o : Option ℕ) → slot_of r.item ≡ slot_of (sequence_symbol r.item o 0)
    front None = refl
    front (Some c) = refl

separator_spans : (w : Grammar) → IsChecked w → (i separator : ℕ) (r : Grammar.SequenceRule) → i < length w.rules → rule_at w i ≡ Grammar.Sequence r → r.separator ≡ Some separator → Analysis.IsNullable w (slot_of separator) → ⊥
separator_spans w checked i separator r lt is some null =
    let two : 1 < slot_count (Grammar.Sequence r) = subst (λ o. 1 < suc (length (option_to_list o))) (sym some) (lit< tt) in
    let slot : slot_of separator ≡ slot_of (sequence_symbol r.item r.separator 1) = ap (λ o. slot_of (sequence_symbol r.item o 1)) (sym some) in
    checked.items_span i lt (r, is, (1, two, subst (λ (s : WrittenSlot). Analysis.IsNullable w s) slot null))

behind_list : (w : Grammar) → IsChecked w → (n : NamedRule) → IsRuleOf w n → (front : FlatSymbol) → slice_get n.right 0 ≡ Some front → is_list front ≡ true → (d : ℕ) (s : FlatSymbol) → slice_get n.right (suc d) ≡ Some s → SpansNothing w s → ⊥
behind_list w checked n (OfPlain i t k r right a b c live fits used count all) front at list d s e null = true≢false (sym list ∙ all_no_list w (Grammar.Plain r) 0 right all 0 front at)
behind_list w checked n (OfList i r a b) front at list d s e null = none_there e
behind_list w checked n (OfTrailing i separator r c a b same proper productive st) front at list zero s e null =
    let is : c ≡ s = cc in separator_spans w checked i separator r a.1 b same (stands_null w (slot_of separator) s (subst (Stands w (slot_of separator)) is st) null)
behind_list w checked n (OfTrailing i separator r c a b same proper productive st) front at list (suc d) s e null = none_there e
behind_list w checked n (OfItem i r b a c st) front at list d s e null = none_there e
behind_list w checked n (OfItems i r b a c none st) front at list zero s e null =
    let is : b ≡ s = cc in item_spans w checked i r a.1 c (stands_null w (slot_of r.item) s (subst (Stands w (slot_of r.item)) is st) null)
behind_list w checked n (OfItems i r b a c none st) front at list (suc d) s e null = none_there e
behind_list w checked n (OfSeparated i separator r b c a same some productive st st') front at list zero s e null =
    let is : c ≡ s = cc in separator_spans w checked i separator r a.1 same some (stands_null w (slot_of separator) s (subst (Stands w (slot_of separator)) is st) null)
behind_list w checked n (OfSeparated i separator r b c a same some productive st st') front at list (suc zero) s e null =
    let is : b ≡ s = cc in item_spans w checked i r a.1 same (stands_null w (slot_of r.item) s (subst (Stands w (slot_of r.item)) is st') null)
behind_list w checked n (OfSeparated i separator r b c a same some productive st st') front at list (suc (suc d)) s e null = none_there e
behind_list w checked n (OfTop k start t a st) front at list d s e null = none_there e

-- the last part of a list's rule is an item, and no list
list_last : (w : Grammar) (n : NamedRule) → IsRuleOf w n → is_list n.left ≡ true → (s : FlatSymbol) → slice_get n.right (length n.right - 1) ≡ Some s → is_list s ≡ false
list_last w n (OfPlain i t k r right a b c live fits used count all) list s e = absurd (true≢false (sym list))
list_last w n (OfList i r a b) list s e = absurd (true≢false (sym list))
list_last w n (OfTrailing i separator r c a b same proper productive st) list s e = absurd (true≢false (sym list))
list_last w n (OfItem i r b a c st) list s e = let is : b ≡ s = cc in subst (λ x. is_list x ≡ false) is (no_list w (slot_of r.item) b st)
list_last w n (OfItems i r b a c none st) list s e = let is : b ≡ s = cc in subst (λ x. is_list x ≡ false) is (no_list w (slot_of r.item) b st)
list_last w n (OfSeparated i separator r b c a same some productive st st') list s e = let is : b ≡ s = cc in subst (λ x. is_list x ≡ false) is (no_list w (slot_of r.item) b st')
list_last w n (OfTop k start t a st) list s e = absurd (true≢false (sym list))

map_length : {X Y : Type 0} (h : X → Y) (xs : List X) → length (map h xs) ≡ length xs
map_length h [] = refl
map_length h (x ∷ xs) = ap suc (map_length h xs)

-- ---- the number that falls

abbrev pub rank : Forest → NodeKey → ℕ
rank f key = cond (is_list_part f key) 4294967296 key.dot

abbrev pub to_walk : Forest → NodeKey → ℕ
to_walk f key = key.end * 4294967297 + rank f key

module _ (f : Forest) (is : IsForest f) where
  abbrev g : FlatGrammar
  g = f.flat

  abbrev flat : IsFlat f.flat
  flat = is.derived.flat

  rule_named : (r : ℕ) → IsRule g r → IsRuleOf f.written (named g (slice_index_or g.rules r no_rule))
  rule_named r rule =
      let x : FlatRule = slice_index_or g.rules r no_rule in
      let at = get_among g.rules r x (slice_get-get_or g.rules r no_rule rule) in
      (is.derived.flat_of.rules.exact (named g x)).0 (contains_from (map (named g) g.rules) (named g x) (among_map (named g) x g.rules at))

  spans_forward : {x p q : ℕ} {t : Tree} → Derives g (edges_of f) x p q t → p ≤ q
  spans_forward (Token {x = x} {p = p} {q = q} (t, at, held)) = let h = is.derived.forward (record { symbol = t; from = p; to = q }) held in omega (arith, h)
  spans_forward (Null n) = omega arith
  spans_forward (Rule rule l lt s) = omega (arith, lt)

  spans_some : {x p q : ℕ} {t : Tree} → Derives g (edges_of f) x p q t → (IsNullable g x → ⊥) → p < q
  spans_some (Token {x = x} {p = p} {q = q} (t, at, held)) some = is.derived.forward (record { symbol = t; from = p; to = q }) held
  spans_some (Null n) some = absurd (some n)
  spans_some (Rule rule l lt s) some = lt

  -- what stands after a list's part is not marked
  behind_spans : (r d x y : ℕ) → part_of g r 0 ≡ Some x → is_list (symbol_at g x) ≡ true → part_of g r (suc d) ≡ Some y → IsNullable g y → ⊥
  behind_spans r d x y front list part null =
      let rule = rule_there g.rules r (suc d) y part in
      let there = slice_get-get_or g.symbols y (Top 0) (flat.in_range.parts r (suc d) y rule part) in
      behind_list f.written is.derived.checked (named g (slice_index_or g.rules r no_rule)) (rule_named r rule) (symbol_at g x) (get_map (symbol_at g) (rhs_of g r) 0 x front) list d (symbol_at g y)
      (get_map (symbol_at g) (rhs_of g r) (suc d) y part) ((is.derived.flat_of.marks y (symbol_at g y) there).0 null)

  later_part : (r d x : ℕ) → part_of g r (suc d) ≡ Some x → is_list (symbol_at g x) ≡ false
  later_part r d x part =
      later_no_list f.written (named g (slice_index_or g.rules r no_rule)) (rule_named r (rule_there g.rules r (suc d) x part)) d (symbol_at g x)
      (get_map (symbol_at g) (rhs_of g r) (suc d) x part)

  -- a whole rule of a list does not end with a list
  pub whole_ends : (r : ℕ) → IsRule g r → is_list (symbol_at g (lhs_of g r)) ≡ true → (p q : ℕ) → is_list_part f (whole_key f r p q) ≡ false
  whole_ends r rule list p q =
      let some = flat.some r rule in
      let last = slice_get-get_or (rhs_of g r) (length (rhs_of g r) - 1) 0 (omega (arith, some)) in
      let count = map_length (symbol_at g) (rhs_of g r) in
      list_last f.written (named g (slice_index_or g.rules r no_rule)) (rule_named r rule) list _
      (ap (λ k. slice_get (map (symbol_at g) (rhs_of g r)) (k - 1)) count ∙ get_map (symbol_at g) (rhs_of g r) (length (rhs_of g r) - 1) _ last)

  module _ (node : ForestNode) (a : AreAlternatives f node.key node.alternatives) where
    pub part_is : cause_symbol f node.key ≡ a.symbol
    part_is =
        let d : node.key.dot - 1 ≡ a.dot = (let e = a.dot_is in omega (arith, e)) in
        ap (λ k. slice_index_or (rhs_of g node.key.rule) k 0) d ∙ (get_index (rhs_of g node.key.rule) a.dot 0 a.symbol a.part).1

    pub list_is : is_list_part f node.key ≡ is_list (symbol_at g a.symbol)
    list_is = ap (λ s. is_list (symbol_at g s)) part_is

    -- to the node of the parts before
    to_before : (d : ℕ) → a.dot ≡ suc d → (b : Alternative) → Contains node.alternatives b → (inner : ForestNode) → inner.key ≡ record { rule = node.key.rule; dot = a.dot; origin = node.key.origin; end = b.start } →
        to_walk f inner.key < to_walk f node.key
    to_before d dot b held inner key = by (is_list_part f inner.key) refl
      where
        split : Contains (map (λ c. c.start) node.alternatives) b.start
        split = contains_from (map (λ c. c.start) node.alternatives) b.start (among_map (λ (c : Alternative). c.start) b node.alternatives (among_from node.alternatives b held))

        here : rank f node.key ≡ suc (suc d)
        here = ap (λ t. cond t 4294967296 node.key.dot) (list_is ∙ later_part node.key.rule d a.symbol (subst (λ k. part_of g node.key.rule k ≡ Some a.symbol) dot a.part)) ∙ a.dot_is ∙ ap suc dot

        end_is : inner.key.end ≡ b.start
        end_is = ap (λ (k : NodeKey). k.end) key

        dot_is : inner.key.dot ≡ suc d
        dot_is = ap (λ (k : NodeKey). k.dot) key ∙ dot

        -- the front of the rule, where the parts before are one
        front : is_list_part f inner.key ≡ true → b.start < node.key.end
        front list =
            let at = slice_get-get_or (rhs_of g node.key.rule) d 0 (let lt = (get_index (rhs_of g node.key.rule) a.dot 0 a.symbol a.part).0 in omega (arith, lt, dot)) in
            let symbol : cause_symbol f inner.key ≡ slice_index_or (rhs_of g node.key.rule) d 0 =
            let one : suc d - 1 ≡ d = omega arith in (λ i. slice_index_or (rhs_of g ((key i).rule)) ((dot_is i) - 1) 0) ∙ ap (λ k. slice_index_or (rhs_of g node.key.rule) k 0) one in
            by_place d at (ap (λ s. is_list (symbol_at g s)) (sym symbol) ∙ list) dot
          where
            by_place : (k : ℕ) → part_of g node.key.rule k ≡ Some (slice_index_or (rhs_of g node.key.rule) k 0) → is_list (symbol_at g (slice_index_or (rhs_of g node.key.rule) k 0)) ≡ true → a.dot ≡ suc k → b.start < node.key.end
            by_place zero at is_one dot' =
                spans_some ((a.exact b.start).0 split).cause
                (behind_spans node.key.rule 0 (slice_index_or (rhs_of g node.key.rule) 0 0) a.symbol at is_one (subst (λ k. part_of g node.key.rule k ≡ Some a.symbol) dot' a.part))
            by_place (suc k) at is_one dot' = absurd (true≢false (sym is_one ∙ later_part node.key.rule k _ at))

        by : (t : Bool) → is_list_part f inner.key ≡ t → to_walk f inner.key < to_walk f node.key
        by false e =
            let low : rank f inner.key ≡ suc d = ap (λ t. cond t 4294967296 inner.key.dot) e ∙ dot_is in
            let le = spans_forward ((a.exact b.start).0 split).cause in
            omega (arith, low, here, end_is, le)
        by true e =
            let low : rank f inner.key ≡ 4294967296 = ap (λ t. cond t 4294967296 inner.key.dot) e in
            let lt = front e in
            omega (arith, low, here, end_is, lt)

    -- to the node of a whole rule of the list
    to_list : is_list (symbol_at g a.symbol) ≡ true → (m : ℕ) (nodes : List ℕ) → AreWholes f a.symbol m node.key.end nodes → (k : ℕ) → Among k nodes → (inner : ForestNode) → slice_get f.nodes k ≡ Some inner → to_walk f inner.key < to_walk f node.key
    to_list list m nodes wholes k among inner there =
        let (i, at) = among_get nodes k among in
        let lt = (get_index nodes i 0 k at).0 in
        let count = wholes.all in
        let rule_at' = slice_get-get_or wholes.rules i 0 (omega (arith, lt, count)) in
        let (other, e, key) = wholes.each i k (slice_index_or wholes.rules i 0) at rule_at' in
        let same : inner ≡ other = some_inj (sym there ∙ e) in
        let (over, allowed) = (wholes.exact (slice_index_or wholes.rules i 0)).0 (contains_from wholes.rules _ (get_among wholes.rules i _ rule_at')) in
        let key_is : inner.key ≡ whole_key f (slice_index_or wholes.rules i 0) m node.key.end = ap (λ (x : ForestNode). x.key) same ∙ key in
        let no = whole_ends (slice_index_or wholes.rules i 0) over.is_rule (ap (λ s. is_list (symbol_at g s)) over.left ∙ list) m node.key.end in
        let low : rank f inner.key ≡ length (rhs_of g (slice_index_or wholes.rules i 0)) = ap (rank f) key_is ∙ ap (λ t. cond t 4294967296 (length (rhs_of g (slice_index_or wholes.rules i 0)))) no in
        let high : rank f node.key ≡ 4294967296 = ap (λ t. cond t 4294967296 node.key.dot) (list_is ∙ list) in
        let short = flat.in_range.short (slice_index_or wholes.rules i 0) over.is_rule in
        let end : inner.key.end ≡ node.key.end = ap (λ (x : NodeKey). x.end) key_is in
        omega (arith, low, high, short, end)
      where
        some_inj : {x y : ForestNode} → Some x ≡ Some y → x ≡ y
        some_inj e = cc

    some_number : {x y : ForestNode} → Some x ≡ Some y → x ≡ y
    some_number e = cc

    by_option : (b : Alternative) → Contains node.alternatives b → (o : Option ℕ) (cause : Cause) (t : Bool) → is_list_part f node.key ≡ t → IsPredecessor f node.key.rule a.dot node.key.origin b.start o → IsCause f a.symbol b.start node.key.end cause →
        (m : ℕ) → Among m (option_by t o cause) → (inner : ForestNode) → slice_get f.nodes m ≡ Some inner → to_walk f inner.key < to_walk f node.key
    by_option b held (Some n) cause t list (some, (other, at, key)) h m (inl e) inner there =
        let same : inner ≡ other = some_number (sym there ∙ ap (slice_get f.nodes) (sym e) ∙ at) in
        to_before (a.dot - 1) (omega (arith, some)) b held inner (ap (λ (x : ForestNode). x.key) same ∙ key)
    by_option b held (Some n) cause t list (some, inner') h m (inr k) inner there = absurd k
    by_option b held None cause false list before h m k inner there = absurd k
    by_option b held None AnEdge true list before h m k inner there = absurd k
    by_option b held None Nothing true list before h m k inner there = absurd k
    by_option b held None (Wholes nodes) true list before h m k inner there = to_list (sym list_is ∙ list) b.start nodes h m k inner there

    pub falls : (m : ℕ) → Among m (options f node) → (inner : ForestNode) → slice_get f.nodes m ≡ Some inner → to_walk f inner.key < to_walk f node.key
    falls m among inner there =
        let (b, held, inside) = among_flat_map_from (λ (c : Alternative). option_by (is_list_part f node.key) c.predecessor c.cause) m node.alternatives among in
        let contains = contains_from node.alternatives b held in
        by_option b contains b.predecessor b.cause (is_list_part f node.key) refl (a.each b contains).predecessor (a.each b contains).cause m inside inner there

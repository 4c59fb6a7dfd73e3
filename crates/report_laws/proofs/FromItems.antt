-- What a flat form's item sets tell is told of the written grammar.
use Rattle.std.proofs.Common.{◌≡◌, ℕ, zero, suc, ◌<◌, ◌≤◌, ◌+◌, Bool, true, false, cond, not, length, ◌⊎◌, inl, inr, Option, Some, None, refl, sym, ap, ◌∙◌, subst, arith}
use Rattle.std.specs.Prelude.{◌==◌, ◌&&◌, is_some, slice_get, slice_index, slice_index_or}
use Rattle.std.proofs.lemmas.Bool.{true≢false, ne_eqb}
use Rattle.std.proofs.lemmas.Option.{slice_get-get_or}
use Rattle.finite_sets.proofs.Lists.{get_index}
use Rattle.grammar_model.specs.Grammar.{Grammar, WrittenRule, Plain, Slot, slot_of, rule_at, lhs_of, Fits, child_slot, is_even, is_item, ends_with_separator, IsChildCount}
use Rattle.grammar_model.specs.Grammar
use Rattle.grammar_model.specs.Trees.{Children, NoChild, Child, child_count}
use Rattle.grammar_model.specs.Analysis.{IsLive}
use Rattle.grammar_model.specs.Derives.{Edges}
use Rattle.grammar_model.specs.Checked.{IsChecked}
use Rattle.recognizer_model.specs.declared.Item.{Item}
use Rattle.recognizer_model.specs.declared.ReportLine.{ReportLine}
use Rattle.recognizer_model.specs.Flat.{FlatGrammar, IsRule, rhs_of, source_of, part_of}
use Rattle.recognizer_model.specs.Flat
use Rattle.recognizer_model.specs.declared.flat.FlatSymbol.{FlatSymbol}
use Rattle.recognizer_model.specs.declared.flat.FlatSymbol.TheVariants.{Terminal, Slot as AtLevel, Sequence, Top}
use Rattle.recognizer_model.specs.declared.flat.FlatSource.{FlatSource}
use Rattle.recognizer_model.specs.declared.flat.FlatSource.TheVariants.{Written, Top as OfStart}
use Rattle.recognizer_model.specs.FlatDerives.{Spans, Nothing, More}
use Rattle.recognizer_model.specs.Invariant.{IsFlat, HasSource}
use Rattle.recognizer_model.specs.Contexts
use Rattle.recognizer_model.specs.Contexts.{IsFound}
use Rattle.recognizer_model.specs.FlatForm.{Stands, AsTerminal, AsSlot, NamedRule, IsRuleOf, OfPlain, OfList, OfTrailing, OfItem, OfItems, OfSeparated, OfTop, IsFlatOf, symbol_at, named, source_number, FlatEdges}
use Rattle.recognizer_model.specs.Report.{written_dot, line_by, line_of}
use Rattle.recognizer_model.proofs.Forms
use Rattle.recognizer_model.proofs.Forms.{FlatTerminal, FlatSlot, FlatList, FlatTop, FlatNames, IsInner, IsHead, IsPart, StandsFor, IsSequence, EndsWithItem, children_of}
use Rattle.recognizer_model.proofs.Views.{in_view, parts_viewed}
use Rattle.recognizer_model.proofs.FlatNamed.{form}
use Rattle.recognizer_model.proofs.FlatJoin.{view, names, at_symbol, flat_at, is_rule, left_is, source_is, length_is, part_is, lhs_is, rhs_is, view_part, only, reads}
use Rattle.recognizer_model.proofs.FlatSound.{Alike, slot_alike, prefix_sound}
use Rattle.report_model.specs.Report.{AreFirst, MayStand, AtStart, Next, dot_behind, IsLine}

-- ---- the dots of sequences

even_next : (m : ℕ) (b : Bool) → b ≡ is_even (suc m) → is_even m ≡ not b
even_next m b e = go (is_even m) b e
  where
    go : (x b : Bool) → b ≡ not x → x ≡ not b
    go true b e = ap not (sym e)
    go false b e = ap not (sym e)

abbrev flat_dot : Bool → ℕ
flat_dot b = cond b 2 1

abbrev item_dot : Bool → ℕ
item_dot b = cond b 1 2

sequence_dots : (separator : Option ℕ) (d m : ℕ) → 0 < d → d ≤ 3 → is_item separator d ≡ is_item separator (suc m) → flat_dot ((d == 2) && is_some separator) ≡ item_dot (is_item separator m)
sequence_dots separator zero m pos le e = absurd (omega arith)
sequence_dots None (suc zero) m pos le e = refl
sequence_dots None (suc (suc zero)) m pos le e = refl
sequence_dots None (suc (suc (suc zero))) m pos le e = refl
sequence_dots (Some c) (suc zero) m pos le e = ap item_dot (sym (even_next m false e))
sequence_dots (Some c) (suc (suc zero)) m pos le e = ap item_dot (sym (even_next m true e))
sequence_dots (Some c) (suc (suc (suc zero))) m pos le e = ap item_dot (sym (even_next m false e))
sequence_dots separator (suc (suc (suc (suc d)))) m pos le e = absurd (omega arith)

-- an item's dot, and that of what its parts stand for
pub same_dot : (rule : WrittenRule) (d n : ℕ) → (IsSequence rule → d ≤ 3) → (d ≡ 0 → n ≡ 0) → Alike rule d n → written_dot rule d ≡ dot_behind rule n
same_dot (Plain r) d n short none a = a
same_dot (Grammar.Sequence r) zero n short none a = ap (dot_behind (Grammar.Sequence r)) (sym (none refl))
same_dot (Grammar.Sequence r) (suc d) zero short none a = let h = a.0 (omega arith) in absurd (omega arith)
same_dot (Grammar.Sequence r) (suc d) (suc m) short none a =
    ap (λ b. cond b 0 (flat_dot ((suc d == 2) && is_some r.separator))) (ne_eqb (suc d) 0 (λ e. omega (arith, e))) ∙ sequence_dots r.separator (suc d) m (omega arith) (short tt) a.1

-- ---- how many children there may be

no_end : (separator : Option ℕ) (n : ℕ) → ends_with_separator separator (suc (n + n)) ≡ false
no_end None n = refl
no_end (Some c) n = ap not (even n)
  where
    even : (n : ℕ) → is_even (n + n) ≡ true
    even zero = refl
    even (suc n) = let e : suc n + suc n ≡ suc (suc (n + n)) = omega arith in ap is_even e ∙ twice (is_even (n + n)) ∙ even n
      where
        twice : (b : Bool) → not (not b) ≡ b
        twice true = refl
        twice false = refl

-- as many as are there, and more where more are to come
record Room (rule : WrittenRule) (n : ℕ) (IsMore : Type 0) : Type 0 where
  all : ℕ
  complete : IsChildCount rule all
  some : 0 < all
  first : n ≤ all
  more : IsMore → n < all

room : (rule : WrittenRule) (d n parts : ℕ) → IsChildCount rule parts ⊎ IsSequence rule → Alike rule d n → d ≤ parts → 0 < parts → Room rule n (d < parts)
room (Plain r) d n parts (inl c) a le pos = let a' : d ≡ n = a in record { all = parts; complete = c; some = pos; first = omega arith; more = λ lt. omega arith }
room (Plain r) d n parts (inr q) a le pos = absurd q
room (Grammar.Sequence r) d n parts c a le pos = record {
  all = suc (n + n);
  complete = (omega arith, λ t. absurd (true≢false (sym t ∙ no_end r.separator n)));
  some = omega arith;
  first = omega arith;
  more = λ lt. omega arith;
}

is_sequence : (rule : WrittenRule) (n : ℕ) → EndsWithItem rule n → IsSequence rule
is_sequence (Plain r) n e = e
is_sequence (Grammar.Sequence r) n e = tt

list_slot : (rule : WrittenRule) (slot : Slot) → IsSequence rule → Fits rule slot → slot ≡ slot_of (lhs_of rule)
list_slot (Plain r) slot q fits = absurd q
list_slot (Grammar.Sequence r) slot q fits = let level : slot.level ≡ 0 = (let h = fits.1 in omega arith) in λ i. record { symbol = sym fits.0 i; level = level i }

inner_or_top : (s : FlatSymbol) → IsInner (form s) ⊎ ((k : ℕ) × (s ≡ Top k))
inner_or_top (Terminal t) = inl tt
inner_or_top (AtLevel s k) = inl tt
inner_or_top (Sequence i) = inl tt
inner_or_top (Top k) = inr (k, refl)

no_children : (cs : Children) → child_count cs ≡ 0 → cs ≡ NoChild
no_children NoChild e = refl
no_children (Child prefix last) e = absurd (omega arith)

-- ---- flat rules that are no top's

record Source (w : Grammar) (name : NamedRule) : Type 0 where
  number : ℕ
  is : name.source ≡ Written number
  in_range : number < length w.rules
  live : IsLive w (rule_at w number)
  short : IsSequence (rule_at w number) → length name.right ≤ 3

source : (w : Grammar) (name : NamedRule) → IsRuleOf w name → IsInner (form name.left) → Source w name
source w name (OfPlain i s k r right lt is some live fits used len stand) inner =
    record { number = i; is = refl; in_range = lt; live = subst (IsLive w) (sym is) live; short = λ q. absurd (subst IsSequence is q) }
source w name (OfList i r (q, lt, is', live, used) is) inner = record { number = i; is = refl; in_range = lt; live = subst (IsLive w) (sym is') live; short = λ q. omega arith }
source w name (OfTrailing i c' r c (q, lt, is', live, used) is sep proper prod st) inner =
    record { number = i; is = refl; in_range = lt; live = subst (IsLive w) (sym is') live; short = λ q. omega arith }
source w name (OfItem i r b (q, lt, is', live, used) is st) inner = record { number = i; is = refl; in_range = lt; live = subst (IsLive w) (sym is') live; short = λ q. omega arith }
source w name (OfItems i r b (q, lt, is', live, used) is none st) inner =
    record { number = i; is = refl; in_range = lt; live = subst (IsLive w) (sym is') live; short = λ q. omega arith }
source w name (OfSeparated i c' r b c (q, lt, is', live, used) is sep prod st st') inner =
    record { number = i; is = refl; in_range = lt; live = subst (IsLive w) (sym is') live; short = λ q. omega arith }
source w name (OfTop k start s at st) inner = absurd inner

module _ (f : FlatGrammar) (w : Grammar) (flat : IsFlat f) (made : IsFlatOf f w) (checked : IsChecked w) (edge : Edges) where
  abbrev F : Grammar
  F = view f w flat made checked

  abbrev n : FlatNames
  n = names f w flat made checked

  abbrev E : Edges
  E = FlatEdges f edge

  laws : Forms.IsFlatOf F w n E edge
  laws = reads f w flat made checked edge

  spans_within : {r d p q : ℕ} {cs : Children} → Spans f E r d p q cs → d ≤ length (rhs_of f r)
  spans_within Nothing = omega arith
  spans_within (More {r = r} {d = d} {x = x} s e t) = let h = get_index (rhs_of f r) d 0 x e in let lt = h.0 in omega arith

  spans_nothing : {r d p q : ℕ} {cs : Children} → Spans f E r d p q cs → d ≡ 0 → p ≡ q
  spans_nothing Nothing e = refl
  spans_nothing (More s at t) e = absurd (omega arith)

  source_at : (r : ℕ) → IsRule f r → IsInner (n.symbol (n.lhs r)) → Source w (named f (flat_at f w flat made checked r))
  source_at r rule inner =
      source w (named f (flat_at f w flat made checked r)) (is_rule f w flat made checked r rule)
      (subst (λ z. IsInner (form z)) (ap (symbol_at f) (lhs_is f w flat made checked r rule) ∙ sym (left_is f w flat made checked r)) inner)

  module _ (start top : ℕ) (top_is : slice_get f.tops start ≡ Some top) where
    -- what stands where a flat symbol does
    abbrev Stood : Forms.FlatSymbol → ℕ → Type 0
    Stood (FlatTerminal s) p = MayStand w edge start (slot_of s) p
    Stood (FlatSlot slot) p = MayStand w edge start slot p
    Stood (FlatList i) p = MayStand w edge start (slot_of (lhs_of (rule_at w i))) p
    Stood (FlatTop k) p = (k ≡ start) × (p ≡ 0)

    stood_for : (symbol : Forms.FlatSymbol) (slot : Slot) (p : ℕ) → StandsFor symbol slot → MayStand w edge start slot p → Stood symbol p
    stood_for (FlatTerminal s) slot p e m = subst (λ z. MayStand w edge start z p) e m
    stood_for (FlatSlot s) slot p e m = subst (λ z. MayStand w edge start z p) e m
    stood_for (FlatList i) slot p e m = absurd e
    stood_for (FlatTop k) slot p e m = absurd e

    record Under (i p : ℕ) : Type 0 where
      slot : Slot
      stands : MayStand w edge start slot p
      fits : Fits (rule_at w i) slot

    under : (symbol : Forms.FlatSymbol) (i p parts : ℕ) → IsHead w symbol i parts → IsInner symbol → Stood symbol p → Under i p
    under (FlatTerminal s) i p parts h inner st = absurd h
    under (FlatSlot slot) i p parts h inner st = record { slot = slot; stands = st; fits = h.1 }
    under (FlatList j) i p parts h inner st = record {
      slot = slot_of (lhs_of (rule_at w i));
      stands = subst (λ z. MayStand w edge start (slot_of (lhs_of (rule_at w z))) p) (sym h.0) st;
      fits = (refl, omega arith);
    }
    under (FlatTop k) i p parts h inner st = absurd inner

    counted : (symbol : Forms.FlatSymbol) (i parts : ℕ) → IsHead w symbol i parts → IsInner symbol → IsChildCount (rule_at w i) parts ⊎ IsSequence (rule_at w i)
    counted (FlatTerminal s) i parts h inner = absurd h
    counted (FlatSlot slot) i parts h inner = inl h.2
    counted (FlatList j) i parts h inner = inr (is_sequence (rule_at w i) parts h.1)
    counted (FlatTop k) i parts h inner = absurd inner

    -- the first parts of a flat rule, in terms of its written rule
    record Begun (r d p q : ℕ) (cs : Children) : Type 0 where
      slot : Slot
      stands : MayStand w edge start slot p
      all : ℕ
      first : AreFirst w edge slot (n.source r) all p q (children_of n cs)
      more : d < length (n.rhs r) → child_count (children_of n cs) < all
      alike : Alike (rule_at w (n.source r)) d (child_count (children_of n cs))
      none : d ≡ 0 → child_count (children_of n cs) ≡ 0
      short : IsSequence (rule_at w (n.source r)) → d ≤ 3

    begun : (r d p q : ℕ) (cs : Children) → IsRule f r → IsInner (n.symbol (n.lhs r)) → Stood (n.symbol (n.lhs r)) p → Spans f E r d p q cs → Begun r d p q cs
    begun r d p q cs rule inner st s =
        let v = parts_viewed f flat.marks E (only f w flat made checked edge) flat.no_rules flat.terminals_span rule s in
        let le = spans_within s in
        let same = ap length (rhs_is f w flat made checked r rule) in
        let some = flat.some r rule in
        let count = v.1 in
        let fs = prefix_sound F w n E edge laws cs r p q (in_view f r rule) inner (omega (arith, le, same, count)) v.0 in
        let head = laws.head r (in_view f r rule) (omega (arith, same, some)) in
        let u = under (n.symbol (n.lhs r)) (n.source r) p (length (n.rhs r)) head inner st in
        let src = source_at r rule inner in
        let number : src.number ≡ n.source r = ap (source_number w) (sym src.is ∙ source_is f w flat made checked r) in
        let alike = subst (λ z. Alike (rule_at w (n.source r)) z (child_count (children_of n cs))) count fs.1 in
        let o = room (rule_at w (n.source r)) d (child_count (children_of n cs)) (length (n.rhs r)) (counted (n.symbol (n.lhs r)) (n.source r) (length (n.rhs r)) head inner) alike
        (omega (arith, le, same)) (omega (arith, same, some)) in
        record {
          slot = u.slot;
          stands = u.stands;
          all = o.all;
          first = record {
            in_range = subst (λ z. z < length w.rules) number src.in_range;
            fits = u.fits;
            live = subst (λ z. IsLive w (rule_at w z)) number src.live;
            complete = o.complete;
            some = o.some;
            first = o.first;
            prefix = fs.0;
          };
          more = o.more;
          alike = alike;
          none = λ e. ap (λ c. child_count (children_of n c)) (no_children cs (count ∙ e));
          short = λ q. (let l = src.short (subst (λ z. IsSequence (rule_at w z)) (sym number) q) in let len = length_is f w flat made checked r in omega (arith, l, len, le));
        }

    -- what comes next
    next : (r d p q x : ℕ) (cs : Children) → IsRule f r → IsInner (n.symbol (n.lhs r)) → Begun r d p q cs → Spans f E r d p q cs → part_of f r d ≡ Some x → Stood (n.symbol x) q
    next r d p q x cs rule inner b s e =
        let same = rhs_is f w flat made checked r rule in
        let (lt, is) = get_index (rhs_of f r) d 0 x e in
        let len = ap length same in
        let part : slice_index (n.rhs r) d ≡ x = ap (λ z. slice_index z d) same ∙ is in
        subst (λ z. Stood (n.symbol z) q) part (go (slice_index (n.rhs r) d) (omega (arith, lt, len)) (view_part f w flat made checked r d (in_view f r rule) (omega (arith, lt, len)) inner))
      where
        go : (y : ℕ) → d < length (n.rhs r) → IsPart w (n.symbol y) (n.source r) d → Stood (n.symbol y) q
        go y lt (inl st) =
            stood_for (n.symbol y) (child_slot (rule_at w (n.source r)) d) q st
            (subst (λ z. MayStand w edge start z q) (sym (slot_alike (rule_at w (n.source r)) d _ b.alike)) (Next b.stands b.first (b.more lt)))
        go y lt (inr (zero_is, is, sq)) =
            subst (λ z. Stood z q) (sym is)
            (subst (λ z. MayStand w edge start (slot_of (lhs_of (rule_at w (n.source r)))) z) (spans_nothing s zero_is)
            (subst (λ z. MayStand w edge start z p) (list_slot (rule_at w (n.source r)) b.slot sq b.first.fits) b.stands))

    -- the part of the start's top is the start
    top_part : (name : NamedRule) → IsRuleOf w name → (k d : ℕ) → name.left ≡ Top k → k ≡ start → d < length name.right → (d ≡ 0) × Stood (form (slice_index_or name.right d (Top 0))) 0
    top_part name (OfPlain i s l r right lt is some live fits used len stand) k d e same h = cc
    top_part name (OfList i r s is) k d e same h = cc
    top_part name (OfTrailing i x r c s is sep proper prod st) k d e same h = cc
    top_part name (OfItem i r b s is st) k d e same h = cc
    top_part name (OfItems i r b s is none st) k d e same h = cc
    top_part name (OfSeparated i x r b c s is sep prod st st') k d e same h = cc
    top_part name (OfTop l symbol s at st) k (suc d) e same h = absurd (omega arith)
    top_part name (OfTop l symbol s at st) k zero e same h =
        let place : l ≡ k = cc in
        (refl, go s st (subst (λ z. slice_get w.starts z ≡ Some symbol) (place ∙ same) at))
      where
        go : (s : FlatSymbol) → Stands w (slot_of symbol) s → slice_get w.starts start ≡ Some symbol → Stood (form s) 0
        go s (AsTerminal t) at = AtStart at
        go s (AsSlot other) at = AtStart at

    stood : {x p : ℕ} → Contexts.MayStand f E top x p → Stood (n.symbol x) p
    stood (Contexts.AtStart {x = x} e) =
        let is : symbol_at f x ≡ Top start = ap (symbol_at f) (sym e) ∙ at_symbol f w flat made checked (Flat.lhs_of f top) (Top start) (flat.tops start top top_is).symbol in
        subst (λ z. Stood (form z) 0) (sym is) (refl, refl)
    stood (Contexts.Next {y = y} {p = p} {r = r} {d = d} {q = q} {x = x} {cs = cs} m rule l s e) = go (stood m) (inner_or_top (symbol_at f (n.lhs r)))
      where
        left : n.lhs r ≡ y
        left = lhs_is f w flat made checked r rule ∙ l

        go : Stood (n.symbol y) p → IsInner (n.symbol (n.lhs r)) ⊎ ((k : ℕ) × (symbol_at f (n.lhs r) ≡ Top k)) → Stood (n.symbol x) q
        go ih (inl inner) = next r d p q x cs rule inner (begun r d p q cs rule inner (subst (λ z. Stood (n.symbol z) p) (sym left) ih) s) s e
        go ih (inr (k, is)) =
            let here : Stood (form (Top k)) p = subst (λ z. Stood (form z) p) (ap (symbol_at f) (sym left) ∙ is) ih in
            let (lt, at) = get_index (rhs_of f r) d 0 x e in
            let len = length_is f w flat made checked r in
            let (zero_is, st) = top_part (named f (flat_at f w flat made checked r)) (is_rule f w flat made checked r rule) k d
            (left_is f w flat made checked r ∙ ap (symbol_at f) (sym (lhs_is f w flat made checked r rule)) ∙ is) here.0 (omega (arith, lt, len)) in
            let symbol : slice_index_or (named f (flat_at f w flat made checked r)).right d (Top 0) ≡ symbol_at f x = part_is f w flat made checked r d lt ∙ ap (symbol_at f) at in
            subst (λ z. Stood (n.symbol x) z) (sym here.1 ∙ spans_nothing s zero_is) (subst (λ z. Stood (form z) 0) symbol st)

    -- an item's line
    pub written_line : (place : ℕ) (item : Item) (line : ReportLine) → IsFound f E top place item → line_of w f item ≡ Some line → IsLine w edge start place line
    written_line place item line found told = by_source (source_of f item.rule) refl told
      where
        in_line : (i : ℕ) → source_of f item.rule ≡ Written i → (record { rule = i; dot = written_dot (rule_at w i) item.dot; origin = item.origin } ≡ line) → IsInner (n.symbol (n.lhs item.rule)) ⊎ ((k : ℕ) × (symbol_at f (n.lhs item.rule) ≡ Top k)) →
            IsLine w edge start place line
        in_line i is same (inl inner) =
            let left = lhs_is f w flat made checked item.rule found.is_rule in
            let b = begun item.rule item.dot item.origin place found.children found.is_rule inner (subst (λ z. Stood (n.symbol z) item.origin) (sym left) (stood found.may_stand)) found.spans in
            let number : n.source item.rule ≡ i = ap (source_number w) is in
            subst (IsLine w edge start place) same (record {
              slot = b.slot;
              stands = b.stands;
              all = b.all;
              children = children_of n found.children;
              first = subst (λ z. AreFirst w edge b.slot z b.all item.origin place (children_of n found.children)) number b.first;
              dot_is = ap (λ z. written_dot (rule_at w z) item.dot) (sym number) ∙ same_dot (rule_at w (n.source item.rule)) item.dot _ b.short b.none b.alike
                  ∙ ap (λ z. dot_behind (rule_at w z) (child_count (children_of n found.children))) number;
            })
        in_line i is same (inr (k, top)) =
            let left = lhs_is f w flat made checked item.rule found.is_rule in
            let symbol : slice_get f.symbols (Flat.lhs_of f item.rule) ≡ Some (Top k) =
            slice_get-get_or f.symbols (Flat.lhs_of f item.rule) (Top 0) (flat.in_range.left item.rule found.is_rule) ∙ ap Some (ap (symbol_at f) (sym left) ∙ top) in
            absurd (subst (HasSource (Top k)) is (flat.sources item.rule (Top k) found.is_rule symbol))

        by_source : (o : FlatSource) → source_of f item.rule ≡ o → line_by w o item ≡ Some line → IsLine w edge start place line
        by_source (Written i) is told = in_line i is (cc told) (inner_or_top (symbol_at f (n.lhs item.rule)))
        by_source (OfStart s) is told = absurd (cc told)

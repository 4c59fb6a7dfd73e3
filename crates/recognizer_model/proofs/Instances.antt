-- S ::= X*, X a terminal, with its top: the premises of the law of flat forms are met.
use Rattle.std.proofs.Common.{◌≡◌, ◌≢◌, ℕ, zero, suc, ◌<◌, ◌≤◌, ◌+◌, ◌-◌, Bool, true, false, List, [], ◌∷◌, map, length, ◌⊎◌, inl, inr, Option, Some, None, refl, sym, ap, ◌∙◌, subst, arith, lit<, lit≤}
use Rattle.std.specs.Prelude.{slice_get, slice_index, slice_index_or, Contains, ◌↔◌, pos, ◌^◌}
use Rattle.std.specs.List.{AllPairs}
use Rattle.grammar_model.specs.Grammar.{SequenceRule, WrittenRule, Plain, Grammar, rule_at, slot_of, child_slot, IsTerminal}
use Rattle.grammar_model.specs.Grammar
use Rattle.grammar_model.specs.Analysis.{IsNullable, IsNullableIn, IsProductive, IsAccessible, IsAccessibleIn, LeadsTo}
use Rattle.grammar_model.specs.Cycles.{HasHeights}
use Rattle.grammar_model.specs.Checked.{IsChecked, IsCountedNullable}
use Rattle.grammar_model.proofs.Cycles.{no_cycle}
use Rattle.grammar_model.proofs.Total.{nullable_not_terminal}
use Rattle.recognizer_model.specs.Flat
use Rattle.recognizer_model.specs.Flat.{FlatGrammar, FlatRule, IsRule, lhs_of, rhs_of, part_of, source_of}
use Rattle.recognizer_model.specs.declared.flat.FlatSymbol.{FlatSymbol}
use Rattle.recognizer_model.specs.declared.flat.FlatSymbol.TheVariants.{Terminal, Slot, Sequence, Top}
use Rattle.recognizer_model.specs.declared.flat.FlatSource.{FlatSource}
use Rattle.recognizer_model.specs.declared.flat.FlatSource.TheVariants.{Written, Top as OfStart}
use Rattle.recognizer_model.specs.Acceptable
use Rattle.recognizer_model.specs.Acceptable.{Itself, Marked, ByRule, Both}
use Rattle.recognizer_model.specs.Contexts.{IsTop}
use Rattle.recognizer_model.specs.Invariant
use Rattle.recognizer_model.specs.Invariant.{IsFlat, IsTopOf, IsInRange, HasSource, LeadsOver, Outermost, Below}
use Rattle.recognizer_model.specs.FlatForm.{IsSymbolOf, Stands, AsTerminal, AsSlot, NamedRule, IsRuleOf, OfPlain, OfList, OfTrailing, OfItem, OfItems, OfSeparated, OfTop, symbol_at, named, SpansNothing, IsFlatOf}
use Rattle.recognizer_model.proofs.FlatNamed.{stand_one}

abbrev stars : SequenceRule
stars = record { lhs = 0; item = 1; plus = false; separator = None; proper = false; rank = pos 0; null_high = false }

abbrev w : Grammar
w = record { names = []; rules = Grammar.Sequence stars ∷ []; starts = 0 ∷ [] }

abbrev flat_rule : ℕ → List ℕ → FlatSource → FlatRule
flat_rule lhs rhs source = record { lhs = lhs; rhs = rhs; source = source }

abbrev f : FlatGrammar
f = record {
  symbols = Terminal 1 ∷ Slot 0 0 ∷ Sequence 0 ∷ Top 0 ∷ [];
  nullable = false ∷ true ∷ false ∷ true ∷ [];
  rules = flat_rule 1 (2 ∷ []) (Written 0) ∷ flat_rule 2 (2 ∷ 0 ∷ []) (Written 0) ∷ flat_rule 2 (0 ∷ []) (Written 0) ∷ flat_rule 3 (1 ∷ []) (OfStart 0) ∷ [];
  tops = 3 ∷ [];
}

differs : (m n : ℕ) → m ≡ n → n < m → ⊥
differs m n e lt = omega arith

-- ---- the written grammar

item_terminal : IsTerminal w 1
item_terminal zero lt e = omega arith
item_terminal (suc i) lt e = omega arith

left_not : IsTerminal w 0 → ⊥
left_not t = t 0 (lit< tt) refl

item_productive : IsProductive w (slot_of 1)
item_productive = (0, item_terminal)

start_nullable : IsNullable w (slot_of 0)
start_nullable = (1, (0, lit< tt, (refl, lit≤ tt), inl refl))

start_productive : IsProductive w (slot_of 0)
start_productive = (1, inr (0, lit< tt, (refl, lit≤ tt), inl refl))

start_accessible : IsAccessible w (slot_of 0)
start_accessible = (0, (0, (0, lit< tt, refl), refl))

item_accessible : IsAccessible w (slot_of 1)
item_accessible = (1, (slot_of 0, (0, (0, lit< tt, refl), refl), item_productive, (0, lit< tt, (refl, lit≤ tt), (item_productive, (0, lit< tt, refl)))))

abbrev IsOneOf : Grammar.Slot → Type 0
IsOneOf slot = (slot ≡ slot_of 0) ⊎ (slot ≡ slot_of 1)

only : (k : ℕ) (slot : Grammar.Slot) → IsAccessibleIn k w slot → IsOneOf slot
only zero slot (s, (zero, lt, e), is) = inl (is ∙ ap slot_of (sym e))
only zero slot (s, (suc k, lt, e), is) = absurd (omega arith)
only (suc k) slot (above, acc, prod, (zero, lt, fits, (live, (j, klt, e)))) = inr (sym e)
only (suc k) slot (above, acc, prod, (suc i, lt, fits, (live, child))) = absurd (omega arith)

abbrev seq_of : WrittenRule → SequenceRule
seq_of (Plain r) = stars
seq_of (Grammar.Sequence r) = r

abbrev tag : WrittenRule → ℕ
tag (Plain r) = 0
tag (Grammar.Sequence r) = 1

abbrev height_of : ℕ → ℕ
height_of zero = 1
height_of (suc n) = 0

leads : (s t : Grammar.Slot) → LeadsTo w s t → height_of t.symbol < height_of s.symbol
leads s t (zero, lt, fits, e) =
    subst (λ z. height_of t.symbol < height_of z) fits.0 (subst (λ z. height_of z < 1) (ap (λ (z : Grammar.Slot). z.symbol) e) (lit< tt))
leads s t (suc i, lt, fits, e) = absurd (omega arith)

heights : HasHeights w
heights = record { height = λ s. height_of s.symbol; falls = λ s t a p l. leads s t l }

checked : IsChecked w
checked = record {
  some_rule = lit< tt;
  some_start = lit< tt;
  starts_left = λ s c. left s c;
  sequences_alone = λ i j li lj r is e. omega arith;
  rules_differ = λ i lt d. (let less = d.3 in omega arith);
  items_span = counted;
  starts_productive = λ s c. productive s c;
  acyclic = no_cycle w heights;
  heights = heights;
}
  where
    left : (s : ℕ) → Contains (0 ∷ []) s → (i : ℕ) × (i < 1) × (Grammar.lhs_of (rule_at w i) ≡ s)
    left s (zero, lt, e) = (0, lit< tt, e)
    left s (suc k, lt, e) = absurd (omega arith)

    productive : (s : ℕ) → Contains (0 ∷ []) s → IsProductive w (slot_of s)
    productive s (zero, lt, e) = subst (λ z. IsProductive w (slot_of z)) e start_productive
    productive s (suc k, lt, e) = absurd (omega arith)

    counted : (i : ℕ) → i < 1 → IsCountedNullable w i → ⊥
    counted zero lt (r, is, (k, klt, n)) = nullable_not_terminal w (slot_of 1) (subst (λ (q : SequenceRule). IsNullable w (child_slot (Grammar.Sequence q) k)) (sym (ap seq_of is)) n) item_terminal
    counted (suc i) lt c = omega arith

-- ---- the symbols

list_symbol : IsSymbolOf w (Sequence 0)
list_symbol = (stars, lit< tt, refl, item_productive, (start_accessible, start_productive))

symbol_of : (x : FlatSymbol) → Contains f.symbols x → IsSymbolOf w x
symbol_of x (zero, lt, e) = let p : IsSymbolOf w (Terminal 1) = (item_terminal, (item_accessible, item_productive)) in subst (IsSymbolOf w) e p
symbol_of x (suc zero, lt, e) = let p : IsSymbolOf w (Slot 0 0) = (left_not, (start_accessible, start_productive)) in subst (IsSymbolOf w) e p
symbol_of x (suc (suc zero), lt, e) = subst (IsSymbolOf w) e list_symbol
symbol_of x (suc (suc (suc zero)), lt, e) = let p : IsSymbolOf w (Top 0) = lit< tt in subst (IsSymbolOf w) e p
symbol_of x (suc (suc (suc (suc k))), lt, e) = absurd (omega arith)

at_terminal : (t : ℕ) → IsTerminal w t → IsOneOf (slot_of t) → Contains f.symbols (Terminal t)
at_terminal t ter (inl e) = absurd (left_not (subst (IsTerminal w) (ap (λ (z : Grammar.Slot). z.symbol) e) ter))
at_terminal t ter (inr e) = (0, lit< tt, ap (λ (z : Grammar.Slot). Terminal z.symbol) (sym e))

at_slot : (s k : ℕ) → (IsTerminal w s → ⊥) → IsOneOf (record { symbol = s; level = k }) → Contains f.symbols (Slot s k)
at_slot s k other (inl e) = (1, lit< tt, ap (λ (z : Grammar.Slot). Slot z.symbol z.level) (sym e))
at_slot s k other (inr e) = absurd (other (subst (IsTerminal w) (sym (ap (λ (z : Grammar.Slot). z.symbol) e)) item_terminal))

symbol_in : (x : FlatSymbol) → IsSymbolOf w x → Contains f.symbols x
symbol_in (Terminal t) (ter, (acc, prod)) = at_terminal t ter (only acc.0 (slot_of t) acc.1)
symbol_in (Slot s k) (other, (acc, prod)) = at_slot s k other (only acc.0 (record { symbol = s; level = k }) acc.1)
symbol_in (Sequence zero) h = (2, lit< tt, refl)
symbol_in (Sequence (suc i)) h = let lt : suc i < 1 = h.1 in absurd (omega arith)
symbol_in (Top zero) lt = (3, lit< tt, refl)
symbol_in (Top (suc k)) h = let lt : suc k < 1 = h in absurd (omega arith)

abbrev code : FlatSymbol → ℕ
code (Terminal t) = 0
code (Slot s k) = 1
code (Sequence i) = 2
code (Top k) = 3

coded : (i : ℕ) (d : FlatSymbol) → i < 4 → code (slice_index_or f.symbols i d) ≡ i
coded zero d lt = refl
coded (suc zero) d lt = refl
coded (suc (suc zero)) d lt = refl
coded (suc (suc (suc zero))) d lt = refl
coded (suc (suc (suc (suc k)))) d lt = absurd (omega arith)

symbols_once : AllPairs (λ x y. x ≢ y) f.symbols
symbols_once i j d lt lj e =
    let a : code (slice_index_or f.symbols i d) ≡ i = coded i d (omega arith) in
    let b : code (slice_index_or f.symbols j d) ≡ j = coded j d lj in
    let same : i ≡ j = sym a ∙ ap code e ∙ b in
    omega arith

-- ---- the rules

abbrev made : FlatSymbol → List FlatSymbol → FlatSource → NamedRule
made left right source = record { left = left; right = right; source = source }

abbrev rules : List NamedRule
rules = map (named f) f.rules

rule_of : (x : NamedRule) → Contains rules x → IsRuleOf w x
rule_of x (zero, lt, e) = let p : IsRuleOf w (made (Slot 0 0) (Sequence 0 ∷ []) (Written 0)) = OfList 0 stars list_symbol refl in subst (IsRuleOf w) e p
rule_of x (suc zero, lt, e) = let p : IsRuleOf w (made (Sequence 0) (Sequence 0 ∷ Terminal 1 ∷ []) (Written 0)) = OfItems 0 stars (Terminal 1) list_symbol refl refl (AsTerminal item_terminal) in subst (IsRuleOf w) e p
rule_of x (suc (suc zero), lt, e) = let p : IsRuleOf w (made (Sequence 0) (Terminal 1 ∷ []) (Written 0)) = OfItem 0 stars (Terminal 1) list_symbol refl (AsTerminal item_terminal) in subst (IsRuleOf w) e p
rule_of x (suc (suc (suc zero)), lt, e) = let p : IsRuleOf w (made (Top 0) (Slot 0 0 ∷ []) (OfStart 0)) = OfTop 0 0 (Slot 0 0) refl (AsSlot left_not) in subst (IsRuleOf w) e p
rule_of x (suc (suc (suc (suc k))), lt, e) = absurd (omega arith)

item_is : (r : SequenceRule) (b : FlatSymbol) → stars ≡ r → Stands w (slot_of r.item) b → Terminal 1 ≡ b
item_is r b is st =
    let ter : IsTerminal w r.item = subst (λ (q : SequenceRule). IsTerminal w q.item) is item_terminal in
    let same : Terminal 1 ≡ Terminal r.item = ap (λ (q : SequenceRule). Terminal q.item) is in
    let one : Stands w (slot_of r.item) (Terminal r.item) = AsTerminal ter in
    same ∙ stand_one w one st

no_separator : (r : SequenceRule) (separator : ℕ) → stars ≡ r → r.separator ≡ Some separator → ⊥
no_separator r separator is some = let e : None ≡ Some separator = ap (λ (q : SequenceRule). q.separator) is ∙ some in cc

start_is : (start : ℕ) (s : FlatSymbol) → 0 ≡ start → Stands w (slot_of start) s → Slot 0 0 ≡ s
start_is start s is st =
    let no : IsTerminal w start → ⊥ = subst (λ z. IsTerminal w z → ⊥) is left_not in
    let same : Slot 0 0 ≡ Slot start 0 = ap (λ z. Slot z 0) is in
    let one : Stands w (slot_of start) (Slot start 0) = AsSlot no in
    same ∙ stand_one w one st

rule_in : {x : NamedRule} → IsRuleOf w x → Contains rules x
rule_in (OfPlain zero s k r right lt is some live fits used len all) = absurd (differs 1 0 (ap tag is) (lit< tt))
rule_in (OfPlain (suc i) s k r right lt is some live fits used len all) = absurd (omega arith)
rule_in (OfList zero r s is) =
    (0, lit< tt, ap (λ (q : SequenceRule). made (Slot q.lhs 0) (Sequence 0 ∷ []) (Written 0)) (ap seq_of is))
rule_in (OfList (suc i) r s is) = let lt' : suc i < 1 = s.1 in absurd (omega arith)
rule_in (OfTrailing zero separator r c s is some proper productive st) = absurd (no_separator r separator (ap seq_of is) some)
rule_in (OfTrailing (suc i) separator r c s is some proper productive st) = let lt' : suc i < 1 = s.1 in absurd (omega arith)
rule_in (OfItem zero r b s is st) = (2, lit< tt, ap (λ (z : FlatSymbol). made (Sequence 0) (z ∷ []) (Written 0)) (item_is r b (ap seq_of is) st))
rule_in (OfItem (suc i) r b s is st) = let lt' : suc i < 1 = s.1 in absurd (omega arith)
rule_in (OfItems zero r b s is none st) = (1, lit< tt, ap (λ (z : FlatSymbol). made (Sequence 0) (Sequence 0 ∷ z ∷ []) (Written 0)) (item_is r b (ap seq_of is) st))
rule_in (OfItems (suc i) r b s is none st) = let lt' : suc i < 1 = s.1 in absurd (omega arith)
rule_in (OfSeparated zero separator r b c s is some productive st st') = absurd (no_separator r separator (ap seq_of is) some)
rule_in (OfSeparated (suc i) separator r b c s is some productive st st') = let lt' : suc i < 1 = s.1 in absurd (omega arith)
rule_in (OfTop zero start s e st) = let h : 0 ≡ start = cc in (3, lit< tt, ap (λ (z : FlatSymbol). made (Top 0) (z ∷ []) (OfStart 0)) (start_is start s h st))
rule_in (OfTop (suc k) start s e st) = cc

abbrev place : FlatSymbol → ℕ → ℕ
place (Terminal t) n = 0
place (Slot s k) n = 0
place (Sequence i) n = 3 - n
place (Top k) n = 3

abbrev place_of : NamedRule → ℕ
place_of r = place r.left (length r.right)

placed : (i : ℕ) (d : NamedRule) → i < 4 → place_of (slice_index_or rules i d) ≡ i
placed zero d lt = refl
placed (suc zero) d lt = refl
placed (suc (suc zero)) d lt = refl
placed (suc (suc (suc zero))) d lt = refl
placed (suc (suc (suc (suc k)))) d lt = absurd (omega arith)

rules_once : AllPairs (λ x y. x ≢ y) rules
rules_once i j d lt lj e =
    let a : place_of (slice_index_or rules i d) ≡ i = placed i d (omega arith) in
    let b : place_of (slice_index_or rules j d) ≡ j = placed j d lj in
    let same : i ≡ j = sym a ∙ ap place_of e ∙ b in
    omega arith

marks : (x : ℕ) (s : FlatSymbol) → slice_get f.symbols x ≡ Some s → (slice_get f.nullable x ≡ Some true) ↔ SpansNothing w s
marks zero s e = let h : Terminal 1 ≡ s = cc in subst (λ z. (slice_get f.nullable 0 ≡ Some true) ↔ SpansNothing w z) h ((λ c. cc), (λ n. absurd n))
marks (suc zero) s e = let h : Slot 0 0 ≡ s = cc in subst (λ z. (slice_get f.nullable 1 ≡ Some true) ↔ SpansNothing w z) h ((λ c. start_nullable), (λ n. refl))
marks (suc (suc zero)) s e = let h : Sequence 0 ≡ s = cc in subst (λ z. (slice_get f.nullable 2 ≡ Some true) ↔ SpansNothing w z) h ((λ c. cc), (λ n. absurd n))
marks (suc (suc (suc zero))) s e = let h : Top 0 ≡ s = cc in subst (λ z. (slice_get f.nullable 3 ≡ Some true) ↔ SpansNothing w z) h ((λ c. (0, refl, start_nullable)), (λ n. refl))
marks (suc (suc (suc (suc x)))) s e = cc

top_at : (k r : ℕ) → slice_get f.tops k ≡ Some r → IsRule f r × (symbol_at f (lhs_of f r) ≡ Top k)
top_at zero r e = let h : 3 ≡ r = cc in subst (λ z. IsRule f z × (symbol_at f (lhs_of f z) ≡ Top 0)) h (lit< tt, refl)
top_at (suc k) r e = cc

made_of : IsFlatOf f w
made_of = record {
  symbols = record { once = symbols_once; exact = λ x. (symbol_of x, symbol_in x) };
  rules = record { once = rules_once; exact = λ x. (rule_of x, λ h. rule_in h) };
  marks_all = refl;
  marks = marks;
  tops_all = refl;
  tops = top_at;
}

-- ---- the invariant

short : (r : ℕ) → r < 4 → length (rhs_of f r) < 2 ^ 32
short zero lt = lit< tt
short (suc zero) lt = lit< tt
short (suc (suc zero)) lt = lit< tt
short (suc (suc (suc zero))) lt = lit< tt
short (suc (suc (suc (suc r)))) lt = absurd (omega arith)

left_in : (r : ℕ) → r < 4 → lhs_of f r < length f.symbols
left_in zero lt = lit< tt
left_in (suc zero) lt = lit< tt
left_in (suc (suc zero)) lt = lit< tt
left_in (suc (suc (suc zero))) lt = lit< tt
left_in (suc (suc (suc (suc r)))) lt = absurd (omega arith)

-- the parts of a rule, one by one
by_parts : (P : (r position x : ℕ) → Type 0) → P 0 0 2 → P 1 0 2 → P 1 1 0 → P 2 0 0 → P 3 0 1 → (r position x : ℕ) → part_of f r position ≡ Some x → P r position x
by_parts P a b c d t zero zero x e = let h : 2 ≡ x = cc in subst (P 0 0) h a
by_parts P a b c d t zero (suc k) x e = cc
by_parts P a b c d t (suc zero) zero x e = let h : 2 ≡ x = cc in subst (P 1 0) h b
by_parts P a b c d t (suc zero) (suc zero) x e = let h : 0 ≡ x = cc in subst (P 1 1) h c
by_parts P a b c d t (suc zero) (suc (suc k)) x e = cc
by_parts P a b c d t (suc (suc zero)) zero x e = let h : 0 ≡ x = cc in subst (P 2 0) h d
by_parts P a b c d t (suc (suc zero)) (suc k) x e = cc
by_parts P a b c d t (suc (suc (suc zero))) zero x e = let h : 1 ≡ x = cc in subst (P 3 0) h t
by_parts P a b c d t (suc (suc (suc zero))) (suc k) x e = cc
by_parts P a b c d t (suc (suc (suc (suc r)))) k x e = cc

-- a symbol's number tells its kind
kind : (x : ℕ) (s : FlatSymbol) → slice_get f.symbols x ≡ Some s → code s ≡ x
kind zero s e = let h : Terminal 1 ≡ s = cc in sym (ap code h)
kind (suc zero) s e = let h : Slot 0 0 ≡ s = cc in sym (ap code h)
kind (suc (suc zero)) s e = let h : Sequence 0 ≡ s = cc in sym (ap code h)
kind (suc (suc (suc zero))) s e = let h : Top 0 ≡ s = cc in sym (ap code h)
kind (suc (suc (suc (suc x)))) s e = cc

lefts : (r : ℕ) → r < 4 → 0 < lhs_of f r
lefts zero lt = lit< tt
lefts (suc zero) lt = lit< tt
lefts (suc (suc zero)) lt = lit< tt
lefts (suc (suc (suc zero))) lt = lit< tt
lefts (suc (suc (suc (suc r)))) lt = absurd (omega arith)

some_parts : (r : ℕ) → r < 4 → 0 < length (rhs_of f r)
some_parts zero lt = lit< tt
some_parts (suc zero) lt = lit< tt
some_parts (suc (suc zero)) lt = lit< tt
some_parts (suc (suc (suc zero))) lt = lit< tt
some_parts (suc (suc (suc (suc r)))) lt = absurd (omega arith)

alone : (r : ℕ) → r < 4 → lhs_of f r ≡ 3 → r ≡ 3
alone zero lt e = absurd (omega arith)
alone (suc zero) lt e = absurd (omega arith)
alone (suc (suc zero)) lt e = absurd (omega arith)
alone (suc (suc (suc zero))) lt e = refl
alone (suc (suc (suc (suc r)))) lt e = absurd (omega arith)

below_three : (r position x : ℕ) → part_of f r position ≡ Some x → x < 3
below_three = by_parts (λ r position x. x < 3) (lit< tt) (lit< tt) (lit< tt) (lit< tt) (lit< tt)

top_of : IsTopOf f 0 3
top_of = record {
  is_top = record { is_rule = lit< tt; alone = alone; outermost = λ r position e. (let lt = below_three r position 3 e in omega arith) };
  symbol = refl;
  source = refl;
  one = refl;
}

tops_are : (k r : ℕ) → slice_get f.tops k ≡ Some r → IsTopOf f k r
tops_are zero r e = let h : 3 ≡ r = cc in subst (IsTopOf f 0) h top_of
tops_are (suc k) r e = cc

all_tops : (x k : ℕ) → slice_get f.symbols x ≡ Some (Top k) → k < 1
all_tops zero k e = absurd (differs 3 0 (kind zero (Top k) e) (lit< tt))
all_tops (suc zero) k e = absurd (differs 3 1 (kind (suc zero) (Top k) e) (lit< tt))
all_tops (suc (suc zero)) k e = absurd (differs 3 2 (kind (suc (suc zero)) (Top k) e) (lit< tt))
all_tops (suc (suc (suc zero))) k e = let h : 0 ≡ k = cc in omega arith
all_tops (suc (suc (suc (suc x)))) k e = cc

sources : (r : ℕ) (s : FlatSymbol) → r < 4 → slice_get f.symbols (lhs_of f r) ≡ Some s → HasSource s (source_of f r)
sources zero s lt e = let h : Slot 0 0 ≡ s = cc in subst (λ z. HasSource z (Written 0)) h tt
sources (suc zero) s lt e = let h : Sequence 0 ≡ s = cc in subst (λ z. HasSource z (Written 0)) h refl
sources (suc (suc zero)) s lt e = let h : Sequence 0 ≡ s = cc in subst (λ z. HasSource z (Written 0)) h refl
sources (suc (suc (suc zero))) s lt e = let h : Top 0 ≡ s = cc in subst (λ z. HasSource z (OfStart 0)) h refl
sources (suc (suc (suc (suc r)))) s lt e = absurd (omega arith)

not_marked : (x : ℕ) → Flat.IsNullable f x → (x ≡ 1) ⊎ (x ≡ 3)
not_marked zero e = cc
not_marked (suc zero) e = inl refl
not_marked (suc (suc zero)) e = cc
not_marked (suc (suc (suc zero))) e = inr refl
not_marked (suc (suc (suc (suc x)))) e = cc

marks_closed : Acceptable.MarksAreClosed f
marks_closed zero lt h = refl
marks_closed (suc zero) lt h = h 0 2 refl
marks_closed (suc (suc zero)) lt h = h 0 0 refl
marks_closed (suc (suc (suc zero))) lt h = refl
marks_closed (suc (suc (suc (suc r)))) lt h = let l : suc (suc (suc (suc r))) < 4 = lt in absurd (omega arith)

odd_kind : (x : ℕ) → Flat.IsNullable f x → (s : FlatSymbol) → slice_get f.symbols x ≡ Some s → (code s ≡ 1) ⊎ (code s ≡ 3)
odd_kind x n s e = elim (not_marked x n) [ inl h ↦ inl (kind x s e ∙ h) | inr h ↦ inr (kind x s e ∙ h) ]

terminals_span : (x : ℕ) → Acceptable.IsTerminal f x → Flat.IsNullable f x → ⊥
terminals_span x (t, e) n = elim (odd_kind x n (Terminal t) e) [ inl h ↦ (let d : 0 ≡ 1 = h in omega arith) | inr h ↦ (let d : 0 ≡ 3 = h in omega arith) ]

lists_span : (x i : ℕ) → slice_get f.symbols x ≡ Some (Sequence i) → Flat.IsNullable f x → ⊥
lists_span x i e n = elim (odd_kind x n (Sequence i) e) [ inl h ↦ (let d : 2 ≡ 1 = h in omega arith) | inr h ↦ (let d : 2 ≡ 3 = h in omega arith) ]

abbrev height : ℕ → ℕ
height zero = 0
height (suc zero) = 2
height (suc (suc zero)) = 1
height (suc (suc (suc x))) = 3

falls : (r position x : ℕ) → part_of f r position ≡ Some x → LeadsOver f r position → height x < height (lhs_of f r)
falls = by_parts (λ r position x. LeadsOver f r position → height x < height (lhs_of f r))
    (λ over. lit< tt) (λ over. absurd (apart (over 1 0 (λ e. omega arith) refl))) (λ over. absurd (list_apart (over 0 2 (λ e. omega arith) refl))) (λ over. lit< tt) (λ over. lit< tt)
  where
    apart : Flat.IsNullable f 0 → ⊥
    apart e = cc

    list_apart : Flat.IsNullable f 2 → ⊥
    list_apart e = cc

by_rule : (x r : ℕ) → IsRule f r → lhs_of f r ≡ x → Acceptable.AreProductive f r (length (rhs_of f r)) → Acceptable.IsProductive f x
by_rule x r a b c = ByRule a b c

below : (x r position : ℕ) → IsRule f r → Invariant.IsAccessible f (lhs_of f r) → part_of f r position ≡ Some x → Invariant.IsAccessible f x
below x r position a b c = Below position a b c

productive_at : (x : ℕ) → x < 4 → Acceptable.IsProductive f x
productive_at zero lt = Itself (1, refl)
productive_at (suc zero) lt = Marked refl
productive_at (suc (suc zero)) lt = by_rule 2 2 (lit< tt) refl (Both Acceptable.None refl (Itself (1, refl)))
productive_at (suc (suc (suc zero))) lt = Marked refl
productive_at (suc (suc (suc (suc x)))) lt = absurd (omega arith)

reach_three : Invariant.IsAccessible f 3
reach_three = Outermost refl

reach_one : Invariant.IsAccessible f 1
reach_one = below 1 3 0 (lit< tt) reach_three refl

reach_two : Invariant.IsAccessible f 2
reach_two = below 2 0 0 (lit< tt) reach_one refl

reach_zero : Invariant.IsAccessible f 0
reach_zero = below 0 2 0 (lit< tt) reach_two refl

accessible_at : (x : ℕ) → x < 4 → Invariant.IsAccessible f x
accessible_at zero lt = reach_zero
accessible_at (suc zero) lt = reach_one
accessible_at (suc (suc zero)) lt = reach_two
accessible_at (suc (suc (suc zero))) lt = reach_three
accessible_at (suc (suc (suc (suc x)))) lt = absurd (omega arith)

flat : IsFlat f
flat = record {
  in_range = record {
    marks = refl;
    symbols = lit< tt;
    rules = lit< tt;
    tops = lit< tt;
    short = short;
    left = left_in;
    parts = λ r position x lt e. (let low = below_three r position x e in omega arith);
  };
  differ = λ x y s e e'. sym (kind x s e) ∙ kind y s e';
  no_rules = λ r lt t. (let a : 0 ≡ lhs_of f r = kind (lhs_of f r) (Terminal t.0) t.1 in let b : 0 < lhs_of f r = lefts r lt in omega arith);
  some = some_parts;
  tops = tops_are;
  all_tops = all_tops;
  sources = sources;
  marks = marks_closed;
  terminals_span = terminals_span;
  lists_span = lists_span;
  heights = record { height = height; falls = λ r position x lt e over. falls r position x e over };
  productive = productive_at;
  accessible = accessible_at;
}

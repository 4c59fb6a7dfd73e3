-- The flat grammar of right recursion: it is flat, and the flat form of what is built of the text.
use Rattle.std.proofs.Common.{◌≡◌, inl, inr, ℕ, zero, suc, ◌<◌, List, [], ◌∷◌, length, Some, slice_get, slice_index_or, refl, sym, ap, subst, arith, lit<, lit≤}
use Rattle.std.proofs.lemmas.Option.{same_Some, none-some}
use Rattle.finite_sets.proofs.Members.{Among, Once}
use Rattle.grammar_model.specs.Grammar.{WrittenRule, IsPlain, Slot, slot_of, rule_at, slot_count, child_slot, IsTerminal, Fits}
use Rattle.grammar_model.specs.Analysis.{IsProductive, IsAccessibleIn}
use Rattle.recognizer_model.specs.declared.flat.FlatSymbol.{FlatSymbol}
use Rattle.recognizer_model.specs.declared.flat.FlatSymbol.TheVariants.{Terminal, Slot as SlotSymbol, Sequence as ListSymbol, Top}
use Rattle.recognizer_model.specs.declared.flat.FlatSource.{FlatSource}
use Rattle.recognizer_model.specs.declared.flat.FlatSource.TheVariants.{Written, Top as OfStart}
use Rattle.recognizer_model.specs.Flat.{FlatGrammar, IsRule, lhs_of}
use Rattle.recognizer_model.specs.FlatForm.{IsSymbolOf, IsUsedSlot, NamedRule, IsRuleOf, OfPlain, OfList, OfTrailing, OfItem, OfItems, OfSeparated, OfTop, Stands, AsTerminal, AsSlot, StandAll, SpansNothing, IsFlatOf}
use Rattle.recognizer_model.specs.Counts.{IsListOf}
use Rattle.recognizer_model.proofs.Counting.{list_is}
use Rattle.work_laws.proofs.Plain.{IsSolid, no_sequence, zero_level, as_terminal, as_slot}
use Rattle.work_laws.proofs.Plain as plain_laws
use Rattle.outcome_laws.proofs.RightShape.{shape, none_nullable, place_of, placed}
use Rattle.outcome_laws.specs.Figures.{right_g1}

abbrev pub flat : FlatGrammar
flat = shape 1 0

-- ---- the right_g1 grammar

plain : (i : ℕ) → IsPlain (rule_at right_g1 i)
plain zero = tt
plain (suc zero) = tt
plain (suc (suc i)) = tt

pub solid : IsSolid right_g1
solid = record { plain = plain; parts = parts }
  where
    parts : (i : ℕ) → i < 2 → 0 < slot_count (rule_at right_g1 i)
    parts zero lt = lit< tt
    parts (suc zero) lt = lit< tt
    parts (suc (suc i)) lt = absurd (omega (arith, lt))

pub terminal : IsTerminal right_g1 1
terminal zero lt e = omega (arith, e)
terminal (suc zero) lt e = omega (arith, e)
terminal (suc (suc i)) lt e = omega (arith, lt)

pub no_terminal : IsTerminal right_g1 0 → ⊥
no_terminal h = h 0 (lit< tt) refl

productive_a : IsProductive right_g1 (slot_of 1)
productive_a = (0, terminal)

pub productive_l : IsProductive right_g1 (slot_of 0)
productive_l = (1, inr (1, lit< tt, (refl, lit≤ tt), inr part))
  where
    part : (k : ℕ) → k < 1 → IsTerminal right_g1 (child_slot (rule_at right_g1 1) k).symbol
    part zero lt = terminal
    part (suc k) lt = absurd (omega (arith, lt))

live : (i : ℕ) → i < 2 → (k : ℕ) → k < slot_count (rule_at right_g1 i) → IsProductive right_g1 (child_slot (rule_at right_g1 i) k)
live zero lt zero kl = productive_a
live zero lt (suc zero) kl = productive_l
live zero lt (suc (suc k)) kl = absurd (omega (arith, kl))
live (suc zero) lt zero kl = productive_a
live (suc zero) lt (suc k) kl = absurd (omega (arith, kl))
live (suc (suc i)) lt k kl = absurd (omega (arith, lt))

start_accessible : IsAccessibleIn 0 right_g1 (slot_of 0)
start_accessible = (0, (0, lit< tt, refl), refl)

used_s : IsUsedSlot right_g1 (slot_of 0)
used_s = ((0, start_accessible), productive_l)

used_a : IsUsedSlot right_g1 (slot_of 1)
used_a = ((1, (slot_of 0, start_accessible, productive_a, (1, lit< tt, (refl, lit≤ tt), (live 1 (lit< tt), (0, lit< tt, refl))))), productive_a)

-- no other slot is accessible
abbrev Known : Slot → Type 0
Known slot = (slot.symbol < 2) × (slot.level ≡ 0)

child_known : (i k : ℕ) → i < 2 → k < slot_count (rule_at right_g1 i) → Known (child_slot (rule_at right_g1 i) k)
child_known zero zero lt kl = (lit< tt, refl)
child_known zero (suc zero) lt kl = (lit< tt, refl)
child_known zero (suc (suc k)) lt kl = absurd (omega (arith, kl))
child_known (suc zero) zero lt kl = (lit< tt, refl)
child_known (suc zero) (suc k) lt kl = absurd (omega (arith, kl))
child_known (suc (suc i)) k lt kl = absurd (omega (arith, lt))

reached : (k : ℕ) (slot : Slot) → IsAccessibleIn k right_g1 slot → Known slot
reached zero slot (s, (zero, lt, e), is) = subst Known (sym is) (let same : 0 ≡ s = e in (omega (arith, same), refl))
reached zero slot (s, (suc k, lt, e), is) = absurd (omega (arith, lt))
reached (suc k) slot (above, a, p, (i, lt, f, (l, (j, jl, e)))) = subst Known e (child_known i j lt jl)

-- ---- its symbols

symbol_of : (s : FlatSymbol) → Among s flat.symbols → IsSymbolOf right_g1 s
symbol_of s (inl e) = subst (IsSymbolOf right_g1) e (terminal, used_a)
symbol_of s (inr (inl e)) = subst (IsSymbolOf right_g1) e (no_terminal, used_s)
symbol_of s (inr (inr (inl e))) = subst (IsSymbolOf right_g1) e (lit< tt)
symbol_of s (inr (inr (inr m))) = absurd m

in_symbols : (s : FlatSymbol) → IsSymbolOf right_g1 s → Among s flat.symbols
in_symbols (Terminal zero) (t, u) = absurd (no_terminal t)
in_symbols (Terminal (suc zero)) h = inl refl
in_symbols (Terminal (suc (suc t))) (is, ((k, a), p)) = let (lt, level) = reached k (slot_of (suc (suc t))) a in absurd (omega (arith, lt))
in_symbols (SlotSymbol zero k) (h, ((n, a), p)) = let (lt, level) = reached n (record { symbol = 0; level = k }) a in inr (inl (ap (SlotSymbol 0) (sym level)))
in_symbols (SlotSymbol (suc zero) k) (h, u) = absurd (h terminal)
in_symbols (SlotSymbol (suc (suc s)) k) (h, ((n, a), p)) = let (lt, level) = reached n (record { symbol = suc (suc s); level = k }) a in absurd (omega (arith, lt))
in_symbols (ListSymbol i) (r, lt, is, l, u) = absurd (no_sequence (rule_at right_g1 i) r (plain i) is)
in_symbols (Top zero) lt = inr (inr (inl refl))
in_symbols (Top (suc k)) lt = absurd (omega (arith, lt))

symbols_are : IsListOf (IsSymbolOf right_g1) flat.symbols
symbols_are = list_is (IsSymbolOf right_g1) flat.symbols once symbol_of in_symbols
  where
    once : Once flat.symbols
    once = (λ m. first m, (λ m. second m, (λ m. m, tt)))
      where
        first : Among (Terminal 1) (SlotSymbol 0 0 ∷ Top 0 ∷ []) → ⊥
        first (inl e) = let no = ap place_of e in omega (arith, no)
        first (inr (inl e)) = let no = ap place_of e in omega (arith, no)
        first (inr (inr m)) = m

        second : Among (SlotSymbol 0 0) (Top 0 ∷ []) → ⊥
        second (inl e) = let no = ap place_of e in omega (arith, no)
        second (inr m) = m

-- ---- its rules

abbrev named : FlatSymbol → List FlatSymbol → FlatSource → NamedRule
named left parts source = record { left = left; right = parts; source = source }

abbrev pub flat_rules : List NamedRule
flat_rules = named (SlotSymbol 0 0) (Terminal 1 ∷ SlotSymbol 0 0 ∷ []) (Written 0) ∷ named (SlotSymbol 0 0) (Terminal 1 ∷ []) (Written 1) ∷ named (Top 0) (SlotSymbol 0 0 ∷ []) (OfStart 0) ∷ []

abbrev pub place_from : FlatSource → ℕ
place_from (Written n) = n
place_from (OfStart n) = 2

stands_s : Stands right_g1 (slot_of 0) (SlotSymbol 0 0)
stands_s = AsSlot no_terminal

stands_a : Stands right_g1 (slot_of 1) (Terminal 1)
stands_a = AsTerminal terminal

rule_of : (x : NamedRule) → Among x flat_rules → IsRuleOf right_g1 x
rule_of x (inl e) = subst (IsRuleOf right_g1) e (OfPlain 0 0 0 _ _ (lit< tt) refl (λ h. cc) (live 0 (lit< tt)) (refl, lit≤ tt) used_s refl (stands_a, (stands_s, tt)))
rule_of x (inr (inl e)) = subst (IsRuleOf right_g1) e (OfPlain 1 0 0 _ _ (lit< tt) refl (λ h. cc) (live 1 (lit< tt)) (refl, lit≤ tt) used_s refl (stands_a, tt))
rule_of x (inr (inr (inl e))) = subst (IsRuleOf right_g1) e (OfTop 0 0 (SlotSymbol 0 0) refl stands_s)
rule_of x (inr (inr (inr m))) = absurd m

of_plain : (n s k : ℕ) (parts : List FlatSymbol) → n < 2 → Fits (rule_at right_g1 n) (record { symbol = s; level = k }) → length parts ≡ slot_count (rule_at right_g1 n) → StandAll right_g1 (rule_at right_g1 n) 0 parts →
    Among (named (SlotSymbol s k) parts (Written n)) flat_rules
of_plain zero s k [] lt f long stand = absurd (omega (arith, long))
of_plain zero s k (a ∷ []) lt f long stand = absurd (omega (arith, long))
of_plain zero s k (a ∷ b ∷ []) lt f long (sa, (sb, u)) =
    inl (λ j. named (SlotSymbol (f.0 j) (zero_level k f.1 j)) (as_terminal right_g1 (slot_of 1) a terminal sa j ∷ as_slot right_g1 (slot_of 0) b no_terminal sb j ∷ []) (Written 0))
of_plain zero s k (a ∷ b ∷ c ∷ rest) lt f long stand = absurd (omega (arith, long))
of_plain (suc zero) s k [] lt f long stand = absurd (omega (arith, long))
of_plain (suc zero) s k (a ∷ []) lt f long (sa, u) =
    inr (inl (λ j. named (SlotSymbol (f.0 j) (zero_level k f.1 j)) (as_terminal right_g1 (slot_of 1) a terminal sa j ∷ []) (Written 1)))
of_plain (suc zero) s k (a ∷ b ∷ rest) lt f long stand = absurd (omega (arith, long))
of_plain (suc (suc n)) s k parts lt f long stand = absurd (omega (arith, lt))

in_rules : (x : NamedRule) → IsRuleOf right_g1 x → Among x flat_rules
in_rules x (OfPlain n s k r parts lt is some live_rule f used long stand) =
    let P : WrittenRule → Type 0 = λ rule. Fits rule (record { symbol = s; level = k }) × (length parts ≡ slot_count rule) × StandAll right_g1 rule 0 parts in
    let (f', long', stand') = subst P (sym is) (f, long, stand) in
    of_plain n s k parts lt f' long' stand'
in_rules x (OfList n r of is) = absurd (no_sequence (rule_at right_g1 n) r (plain n) is)
in_rules x (OfTrailing n t r c of is e p q s) = absurd (no_sequence (rule_at right_g1 n) r (plain n) is)
in_rules x (OfItem n r b of is s) = absurd (no_sequence (rule_at right_g1 n) r (plain n) is)
in_rules x (OfItems n r b of is e s) = absurd (no_sequence (rule_at right_g1 n) r (plain n) is)
in_rules x (OfSeparated n t r b c of is e p sc sb) = absurd (no_sequence (rule_at right_g1 n) r (plain n) is)
in_rules x (OfTop zero start s e stands) =
    let is : 0 ≡ start = same_Some _ _ e in
    let here = subst (λ z. Stands right_g1 (slot_of z) s) (sym is) stands in
    inr (inr (inl (λ j. named (Top 0) (as_slot right_g1 (slot_of 0) s no_terminal here j ∷ []) (OfStart 0))))
in_rules x (OfTop (suc k) start s e stands) = absurd (none-some _ e)

pub rules_are : IsListOf (IsRuleOf right_g1) flat_rules
rules_are = list_is (IsRuleOf right_g1) flat_rules once rule_of in_rules
  where
    once : Once flat_rules
    once = (λ m. first m, (λ m. second m, (λ m. m, tt)))
      where
        first : Among (named (SlotSymbol 0 0) (Terminal 1 ∷ SlotSymbol 0 0 ∷ []) (Written 0)) (named (SlotSymbol 0 0) (Terminal 1 ∷ []) (Written 1) ∷ named (Top 0) (SlotSymbol 0 0 ∷ []) (OfStart 0) ∷ []) → ⊥
        first (inl e) = let no = ap (λ (x : NamedRule). place_from x.source) e in omega (arith, no)
        first (inr (inl e)) = let no = ap (λ (x : NamedRule). place_from x.source) e in omega (arith, no)
        first (inr (inr m)) = m

        second : Among (named (SlotSymbol 0 0) (Terminal 1 ∷ []) (Written 1)) (named (Top 0) (SlotSymbol 0 0 ∷ []) (OfStart 0) ∷ []) → ⊥
        second (inl e) = let no = ap (λ (x : NamedRule). place_from x.source) e in omega (arith, no)
        second (inr m) = m

-- ---- its flat form

spans_none : (s : FlatSymbol) → (k : ℕ) → SpansNothing right_g1 s → place_of s ≡ k → ⊥
spans_none (Terminal t) k h e = h
spans_none (SlotSymbol s l) k h e = plain_laws.none_nullable right_g1 solid (record { symbol = s; level = l }) h
spans_none (ListSymbol i) k h e = h
spans_none (Top t) k (start, is, h) e = plain_laws.none_nullable right_g1 solid (slot_of start) h

pub is_flat_of : IsFlatOf flat right_g1
is_flat_of = record {
  symbols = symbols_are;
  rules = rules_are;
  marks_all = refl;
  marks = λ x s e. ((λ h. absurd (none_nullable 1 0 x h)), (λ h. absurd (spans_none s x h (placed 1 0 x s e))));
  tops_all = refl;
  tops = top_is;
}
  where
    top_is : (k r : ℕ) → slice_get flat.tops k ≡ Some r → IsRule flat r × (slice_index_or flat.symbols (lhs_of flat r) (Top 0) ≡ Top k)
    top_is zero r e = subst (λ r. IsRule flat r × (slice_index_or flat.symbols (lhs_of flat r) (Top 0) ≡ Top 0)) (same_Some _ _ e) (lit< tt, refl)
    top_is (suc k) r e = absurd (none-some _ e)

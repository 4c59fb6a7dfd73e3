-- The grammars of right recursion are accepted.
use Rattle.std.proofs.Common.{◌≡◌, ◌∙◌, inl, inr, ℕ, zero, suc, ◌+◌, ◌<◌, List, [], ◌∷◌, length, refl, sym, ap, subst, arith, lit<, lit≤}
use Rattle.std.proofs.lemmas.Option.{same_Some, none-some}
use Rattle.finite_sets.proofs.Members.{Among}
use Rattle.grammar_model.specs.Grammar.{WrittenRule, Slot, slot_of, rule_at, slot_count, child_slot, IsTerminal, Fits}
use Rattle.grammar_model.specs.Analysis.{IsProductive, LeadsTo}
use Rattle.grammar_model.specs.Cycles.{HasHeights}
use Rattle.grammar_model.specs.Checked.{IsChecked, StartsAreLeft, RulesDiffer, StartsAreProductive}
use Rattle.grammar_model.proofs.Cycles.{no_cycle}
use Rattle.recognizer_model.specs.declared.flat.FlatSymbol.{FlatSymbol}
use Rattle.recognizer_model.specs.declared.flat.FlatSymbol.TheVariants.{Terminal, Slot as SlotSymbol, Top}
use Rattle.recognizer_model.specs.declared.flat.FlatSource.TheVariants.{Written, Top as OfStart}
use Rattle.recognizer_model.specs.FlatForm.{NamedRule, IsRuleOf, OfPlain, OfList, OfTrailing, OfItem, OfItems, OfSeparated, OfTop, IsUsedSlot, Stands, AsTerminal, AsSlot, StandAll}
use Rattle.recognizer_model.proofs.Counting.{list_is}
use Rattle.reading_model.specs.Accepted.{HasFewRules, IsAccepted}
use Rattle.run_model.specs.Refused.{Accepted}
use Rattle.work_laws.proofs.Plain.{none_nullable, alone, items_span, no_sequence, zero_level, as_terminal, as_slot}
use Rattle.outcome_laws.specs.Figures.{right_grammar, right_g1, right_built}
use Rattle.outcome_laws.proofs.RightText.{description, has_description, is_built_of}
use Rattle.outcome_laws.proofs.RightFlat.{solid, productive_l, flat_rules, rules_are, place_from}
use Rattle.outcome_laws.proofs.RightReading.{l0, l0_plain, l0_solid, l0_terminal, l0_no_terminal}

-- ---- the structural grammar

left : StartsAreLeft right_g1
left s (zero, lt, e) = (0, lit< tt, e)
left s (suc k, lt, e) = absurd (omega (arith, lt))

start_productive : StartsAreProductive right_g1
start_productive s (zero, lt, e) = subst (λ z. IsProductive right_g1 (slot_of z)) e productive_l
start_productive s (suc k, lt, e) = absurd (omega (arith, lt))

-- the lengths of the right sides tell the rules apart
long : (i : ℕ) → i < 2 → slot_count (rule_at right_g1 i) + i ≡ 2
long zero lt = refl
long (suc zero) lt = refl
long (suc (suc i)) lt = absurd (omega (arith, lt))

differ : RulesDiffer right_g1
differ i lt (j, r, s, less, is, is', lefts, same) =
    let e : slot_count (rule_at right_g1 j) ≡ slot_count (rule_at right_g1 i) = ap slot_count is ∙ ap length same ∙ sym (ap slot_count is') in
    let a = long i lt in
    let b = long j (omega (arith, lt, less)) in
    omega (arith, a, b, e, less)

abbrev height_of : ℕ → ℕ
height_of zero = 1
height_of (suc n) = 0

lower : (s t : Slot) → 0 ≡ s.symbol → 1 ≡ t.symbol → height_of t.symbol < height_of s.symbol
lower s t e e' = subst (λ z. height_of z < height_of s.symbol) e' (subst (λ z. height_of 1 < height_of z) e (lit< tt))

falls : (s t : Slot) → LeadsTo right_g1 s t → height_of t.symbol < height_of s.symbol
falls s t (zero, lt, f, (zero, k, e, others)) = absurd (none_nullable right_g1 solid _ (others 1 (lit< tt) (λ h. omega (arith, h))))
falls s t (zero, lt, f, (suc j, k, e, others)) = absurd (none_nullable right_g1 solid _ (others 0 (lit< tt) (λ h. omega (arith, h))))
falls s t (suc zero, lt, f, (zero, k, e, others)) = lower s t f.0 (ap (λ z. z.symbol) e)
falls s t (suc zero, lt, f, (suc j, k, e, others)) = absurd (omega (arith, k))
falls s t (suc (suc i), lt, f, w) = absurd (omega (arith, lt))

heights : HasHeights right_g1
heights = record { height = λ s. height_of s.symbol; falls = λ s t a p l. falls s t l }

g1_checked : IsChecked right_g1
g1_checked = record {
  some_rule = lit< tt;
  some_start = lit< tt;
  starts_left = left;
  sequences_alone = alone right_g1 solid;
  rules_differ = differ;
  items_span = items_span right_g1 solid;
  starts_productive = start_productive;
  acyclic = no_cycle right_g1 heights;
  heights = heights;
}

g1_few : HasFewRules right_g1
g1_few = record { count = 3; counted = (flat_rules, rules_are, refl); few = lit≤ tt }

-- ---- the lexical grammar

l0_part : (k : ℕ) → k < 1 → IsTerminal l0 (child_slot (rule_at l0 0) k).symbol
l0_part zero lt = l0_terminal
l0_part (suc k) lt = absurd (omega (arith, lt))

l0_productive : IsProductive l0 (slot_of 0)
l0_productive = (1, inr (0, lit< tt, (refl, lit≤ tt), inr l0_part))

l0_used : IsUsedSlot l0 (slot_of 0)
l0_used = ((0, (0, (0, lit< tt, refl), refl)), l0_productive)

l0_left : StartsAreLeft l0
l0_left s (zero, lt, e) = (0, lit< tt, e)
l0_left s (suc k, lt, e) = absurd (omega (arith, lt))

l0_start : StartsAreProductive l0
l0_start s (zero, lt, e) = subst (λ z. IsProductive l0 (slot_of z)) e l0_productive
l0_start s (suc k, lt, e) = absurd (omega (arith, lt))

l0_differ : RulesDiffer l0
l0_differ i lt (j, r, s, less, is, is', lefts, same) = omega (arith, lt, less)

l0_falls : (s t : Slot) → LeadsTo l0 s t → height_of t.symbol < height_of s.symbol
l0_falls s t (zero, lt, f, (zero, k, e, others)) = lower s t f.0 (ap (λ z. z.symbol) e)
l0_falls s t (zero, lt, f, (suc j, k, e, others)) = absurd (omega (arith, k))
l0_falls s t (suc i, lt, f, w) = absurd (omega (arith, lt))

l0_heights : HasHeights l0
l0_heights = record { height = λ s. height_of s.symbol; falls = λ s t a p l. l0_falls s t l }

l0_checked : IsChecked l0
l0_checked = record {
  some_rule = lit< tt;
  some_start = lit< tt;
  starts_left = l0_left;
  sequences_alone = alone l0 l0_solid;
  rules_differ = l0_differ;
  items_span = items_span l0 l0_solid;
  starts_productive = l0_start;
  acyclic = no_cycle l0 l0_heights;
  heights = l0_heights;
}

abbrev named : FlatSymbol → FlatSymbol → NamedRule
named left part = record { left = left; right = part ∷ []; source = Written 0 }

abbrev l0_rules : List NamedRule
l0_rules = named (SlotSymbol 0 0) (Terminal 1) ∷ record { left = Top 0; right = SlotSymbol 0 0 ∷ []; source = OfStart 0 } ∷ []

l0_rule : (x : NamedRule) → Among x l0_rules → IsRuleOf l0 x
l0_rule x (inl e) = subst (IsRuleOf l0) e (OfPlain 0 0 0 _ _ (lit< tt) refl (λ h. cc) (λ k lt. (0, l0_part k lt)) (refl, lit≤ tt) l0_used refl (AsTerminal l0_terminal, tt))
l0_rule x (inr (inl e)) = subst (IsRuleOf l0) e (OfTop 0 0 (SlotSymbol 0 0) refl (AsSlot l0_no_terminal))
l0_rule x (inr (inr m)) = absurd m

of_plain : (n s k : ℕ) (parts : List FlatSymbol) → n < 1 → Fits (rule_at l0 n) (record { symbol = s; level = k }) → length parts ≡ slot_count (rule_at l0 n) → StandAll l0 (rule_at l0 n) 0 parts →
    Among (record { left = SlotSymbol s k; right = parts; source = Written n }) l0_rules
of_plain zero s k [] lt f all stand = absurd (omega (arith, all))
of_plain zero s k (a ∷ []) lt f all (sa, u) = inl (λ j. named (SlotSymbol (f.0 j) (zero_level k f.1 j)) (as_terminal l0 (slot_of 1) a l0_terminal sa j))
of_plain zero s k (a ∷ b ∷ rest) lt f all stand = absurd (omega (arith, all))
of_plain (suc n) s k parts lt f all stand = absurd (omega (arith, lt))

in_l0 : (x : NamedRule) → IsRuleOf l0 x → Among x l0_rules
in_l0 x (OfPlain n s k r parts lt is some live_rule f used all stand) =
    let P : WrittenRule → Type 0 = λ rule. Fits rule (record { symbol = s; level = k }) × (length parts ≡ slot_count rule) × StandAll l0 rule 0 parts in
    let (f', all', stand') = subst P (sym is) (f, all, stand) in
    of_plain n s k parts lt f' all' stand'
in_l0 x (OfList n r of is) = absurd (no_sequence (rule_at l0 n) r (l0_plain n) is)
in_l0 x (OfTrailing n t r c of is e p q s) = absurd (no_sequence (rule_at l0 n) r (l0_plain n) is)
in_l0 x (OfItem n r b of is s) = absurd (no_sequence (rule_at l0 n) r (l0_plain n) is)
in_l0 x (OfItems n r b of is e s) = absurd (no_sequence (rule_at l0 n) r (l0_plain n) is)
in_l0 x (OfSeparated n t r b c of is e p sc sb) = absurd (no_sequence (rule_at l0 n) r (l0_plain n) is)
in_l0 x (OfTop zero start s e stands) =
    let is : 0 ≡ start = same_Some _ _ e in
    let here = subst (λ z. Stands l0 (slot_of z) s) (sym is) stands in
    inr (inl (λ j. record { left = Top 0; right = as_slot l0 (slot_of 0) s l0_no_terminal here j ∷ []; source = OfStart 0 }))
in_l0 x (OfTop (suc k) start s e stands) = absurd (none-some _ e)

l0_few : HasFewRules l0
l0_few = record { count = 2; counted = (l0_rules, list_is (IsRuleOf l0) l0_rules ((λ m. first m), ((λ m. m), tt)) l0_rule in_l0, refl); few = lit≤ tt }
  where
    first : Among (named (SlotSymbol 0 0) (Terminal 1)) (record { left = Top 0; right = SlotSymbol 0 0 ∷ []; source = OfStart 0 } ∷ []) → ⊥
    first (inl e) = let no = ap (λ (x : NamedRule). place_from x.source) e in omega (arith, no)
    first (inr m) = m

-- ---- both

is_accepted : IsAccepted right_built
is_accepted = record {
  checked = record { structural = g1_checked; lexical = λ some. l0_checked };
  structural = g1_few;
  lexical = λ some. l0_few;
}

pub accepted : Accepted right_grammar right_built
accepted = record { description = description; has = has_description; built = is_built_of; accepted = is_accepted }

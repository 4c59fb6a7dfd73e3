-- The structural grammar of the job is checked, and has five flat rules.
use Rattle.std.proofs.Common.{◌≡◌, ◌≢◌, ◌∙◌, inr, ℕ, zero, suc, ◌+◌, ◌*◌, ◌<◌, ◌≤◌, ◌==◌, List, [], ◌∷◌, length, Contains, AllPairs, slice_index, slice_index_or, refl, sym, ap, subst, arith, lit<, lit≤}
use Rattle.std.specs.List.{position_or_len}
use Rattle.std.proofs.lemmas.Option.{same_Some, none-some}
use Rattle.grammar_model.specs.Grammar.{WrittenRule, Plain, Sequence, IsPlain, Slot, slot_of, rule_at, slot_count, child_slot, IsTerminal, Fits}
use Rattle.grammar_model.specs.Analysis.{IsProductive, IsProductiveIn, IsAccessibleIn, LeadsTo}
use Rattle.grammar_model.specs.Cycles.{HasHeights}
use Rattle.grammar_model.specs.Checked.{IsChecked, StartsAreLeft, RulesDiffer, StartsAreProductive}
use Rattle.grammar_model.proofs.Cycles.{no_cycle}
use Rattle.recognizer_model.specs.declared.flat.FlatSymbol.{FlatSymbol}
use Rattle.recognizer_model.specs.declared.flat.FlatSymbol.TheVariants.{Terminal, Slot as SlotSymbol, Top}
use Rattle.recognizer_model.specs.declared.flat.FlatSource.{FlatSource}
use Rattle.recognizer_model.specs.declared.flat.FlatSource.TheVariants.{Written, Top as OfStart}
use Rattle.recognizer_model.specs.FlatForm.{NamedRule, IsRuleOf, OfPlain, OfList, OfTrailing, OfItem, OfItems, OfSeparated, OfTop, IsUsedSlot, Stands, AsTerminal, AsSlot, StandAll}
use Rattle.recognizer_model.specs.Counts.{IsListOf}
use Rattle.reading_model.specs.Accepted.{HasFewRules}
use Rattle.work_laws.proofs.Building.{work_g1}
use Rattle.work_laws.proofs.Plain.{IsSolid, none_nullable, alone, items_span, no_sequence, zero_level, as_terminal, as_slot}

-- ---- symbols and rules

plain : (i : ℕ) → IsPlain (rule_at work_g1 i)
plain zero = tt
plain (suc zero) = tt
plain (suc (suc zero)) = tt
plain (suc (suc (suc zero))) = tt
plain (suc (suc (suc (suc i)))) = tt

pub solid : IsSolid work_g1
solid = record { plain = plain; parts = parts }
  where
    parts : (i : ℕ) → i < 4 → 0 < slot_count (rule_at work_g1 i)
    parts zero lt = lit< tt
    parts (suc zero) lt = lit< tt
    parts (suc (suc zero)) lt = lit< tt
    parts (suc (suc (suc zero))) lt = lit< tt
    parts (suc (suc (suc (suc i)))) lt = absurd (omega arith)

pub terminal : (n : ℕ) → 2 ≤ n → IsTerminal work_g1 n
terminal n le zero lt e = omega arith
terminal n le (suc zero) lt e = omega arith
terminal n le (suc (suc zero)) lt e = omega arith
terminal n le (suc (suc (suc zero))) lt e = omega arith
terminal n le (suc (suc (suc (suc i)))) lt e = omega arith

pub no_terminal : (n : ℕ) → n < 2 → IsTerminal work_g1 n → ⊥
no_terminal zero lt h = h 0 (lit< tt) refl
no_terminal (suc zero) lt h = h 2 (lit< tt) refl
no_terminal (suc (suc n)) lt h = omega arith

-- ---- productive and accessible slots

productive_terminal : (n : ℕ) → 2 ≤ n → IsProductive work_g1 (slot_of n)
productive_terminal n le = (0, terminal n le)

i_in_one : IsProductiveIn 1 work_g1 (slot_of 1)
i_in_one = inr (2, lit< tt, (refl, lit≤ tt), inr part)
  where
    part : (k : ℕ) → k < 1 → IsTerminal work_g1 (child_slot (rule_at work_g1 2) k).symbol
    part zero lt = terminal 2 (lit≤ tt)
    part (suc k) lt = absurd (omega arith)

productive_i : IsProductive work_g1 (slot_of 1)
productive_i = (1, i_in_one)

productive_l : IsProductive work_g1 (slot_of 0)
productive_l = (2, inr (1, lit< tt, (refl, lit≤ tt), inr part))
  where
    part : (k : ℕ) → k < 1 → IsProductiveIn 1 work_g1 (child_slot (rule_at work_g1 1) k)
    part zero lt = i_in_one
    part (suc k) lt = absurd (omega arith)

live : (i : ℕ) → i < 4 → (k : ℕ) → k < slot_count (rule_at work_g1 i) → IsProductive work_g1 (child_slot (rule_at work_g1 i) k)
live zero lt zero kl = productive_i
live zero lt (suc zero) kl = productive_l
live zero lt (suc (suc k)) kl = absurd (omega arith)
live (suc zero) lt zero kl = productive_i
live (suc zero) lt (suc k) kl = absurd (omega arith)
live (suc (suc zero)) lt zero kl = productive_terminal 2 (lit≤ tt)
live (suc (suc zero)) lt (suc k) kl = absurd (omega arith)
live (suc (suc (suc zero))) lt zero kl = productive_terminal 3 (lit≤ tt)
live (suc (suc (suc zero))) lt (suc zero) kl = productive_l
live (suc (suc (suc zero))) lt (suc (suc zero)) kl = productive_terminal 4 (lit≤ tt)
live (suc (suc (suc zero))) lt (suc (suc (suc k))) kl = absurd (omega arith)
live (suc (suc (suc (suc i)))) lt k kl = absurd (omega arith)

l_accessible : IsAccessibleIn 0 work_g1 (slot_of 0)
l_accessible = (0, (0, lit< tt, refl), refl)

used_l : IsUsedSlot work_g1 (slot_of 0)
used_l = ((0, l_accessible), productive_l)

used_i : IsUsedSlot work_g1 (slot_of 1)
used_i = ((1, (slot_of 0, l_accessible, productive_i, (1, lit< tt, (refl, lit≤ tt), (live 1 (lit< tt), (0, lit< tt, refl))))), productive_i)

-- ---- the conditions of the check

left : StartsAreLeft work_g1
left s (zero, lt, e) = (0, lit< tt, e)
left s (suc k, lt, e) = absurd (omega arith)

start_productive : StartsAreProductive work_g1
start_productive s (zero, lt, e) = subst (λ z. IsProductive work_g1 (slot_of z)) e productive_l
start_productive s (suc k, lt, e) = absurd (omega arith)

-- the right sides tell the rules apart
abbrev mark : List ℕ → ℕ
mark rhs = 10 * slice_index rhs 0 + length rhs

abbrev mark_of : WrittenRule → ℕ
mark_of (Plain r) = mark r.rhs
mark_of (Sequence r) = 0

abbrev marked : ℕ → ℕ
marked n = position_or_len (λ m. m == n) (12 ∷ 11 ∷ 21 ∷ 33 ∷ [])

marked_back : (i : ℕ) → i < 4 → marked (mark_of (rule_at work_g1 i)) ≡ i
marked_back zero lt = refl
marked_back (suc zero) lt = refl
marked_back (suc (suc zero)) lt = refl
marked_back (suc (suc (suc zero))) lt = refl
marked_back (suc (suc (suc (suc i)))) lt = absurd (omega arith)

differ : RulesDiffer work_g1
differ i lt (j, r, s, less, is, is', lefts, same) =
    let e : mark_of (rule_at work_g1 j) ≡ mark_of (rule_at work_g1 i) = ap mark_of is ∙ ap mark same ∙ sym (ap mark_of is') in
    let a = marked_back i lt in
    let b = marked_back j (omega arith) in
    let c = ap marked e in
    omega (arith, a, b, c, less)

abbrev height_of : ℕ → ℕ
height_of zero = 2
height_of (suc zero) = 1
height_of (suc (suc n)) = 0

lower : (s t : Slot) (a b : ℕ) → a ≡ s.symbol → b ≡ t.symbol → height_of b < height_of a → height_of t.symbol < height_of s.symbol
lower s t a b e e' lt = subst (λ z. height_of z < height_of s.symbol) e' (subst (λ z. height_of b < height_of z) e lt)

falls : (s t : Slot) → LeadsTo work_g1 s t → height_of t.symbol < height_of s.symbol
falls s t (zero, lt, f, (zero, k, e, others)) = absurd (none_nullable work_g1 solid _ (others 1 (lit< tt) (λ h. omega arith)))
falls s t (zero, lt, f, (suc j, k, e, others)) = absurd (none_nullable work_g1 solid _ (others 0 (lit< tt) (λ h. omega arith)))
falls s t (suc zero, lt, f, (zero, k, e, others)) = lower s t 0 1 f.0 (ap (λ z. z.symbol) e) (lit< tt)
falls s t (suc zero, lt, f, (suc j, k, e, others)) = absurd (omega arith)
falls s t (suc (suc zero), lt, f, (zero, k, e, others)) = lower s t 1 2 f.0 (ap (λ z. z.symbol) e) (lit< tt)
falls s t (suc (suc zero), lt, f, (suc j, k, e, others)) = absurd (omega arith)
falls s t (suc (suc (suc zero)), lt, f, (zero, k, e, others)) = absurd (none_nullable work_g1 solid _ (others 1 (lit< tt) (λ h. omega arith)))
falls s t (suc (suc (suc zero)), lt, f, (suc j, k, e, others)) = absurd (none_nullable work_g1 solid _ (others 0 (lit< tt) (λ h. omega arith)))
falls s t (suc (suc (suc (suc i))), lt, f, w) = absurd (omega arith)

heights : HasHeights work_g1
heights = record { height = λ s. height_of s.symbol; falls = λ s t a p l. falls s t l }

pub g1_checked : IsChecked work_g1
g1_checked = record {
  some_rule = lit< tt;
  some_start = lit< tt;
  starts_left = left;
  sequences_alone = alone work_g1 solid;
  rules_differ = differ;
  items_span = items_span work_g1 solid;
  starts_productive = start_productive;
  acyclic = no_cycle work_g1 heights;
  heights = heights;
}

-- ---- the flat rules

abbrev named : FlatSymbol → List FlatSymbol → FlatSource → NamedRule
named left right source = record { left = left; right = right; source = source }

abbrev run_slot : FlatSymbol
run_slot = SlotSymbol 0 0

abbrev item_slot : FlatSymbol
item_slot = SlotSymbol 1 0

abbrev flat : List NamedRule
flat =
    named run_slot (item_slot ∷ run_slot ∷ []) (Written 0) ∷ named run_slot (item_slot ∷ []) (Written 1) ∷ named item_slot (Terminal 2 ∷ []) (Written 2)
    ∷ named item_slot (Terminal 3 ∷ run_slot ∷ Terminal 4 ∷ []) (Written 3) ∷ named (Top 0) (run_slot ∷ []) (OfStart 0) ∷ []

abbrev place_of : FlatSource → ℕ
place_of (Written n) = n
place_of (OfStart n) = 4 + n

placed : (n : ℕ) (d : NamedRule) → n < 5 → place_of (slice_index_or flat n d).source ≡ n
placed zero d lt = refl
placed (suc zero) d lt = refl
placed (suc (suc zero)) d lt = refl
placed (suc (suc (suc zero))) d lt = refl
placed (suc (suc (suc (suc zero)))) d lt = refl
placed (suc (suc (suc (suc (suc n))))) d lt = absurd (omega arith)

once : AllPairs (λ x y. x ≢ y) flat
once m n d lt nl e =
    let a = placed m d (omega (arith, lt, nl)) in
    let b = placed n d nl in
    let c = ap (λ (x : NamedRule). place_of x.source) e in
    omega (arith, a, b, c, lt)

stands_l : Stands work_g1 (slot_of 0) run_slot
stands_l = AsSlot (no_terminal 0 (lit< tt))

stands_i : Stands work_g1 (slot_of 1) item_slot
stands_i = AsSlot (no_terminal 1 (lit< tt))

stands_t : (n : ℕ) → 2 ≤ n → Stands work_g1 (slot_of n) (Terminal n)
stands_t n le = AsTerminal (terminal n le)

rule_of : (n : ℕ) (x : NamedRule) → n < 5 → slice_index_or flat n x ≡ x → IsRuleOf work_g1 x
rule_of zero x lt e = subst (IsRuleOf work_g1) e (OfPlain 0 0 0 _ _ (lit< tt) refl (λ h. cc) (live 0 (lit< tt)) (refl, lit≤ tt) used_l refl (stands_i, (stands_l, tt)))
rule_of (suc zero) x lt e = subst (IsRuleOf work_g1) e (OfPlain 1 0 0 _ _ (lit< tt) refl (λ h. cc) (live 1 (lit< tt)) (refl, lit≤ tt) used_l refl (stands_i, tt))
rule_of (suc (suc zero)) x lt e = subst (IsRuleOf work_g1) e (OfPlain 2 1 0 _ _ (lit< tt) refl (λ h. cc) (live 2 (lit< tt)) (refl, lit≤ tt) used_i refl (stands_t 2 (lit≤ tt), tt))
rule_of (suc (suc (suc zero))) x lt e =
    subst (IsRuleOf work_g1) e (OfPlain 3 1 0 _ _ (lit< tt) refl (λ h. cc) (live 3 (lit< tt)) (refl, lit≤ tt) used_i refl (stands_t 3 (lit≤ tt), (stands_l, (stands_t 4 (lit≤ tt), tt))))
rule_of (suc (suc (suc (suc zero)))) x lt e = subst (IsRuleOf work_g1) e (OfTop 0 0 run_slot refl stands_l)
rule_of (suc (suc (suc (suc (suc n))))) x lt e = absurd (omega arith)

-- a plain rule is one of the first four
of_plain : (n s k : ℕ) (right : List FlatSymbol) → n < 4 → Fits (rule_at work_g1 n) (record { symbol = s; level = k }) → length right ≡ slot_count (rule_at work_g1 n) → StandAll work_g1 (rule_at work_g1 n) 0 right →
    Contains flat (named (SlotSymbol s k) right (Written n))
of_plain n s k [] lt f long stand = absurd (shorter n lt long)
  where
    shorter : (n : ℕ) → n < 4 → 0 ≡ slot_count (rule_at work_g1 n) → ⊥
    shorter n lt e = let some = solid.parts n lt in omega (arith, some, e)
of_plain zero s k (a ∷ []) lt f long stand = absurd (omega arith)
of_plain zero s k (a ∷ b ∷ []) lt f long (sa, (sb, u)) =
    (0, lit< tt, λ j. named (SlotSymbol (f.0 j) (zero_level k f.1 j)) (as_slot work_g1 (slot_of 1) a (no_terminal 1 (lit< tt)) sa j ∷ as_slot work_g1 (slot_of 0) b (no_terminal 0 (lit< tt)) sb j ∷ []) (Written 0))
of_plain zero s k (a ∷ b ∷ c ∷ rest) lt f long stand = absurd (omega arith)
of_plain (suc zero) s k (a ∷ []) lt f long (sa, u) =
    (1, lit< tt, λ j. named (SlotSymbol (f.0 j) (zero_level k f.1 j)) (as_slot work_g1 (slot_of 1) a (no_terminal 1 (lit< tt)) sa j ∷ []) (Written 1))
of_plain (suc zero) s k (a ∷ b ∷ rest) lt f long stand = absurd (omega arith)
of_plain (suc (suc zero)) s k (a ∷ []) lt f long (sa, u) =
    (2, lit< tt, λ j. named (SlotSymbol (f.0 j) (zero_level k f.1 j)) (as_terminal work_g1 (slot_of 2) a (terminal 2 (lit≤ tt)) sa j ∷ []) (Written 2))
of_plain (suc (suc zero)) s k (a ∷ b ∷ rest) lt f long stand = absurd (omega arith)
of_plain (suc (suc (suc zero))) s k (a ∷ []) lt f long stand = absurd (omega arith)
of_plain (suc (suc (suc zero))) s k (a ∷ b ∷ []) lt f long stand = absurd (omega arith)
of_plain (suc (suc (suc zero))) s k (a ∷ b ∷ c ∷ []) lt f long (sa, (sb, (sc, u))) = (
  3,
  lit< tt,
  λ j. named (SlotSymbol (f.0 j) (zero_level k f.1 j))
      (as_terminal work_g1 (slot_of 3) a (terminal 3 (lit≤ tt)) sa j ∷ as_slot work_g1 (slot_of 0) b (no_terminal 0 (lit< tt)) sb j ∷ as_terminal work_g1 (slot_of 4) c (terminal 4 (lit≤ tt)) sc j ∷ []) (Written 3),
)
of_plain (suc (suc (suc zero))) s k (a ∷ b ∷ c ∷ d ∷ rest) lt f long stand = absurd (omega arith)
of_plain (suc (suc (suc (suc n)))) s k (a ∷ rest) lt f long stand = absurd (omega arith)

in_flat : (x : NamedRule) → IsRuleOf work_g1 x → Contains flat x
in_flat x (OfPlain n s k r right lt is some live_rule f used long stand) =
    let P : WrittenRule → Type 0 = λ rule. Fits rule (record { symbol = s; level = k }) × (length right ≡ slot_count rule) × StandAll work_g1 rule 0 right in
    let (f', long', stand') = subst P (sym is) (f, long, stand) in
    of_plain n s k right lt f' long' stand'
in_flat x (OfList n r of is) = absurd (no_sequence (rule_at work_g1 n) r (plain n) is)
in_flat x (OfTrailing n t r c of is e p q s) = absurd (no_sequence (rule_at work_g1 n) r (plain n) is)
in_flat x (OfItem n r b of is s) = absurd (no_sequence (rule_at work_g1 n) r (plain n) is)
in_flat x (OfItems n r b of is e s) = absurd (no_sequence (rule_at work_g1 n) r (plain n) is)
in_flat x (OfSeparated n t r b c of is e p sc sb) = absurd (no_sequence (rule_at work_g1 n) r (plain n) is)
in_flat x (OfTop zero start s e stands) =
    let is : 0 ≡ start = same_Some _ _ e in
    let here = subst (λ z. Stands work_g1 (slot_of z) s) (sym is) stands in
    (4, lit< tt, λ j. named (Top 0) (as_slot work_g1 (slot_of 0) s (no_terminal 0 (lit< tt)) here j ∷ []) (OfStart 0))
in_flat x (OfTop (suc k) start s e stands) = absurd (none-some _ e)

listed : IsListOf (IsRuleOf work_g1) flat
listed = record { once = once; exact = λ x. ((λ (n, lt, e). rule_of n x lt e), in_flat x) }

pub g1_few : HasFewRules work_g1
g1_few = record { count = 5; counted = (flat, listed, refl); few = lit≤ tt }

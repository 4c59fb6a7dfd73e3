-- The shape of a flat grammar of right recursion, whatever the numbers of its terminal and its slot are: it is flat.
use Rattle.std.proofs.Common.{◌≡◌, ℕ, zero, suc, ◌<◌, ◌^◌, false, [], ◌∷◌, length, Some, slice_get, refl, subst, arith, lit<}
use Rattle.std.proofs.lemmas.Option.{same_Some, none-some}
use Rattle.recognizer_model.specs.declared.flat.FlatSymbol.{FlatSymbol}
use Rattle.recognizer_model.specs.declared.flat.FlatSymbol.TheVariants.{Terminal, Slot as SlotSymbol, Sequence as ListSymbol, Top}
use Rattle.recognizer_model.specs.declared.flat.FlatSource.TheVariants.{Written, Top as OfStart}
use Rattle.recognizer_model.specs.Flat.{FlatGrammar, IsRule, IsNullable, lhs_of, rhs_of, part_of, source_of}
use Rattle.recognizer_model.specs.Contexts.{IsTop}
use Rattle.recognizer_model.specs.Acceptable.{IsTerminal as IsFlatTerminal, IsProductive as IsFlatProductive, Itself, ByRule, None as NoPart, Both}
use Rattle.recognizer_model.specs.Invariant.{IsFlat, IsInRange, IsTopOf, HasSource, LeadsOver, IsAccessible as IsFlatAccessible, Outermost, Below}

-- S ::= a S, S ::= a, and the top of S
abbrev pub shape : (terminal slot : ℕ) → FlatGrammar
shape t s = record {
  symbols = Terminal t ∷ SlotSymbol s 0 ∷ Top 0 ∷ [];
  nullable = false ∷ false ∷ false ∷ [];
  rules = record { lhs = 1; rhs = 0 ∷ 1 ∷ []; source = Written 0 } ∷ record { lhs = 1; rhs = 0 ∷ []; source = Written 1 } ∷ record { lhs = 2; rhs = 1 ∷ []; source = OfStart 0 } ∷ [];
  tops = 2 ∷ [];
}

abbrev pub place_of : FlatSymbol → ℕ
place_of (Terminal n) = 0
place_of (SlotSymbol n k) = 1
place_of (ListSymbol i) = 3
place_of (Top k) = 2

abbrev top_of : FlatSymbol → ℕ
top_of (Top k) = k
top_of _ = 0

module _ (t s : ℕ) where
  -- ---- its symbols and rules, one by one

  symbol_by : (P : ℕ → FlatSymbol → Type 0) → P 0 (Terminal t) → P 1 (SlotSymbol s 0) → P 2 (Top 0) → (x : ℕ) (y : FlatSymbol) → slice_get (shape t s).symbols x ≡ Some y → P x y
  symbol_by P a b c zero y e = subst (P 0) (same_Some _ _ e) a
  symbol_by P a b c (suc zero) y e = subst (P 1) (same_Some _ _ e) b
  symbol_by P a b c (suc (suc zero)) y e = subst (P 2) (same_Some _ _ e) c
  symbol_by P a b c (suc (suc (suc x))) y e = absurd (none-some _ e)

  pub rule_by : (P : ℕ → Type 0) → P 0 → P 1 → P 2 → (r : ℕ) → IsRule (shape t s) r → P r
  rule_by P a b c zero lt = a
  rule_by P a b c (suc zero) lt = b
  rule_by P a b c (suc (suc zero)) lt = c
  rule_by P a b c (suc (suc (suc r))) lt = absurd (omega (arith, lt))

  pub part_by : (P : (r position x : ℕ) → Type 0) → P 0 0 0 → P 0 1 1 → P 1 0 0 → P 2 0 1 → (r position x : ℕ) → part_of (shape t s) r position ≡ Some x → P r position x
  part_by P a b c d zero zero x e = subst (P 0 0) (same_Some _ _ e) a
  part_by P a b c d zero (suc zero) x e = subst (P 0 1) (same_Some _ _ e) b
  part_by P a b c d zero (suc (suc k)) x e = absurd (none-some _ e)
  part_by P a b c d (suc zero) zero x e = subst (P 1 0) (same_Some _ _ e) c
  part_by P a b c d (suc zero) (suc k) x e = absurd (none-some _ e)
  part_by P a b c d (suc (suc zero)) zero x e = subst (P 2 0) (same_Some _ _ e) d
  part_by P a b c d (suc (suc zero)) (suc k) x e = absurd (none-some _ e)
  part_by P a b c d (suc (suc (suc r))) k x e = absurd (none-some _ e)

  pub none_nullable : (x : ℕ) → IsNullable (shape t s) x → ⊥
  none_nullable zero e = absurd (cc)
  none_nullable (suc zero) e = absurd (cc)
  none_nullable (suc (suc zero)) e = absurd (cc)
  none_nullable (suc (suc (suc x))) e = absurd (cc)

  pub is_top : IsTop (shape t s) 2
  is_top = record {
    is_rule = lit< tt;
    alone = λ r rule e. rule_by (λ r. lhs_of (shape t s) r ≡ 2 → r ≡ 2) (λ h. absurd (omega (arith, h))) (λ h. absurd (omega (arith, h))) (λ h. refl) r rule e;
    outermost = λ r d e. part_by (λ r d x. x ≡ 2 → ⊥) (λ h. omega (arith, h)) (λ h. omega (arith, h)) (λ h. omega (arith, h)) (λ h. omega (arith, h)) r d 2 e refl;
  }

  -- ---- it is flat

  pub placed : (x : ℕ) (y : FlatSymbol) → slice_get (shape t s).symbols x ≡ Some y → place_of y ≡ x
  placed = symbol_by (λ x y. place_of y ≡ x) refl refl refl

  in_range : IsInRange (shape t s)
  in_range = record {
    marks = refl;
    symbols = lit< tt;
    rules = lit< tt;
    tops = lit< tt;
    short = rule_by (λ r. length (rhs_of (shape t s) r) < 2 ^ 32) (lit< tt) (lit< tt) (lit< tt);
    left = rule_by (λ r. lhs_of (shape t s) r < 3) (lit< tt) (lit< tt) (lit< tt);
    parts = λ r position x rule e. part_by (λ r position x. x < 3) (lit< tt) (lit< tt) (lit< tt) (lit< tt) r position x e;
  }

  pub no_rules : (r : ℕ) → IsRule (shape t s) r → ¬ IsFlatTerminal (shape t s) (lhs_of (shape t s) r)
  no_rules r rule (n, e) = rule_by (λ r. slice_get (shape t s).symbols (lhs_of (shape t s) r) ≡ Some (Terminal n) → ⊥) (λ h. absurd (cc)) (λ h. absurd (cc)) (λ h. absurd (cc)) r rule e

  tops : (k r : ℕ) → slice_get (shape t s).tops k ≡ Some r → IsTopOf (shape t s) k r
  tops zero r e = subst (IsTopOf (shape t s) 0) (same_Some _ _ e) (record { is_top = is_top; symbol = refl; source = refl; one = refl })
  tops (suc k) r e = absurd (none-some _ e)

  sources : (r : ℕ) (y : FlatSymbol) → IsRule (shape t s) r → slice_get (shape t s).symbols (lhs_of (shape t s) r) ≡ Some y → HasSource y (source_of (shape t s) r)
  sources r y rule e = rule_by (λ r. slice_get (shape t s).symbols (lhs_of (shape t s) r) ≡ Some y → HasSource y (source_of (shape t s) r)) (slot 0) (slot 1) top r rule e
    where
      slot : (i : ℕ) → Some (SlotSymbol s 0) ≡ Some y → HasSource y (Written i)
      slot i h = subst (λ z. HasSource z (Written i)) (same_Some _ _ h) tt

      top : Some (Top 0) ≡ Some y → HasSource y (OfStart 0)
      top h = subst (λ z. HasSource z (OfStart 0)) (same_Some _ _ h) refl

  marks : (r : ℕ) → IsRule (shape t s) r → ((position x : ℕ) → part_of (shape t s) r position ≡ Some x → IsNullable (shape t s) x) → IsNullable (shape t s) (lhs_of (shape t s) r)
  marks r rule all = absurd (rule_by (λ r. ((position x : ℕ) → part_of (shape t s) r position ≡ Some x → IsNullable (shape t s) x) → ⊥) (λ h. none_nullable 0 (h 0 0 refl)) (λ h. none_nullable 0 (h 0 0 refl)) (λ h. none_nullable 1 (h 0 1 refl)) r rule all)

  falls : (r position x : ℕ) → IsRule (shape t s) r → part_of (shape t s) r position ≡ Some x → LeadsOver (shape t s) r position → x < lhs_of (shape t s) r
  falls r position x rule e over =
      part_by (λ r position x. LeadsOver (shape t s) r position → x < lhs_of (shape t s) r)
      (λ h. lit< tt) (λ h. absurd (none_nullable 0 (h 0 0 (λ z. omega (arith, z)) refl))) (λ h. lit< tt) (λ h. lit< tt) r position x e over

  productive_token : IsFlatProductive (shape t s) 0
  productive_token = Itself (t, refl)

  productive_s : IsFlatProductive (shape t s) 1
  productive_s = ByRule {r = 1} (lit< tt) refl (Both NoPart refl productive_token)

  productive : (x : ℕ) → x < 3 → IsFlatProductive (shape t s) x
  productive zero lt = productive_token
  productive (suc zero) lt = productive_s
  productive (suc (suc zero)) lt = ByRule {r = 2} (lit< tt) refl (Both NoPart refl productive_s)
  productive (suc (suc (suc x))) lt = absurd (omega (arith, lt))

  accessible_top : IsFlatAccessible (shape t s) 2
  accessible_top = Outermost {k = 0} refl

  accessible_s : IsFlatAccessible (shape t s) 1
  accessible_s = Below {r = 2} 0 (lit< tt) accessible_top refl

  accessible : (x : ℕ) → x < 3 → IsFlatAccessible (shape t s) x
  accessible zero lt = Below {r = 1} 0 (lit< tt) accessible_s refl
  accessible (suc zero) lt = accessible_s
  accessible (suc (suc zero)) lt = accessible_top
  accessible (suc (suc (suc x))) lt = absurd (omega (arith, lt))

  pub is_flat : IsFlat (shape t s)
  is_flat = record {
    in_range = in_range;
    differ = λ x y z e e'. (let a = placed x z e in let b = placed y z e' in omega (arith, a, b));
    no_rules = no_rules;
    some = rule_by (λ r. 0 < length (rhs_of (shape t s) r)) (lit< tt) (lit< tt) (lit< tt);
    tops = tops;
    all_tops = λ x k e. (let none = symbol_by (λ x y. top_of y ≡ 0) refl refl refl x (Top k) e in omega (arith, none));
    sources = sources;
    marks = marks;
    terminals_span = λ x is n. none_nullable x n;
    lists_span = λ x i e n. none_nullable x n;
    heights = record { height = λ x. x; falls = falls };
    productive = productive;
    accessible = accessible;
  }

-- The flat grammar of ambiguous sums is one.
use Rattle.std.proofs.Common.{◌≡◌, ℕ, zero, suc, ◌-◌, ◌<◌, ◌≤◌, ◌^◌, Bool, false, List, [], ◌∷◌, length, Some, slice_get, refl, sym, ap, ◌∙◌, subst, arith}
use Rattle.recognizer_model.specs.declared.flat.FlatSymbol.{FlatSymbol}
use Rattle.recognizer_model.specs.declared.flat.FlatSymbol.TheVariants.{Terminal, Slot, Sequence, Top}
use Rattle.recognizer_model.specs.declared.flat.FlatSource.TheVariants.{Written, Top as OfStart}
use Rattle.recognizer_model.specs.FlatRule.{FlatRule}
use Rattle.grammar_tests.specs.Example.{sums}
use Rattle.recognizer_model.specs.Flat.{IsRule, IsNullable, lhs_of, rhs_of, part_of, source_of}
use Rattle.recognizer_model.specs.Contexts.{IsTop}
use Rattle.recognizer_model.specs.Acceptable.{IsTerminal, IsProductive, Itself, ByRule, AreProductive, MarksAreClosed, NoTerminalHasRules}
use Rattle.recognizer_model.specs.Acceptable
use Rattle.recognizer_model.specs.Invariant.{IsFlat, IsArranged, IsAccessible, Outermost, Below, IsTopOf, HasSource, LeadsOver}

-- each symbol tells its place
abbrev key : FlatSymbol → ℕ
key (Terminal t) = t - 1
key (Slot s k) = 2
key (Sequence i) = 9
key (Top k) = 3

place : (x : ℕ) (s : FlatSymbol) → slice_get sums.symbols x ≡ Some s → x ≡ key s
place zero s e = let h : Terminal 1 ≡ s = cc in ap key h
place (suc zero) s e = let h : Terminal 2 ≡ s = cc in ap key h
place (suc (suc zero)) s e = let h : Slot 0 0 ≡ s = cc in ap key h
place (suc (suc (suc zero))) s e = let h : Top 0 ≡ s = cc in ap key h
place (suc (suc (suc (suc x)))) s e = absurd (cc)

differ : (x y : ℕ) (s : FlatSymbol) → slice_get sums.symbols x ≡ Some s → slice_get sums.symbols y ≡ Some s → x ≡ y
differ x y s e f = place x s e ∙ sym (place y s f)

none_nullable : (x : ℕ) → IsNullable sums x → ⊥
none_nullable zero e = absurd (cc)
none_nullable (suc zero) e = absurd (cc)
none_nullable (suc (suc zero)) e = absurd (cc)
none_nullable (suc (suc (suc zero))) e = absurd (cc)
none_nullable (suc (suc (suc (suc x)))) e = absurd (cc)

-- what holds of each of the three rules
each : (P : ℕ → Type 0) → P 0 → P 1 → P 2 → (r : ℕ) → IsRule sums r → P r
each P a b c zero lt = a
each P a b c (suc zero) lt = b
each P a b c (suc (suc zero)) lt = c
each P a b c (suc (suc (suc r))) lt = absurd (omega arith)

no_terminal : (x : ℕ) → 2 ≤ x → IsTerminal sums x → ⊥
no_terminal zero le (t, e) = absurd (omega arith)
no_terminal (suc zero) le (t, e) = absurd (omega arith)
no_terminal (suc (suc zero)) le (t, e) = absurd (cc)
no_terminal (suc (suc (suc zero))) le (t, e) = absurd (cc)
no_terminal (suc (suc (suc (suc x)))) le (t, e) = absurd (cc)

-- the parts of each rule
parts : (P : (r position x : ℕ) → Type 0) → P 0 0 2 → P 0 1 0 → P 0 2 2 → P 1 0 1 → P 2 0 2 → (r position x : ℕ) → part_of sums r position ≡ Some x → P r position x
parts P a b c d f zero zero x e = let h : 2 ≡ x = cc in subst (P 0 0) h a
parts P a b c d f zero (suc zero) x e = let h : 0 ≡ x = cc in subst (P 0 1) h b
parts P a b c d f zero (suc (suc zero)) x e = let h : 2 ≡ x = cc in subst (P 0 2) h c
parts P a b c d f zero (suc (suc (suc k))) x e = absurd (cc)
parts P a b c d f (suc zero) zero x e = let h : 1 ≡ x = cc in subst (P 1 0) h d
parts P a b c d f (suc zero) (suc k) x e = absurd (cc)
parts P a b c d f (suc (suc zero)) zero x e = let h : 2 ≡ x = cc in subst (P 2 0) h f
parts P a b c d f (suc (suc zero)) (suc k) x e = absurd (cc)
parts P a b c d f (suc (suc (suc r))) zero x e = absurd (cc)
parts P a b c d f (suc (suc (suc r))) (suc k) x e = absurd (cc)

n_productive : IsProductive sums 2
n_productive = ByRule {r = 1} (omega arith) refl (Acceptable.Both {x = 1} Acceptable.None refl (Itself (2, refl)))

productive : (x : ℕ) → x < 4 → IsProductive sums x
productive zero lt = Itself (1, refl)
productive (suc zero) lt = Itself (2, refl)
productive (suc (suc zero)) lt = n_productive
productive (suc (suc (suc zero))) lt = ByRule {r = 2} (omega arith) refl (Acceptable.Both {x = 2} Acceptable.None refl n_productive)
productive (suc (suc (suc (suc x)))) lt = absurd (omega arith)

e_accessible : IsAccessible sums 2
e_accessible = Below {r = 2} 0 (omega arith) (Outermost {x = 3} {k = 0} refl) refl

accessible : (x : ℕ) → x < 4 → IsAccessible sums x
accessible zero lt = Below {r = 0} 1 (omega arith) e_accessible refl
accessible (suc zero) lt = Below {r = 1} 0 (omega arith) e_accessible refl
accessible (suc (suc zero)) lt = e_accessible
accessible (suc (suc (suc zero))) lt = Outermost {x = 3} {k = 0} refl
accessible (suc (suc (suc (suc x)))) lt = absurd (omega arith)

is_top : IsTop sums 2
is_top = record {
  is_rule = omega arith;
  alone = each (λ r. lhs_of sums r ≡ 3 → r ≡ 2) (λ e. absurd (omega arith)) (λ e. absurd (omega arith)) (λ e. refl);
  outermost = λ r position e. parts (λ r position x. x ≡ 3 → ⊥) (λ h. omega arith) (λ h. omega arith) (λ h. omega arith) (λ h. omega arith) (λ h. omega arith) r position 3 e refl;
}

tops : (k r : ℕ) → slice_get sums.tops k ≡ Some r → IsTopOf sums k r
tops zero r e = let h : 2 ≡ r = cc in subst (IsTopOf sums 0) h (record { is_top = is_top; symbol = refl; source = refl; one = refl })
tops (suc k) r e = absurd (cc)

all_tops : (x k : ℕ) → slice_get sums.symbols x ≡ Some (Top k) → k < 1
all_tops zero k e = absurd (cc)
all_tops (suc zero) k e = absurd (cc)
all_tops (suc (suc zero)) k e = absurd (cc)
all_tops (suc (suc (suc zero))) k e = let h : 0 ≡ k = cc in omega arith
all_tops (suc (suc (suc (suc x)))) k e = absurd (cc)

falls : (r position x : ℕ) → IsRule sums r → part_of sums r position ≡ Some x → LeadsOver sums r position → x < lhs_of sums r
falls r position x rule e = parts (λ r position x. LeadsOver sums r position → x < lhs_of sums r)
    (λ over. absurd (none_nullable 0 (over 1 0 (λ h. omega arith) refl)))
    (λ over. absurd (none_nullable 2 (over 0 2 (λ h. omega arith) refl)))
    (λ over. absurd (none_nullable 0 (over 1 0 (λ h. omega arith) refl)))
    (λ over. omega arith) (λ over. omega arith) r position x e

pub is_flat : IsFlat sums
is_flat = record {
  in_range = record {
    marks = refl;
    symbols = omega arith;
    rules = omega arith;
    tops = omega arith;
    short = each (λ r. length (rhs_of sums r) < 2 ^ 32) (omega arith) (omega arith) (omega arith);
    left = each (λ r. lhs_of sums r < 4) (omega arith) (omega arith) (omega arith);
    parts = λ r position x rule e. parts (λ r position x. x < 4) (omega arith) (omega arith) (omega arith) (omega arith) (omega arith) r position x e;
  };
  differ = differ;
  no_rules = each (λ r. ¬ IsTerminal sums (lhs_of sums r)) (no_terminal 2 (omega arith)) (no_terminal 2 (omega arith)) (no_terminal 3 (omega arith));
  some = each (λ r. 0 < length (rhs_of sums r)) (omega arith) (omega arith) (omega arith);
  tops = tops;
  all_tops = all_tops;
  sources = λ r s rule. each (λ r. slice_get sums.symbols (lhs_of sums r) ≡ Some s → HasSource s (source_of sums r))
      (λ e. let h : Slot 0 0 ≡ s = cc in subst (λ z. HasSource z (Written 0)) h tt) (λ e. let h : Slot 0 0 ≡ s = cc in subst (λ z. HasSource z (Written 1)) h tt)
      (λ e. let h : Top 0 ≡ s = cc in subst (λ z. HasSource z (OfStart 0)) h refl) r rule;
  marks = each (λ r. ((position x : ℕ) → part_of sums r position ≡ Some x → IsNullable sums x) → IsNullable sums (lhs_of sums r))
      (λ all. absurd (none_nullable 2 (all 0 2 refl))) (λ all. absurd (none_nullable 1 (all 0 1 refl))) (λ all. absurd (none_nullable 2 (all 0 2 refl)));
  terminals_span = λ x t n. none_nullable x n;
  lists_span = λ x i e n. none_nullable x n;
  heights = record { height = λ x. x; falls = falls };
  productive = productive;
  accessible = accessible;
}

ordered : (x y t : ℕ) → x < y → slice_get sums.symbols y ≡ Some (Terminal t) → (s : ℕ) × (slice_get sums.symbols x ≡ Some (Terminal s)) × (s < t)
ordered x zero t lt e = absurd (omega arith)
ordered zero (suc zero) t lt e = let h : 2 ≡ t = cc in (1, refl, omega arith)
ordered (suc x) (suc zero) t lt e = absurd (omega arith)
ordered x (suc (suc zero)) t lt e = absurd (cc)
ordered x (suc (suc (suc zero))) t lt e = absurd (cc)
ordered x (suc (suc (suc (suc y)))) t lt e = absurd (cc)

rises : (r s : ℕ) → r < s → IsRule sums s → lhs_of sums r ≤ lhs_of sums s
rises r zero lt rule = absurd (omega arith)
rises zero (suc zero) lt rule = omega arith
rises (suc r) (suc zero) lt rule = absurd (omega arith)
rises zero (suc (suc zero)) lt rule = omega arith
rises (suc zero) (suc (suc zero)) lt rule = omega arith
rises (suc (suc r)) (suc (suc zero)) lt rule = absurd (omega arith)
rises r (suc (suc (suc s))) lt rule = absurd (omega arith)

pub is_arranged : IsArranged sums
is_arranged = record { terminals = ordered; rules = rises }

-- made part by part
pub flat_of : (ss : List FlatSymbol) (ns : List Bool) (rs : List FlatRule) (ts : List ℕ) → ss ≡ sums.symbols → ns ≡ sums.nullable → rs ≡ sums.rules → ts ≡ sums.tops →
    IsFlat (record { symbols = ss; nullable = ns; rules = rs; tops = ts })
flat_of ss ns rs ts hs hn hr ht =
    subst (λ z. IsFlat (record { symbols = z; nullable = ns; rules = rs; tops = ts })) (sym hs)
    (subst (λ z. IsFlat (record { symbols = sums.symbols; nullable = z; rules = rs; tops = ts })) (sym hn)
    (subst (λ z. IsFlat (record { symbols = sums.symbols; nullable = sums.nullable; rules = z; tops = ts })) (sym hr)
    (subst (λ z. IsFlat (record { symbols = sums.symbols; nullable = sums.nullable; rules = sums.rules; tops = z })) (sym ht) is_flat)))

-- What the tables of an analysis tell is told by tests, for each slot.
use Rattle.std.proofs.Common.{arith, ◌≡◌, ◌⊎◌, inl, inr, ℕ, zero, suc, ◌<◌, Bool, true, false, cond, List, [], ◌∷◌, length, ap, sym, subst, ◌∙◌, refl, true≢false}
use Rattle.std.specs.Prelude.{◌↔◌, ◌&&◌, ◌||◌, ◌==◌, not, nat_lt, Contains, slice_index, slice_index_or}
use Rattle.std.specs.List.{list_any}
use Rattle.std.proofs.lemmas.Bool.{and_parts, ltb-true, lt-ltb, eqb-true, eq-eqb}
use Rattle.finite_sets.proofs.Members.{among_from, contains_from, Among}
use Rattle.grammar_model.specs.Grammar.{Grammar, Slot, WrittenRule, IsTerminal, EachChildSlot}
use Rattle.grammar_model.specs.Analysis.{SomeRule, IsStar, EachNeeded, IsNullableIn, IsNullable, IsProductiveIn, IsProductive, IsAccessible}
use Rattle.slot_analysis.specs.Slots.{number, end_of, IsNumbered}
use Rattle.slot_analysis.specs.Tables.{AreTables}
use Rattle.slot_analysis.specs.Tested.{HasTests}
use Rattle.grammar_core.proofs.Known.{lhs_known}
use Rattle.slot_analysis.proofs.Known.{head_numbered}
use Rattle.slot_analysis.proofs.Beyond.{accessible_numbered}

abbrev pub holds : List ℕ → ℕ → Bool
holds keys x = list_any (λ y. y == x) keys

any_from : (keys : List ℕ) (x : ℕ) → holds keys x ≡ true → Among x keys
any_from [] x e = cc
any_from (y ∷ ys) x e = go (y == x) refl e (any_from ys x)
  where
    go : (b : Bool) → (y == x) ≡ b → (b || holds ys x) ≡ true → (holds ys x ≡ true → Among x ys) → Among x (y ∷ ys)
    go true s h rest = inl (eqb-true y x s)
    go false s h rest = inr (rest h)

any_to : (keys : List ℕ) (x : ℕ) → Among x keys → holds keys x ≡ true
any_to [] x m = absurd m
any_to (y ∷ ys) x (inl e) = let h : (y == x) ≡ true = eq-eqb y x e in subst (λ b. (b || holds ys x) ≡ true) (sym h) refl
any_to (y ∷ ys) x (inr m) = go (y == x) (any_to ys x m)
  where
    go : (b : Bool) → holds ys x ≡ true → (b || holds ys x) ≡ true
    go true h = refl
    go false h = h

pub holds_is : (keys : List ℕ) (x : ℕ) → (holds keys x ≡ true) ↔ Contains keys x
holds_is keys x = ((λ e. contains_from keys x (any_from keys x e)), (λ c. any_to keys x (among_from keys x c)))

-- by whether a test holds
by_test : (b : Bool) (one other : Bool) (P : Type 0) → (b ≡ true → (one ≡ true) ↔ P) → (b ≡ false → (other ≡ true) ↔ P) → (cond b one other ≡ true) ↔ P
by_test true one other P y n = y refl
by_test false one other P y n = n refl

module _ (g : Grammar) (bases : List ℕ) (lefts : List Bool) (nullables productives reach : List ℕ) (t : AreTables g bases lefts nullables productives reach) where
  abbrev numbered : Slot → Bool
  numbered s = nat_lt s.symbol (length g.names) && nat_lt (number bases s) (end_of bases s.symbol)

  is_numbered : (s : Slot) → numbered s ≡ true → IsNumbered g bases s
  is_numbered s e =
      let both = and_parts (nat_lt s.symbol (length g.names)) (nat_lt (number bases s) (end_of bases s.symbol)) e in
      (ltb-true s.symbol (length g.names) both.0, ltb-true (number bases s) (end_of bases s.symbol) both.1)

  not_numbered : (s : Slot) → numbered s ≡ false → IsNumbered g bases s → ⊥
  not_numbered s e (a, b) =
      let x : nat_lt s.symbol (length g.names) ≡ true = lt-ltb s.symbol (length g.names) a in
      let y : nat_lt (number bases s) (end_of bases s.symbol) ≡ true = lt-ltb (number bases s) (end_of bases s.symbol) b in
      true≢false (sym (and_both _ _ x y) ∙ e)
    where
      and_both : (a b : Bool) → a ≡ true → b ≡ true → (a && b) ≡ true
      and_both true b x y = y
      and_both false b x y = cc

  -- a rule that fits gives the slot a number
  fits_none : (s : Slot) (P : WrittenRule → Type 0) → (IsNumbered g bases s → ⊥) → SomeRule g s P → ⊥
  fits_none s P none (i, lt, (e, fits), p) =
      let known = lhs_known g i t.written lt in
      let head = head_numbered g bases i t.written t.numbering lt in
      none (subst (λ z. z < length g.names) e known, omega (arith, head, fits, ap (slice_index bases) e, ap (end_of bases) e))

  no_nullable : (s : Slot) → (IsNumbered g bases s → ⊥) → IsNullable g s → ⊥
  no_nullable s none (zero, h) = h
  no_nullable s none (suc k, h) = fits_none s (λ rule. IsStar rule ⊎ EachChildSlot (IsNullableIn k g) rule) none h

  terminal_only : (s : Slot) → (IsNumbered g bases s → ⊥) → IsProductive g s → IsTerminal g s.symbol
  terminal_only s none (zero, h) = h
  terminal_only s none (suc k, inl h) = h
  terminal_only s none (suc k, inr h) = absurd (fits_none s (λ rule. IsStar rule ⊎ EachNeeded (IsProductiveIn k g) rule) none h)

  no_left : (s : ℕ) (b : Bool) → slice_index_or lefts s false ≡ b → (not b ≡ true) ↔ IsTerminal g s
  no_left s true e = ((λ h. cc), (λ h. (let (i, lt, same) = (t.left s).0 e in absurd (h i lt same))))
  no_left s false e = ((λ h i lt same. true≢false (sym ((t.left s).1 (i, lt, same)) ∙ e)), (λ h. refl))

  none_is : (P : Type 0) → (P → ⊥) → (false ≡ true) ↔ P
  none_is P never = ((λ e. absurd (true≢false (sym e))), (λ p. absurd (never p)))

  nullable : Slot → Bool
  nullable s = cond (numbered s) (holds nullables (number bases s)) false

  nullable_is : (s : Slot) → (nullable s ≡ true) ↔ IsNullable g s
  unfolding nullable
  nullable_is s = by_test (numbered s) (holds nullables (number bases s)) false (IsNullable g s)
      (λ e. (let a = holds_is nullables (number bases s) in let b = t.nullable.exact s (is_numbered s e) in ((λ h. b.0 (a.0 h)), (λ h. a.1 (b.1 h)))))
      (λ e. none_is (IsNullable g s) (no_nullable s (not_numbered s e)))

  productive : Slot → Bool
  productive s = cond (numbered s) (holds productives (number bases s)) (not (slice_index_or lefts s.symbol false))

  productive_is : (s : Slot) → (productive s ≡ true) ↔ IsProductive g s
  unfolding productive
  productive_is s = by_test (numbered s) (holds productives (number bases s)) (not (slice_index_or lefts s.symbol false)) (IsProductive g s)
      (λ e. (let a = holds_is productives (number bases s) in let b = t.productive.exact s (is_numbered s e) in ((λ h. b.0 (a.0 h)), (λ h. a.1 (b.1 h)))))
      (λ e. (let a = no_left s.symbol (slice_index_or lefts s.symbol false) refl in ((λ h. (0, a.0 h)), (λ p. a.1 (terminal_only s (not_numbered s e) p)))))

  accessible : Slot → Bool
  accessible s = cond (numbered s) (holds reach (number bases s)) false

  accessible_is : (s : Slot) → (accessible s ≡ true) ↔ IsAccessible g s
  unfolding accessible
  accessible_is s = by_test (numbered s) (holds reach (number bases s)) false (IsAccessible g s)
      (λ e. (let a = holds_is reach (number bases s) in let b = t.reached.exact s (is_numbered s e) in ((λ h. b.0 (a.0 h)), (λ h. a.1 (b.1 h)))))
      (λ e. none_is (IsAccessible g s) (λ p. not_numbered s e (accessible_numbered p.0 g bases s t.written t.numbering p.1)))

  pub has_tests : HasTests g
  has_tests = record {
    nullable = nullable;
    nullable_is = nullable_is;
    productive = productive;
    productive_is = productive_is;
    accessible = accessible;
    accessible_is = accessible_is;
  }

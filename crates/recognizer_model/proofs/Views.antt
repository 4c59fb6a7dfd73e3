-- The derivations of a flat grammar by rules of inference are those of its view as a grammar.
use Rattle.std.proofs.Common.{◌≡◌, ◌≢◌, ℕ, zero, suc, ◌<◌, ◌≤◌, ◌+◌, ◌-◌, Bool, true, false, List, [], ◌∷◌, ◌++◌, map, length, ◌⊎◌, inl, inr, Option, Some, None, refl, sym, ap, ◌∙◌, subst, arith, length-append, lit≤, lit<}
use Rattle.std.specs.Prelude.{slice_get, slice_index, slice_index_or}
use Rattle.grammar_model.specs.Grammar.{WrittenRule, Grammar, Slot, slot_of, rule_at, child_slot, EachChildSlot}
use Rattle.grammar_model.specs.Grammar
use Rattle.grammar_model.specs.Trees.{Tree, Leaf, Nulled, Node, Children, NoChild, Child, child_count}
use Rattle.grammar_model.specs.Analysis.{IsNullableIn, IsStar}
use Rattle.grammar_model.specs.Analysis
use Rattle.grammar_model.specs.Derives.{Edges, DerivesPrefix}
use Rattle.grammar_model.specs.Derives
use Rattle.recognizer_model.specs.Flat.{FlatGrammar, FlatRule, no_rule, IsRule, lhs_of, rhs_of, part_of, IsNullable}
use Rattle.recognizer_model.specs.FlatDerives.{Derives, Token, Null, Rule, Spans, Nothing, More}
use Rattle.recognizer_model.specs.Acceptable.{IsTerminal, MarksAreClosed, OnlyTerminals, NoTerminalHasRules}
use Rattle.recognizer_model.specs.View.{plain_rule, empty_rules, grammar_view}

abbrev as_plain : FlatRule → WrittenRule
as_plain r = plain_rule r.lhs r.rhs

at_left : (rules : List FlatRule) (rest : List WrittenRule) (r : ℕ) → r < length rules → slice_index_or (map as_plain rules ++ rest) r Grammar.no_rule ≡ as_plain (slice_index_or rules r no_rule)
at_left [] rest r lt = absurd (omega arith)
at_left (x ∷ xs) rest zero lt = refl
at_left (x ∷ xs) rest (suc r) lt = at_left xs rest r (omega arith)

left_length : (rules : List FlatRule) (rest : List WrittenRule) (r : ℕ) → r < length rules → r < length (map as_plain rules ++ rest)
left_length [] rest r lt = absurd (omega arith)
left_length (x ∷ xs) rest zero lt = omega arith
left_length (x ∷ xs) rest (suc r) lt = let h = left_length xs rest r (omega arith) in omega arith

-- a rule with a number is one of these, or one of the rest
abbrev LeftOrRight : List FlatRule → List WrittenRule → ℕ → Type 0
LeftOrRight rules rest i = (i < length rules) ⊎ ((k : ℕ) × (k < length rest) × (slice_index_or (map as_plain rules ++ rest) i Grammar.no_rule ≡ slice_index_or rest k Grammar.no_rule))

left_or_right : (rules : List FlatRule) (rest : List WrittenRule) (i : ℕ) → i < length (map as_plain rules ++ rest) → LeftOrRight rules rest i
left_or_right [] rest i lt = inr (i, lt, refl)
left_or_right (x ∷ xs) rest zero lt = inl (omega arith)
left_or_right (x ∷ xs) rest (suc i) lt = later (left_or_right xs rest i (omega arith))
  where
    later : LeftOrRight xs rest i → LeftOrRight (x ∷ xs) rest (suc i)
    later (inl h) = inl (omega arith)
    later (inr h) = inr h

at_right : (rules : List FlatRule) (rest : List WrittenRule) (k : ℕ) → k < length rest → (i : ℕ) × (i < length (map as_plain rules ++ rest)) × (slice_index_or (map as_plain rules ++ rest) i Grammar.no_rule ≡ slice_index_or rest k Grammar.no_rule)
at_right [] rest k lt = (k, lt, refl)
at_right (x ∷ xs) rest k lt = let (i, h, e) = at_right xs rest k lt in (suc i, omega arith, e)

-- each of the empty rules is that of a marked symbol
marked_at : (x : ℕ) (marks : List Bool) (k : ℕ) → k < length (empty_rules x marks) →
    (y : ℕ) × (slice_get marks y ≡ Some true) × (slice_index_or (empty_rules x marks) k Grammar.no_rule ≡ plain_rule (x + y) [])
marked_at x [] k lt = absurd (omega arith)
marked_at x (true ∷ marks) zero lt = (0, refl, ap (λ z. plain_rule z []) (let e : x ≡ x + 0 = omega arith in e))
marked_at x (true ∷ marks) (suc k) lt =
    let (y, m, e) = marked_at (suc x) marks k (omega arith) in
    let z : suc x + y ≡ x + suc y = omega arith in
    (suc y, m, e ∙ ap (λ z. plain_rule z []) z)
marked_at x (false ∷ marks) k lt =
    let (y, m, e) = marked_at (suc x) marks k lt in
    let z : suc x + y ≡ x + suc y = omega arith in
    (suc y, m, e ∙ ap (λ z. plain_rule z []) z)

-- and each marked symbol has one
empty_of : (x : ℕ) (marks : List Bool) (y : ℕ) → slice_get marks y ≡ Some true →
    (k : ℕ) × (k < length (empty_rules x marks)) × (slice_index_or (empty_rules x marks) k Grammar.no_rule ≡ plain_rule (x + y) [])
empty_of x [] y e = cc
empty_of x (true ∷ marks) zero e = (0, omega arith, ap (λ z. plain_rule z []) (let e : x ≡ x + 0 = omega arith in e))
empty_of x (false ∷ marks) zero e = cc
empty_of x (true ∷ marks) (suc y) e =
    let (k, lt, h) = empty_of (suc x) marks y e in
    let z : suc x + y ≡ x + suc y = omega arith in
    (suc k, omega arith, h ∙ ap (λ z. plain_rule z []) z)
empty_of x (false ∷ marks) (suc y) e =
    let (k, lt, h) = empty_of (suc x) marks y e in
    let z : suc x + y ≡ x + suc y = omega arith in
    (k, lt, h ∙ ap (λ z. plain_rule z []) z)

pub get_index : (xs : List ℕ) (k x : ℕ) → slice_get xs k ≡ Some x → (k < length xs) × (slice_index xs k ≡ x)
get_index [] k x e = cc
get_index (y ∷ ys) zero x e = (omega arith, cc)
get_index (y ∷ ys) (suc k) x e = let (lt, h) = get_index ys k x e in (omega arith, h)

pub index_get : (xs : List ℕ) (k : ℕ) → k < length xs → slice_get xs k ≡ Some (slice_index xs k)
index_get [] k lt = absurd (omega arith)
index_get (y ∷ ys) zero lt = refl
index_get (y ∷ ys) (suc k) lt = index_get ys k (omega arith)

module _ (g : FlatGrammar) where
  pub rule_viewed : (r : ℕ) → IsRule g r → rule_at (grammar_view g) r ≡ plain_rule (lhs_of g r) (rhs_of g r)
  rule_viewed r rule = at_left g.rules (empty_rules 0 g.nullable) r rule

  pub in_view : (r : ℕ) → IsRule g r → r < length (grammar_view g).rules
  in_view r rule = left_length g.rules (empty_rules 0 g.nullable) r rule

  -- a rule of the view is a flat rule, or the empty rule of a marked symbol
  abbrev pub IsKindOf : ℕ → Type 0
  IsKindOf i = IsRule g i ⊎ ((x : ℕ) × IsNullable g x × (rule_at (grammar_view g) i ≡ plain_rule x []))

  pub kind_of : (i : ℕ) → i < length (grammar_view g).rules → IsKindOf i
  kind_of i lt = go (left_or_right g.rules (empty_rules 0 g.nullable) i lt)
    where
      go : LeftOrRight g.rules (empty_rules 0 g.nullable) i → IsKindOf i
      go (inl h) = inl h
      go (inr (k, h, e)) = let (y, m, e') = marked_at 0 g.nullable k h in let z : 0 + y ≡ y = omega arith in inr (y, m, e ∙ e' ∙ ap (λ z. plain_rule z []) z)

  pub nullable_viewed : (x : ℕ) → IsNullable g x → Analysis.IsNullable (grammar_view g) (slot_of x)
  nullable_viewed x n =
      let (k, lt, e) = empty_of 0 g.nullable x n in
      let (i, lt', e') = at_right g.rules (empty_rules 0 g.nullable) k lt in
      let is : rule_at (grammar_view g) i ≡ plain_rule x [] = e' ∙ e ∙ ap (λ z. plain_rule z []) (let z : 0 + x ≡ x = omega arith in z) in
      let none : EachChildSlot (IsNullableIn 0 (grammar_view g)) (plain_rule x []) = λ j h. absurd (omega arith) in
      let round : IsNullableIn 1 (grammar_view g) (slot_of x) = (i, lt', subst (λ z. Grammar.Fits z (slot_of x)) (sym is) (refl, lit≤ tt), inr (subst (EachChildSlot (IsNullableIn 0 (grammar_view g))) (sym is) none)) in
      (1, round)

  module _ (marks : MarksAreClosed g) where
    pub marked_back : (k : ℕ) (slot : Slot) → IsNullableIn k (grammar_view g) slot → IsNullable g slot.symbol
    marked_back zero slot n = absurd n
    marked_back (suc k) slot (i, lt, fits, how) = go (λ slot n. marked_back k slot n) (kind_of i lt) how
      where
        go : ((slot : Slot) → IsNullableIn k (grammar_view g) slot → IsNullable g slot.symbol) → IsKindOf i → IsStar (rule_at (grammar_view g) i) ⊎ EachChildSlot (IsNullableIn k (grammar_view g)) (rule_at (grammar_view g) i) → IsNullable g slot.symbol
        go back (inl rule) (inl star) = absurd (subst IsStar (rule_viewed i rule) star)
        go back (inl rule) (inr each) =
            let each' = subst (EachChildSlot (IsNullableIn k (grammar_view g))) (rule_viewed i rule) each in
            let fits' = subst (λ z. Grammar.Fits z slot) (rule_viewed i rule) fits in
            subst (IsNullable g) fits'.0 (marks i rule (λ position x e.
            (let h = get_index (rhs_of g i) position x e in
            subst (IsNullable g) h.1 (back _ (each' position h.0)))))
        go back (inr (x, m, e)) how = let fits' = subst (λ z. Grammar.Fits z slot) e fits in subst (IsNullable g) fits'.0 m

    module _ (E : Edges) (only : OnlyTerminals g E) (no_rules : NoTerminalHasRules g) (quiet : (x : ℕ) → IsTerminal g x → IsNullable g x → ⊥) where
      pub terminal_viewed : (x : ℕ) → IsTerminal g x → Grammar.IsTerminal (grammar_view g) x
      terminal_viewed x t i lt e = go (kind_of i lt)
        where
          go : IsKindOf i → ⊥
          go (inl rule) = no_rules i rule (subst (IsTerminal g) (sym e ∙ ap Grammar.lhs_of (rule_viewed i rule)) t)
          go (inr (y, m, e')) = quiet x t (subst (IsNullable g) (sym (ap Grammar.lhs_of e') ∙ e) m)

      mutual
        pub symbol_viewed : {x p q : ℕ} {t : Tree} → Derives g E x p q t → Derives.Derives (grammar_view g) E (slot_of x) p q t
        symbol_viewed (Token {x = x} {p = p} {q = q} e) = record { symbol_is = refl; from_is = refl; to_is = refl; terminal = terminal_viewed x (only x p q e); held = e }
        symbol_viewed (Null {x = x} n) = record { symbol_is = refl; from_is = refl; to_is = refl; nullable = nullable_viewed x n }
        symbol_viewed (Rule {x = x} {p = p} {q = q} {r = r} {cs = cs} rule l lt s) =
            let w = parts_viewed rule s in
            record {
              from_is = refl;
              to_is = refl;
              spans = lt;
              in_range = in_view r rule;
              fits = subst (λ z. Grammar.Fits z (slot_of x)) (sym (rule_viewed r rule)) (l, lit≤ tt);
              complete = subst (λ z. Grammar.IsChildCount z (child_count cs)) (sym (rule_viewed r rule)) w.1;
              prefix = w.0;
            }

        pub parts_viewed : {r d p q : ℕ} {cs : Children} → IsRule g r → Spans g E r d p q cs → DerivesPrefix (grammar_view g) E (rule_at (grammar_view g) r) p q cs × (child_count cs ≡ d)
        parts_viewed rule Nothing = (refl, refl)
        parts_viewed rule (More {r = r} {d = d} {p = p} {m = m} {q = q} {x = x} {cs = cs} {t = t} s e h) =
            let w = parts_viewed rule s in
            let is : child_slot (rule_at (grammar_view g) r) (child_count cs) ≡ slot_of x =
            ap (λ z. child_slot z (child_count cs)) (rule_viewed r rule) ∙ ap (λ k. slot_of (slice_index (rhs_of g r) k)) w.1 ∙ ap slot_of (get_index (rhs_of g r) d x e).1 in
            ((m, w.0, subst (λ z. Derives.Derives (grammar_view g) E z m q t) (sym is) (symbol_viewed h)), ap suc w.1)

      mutual
        pub symbol_back : (t : Tree) (slot : Slot) (p q : ℕ) → Derives.Derives (grammar_view g) E slot p q t → Derives g E slot.symbol p q t
        symbol_back (Leaf s a b) slot p q d =
            subst (λ z. Derives g E z p q (Leaf s a b)) d.symbol_is (subst (λ z. Derives g E s z q (Leaf s a b)) d.from_is (subst (λ z. Derives g E s a z (Leaf s a b)) d.to_is (Token d.held)))
        symbol_back (Nulled s a) slot p q d =
            subst (λ z. Derives g E z p q (Nulled s a)) d.symbol_is (subst (λ z. Derives g E s z q (Nulled s a)) d.from_is (subst (λ z. Derives g E s a z (Nulled s a)) d.to_is
            (Null (subst (IsNullable g) (sym d.symbol_is) (marked_back d.nullable.0 slot d.nullable.1)))))
        symbol_back (Node i cs a b) slot p q d = go (λ rule le. parts_back cs i rule p q le d.prefix) (kind_of i d.in_range)
          where
            go : ((rule : IsRule g i) → child_count cs ≤ length (rhs_of g i) → Spans g E i (child_count cs) p q cs) → IsKindOf i → Derives g E slot.symbol p q (Node i cs a b)
            go back (inl rule) =
                let e = rule_viewed i rule in
                let count : child_count cs ≡ length (rhs_of g i) = subst (λ z. Grammar.IsChildCount z (child_count cs)) e d.complete in
                let fits = subst (λ z. Grammar.Fits z slot) e d.fits in
                let spans = subst (λ k. Spans g E i k p q cs) count (back rule (omega (arith, count))) in
                subst (λ z. Derives g E slot.symbol z q (Node i cs a b)) d.from_is (subst (λ z. Derives g E slot.symbol a z (Node i cs a b)) d.to_is
                (Rule rule fits.0 (subst (λ z. z < b) (sym d.from_is) (subst (λ z. p < z) (sym d.to_is) d.spans))
                (subst (λ z. Spans g E i (length (rhs_of g i)) z b cs) (sym d.from_is) (subst (λ z. Spans g E i (length (rhs_of g i)) p z cs) (sym d.to_is) spans))))
            go back (inr (x, m, e)) =
                let count : child_count cs ≡ 0 = subst (λ z. Grammar.IsChildCount z (child_count cs)) e d.complete in
                absurd (no_children cs count d.prefix)
              where
                no_children : (cs : Children) → child_count cs ≡ 0 → DerivesPrefix (grammar_view g) E (rule_at (grammar_view g) i) p q cs → ⊥
                no_children NoChild c f = let lt = d.spans in omega arith
                no_children (Child prefix last) c f = omega arith

        pub parts_back : (cs : Children) (r : ℕ) → IsRule g r → (p q : ℕ) → child_count cs ≤ length (rhs_of g r) → DerivesPrefix (grammar_view g) E (rule_at (grammar_view g) r) p q cs → Spans g E r (child_count cs) p q cs
        parts_back NoChild r rule p q le f = subst (λ z. Spans g E r 0 p z NoChild) f Nothing
        parts_back (Child prefix last) r rule p q le (m, f, d) =
            let is : child_slot (rule_at (grammar_view g) r) (child_count prefix) ≡ slot_of (slice_index (rhs_of g r) (child_count prefix)) = ap (λ z. child_slot z (child_count prefix)) (rule_viewed r rule) in
            let here = symbol_back last (child_slot (rule_at (grammar_view g) r) (child_count prefix)) m q d in
            More (parts_back prefix r rule p m (omega arith) f) (index_get (rhs_of g r) (child_count prefix) (omega arith)) (subst (λ (z : Slot). Derives g E z.symbol m q last) is here)

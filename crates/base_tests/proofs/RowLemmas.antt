-- The derivations of the rows that are played in tests.
use Rattle.std.proofs.Common.{◌≡◌, ◌∙◌, ℕ, zero, suc, length-append, ◌≢◌, ◌<◌, ◌≤◌, Bool, true, false, List, [], ◌∷◌, ◌++◌, length, get_or, refl, sym, ap, subst, arith, lit<, lit≤, inr, Option}
use Rattle.std.specs.Prelude.{All, slice_index_or}
use Rattle.grammar_model.specs.declared.Show.{Show}
use Rattle.grammar_model.specs.Grammar.{Grammar, WrittenRule, rule_at, no_rule, slot_of, IsTerminal}
use Rattle.grammar_model.specs.Analysis.{IsNullable}
use Rattle.grammar_model.specs.Trees.{Leaf, Nulled, Node, NoChild, Child}
use Rattle.grammar_model.specs.Steps.{TokenStep, NulledStep, RuleStep}
use Rattle.grammar_model.specs.Values.{Value, meaning_at}
use Rattle.grammar_core.specs.Written.{IsWritten, symbols_of}
use Rattle.value_text.specs.declared.meaning.RuleMeaning.{RuleMeaning as RuleMeaningCode}
use Rattle.value_text.specs.declared.meaning.Action.{Action as ActionCode}
use Rattle.value_text.specs.Meaning.{meaning_of, rule_meaning_of}
use Rattle.valuator.specs.Told.{states, advanced}
use Rattle.base_tests.specs.Rows.{plain_rule, begins_nulled, ends_nulled, list_in_brackets, one_part, IsPlainMeaning}
use Rattle.valuator.specs.Play.{AreSteps, AreSpans, IsMeaningOf, Suits}

second_of : {A B : Type 0} (a b : A) (x y : B) (r s : List (A × B)) → (a, x) ∷ r ≡ (b, y) ∷ s → x ≡ y
second_of a b x y r s e = let pair : (let p : _ × _ = (a, x) in p) ≡ (b, y) = cc in ap (λ p. p.1) pair

none_of_one : {A : Type 0} (x : A) (xs : List A) → [] ≡ x ∷ xs → ⊥
none_of_one x xs e = cc

-- one teller holds one value more after a play
pub one_more : {T : Type 0} (shows : T → Show) (held : T → List Value) (make : Show → Value) (old new : List T) (t d : T) → old ≡ t ∷ []
    → states new shows held ≡ advanced (λ show values. values ++ make show ∷ []) (states old shows held) → held (get_or new 0 d) ≡ held t ++ make (shows t) ∷ []
one_more shows held make old [] t d is told =
    absurd (none_of_one _ _ (told ∙ ap (λ ts. advanced (λ show values. values ++ make show ∷ []) (states ts shows held)) is))
one_more shows held make old (u ∷ us) t d is told =
    second_of _ _ _ _ _ _ (told ∙ ap (λ ts. advanced (λ show values. values ++ make show ∷ []) (states ts shows held)) is)

pub one_held : (values : List Value) (v : Value) (all : List Value) → values ≡ [] → all ≡ values ++ v ∷ [] → length all ≡ 1
one_held values v all none is = ap length (is ∙ ap (λ vs. vs ++ v ∷ []) none)

pub two_held : (values : List Value) (v : Value) (all : List Value) → length values ≡ 1 → all ≡ values ++ v ∷ [] → length all ≡ 2
two_held values v all one is = omega (arith, one, ap length is, length-append values (v ∷ []))

abbrev with : Grammar → List WrittenRule → Grammar
with g rules = record { names = g.names; rules = rules; starts = g.starts }

same : (g : Grammar) (rules : List WrittenRule) → g.rules ≡ rules → g ≡ with g rules
same g rules e = ap (with g) e

-- S ::= B B; B ::= 'a'; B ::=

begins_nulled_terminal : (g : Grammar) → IsTerminal (with g begins_nulled) 2
begins_nulled_terminal g zero lt e = omega (arith, e)
begins_nulled_terminal g (suc zero) lt e = omega (arith, e)
begins_nulled_terminal g (suc (suc zero)) lt e = omega (arith, e)
begins_nulled_terminal g (suc (suc (suc i))) lt e = omega (arith, lt)

begins_nulled_nullable : (g : Grammar) → IsNullable (with g begins_nulled) (slot_of 1)
begins_nulled_nullable g = (1, (2, lit< tt, (refl, lit≤ tt), inr (λ k lt. absurd (omega (arith, lt)))))

begins_nulled_steps_of : (g : Grammar) → 0 < length g.names → AreSteps (with g begins_nulled) 1 (NulledStep 1 0 ∷ TokenStep 2 0 1 ∷ RuleStep 1 1 0 1 ∷ RuleStep 0 2 0 1 ∷ [])
begins_nulled_steps_of g known = record {
  tree = Node 0 (Child (Child NoChild (Nulled 1 0)) (Node 1 (Child NoChild (Leaf 2 0 1)) 0 1)) 0 1;
  slot = slot_of 0;
  from = 0;
  to = 1;
  known = known;
  derived = record {
    from_is = refl;
    to_is = refl;
    spans = lit< tt;
    in_range = lit< tt;
    fits = (refl, lit≤ tt);
    complete = refl;
    prefix = (
      0,
      (0, refl, record { symbol_is = refl; from_is = refl; to_is = refl; nullable = begins_nulled_nullable g }),
      record {
        from_is = refl;
        to_is = refl;
        spans = lit< tt;
        in_range = lit< tt;
        fits = (refl, lit≤ tt);
        complete = refl;
        prefix = (0, refl, record { symbol_is = refl; from_is = refl; to_is = refl; terminal = begins_nulled_terminal g; held = refl });
      },
    );
  };
  inside = lit≤ tt;
  are = refl;
}

pub first_known : (g : Grammar) (lhs : ℕ) (rhs : List ℕ) (rules : List WrittenRule) → IsWritten g → g.rules ≡ plain_rule lhs rhs ∷ rules → lhs < length g.names
first_known g lhs rhs rules sound e =
    let all = (sound.rules_known 0 (omega (arith, ap length e))).0 in
    let first : rule_at g 0 ≡ plain_rule lhs rhs = ap (λ (rs : List WrittenRule). slice_index_or rs 0 no_rule) e in
    let here = subst (λ (r : WrittenRule). All (λ s. s < length g.names) (symbols_of r)) first all in
    here 0 0 (omega arith)

pub begins_nulled_steps : (g : Grammar) → IsWritten g → g.rules ≡ begins_nulled → AreSteps g 1 (NulledStep 1 0 ∷ TokenStep 2 0 1 ∷ RuleStep 1 1 0 1 ∷ RuleStep 0 2 0 1 ∷ [])
begins_nulled_steps g sound e =
    subst (λ (h : Grammar). AreSteps h 1 (NulledStep 1 0 ∷ TokenStep 2 0 1 ∷ RuleStep 1 1 0 1 ∷ RuleStep 0 2 0 1 ∷ [])) (sym (same g begins_nulled e)) (begins_nulled_steps_of g (first_known g 0 (1 ∷ 1 ∷ []) _ sound e))

suits_from : (m : RuleMeaningCode) (lhs : ℕ) (rhs : List ℕ) (shown : List Bool) → IsPlainMeaning m shown → length shown ≡ length rhs → Suits (plain_rule lhs rhs) (rule_meaning_of m)
suits_from m lhs rhs shown is count = (is.1, is.2, ap length is.0 ∙ count)

begins_nulled_meaning_of : (g : Grammar) (a b d : RuleMeaningCode) (lexeme : Option ActionCode) → IsPlainMeaning a (true ∷ true ∷ []) → IsPlainMeaning b (true ∷ []) → IsPlainMeaning d []
    → IsMeaningOf (with g begins_nulled) (meaning_of (record { rules = a ∷ b ∷ d ∷ []; lexeme = lexeme }))
begins_nulled_meaning_of g a b d lexeme pa pb pd = record { count = refl; suits = suits }
  where
    suits : (i : ℕ) → i < 3 → Suits (rule_at (with g begins_nulled) i) (meaning_at (meaning_of (record { rules = a ∷ b ∷ d ∷ []; lexeme = lexeme })) i)
    suits zero lt = suits_from a 0 (1 ∷ 1 ∷ []) (true ∷ true ∷ []) pa refl
    suits (suc zero) lt = suits_from b 1 (2 ∷ []) (true ∷ []) pb refl
    suits (suc (suc zero)) lt = suits_from d 1 [] [] pd refl
    suits (suc (suc (suc i))) lt = absurd (omega (arith, lt))

pub begins_nulled_meaning : (g : Grammar) (items : List RuleMeaningCode) (a b d : RuleMeaningCode) (lexeme : Option ActionCode) → g.rules ≡ begins_nulled → items ≡ a ∷ b ∷ d ∷ [] → IsPlainMeaning a (true ∷ true ∷ []) → IsPlainMeaning b (true ∷ []) → IsPlainMeaning d []
    → IsMeaningOf g (meaning_of (record { rules = items; lexeme = lexeme }))
begins_nulled_meaning g items a b d lexeme e is pa pb pd =
    subst (λ (h : Grammar). IsMeaningOf h (meaning_of (record { rules = items; lexeme = lexeme }))) (sym (same g begins_nulled e))
    (subst (λ (ms : List RuleMeaningCode). IsMeaningOf (with g begins_nulled) (meaning_of (record { rules = ms; lexeme = lexeme }))) (sym is) (begins_nulled_meaning_of g a b d lexeme pa pb pd))

pub one_span : (n : ℕ) → 1 ≤ n → AreSpans n (record { start = 0; length = 1 } ∷ [])
one_span n h zero d lt = (h, lit< tt)
one_span n h (suc k) d lt = absurd (omega (arith, lt))

pub later_span : (n : ℕ) → 2 ≤ n → AreSpans n (record { start = 1; length = 1 } ∷ [])
later_span n h zero d lt = (h, lit< tt)
later_span n h (suc k) d lt = absurd (omega (arith, lt))

pub five_spans : (n : ℕ) → 5 ≤ n
    → AreSpans n (record { start = 0; length = 1 } ∷ record { start = 1; length = 1 } ∷ record { start = 2; length = 1 } ∷ record { start = 3; length = 1 } ∷ record { start = 4; length = 1 } ∷ [])
five_spans n h zero d lt = (omega (arith, h), lit< tt)
five_spans n h (suc zero) d lt = (omega (arith, h), lit< tt)
five_spans n h (suc (suc zero)) d lt = (omega (arith, h), lit< tt)
five_spans n h (suc (suc (suc zero))) d lt = (omega (arith, h), lit< tt)
five_spans n h (suc (suc (suc (suc zero)))) d lt = (h, lit< tt)
five_spans n h (suc (suc (suc (suc (suc k))))) d lt = absurd (omega (arith, lt))

-- S ::= B C; B ::= x; C ::=

ends_nulled_terminal : (g : Grammar) → IsTerminal (with g ends_nulled) 3
ends_nulled_terminal g zero lt e = omega (arith, e)
ends_nulled_terminal g (suc zero) lt e = omega (arith, e)
ends_nulled_terminal g (suc (suc zero)) lt e = omega (arith, e)
ends_nulled_terminal g (suc (suc (suc i))) lt e = omega (arith, lt)

ends_nulled_nullable : (g : Grammar) → IsNullable (with g ends_nulled) (slot_of 2)
ends_nulled_nullable g = (1, (2, lit< tt, (refl, lit≤ tt), inr (λ k lt. absurd (omega (arith, lt)))))

ends_nulled_steps_of : (g : Grammar) → 0 < length g.names → AreSteps (with g ends_nulled) 1 (TokenStep 3 0 1 ∷ RuleStep 1 1 0 1 ∷ NulledStep 2 1 ∷ RuleStep 0 2 0 1 ∷ [])
ends_nulled_steps_of g known = record {
  tree = Node 0 (Child (Child NoChild (Node 1 (Child NoChild (Leaf 3 0 1)) 0 1)) (Nulled 2 1)) 0 1;
  slot = slot_of 0;
  from = 0;
  to = 1;
  known = known;
  derived = record {
    from_is = refl;
    to_is = refl;
    spans = lit< tt;
    in_range = lit< tt;
    fits = (refl, lit≤ tt);
    complete = refl;
    prefix = (
      1,
      (
        0,
        refl,
        record {
          from_is = refl;
          to_is = refl;
          spans = lit< tt;
          in_range = lit< tt;
          fits = (refl, lit≤ tt);
          complete = refl;
          prefix = (0, refl, record { symbol_is = refl; from_is = refl; to_is = refl; terminal = ends_nulled_terminal g; held = refl });
        },
      ),
      record { symbol_is = refl; from_is = refl; to_is = refl; nullable = ends_nulled_nullable g },
    );
  };
  inside = lit≤ tt;
  are = refl;
}

pub ends_nulled_steps : (g : Grammar) → IsWritten g → g.rules ≡ ends_nulled → AreSteps g 1 (TokenStep 3 0 1 ∷ RuleStep 1 1 0 1 ∷ NulledStep 2 1 ∷ RuleStep 0 2 0 1 ∷ [])
ends_nulled_steps g sound e =
    subst (λ (h : Grammar). AreSteps h 1 (TokenStep 3 0 1 ∷ RuleStep 1 1 0 1 ∷ NulledStep 2 1 ∷ RuleStep 0 2 0 1 ∷ [])) (sym (same g ends_nulled e)) (ends_nulled_steps_of g (first_known g 0 (1 ∷ 2 ∷ []) _ sound e))

ends_nulled_meaning_of : (g : Grammar) (a b d : RuleMeaningCode) (lexeme : Option ActionCode) → IsPlainMeaning a (true ∷ true ∷ []) → IsPlainMeaning b (true ∷ []) → IsPlainMeaning d []
    → IsMeaningOf (with g ends_nulled) (meaning_of (record { rules = a ∷ b ∷ d ∷ []; lexeme = lexeme }))
ends_nulled_meaning_of g a b d lexeme pa pb pd = record { count = refl; suits = suits }
  where
    suits : (i : ℕ) → i < 3 → Suits (rule_at (with g ends_nulled) i) (meaning_at (meaning_of (record { rules = a ∷ b ∷ d ∷ []; lexeme = lexeme })) i)
    suits zero lt = suits_from a 0 (1 ∷ 2 ∷ []) (true ∷ true ∷ []) pa refl
    suits (suc zero) lt = suits_from b 1 (3 ∷ []) (true ∷ []) pb refl
    suits (suc (suc zero)) lt = suits_from d 2 [] [] pd refl
    suits (suc (suc (suc i))) lt = absurd (omega (arith, lt))

pub ends_nulled_meaning : (g : Grammar) (items : List RuleMeaningCode) (a b d : RuleMeaningCode) (lexeme : Option ActionCode) → g.rules ≡ ends_nulled → items ≡ a ∷ b ∷ d ∷ [] → IsPlainMeaning a (true ∷ true ∷ []) → IsPlainMeaning b (true ∷ []) → IsPlainMeaning d []
    → IsMeaningOf g (meaning_of (record { rules = items; lexeme = lexeme }))
ends_nulled_meaning g items a b d lexeme e is pa pb pd =
    subst (λ (h : Grammar). IsMeaningOf h (meaning_of (record { rules = items; lexeme = lexeme }))) (sym (same g ends_nulled e))
    (subst (λ (ms : List RuleMeaningCode). IsMeaningOf (with g ends_nulled) (meaning_of (record { rules = ms; lexeme = lexeme }))) (sym is) (ends_nulled_meaning_of g a b d lexeme pa pb pd))

-- E ::= '(' L ')'; L ::= N+ separator => comma

list_in_brackets_terminal : (g : Grammar) (s : ℕ) → 0 ≢ s → 2 ≢ s → IsTerminal (with g list_in_brackets) s
list_in_brackets_terminal g s a b zero lt e = a e
list_in_brackets_terminal g s a b (suc zero) lt e = b e
list_in_brackets_terminal g s a b (suc (suc i)) lt e = omega (arith, lt)

list_in_brackets_steps_of : (g : Grammar) → 0 < length g.names
    → AreSteps (with g list_in_brackets) 5 (TokenStep 1 0 1 ∷ TokenStep 4 1 2 ∷ TokenStep 5 2 3 ∷ TokenStep 4 3 4 ∷ RuleStep 1 3 1 4 ∷ TokenStep 3 4 5 ∷ RuleStep 0 3 0 5 ∷ [])
list_in_brackets_steps_of g known = record {
  tree = Node 0 (Child (Child (Child NoChild (Leaf 1 0 1)) (Node 1 (Child (Child (Child NoChild (Leaf 4 1 2)) (Leaf 5 2 3)) (Leaf 4 3 4)) 1 4)) (Leaf 3 4 5)) 0 5;
  slot = slot_of 0;
  from = 0;
  to = 5;
  known = known;
  derived = record {
    from_is = refl;
    to_is = refl;
    spans = lit< tt;
    in_range = lit< tt;
    fits = (refl, lit≤ tt);
    complete = refl;
    prefix = (
      4,
      (
        1,
        (0, refl, record { symbol_is = refl; from_is = refl; to_is = refl; terminal = list_in_brackets_terminal g 1 (λ e. omega (arith, e)) (λ e. omega (arith, e)); held = refl }),
        record {
          from_is = refl;
          to_is = refl;
          spans = lit< tt;
          in_range = lit< tt;
          fits = (refl, lit≤ tt);
          complete = (lit< tt, λ h. refl);
          prefix = (
            3,
            (
              2,
              (1, refl, record { symbol_is = refl; from_is = refl; to_is = refl; terminal = list_in_brackets_terminal g 4 (λ e. omega (arith, e)) (λ e. omega (arith, e)); held = refl }),
              record { symbol_is = refl; from_is = refl; to_is = refl; terminal = list_in_brackets_terminal g 5 (λ e. omega (arith, e)) (λ e. omega (arith, e)); held = refl },
            ),
            record { symbol_is = refl; from_is = refl; to_is = refl; terminal = list_in_brackets_terminal g 4 (λ e. omega (arith, e)) (λ e. omega (arith, e)); held = refl },
          );
        },
      ),
      record { symbol_is = refl; from_is = refl; to_is = refl; terminal = list_in_brackets_terminal g 3 (λ e. omega (arith, e)) (λ e. omega (arith, e)); held = refl },
    );
  };
  inside = lit≤ tt;
  are = refl;
}

pub list_in_brackets_steps : (g : Grammar) → IsWritten g → g.rules ≡ list_in_brackets
    → AreSteps g 5 (TokenStep 1 0 1 ∷ TokenStep 4 1 2 ∷ TokenStep 5 2 3 ∷ TokenStep 4 3 4 ∷ RuleStep 1 3 1 4 ∷ TokenStep 3 4 5 ∷ RuleStep 0 3 0 5 ∷ [])
list_in_brackets_steps g sound e =
    subst (λ (h : Grammar). AreSteps h 5 (TokenStep 1 0 1 ∷ TokenStep 4 1 2 ∷ TokenStep 5 2 3 ∷ TokenStep 4 3 4 ∷ RuleStep 1 3 1 4 ∷ TokenStep 3 4 5 ∷ RuleStep 0 3 0 5 ∷ [])) (sym (same g list_in_brackets e))
    (list_in_brackets_steps_of g (first_known g 0 (1 ∷ 2 ∷ 3 ∷ []) _ sound e))

list_in_brackets_meaning_of : (g : Grammar) (a b : RuleMeaningCode) (lexeme : Option ActionCode) → IsPlainMeaning a (false ∷ true ∷ false ∷ []) → (b.sequence ≡ true) × (b.separated ≡ true)
    → IsMeaningOf (with g list_in_brackets) (meaning_of (record { rules = a ∷ b ∷ []; lexeme = lexeme }))
list_in_brackets_meaning_of g a b lexeme pa pb = record { count = refl; suits = suits }
  where
    suits : (i : ℕ) → i < 2 → Suits (rule_at (with g list_in_brackets) i) (meaning_at (meaning_of (record { rules = a ∷ b ∷ []; lexeme = lexeme })) i)
    suits zero lt = suits_from a 0 (1 ∷ 2 ∷ 3 ∷ []) (false ∷ true ∷ false ∷ []) pa refl
    suits (suc zero) lt = pb
    suits (suc (suc i)) lt = absurd (omega (arith, lt))

pub list_in_brackets_meaning : (g : Grammar) (items : List RuleMeaningCode) (a b : RuleMeaningCode) (lexeme : Option ActionCode) → g.rules ≡ list_in_brackets → items ≡ a ∷ b ∷ [] → IsPlainMeaning a (false ∷ true ∷ false ∷ []) → (b.sequence ≡ true) × (b.separated ≡ true)
    → IsMeaningOf g (meaning_of (record { rules = items; lexeme = lexeme }))
list_in_brackets_meaning g items a b lexeme e is pa pb =
    subst (λ (h : Grammar). IsMeaningOf h (meaning_of (record { rules = items; lexeme = lexeme }))) (sym (same g list_in_brackets e))
    (subst (λ (ms : List RuleMeaningCode). IsMeaningOf (with g list_in_brackets) (meaning_of (record { rules = ms; lexeme = lexeme }))) (sym is) (list_in_brackets_meaning_of g a b lexeme pa pb))

-- S ::= 'a'

one_part_terminal : (g : Grammar) → IsTerminal (with g one_part) 1
one_part_terminal g zero lt e = omega (arith, e)
one_part_terminal g (suc i) lt e = omega (arith, lt)

one_part_steps_of : (g : Grammar) → 0 < length g.names → AreSteps (with g one_part) 1 (TokenStep 1 0 1 ∷ RuleStep 0 1 0 1 ∷ [])
one_part_steps_of g known = record {
  tree = Node 0 (Child NoChild (Leaf 1 0 1)) 0 1;
  slot = slot_of 0;
  from = 0;
  to = 1;
  known = known;
  derived = record {
    from_is = refl;
    to_is = refl;
    spans = lit< tt;
    in_range = lit< tt;
    fits = (refl, lit≤ tt);
    complete = refl;
    prefix = (0, refl, record { symbol_is = refl; from_is = refl; to_is = refl; terminal = one_part_terminal g; held = refl });
  };
  inside = lit≤ tt;
  are = refl;
}

pub one_part_steps : (g : Grammar) → IsWritten g → g.rules ≡ one_part → AreSteps g 1 (TokenStep 1 0 1 ∷ RuleStep 0 1 0 1 ∷ [])
one_part_steps g sound e =
    subst (λ (h : Grammar). AreSteps h 1 (TokenStep 1 0 1 ∷ RuleStep 0 1 0 1 ∷ [])) (sym (same g one_part e)) (one_part_steps_of g (first_known g 0 (1 ∷ []) _ sound e))

one_part_meaning_of : (g : Grammar) (a : RuleMeaningCode) (lexeme : Option ActionCode) → IsPlainMeaning a (true ∷ []) → IsMeaningOf (with g one_part) (meaning_of (record { rules = a ∷ []; lexeme = lexeme }))
one_part_meaning_of g a lexeme pa = record { count = refl; suits = suits }
  where
    suits : (i : ℕ) → i < 1 → Suits (rule_at (with g one_part) i) (meaning_at (meaning_of (record { rules = a ∷ []; lexeme = lexeme })) i)
    suits zero lt = suits_from a 0 (1 ∷ []) (true ∷ []) pa refl
    suits (suc i) lt = absurd (omega (arith, lt))

pub one_part_meaning : (g : Grammar) (items : List RuleMeaningCode) (a : RuleMeaningCode) (lexeme : Option ActionCode) → g.rules ≡ one_part → items ≡ a ∷ [] → IsPlainMeaning a (true ∷ [])
    → IsMeaningOf g (meaning_of (record { rules = items; lexeme = lexeme }))
one_part_meaning g items a lexeme e is pa =
    subst (λ (h : Grammar). IsMeaningOf h (meaning_of (record { rules = items; lexeme = lexeme }))) (sym (same g one_part e))
    (subst (λ (ms : List RuleMeaningCode). IsMeaningOf (with g one_part) (meaning_of (record { rules = ms; lexeme = lexeme }))) (sym is) (one_part_meaning_of g a lexeme pa))

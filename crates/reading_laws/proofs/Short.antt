-- What is built of a text has right sides of at most a thousand parts.
use Rattle.std.proofs.Common.{arith, ◌≡◌, inl, inr, ℕ, ◌≤◌, false, List, [], ◌∷◌, ◌++◌, length, map, sym, subst}
use Rattle.std.specs.Prelude.{flat_map, filter}
use Rattle.std.proofs.lemmas.List.{length-map}
use Rattle.finite_sets.proofs.Members.{among_filter_from, among_left, among_right, among_either, among_map, among_map_from, among_flat_map_from, among_at, Among}
use Rattle.finite_sets.proofs.Lists.{map_empty, prefix_empty, back_empty}
use Rattle.grammar_model.specs.Grammar.{WrittenRule, Plain, Sequence, no_rule, rule_at}
use Rattle.language_model.specs.Tokens.{Spelled}
use Rattle.language_model.specs.Description.{Alternative, Statement, Start, Default, LexemeDefault, Lexeme, Discard, Empty, Quantified, Rules}
use Rattle.language_model.specs.Building.{Built, BadAdverb, RepeatedAdverb, LexemeNotDefined, InBoth, NotALexeme, BadClass, TwoStarts, NumberRange, TooLong, faults_of, bad_adverbs, repeated, not_defined, in_both, lefts, not_lexemes, bad_classes, second_starts, big_numbers, too_long, long_parts, right_sides, parts_of, alternatives_of, place_in, plain_rule, rules_of_groups, rules_of, is_of_level, symbols_g1, grammar_g1}
use Rattle.reading_laws.specs.Lists.{HasShortRules, BuiltAreShort}
use Rattle.language_model.proofs.Short.{not_long}

-- ---- no faults

each_empty : {A B : Type 0} (f : A → List B) (xs : List A) (x : A) → flat_map f xs ≡ [] → Among x xs → f x ≡ []
each_empty f [] x e m = absurd m
each_empty f (y ∷ ys) x e (inl same) = subst (λ z. f z ≡ []) same (prefix_empty (f y) (flat_map f ys) e)
each_empty f (y ∷ ys) x e (inr m) = each_empty f ys x (back_empty (f y) (flat_map f ys) e) m

-- ---- right sides

-- ---- rules

abbrev IsShort : WrittenRule → Type 0
IsShort (Plain rule) = length rule.rhs ≤ 1000
IsShort (Sequence rule) = Unit {0}

module _ (names : List (List ℕ)) (rule : WrittenRule) where
  groups_short : (left : Spelled) (count : ℕ) (gs : List (List Alternative)) → ((a : Alternative) → Among a (alternatives_of gs) → length (parts_of a) ≤ 1000) →
      Among rule (rules_of_groups names left count gs) → IsShort rule
  groups_short left count [] short m = absurd m
  groups_short left count (g ∷ gs) short m =
      elim (among_either rule (map (plain_rule names left (length gs) count) g) (rules_of_groups names left count gs) m) [
        | inl here ↦ made (among_map_from (plain_rule names left (length gs) count) rule g here)
        | inr later ↦ groups_short left count gs (λ a among. short a (among_right a g (alternatives_of gs) among)) later
      ]
    where
      made : (a : Alternative) × Among a g × (plain_rule names left (length gs) count a ≡ rule) → IsShort rule
      made (a, among, is) =
          let less = short a (among_left a g (alternatives_of gs) among) in
          let same = length-map (parts_of a) (λ t. place_in names t.content) in
          subst IsShort is (omega (arith, less, same))

  statement_short : (s : Statement) → flat_map (long_parts 0) (right_sides s) ≡ [] → Among rule (rules_of names s) → IsShort rule
  statement_short (Start at name) e m = absurd m
  statement_short (Default at adverbs) e m = absurd m
  statement_short (LexemeDefault at adverbs) e m = absurd m
  statement_short (Lexeme at name adverbs) e m = absurd m
  statement_short (Discard at item adverbs) e m = absurd m
  statement_short (Empty left lexical adverbs) e (inl is) = subst IsShort is (omega arith)
  statement_short (Empty left lexical adverbs) e (inr m) = absurd m
  statement_short (Quantified left lexical item plus adverbs) e (inl is) = subst IsShort is tt
  statement_short (Quantified left lexical item plus adverbs) e (inr m) = absurd m
  statement_short (Rules left lexical groups) e m = groups_short left (length groups) groups short m
    where
      short : (a : Alternative) → Among a (alternatives_of groups) → length (parts_of a) ≤ 1000
      short a among =
          let none = each_empty (long_parts 0) (map parts_of (alternatives_of groups)) (parts_of a) e (among_map parts_of a (alternatives_of groups) among) in
          let le = not_long 0 (parts_of a) (omega arith) none in
          omega (arith, le)

  rules_short : (d : List Statement) → too_long d ≡ [] → Among rule (flat_map (rules_of names) (filter (is_of_level false) d)) → IsShort rule
  rules_short d e m =
      let (s, among, of) = among_flat_map_from (rules_of names) rule (filter (is_of_level false) d) m in
      statement_short s (each_empty (λ s. flat_map (long_parts 0) (right_sides s)) d s e (among_filter_from (is_of_level false) s d among).0) of

-- ---- what is built

none_long : (d : List Statement) → faults_of d ≡ [] → too_long d ≡ []
none_long d e =
    map_empty TooLong (too_long d)
    (back_empty
    (map BadAdverb (bad_adverbs d) ++ map RepeatedAdverb (repeated [] d) ++ map LexemeNotDefined (not_defined d)
    ++ map InBoth (in_both [] (lefts d)) ++ map NotALexeme (not_lexemes d) ++ map BadClass (bad_classes d)
    ++ map TwoStarts (second_starts d) ++ map NumberRange (big_numbers d))
    (map TooLong (too_long d)) e)

short_grammar : (d : List Statement) → too_long d ≡ [] → HasShortRules (grammar_g1 d)
short_grammar d e i rule lt is = subst IsShort is (rules_short (symbols_g1 d) (rule_at (grammar_g1 d) i) d e (among_at (grammar_g1 d).rules i no_rule lt))

pub built_are_short : BuiltAreShort
built_are_short b (d, built) = subst (λ (z : Built). HasShortRules z.g1) (sym built.is) (short_grammar d (none_long d built.faultless))

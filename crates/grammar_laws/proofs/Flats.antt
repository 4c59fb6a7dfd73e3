-- What flattening takes from a check exists, and its named rules are all flat rules.
use Rattle.std.proofs.Common.{arith, inl, inr, ℕ, suc, ◌+◌, ◌<◌, List, [], ◌∷◌, length, refl, ap}
use Rattle.grammar_model.specs.Grammar.{Slot}
use Rattle.recognizer_model.specs.FlatForm.{IsRuleOf}
use Rattle.flat_model.specs.Flatten.{named_rules}
use Rattle.flat_rules.proofs.Rules.{named_in}
use Rattle.flat_rules.proofs.Whole.{in_named, once_named}
use Rattle.finite_sets.proofs.Deciding.{both, test_of, test_true, true_test}
use Rattle.finite_sets.proofs.Members.{Among}
use Rattle.grammar_laws.specs.Laws.{DecisionsExist, NamedRulesAreAll, RulesAreCounted, RuleCountIsOne}
use Rattle.grammar_laws.proofs.Slots.{slots}
use Rattle.grammar_laws.proofs.Tests.{nullable_decided, productive_decided, accessible_decided, accessible_member}
use Rattle.recognizer_model.proofs.Counting.{list_is, one_count}

-- past the numbers of all members
abbrev past : (Slot → ℕ) → List Slot → ℕ
past f [] = 0
past f (x ∷ xs) = suc (f x) + past f xs

below_past : (f : Slot → ℕ) (s : Slot) (xs : List Slot) → Among s xs → f s < past f xs
below_past f s [] m = absurd m
below_past f s (x ∷ xs) (inl e) = let same = ap f e in omega (arith, same)
below_past f s (x ∷ xs) (inr m) = let lt = below_past f s xs m in omega (arith, lt)

pub decisions_exist : DecisionsExist
decisions_exist g = record {
  used = λ s. test_of (both (accessible_decided g s) (productive_decided g s));
  used_is = λ s. (true_test (both (accessible_decided g s) (productive_decided g s)), test_true (both (accessible_decided g s) (productive_decided g s)));
  productive = λ s. test_of (productive_decided g s);
  productive_is = λ s. (true_test (productive_decided g s), test_true (productive_decided g s));
  nullable = λ s. test_of (nullable_decided g s);
  nullable_is = λ s. (true_test (nullable_decided g s), test_true (nullable_decided g s));
  symbols = past (λ s. s.symbol) (slots g);
  below_symbols = λ s u. below_past (λ s. s.symbol) s (slots g) (accessible_member g s u.0);
  levels = past (λ s. s.level) (slots g);
  below_levels = λ s u other. below_past (λ s. s.level) s (slots g) (accessible_member g s u.0);
}

pub named_rules_are_all : NamedRulesAreAll
named_rules_are_all w d = list_is (IsRuleOf w) (named_rules w d) (once_named w d) (λ n m. (named_in w d n m).0) (in_named w d)

pub rules_are_counted : RulesAreCounted
rules_are_counted w = let d = decisions_exist w in (length (named_rules w d), (named_rules w d, named_rules_are_all w d, refl))

pub rule_count_is_one : RuleCountIsOne
rule_count_is_one w m n a b = one_count (IsRuleOf w) m n a b

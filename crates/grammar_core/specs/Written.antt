-- Written grammars: what a program holds, as a grammar of the definitions.
use Rattle.std.specs.Prelude.{◌≡◌, ℕ, ◌<◌, ◌≤◌, Bool, nat_lt, List, ◌∷◌, length, All, Some, option_to_list, slice_get}
use Rattle.grammar_model.specs.Grammar.{WrittenRule, Plain, Sequence, Grammar, rule_at}
pub use Rattle.grammar_model.specs.Growth.{has_name, number_of, with_name, with_rule, with_start}
use Rattle.grammar_model.specs.declared.limits.TheConstants.{MOST_ENTRIES}
use Rattle.grammar_core.specs.declared.rule.WrittenRule as held
use Rattle.grammar_core.specs.declared.rule.WrittenRule.TheVariants as form

-- the rule that is held
abbrev pub rule_of : held.WrittenRule → WrittenRule
rule_of (form.Plain r) = Plain r
rule_of (form.Sequence r) = Sequence r

-- a grammar has at most so many symbols, rules and starts each, and a right side so many parts
abbrev pub has_room : ℕ → Bool
has_room count = nat_lt count MOST_ENTRIES

abbrev pub symbols_of : WrittenRule → List ℕ
symbols_of (Plain r) = r.lhs ∷ r.rhs
symbols_of (Sequence r) = r.lhs ∷ r.item ∷ option_to_list r.separator

-- a plain rule's level is below its groups, and it has no more than 1,000 parts
abbrev pub IsLevelled : WrittenRule → Type 0
IsLevelled (Plain r) = (r.level < r.groups) × (length r.rhs ≤ 1000)
IsLevelled (Sequence r) = Unit {0}

-- what is true of each written grammar
pub record IsWritten (g : Grammar) : Type 0 where
  pub few_names : length g.names ≤ MOST_ENTRIES
  pub few_rules : length g.rules ≤ MOST_ENTRIES
  pub few_starts : length g.starts ≤ MOST_ENTRIES
  pub names_differ : (i j : ℕ) (name : List ℕ) → slice_get g.names i ≡ Some name → slice_get g.names j ≡ Some name → i ≡ j
  pub rules_known : (i : ℕ) → i < length g.rules → All (λ s. s < length g.names) (symbols_of (rule_at g i)) × IsLevelled (rule_at g i)
  pub starts_known : All (λ s. s < length g.names) g.starts

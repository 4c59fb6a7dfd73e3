-- What a program asks of statements and tokens so that it can write their grammars: none of it fails in the description of a text that has no fault.
use Rattle.std.specs.Prelude.{◌≡◌, ◌<◌, ℕ, ◌≤◌, ℤ, pos, neg_ℤ, ◌≤ℤ◌, true, List, [], length, All, IsUtf8}
use Rattle.language_model.specs.Tokens.{Spelled}
use Rattle.language_model.specs.Description.{Alternative, Statement, Empty, Quantified, Rules}
use Rattle.language_model.specs.Building.{is_one_of, is_quote, parts_of, rank_of, separator_of}
use Rattle.grammar_model.specs.Grammar.{WrittenRule, Grammar}
use Rattle.grammar_model.specs.declared.limits.TheConstants.{MOST_ENTRIES}
use Rattle.grammar_core.specs.Written.{symbols_of, IsLevelled}
use Rattle.dsl_faults.specs.Texts.{AllNew}
use Rattle.dsl_faults.specs.Quotes.{between_quotes}

-- from minus a million to a million
abbrev pub IsSmall : ℤ → Type 0
IsSmall z = (neg_ℤ (pos 1000000) ≤ℤ z) × (z ≤ℤ pos 1000000)

-- the token's text is one of the names
abbrev pub IsNamed : List (List ℕ) → Spelled → Type 0
IsNamed names t = is_one_of names t.content ≡ true

abbrev pub IsReadyAlternative : List (List ℕ) → Alternative → Type 0
IsReadyAlternative names a = All (IsNamed names) (parts_of a) × IsSmall (rank_of a.adverbs)

-- what the rules of a statement name is among the names, and ranks are small
abbrev pub IsReady : List (List ℕ) → Statement → Type 0
IsReady names (Empty left lexical adverbs) = IsNamed names left × IsSmall (rank_of adverbs)
IsReady names (Quantified left lexical item plus adverbs) = IsNamed names left × IsNamed names item × All (IsNamed names) (separator_of adverbs) × IsSmall (rank_of adverbs)
IsReady names (Rules left lexical groups) = IsNamed names left × (length groups ≤ 4294967295) × All (All (IsReadyAlternative names)) groups
IsReady names _ = Unit {0}

-- a quoted text has characters between its quotes
abbrev pub IsReadable : Spelled → Type 0
IsReadable t = is_quote t ≡ true → IsUtf8 (between_quotes t.content)

-- the rule names symbols of so many, and is as a grammar wants it
abbrev pub IsGood : ℕ → WrittenRule → Type 0
IsGood n r = All (λ s. s < n) (symbols_of r) × IsLevelled r

-- the symbols differ, the rules and starts name them, and there are not too many
pub record IsWritable (g : Grammar) : Type 0 where
  pub differ : AllNew [] g.names
  pub symbols : length g.names ≤ MOST_ENTRIES
  pub good : All (IsGood (length g.names)) g.rules
  pub rules : length g.rules ≤ MOST_ENTRIES
  pub known : All (λ s. s < length g.names) g.starts
  pub starts : length g.starts ≤ MOST_ENTRIES

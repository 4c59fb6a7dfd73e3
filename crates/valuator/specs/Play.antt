-- What is played to tellers: the steps of a derivation whose tokens lie one place each, with their spans in a text.
use Rattle.std.specs.Prelude.{◌≡◌, ℕ, suc, ◌+◌, ◌-◌, ◌^◌, ◌<◌, ◌≤◌, true, false, is_some, List, [], ◌∷◌, length, map, slice_range, encode_utf8_all, All}
use Rattle.grammar_model.specs.Grammar.{Grammar, lhs_of, Slot, WrittenRule, Plain, Sequence, rule_at, IsChildCount}
use Rattle.grammar_model.specs.declared.Show.{Show}
use Rattle.grammar_model.specs.Trees.{Tree}
use Rattle.grammar_model.specs.Derives.{Edges, Derives}
use Rattle.grammar_model.specs.Steps.{Step, TokenStep, NulledStep, RuleStep, steps_of}
use Rattle.grammar_model.specs.Values.{Value, Token, Meaning, RuleMeaning, meaning_at}
use Rattle.grammar_core.specs.declared.steps.Span.{Span}

-- a span's token: its text is that of its characters
abbrev pub token_of : List ℕ → Span → Token
token_of chars span =
    record { start = span.start; length = span.length; text = encode_utf8_all (slice_range chars span.start (span.start + span.length)) }

abbrev pub tokens_of : List ℕ → List Span → List Token
tokens_of chars spans = map (token_of chars) spans

-- the spans lie among so many characters, and end below 2 ^ 32
abbrev pub AreSpans : ℕ → List Span → Type 0
AreSpans count spans = All (λ (s : Span). (s.start + s.length ≤ count) × (s.start + s.length < 2 ^ 32)) spans

-- each token is one place long
abbrev pub OnePlace : Edges
OnePlace symbol from to = to ≡ suc from

-- the steps of a derivation that ends at so many places or before
pub record AreSteps (g : Grammar) (places : ℕ) (steps : List Step) : Type 0 where
  pub tree : Tree
  pub slot : Slot
  pub from : ℕ
  pub to : ℕ
  pub known : slot.symbol < length g.names
  pub derived : Derives g OnePlace slot from to tree
  pub inside : to ≤ places
  pub are : steps ≡ steps_of tree

-- a rule's meaning is of its kind, and says of each part of a plain rule whether it is shown
abbrev pub Suits : WrittenRule → RuleMeaning → Type 0
Suits (Plain r) m = (m.sequence ≡ false) × (m.separated ≡ false) × (length m.shown ≡ length r.rhs)
Suits (Sequence r) m = (m.sequence ≡ true) × (m.separated ≡ is_some r.separator)

pub record IsMeaningOf (g : Grammar) (m : Meaning) : Type 0 where
  pub count : length m.rules ≡ length g.rules
  pub suits : (i : ℕ) → i < length g.rules → Suits (rule_at g i) (meaning_at m i)

-- what a teller that holds so many values can be told
abbrev pub CanTell : Grammar → (places held : ℕ) → Step → Type 0
CanTell g places held (TokenStep symbol from to) = (symbol < length g.names) × (from < places)
CanTell g places held (NulledStep symbol at) = (symbol < length g.names) × (at ≤ places)
CanTell g places held (RuleStep i n from to) = (i < length g.rules) × (lhs_of (rule_at g i) < length g.names) × IsChildCount (rule_at g i) n × (from < to) × (to ≤ places) × (n ≤ held)

-- each of these tellers can be told the step
abbrev pub EachCanTell : Grammar → ℕ → List (Show × List Value) → Step → Type 0
EachCanTell g places tellers step = All (λ (s : Show × List Value). CanTell g places (length s.1) step) tellers

-- how many values are held after a step, and what a teller that holds so many values can be told one after another
abbrev pub held_after : ℕ → Step → ℕ
held_after held (TokenStep symbol from to) = suc held
held_after held (NulledStep symbol at) = suc held
held_after held (RuleStep i n from to) = suc (held - n)

abbrev pub CanTellAll : Grammar → (places held : ℕ) → List Step → Type 0
CanTellAll g places held [] = Unit {0}
CanTellAll g places held (step ∷ steps) = CanTell g places held step × CanTellAll g places (held_after held step) steps

abbrev pub EachCanTellAll : Grammar → ℕ → List (Show × List Value) → List Step → Type 0
EachCanTellAll g places tellers steps = All (λ (s : Show × List Value). CanTellAll g places (length s.1) steps) tellers

-- Grammars whose derivations tests play.
use Rattle.std.specs.Prelude.{◌≡◌, ℕ, pos, Some, Bool, true, false, List, [], ◌∷◌}
use Rattle.grammar_model.specs.Grammar.{WrittenRule, Plain, Sequence}
use Rattle.grammar_model.specs.declared.Assoc.TheVariants.{Left}
use Rattle.value_text.specs.declared.meaning.RuleMeaning.{RuleMeaning}

-- a plain rule without levels
abbrev pub plain_rule : ℕ → List ℕ → WrittenRule
plain_rule lhs rhs = Plain (record { lhs = lhs; rhs = rhs; level = 0; groups = 1; assoc = Left; rank = pos 0; null_high = false })

-- a rule for one or more items with separators
abbrev pub list_rule : ℕ → ℕ → ℕ → WrittenRule
list_rule lhs item separator = Sequence (record { lhs = lhs; item = item; plus = true; separator = Some separator; proper = false; rank = pos 0; null_high = false })

-- S ::= B B; B ::= 'a'; B ::=
abbrev pub begins_nulled : List WrittenRule
begins_nulled = plain_rule 0 (1 ∷ 1 ∷ []) ∷ plain_rule 1 (2 ∷ []) ∷ plain_rule 1 [] ∷ []

-- S ::= B C; B ::= x; C ::=
abbrev pub ends_nulled : List WrittenRule
ends_nulled = plain_rule 0 (1 ∷ 2 ∷ []) ∷ plain_rule 1 (3 ∷ []) ∷ plain_rule 2 [] ∷ []

-- E ::= '(' L ')'; L ::= N+ separator => comma
abbrev pub list_in_brackets : List WrittenRule
list_in_brackets = plain_rule 0 (1 ∷ 2 ∷ 3 ∷ []) ∷ list_rule 2 4 5 ∷ []

-- S ::= 'a'
abbrev pub one_part : List WrittenRule
one_part = plain_rule 0 (1 ∷ []) ∷ []

-- the meaning of a plain rule, some of whose parts are shown
abbrev pub IsPlainMeaning : RuleMeaning → List Bool → Type 0
IsPlainMeaning m shown = (m.shown ≡ shown) × (m.sequence ≡ false) × (m.separated ≡ false)

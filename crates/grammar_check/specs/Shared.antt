-- Which symbols are left sides of several rules and of sequences, and what plain rules say.
use Rattle.std.specs.Prelude.{◌≡◌, ℕ, ◌<◌, Bool, true, false, List, ◌∷◌, map, slice_index_or, Contains, ◌↔◌}
use Rattle.std.specs.declared.vec.Vec.{Vec}
use Rattle.std.specs.declared.alloc.Global.{Global}
use Rattle.grammar_model.specs.Grammar.{Grammar, PlainRule, SequenceRule, Plain, Sequence, rule_at, lhs_of}

abbrev pub rows_of : List (Vec ℕ Global) → List (List ℕ)
rows_of rows = map (λ row. row.items) rows

abbrev pub IsSequenceAt : Grammar → ℕ → Type 0
IsSequenceAt g i = (r : SequenceRule) × (rule_at g i ≡ Sequence r)

-- of two of the first n rules
abbrev pub HasTwo : Grammar → (n symbol : ℕ) → Type 0
HasTwo g n symbol = (i : ℕ) × (j : ℕ) × (i < j) × (j < n) × (lhs_of (rule_at g i) ≡ symbol) × (lhs_of (rule_at g j) ≡ symbol)

abbrev pub HasSequence : Grammar → (n symbol : ℕ) → Type 0
HasSequence g n symbol = (i : ℕ) × (i < n) × IsSequenceAt g i × (lhs_of (rule_at g i) ≡ symbol)

-- the marks are at the numbers of which P holds
abbrev pub Marks : List Bool → (ℕ → Type 0) → Type 0
Marks marks P = (x : ℕ) → (slice_index_or marks x false ≡ true) ↔ P x

-- the texts are of the plain rules among the first n: the left side and then the parts
abbrev pub HasTexts : Grammar → ℕ → List (List ℕ) → Type 0
HasTexts g n texts = (t : List ℕ) → Contains texts t ↔ ((i : ℕ) × (r : PlainRule) × (i < n) × (rule_at g i ≡ Plain r) × (t ≡ r.lhs ∷ r.rhs))

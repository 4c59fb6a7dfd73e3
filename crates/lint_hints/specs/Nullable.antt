-- Names that can span nothing, the rules that this comes from, and the sequences that have such a name as item or separator.
use Rattle.std.specs.Prelude.{ℕ, Bool, true, false, ◌&&◌, ◌||◌, ◌==◌, not, if◌then◌else◌, IsTrue, List, [], ◌∷◌, bytes_eq, Option, Some, None}
use Rattle.std.specs.List.{flat_map, list_any, list_all, All}
use Rattle.language_model.specs.Tokens.{Spelled}
use Rattle.language_model.specs.Description.{Element, Alternative, Statement, Empty, Quantified, Rules, is_name}
use Rattle.language_model.specs.Building.{parts_of_element, separator_of}
use Rattle.lint_hints.specs.Hints.{Hint, Nullable, last_of}
use Rattle.lint_hints.specs.Uses.{left_name}

-- WHETHER. A right side spans nothing by a set of names that do, which is given by its test

abbrev pub spans_part : (List ℕ → Bool) → Spelled → Bool
spans_part spans t = is_name t && spans t.content

abbrev pub spans_element : (List ℕ → Bool) → Element → Bool
spans_element spans e = list_all (spans_part spans) (parts_of_element e)

abbrev pub spans_alternative : (List ℕ → Bool) → Alternative → Bool
spans_alternative spans a = list_all (spans_element spans) a.elements

abbrev pub spans_group : (List ℕ → Bool) → List Alternative → Bool
spans_group spans group = list_any (spans_alternative spans) group

abbrev pub spans_right : (List ℕ → Bool) → Statement → Bool
spans_right spans (Empty left lexical adverbs) = true
spans_right spans (Quantified left lexical item plus adverbs) = not plus || spans_part spans item
spans_right spans (Rules left lexical groups) = list_any (spans_group spans) groups
spans_right spans _ = false

-- the set has each left side whose right side spans nothing by it
abbrev pub IsClosed : List Statement → (List ℕ → Bool) → Type 0
IsClosed d spans = All (λ s. IsTrue (spans_right spans s) → IsTrue (spans (left_name s))) d

-- a name can span nothing: it is in the least closed set
abbrev pub SpansNothing : List Statement → List ℕ → Type 0
SpansNothing d name = (spans : List ℕ → Bool) → IsClosed d spans → IsTrue (spans name)

-- WHERE. This comes from the left side of an empty rule, or of a sequence with a star

pub record Cause : Type 0 where
  pub name : List ℕ
  pub at : ℕ

abbrev pub is_cause : Spelled → Cause → Bool
is_cause left c = bytes_eq left.content c.name && (left.at == c.at)

-- A right side that spans nothing has it from a cause, by a relation of names to causes: from its item, or from the last part of an alternative.

abbrev pub comes_last : (List ℕ → Cause → Bool) → Spelled → Cause → Option Spelled → Bool
comes_last from left c None = is_cause left c
comes_last from left c (Some t) = from t.content c

abbrev pub comes_alternative : (List ℕ → Bool) → (List ℕ → Cause → Bool) → Spelled → Cause → Alternative → Bool
comes_alternative spans from left c a = spans_alternative spans a && comes_last from left c (last_of a)

abbrev pub comes_group : (List ℕ → Bool) → (List ℕ → Cause → Bool) → Spelled → Cause → List Alternative → Bool
comes_group spans from left c group = list_any (comes_alternative spans from left c) group

abbrev pub comes_item : (List ℕ → Cause → Bool) → Spelled → Cause → (plus : Bool) → Spelled → Bool
comes_item from left c true item = is_name item && from item.content c
comes_item from left c false item = is_cause left c

abbrev pub comes_right : (List ℕ → Bool) → (List ℕ → Cause → Bool) → Cause → Statement → Bool
comes_right spans from c (Empty left lexical adverbs) = is_cause left c
comes_right spans from c (Quantified left lexical item plus adverbs) = comes_item from left c plus item
comes_right spans from c (Rules left lexical groups) = list_any (comes_group spans from left c) groups
comes_right spans from c _ = false

-- the relation has each left side with each cause that its right side has it from
abbrev pub AreClosed : List Statement → (List ℕ → Bool) → (List ℕ → Cause → Bool) → Type 0
AreClosed d spans from = All (λ s. (c : Cause) → IsTrue (comes_right spans from c s) → IsTrue (from (left_name s) c)) d

-- that a name can span nothing comes from the cause: the two are in the least closed relation
abbrev pub ComesFrom : List Statement → List ℕ → Cause → Type 0
ComesFrom d name c = (spans : List ℕ → Bool) (from : List ℕ → Cause → Bool) → IsClosed d spans → AreClosed d spans from → IsTrue (from name c)

-- for a name: no cause where it cannot span nothing, and else one that this comes from
abbrev pub IsCauseOf : List Statement → List ℕ → Option Cause → Type 0
IsCauseOf d name None = ¬ (SpansNothing d name)
IsCauseOf d name (Some c) = SpansNothing d name × ComesFrom d name c

-- HINTS, by a cause for each name

abbrev pub cause_of_part : (List ℕ → Option Cause) → Spelled → Option Cause
cause_of_part causes t = if is_name t then causes t.content else None

abbrev pub nullable_by : (sequence : List ℕ) → Option Cause → List Hint
nullable_by sequence None = []
nullable_by sequence (Some c) = record { at = c.at; fault = Nullable c.name sequence } ∷ []

abbrev pub nullable : (List ℕ → Option Cause) → (sequence : List ℕ) → Spelled → List Hint
nullable causes sequence t = nullable_by sequence (cause_of_part causes t)

abbrev pub sequence_hints : (List ℕ → Option Cause) → Statement → List Hint
sequence_hints causes (Quantified left lexical item plus adverbs) = flat_map (nullable causes left.content) (item ∷ separator_of adverbs)
sequence_hints causes _ = []

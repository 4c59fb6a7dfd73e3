-- What the program holds: the names that are used, and the cause that it takes for a right side, by those that it has: for the law that each name has its own, see `Nullable`.
use Rattle.std.specs.Prelude.{◌≡◌, ℕ, Bool, true, false, ◌<◌, if◌then◌else◌, is_some, IsTrue, List, [], ◌∷◌, bytes_eq, Option, Some, None, option_map, count_by, not}
use Rattle.std.specs.Option.{option_or}
use Rattle.std.specs.List.{All}
use Rattle.std.specs.HashMap.{get_by}
use Rattle.language_model.specs.Tokens.{Spelled}
use Rattle.language_model.specs.Description.{Alternative, Statement, Empty, Quantified, Rules}
use Rattle.lint_hints.specs.declared.nullable.Cause.{Cause as HeldCause}
use Rattle.lint_hints.specs.declared.nullable.Nullable.{Nullable as HeldNullable}
use Rattle.lint_hints.specs.declared.uses.Names.{Names as HeldNames}
use Rattle.lint_hints.specs.Hints.{last_of}
use Rattle.lint_hints.specs.Uses.{left_name}
use Rattle.lint_hints.specs.Nullable.{Cause, SpansNothing, ComesFrom, spans_alternative, cause_of_part}

abbrev pub has : HeldNames → List ℕ → Bool
has names q = is_some (get_by (λ k. bytes_eq q k.now) names.used)

abbrev pub cause_of : HeldCause → Cause
cause_of c = record { name = c.name.now; at = c.at }

abbrev pub causes_of : HeldNullable → List ℕ → Option Cause
causes_of n name = option_map cause_of (get_by (λ k. bytes_eq name k.now) n.causes)

abbrev pub knows : (List ℕ → Option Cause) → List ℕ → Bool
knows causes name = is_some (causes name)

abbrev pub own : Spelled → Cause
own left = record { name = left.content; at = left.at }

abbrev pub found_last : (List ℕ → Option Cause) → Spelled → Option Spelled → Option Cause
found_last causes left None = Some (own left)
found_last causes left (Some t) = cause_of_part causes t

abbrev pub found_alternative : (List ℕ → Option Cause) → Spelled → Alternative → Option Cause
found_alternative causes left a = if spans_alternative (knows causes) a then found_last causes left (last_of a) else None

abbrev pub found_group : (List ℕ → Option Cause) → Spelled → List Alternative → Option Cause
found_group causes left [] = None
found_group causes left (a ∷ group) = option_or (found_alternative causes left a) (found_group causes left group)

abbrev pub found_groups : (List ℕ → Option Cause) → Spelled → List (List Alternative) → Option Cause
found_groups causes left [] = None
found_groups causes left (group ∷ groups) = option_or (found_group causes left group) (found_groups causes left groups)

abbrev pub found_item : (List ℕ → Option Cause) → Spelled → (plus : Bool) → Spelled → Option Cause
found_item causes left true item = cause_of_part causes item
found_item causes left false item = Some (own left)

abbrev pub found : (List ℕ → Option Cause) → Statement → Option Cause
found causes (Empty left lexical adverbs) = Some (own left)
found causes (Quantified left lexical item plus adverbs) = found_item causes left plus item
found causes (Rules left lexical groups) = found_groups causes left groups
found causes _ = None

-- new causes are the old ones, with one for this name
abbrev pub Updates : (name : List ℕ) (cause : Cause) (old new : List ℕ → Option Cause) → Type 0
Updates name cause old new = (q : List ℕ) → new q ≡ (if bytes_eq name q then Some cause else old q)

-- after a look at a statement: its left side has a new cause, or all is as before and it needs none
abbrev pub IsAdded : Statement → (old new : List ℕ → Option Cause) → (grew : Bool) → Type 0
IsAdded s old new true = (c : Cause) × (old (left_name s) ≡ None) × (found old s ≡ Some c) × Updates (left_name s) c old new
IsAdded s old new false = ((q : List ℕ) → new q ≡ old q) × (IsTrue (is_some (found old s)) → IsTrue (is_some (old (left_name s))))

-- each name that has a cause can span nothing, and that comes from it
abbrev pub AreSound : List Statement → (List ℕ → Option Cause) → Type 0
AreSound d causes = (name : List ℕ) (c : Cause) → causes name ≡ Some c → SpansNothing d name × ComesFrom d name c

-- how many left sides have no cause
abbrev pub open_count : List Statement → (List ℕ → Option Cause) → ℕ
open_count d causes = count_by (λ s. not (knows causes (left_name s))) d

-- no statement gives a new left side
abbrev pub AreEnough : List Statement → (List ℕ → Option Cause) → Type 0
AreEnough d causes = All (λ s. IsTrue (is_some (found causes s)) → IsTrue (knows causes (left_name s))) d

-- after a look at all statements: one more left side has a cause, or all is as before and none needs one
abbrev pub IsRound : List Statement → (old new : List ℕ → Option Cause) → (grew : Bool) → Type 0
IsRound d old new true = open_count d new < open_count d old
IsRound d old new false = ((q : List ℕ) → new q ≡ old q) × AreEnough d old

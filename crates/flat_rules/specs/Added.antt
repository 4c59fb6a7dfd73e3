-- Flat rules by the numbers of their symbols, as they are added to a list that has room for so many.
use Rattle.std.specs.Prelude.{◌≡◌, ℕ, ◌+◌, ◌<◌, ◌≤◌, Bool, true, false, List, [], ◌∷◌, ◌++◌, length, map, Option, Some, None, if◌then◌else◌, nat_lt, is_some, Result, Ok, Err}
use Rattle.grammar_model.specs.Grammar.{WrittenRule, Plain, Grammar, rule_at, slot_of, child_slot}
use Rattle.grammar_model.specs.Grammar
use Rattle.grammar_model.specs.Simple.{numbers, part_count}
use Rattle.recognizer_model.specs.Flat.{FlatRule}
use Rattle.recognizer_model.specs.declared.flat.FlatSource.TheVariants.{Written, Top as OfStart}
use Rattle.flat_rules.specs.declared.refusal.FlatRefusal.{FlatRefusal}
use Rattle.flat_rules.specs.declared.refusal.FlatRefusal.TheVariants.{TooManyRules, NoMemory}
use Rattle.flat_model.specs.Flatten.{Decided, slot_rules, rules_of}
use Rattle.recognizer_model.specs.declared.flat.FlatSymbol.{FlatSymbol}
use Rattle.std.specs.List.{flat_map}
use Rattle.std.specs.declared.vec.Vec.{Vec}
use Rattle.std.specs.declared.alloc.Global.{Global}
use Rattle.grammar_model.specs.declared.limits.TheConstants.{MOST_FLAT_RULES}
use Rattle.flat_rules.specs.Tables.{Numbering, number_in, numbered_in, place_of}
use Rattle.recognizer_model.specs.declared.flat.FlatSymbol.TheVariants.{Sequence, Top}

-- these were added, or there would be too many, want of memory aside
abbrev pub Adds : {T : Type 0} → List FlatRule → List FlatRule → List FlatRule → Result T FlatRefusal → Type 0
Adds old new more (Ok x) = (new ≡ old ++ more) × (length old ≤ MOST_FLAT_RULES → length new ≤ MOST_FLAT_RULES)
Adds old new more (Err TooManyRules) = MOST_FLAT_RULES < length old + length more
Adds old new more (Err NoMemory) = Unit {0}

-- these are all, or they are too many, want of memory aside
abbrev pub AreAll : List FlatRule → Result (Vec FlatRule Global) FlatRefusal → Type 0
AreAll all (Ok rules) = (rules.items ≡ all) × (length all ≤ MOST_FLAT_RULES)
AreAll all (Err TooManyRules) = MOST_FLAT_RULES < length all
AreAll all (Err NoMemory) = Unit {0}

abbrev pub rule_by : ℕ → ℕ → List ℕ → FlatRule
rule_by i lhs rhs = record { lhs = lhs; rhs = rhs; source = Written i }

-- the number of a rule's part
abbrev pub part_in : Numbering → WrittenRule → ℕ → ℕ
part_in t rule k = place_of t.slots (child_slot rule k)

abbrev pub parts_in : Numbering → WrittenRule → List ℕ
parts_in t rule = map (part_in t rule) (numbers (part_count rule))

abbrev pub has_separator_rule : WrittenRule → Bool
has_separator_rule (Plain r) = false
has_separator_rule (Grammar.Sequence r) = is_some r.separator

abbrev pub is_proper_rule : WrittenRule → Bool
is_proper_rule (Plain r) = true
is_proper_rule (Grammar.Sequence r) = r.proper

-- the separator, if there is one, has trees
abbrev pub separator_counts : {w : Grammar} → Decided w → Option ℕ → Bool
separator_counts d None = false
separator_counts d (Some c) = d.productive (slot_of c)

abbrev pub counts_separator : {w : Grammar} → Decided w → WrittenRule → Bool
counts_separator d (Plain r) = false
counts_separator d (Grammar.Sequence r) = separator_counts d r.separator

-- the rule of a plain one, if it has parts
abbrev pub plain_by : Numbering → ℕ → ℕ → WrittenRule → List FlatRule
plain_by t i lhs rule = if nat_lt 0 (part_count rule) then rule_by i lhs (parts_in t rule) ∷ [] else []

-- the rules of a left side of a list
abbrev pub lists_by : Numbering → ℕ → ℕ → Bool → WrittenRule → List FlatRule
lists_by t i lhs trails rule =
    rule_by i lhs (number_in t (Sequence i) ∷ []) ∷ (if trails then rule_by i lhs (number_in t (Sequence i) ∷ part_in t rule 1 ∷ []) ∷ [] else [])

-- the rules of a list: a longer one, and one item
abbrev pub longer_by : Numbering → ℕ → Bool → WrittenRule → List FlatRule
longer_by t i counts rule =
    if has_separator_rule rule
    then (if counts then rule_by i (number_in t (Sequence i)) (number_in t (Sequence i) ∷ part_in t rule 1 ∷ part_in t rule 0 ∷ []) ∷ [] else [])
    else rule_by i (number_in t (Sequence i)) (number_in t (Sequence i) ∷ part_in t rule 0 ∷ []) ∷ []

abbrev pub items_by : Numbering → ℕ → Bool → WrittenRule → List FlatRule
items_by t i counts rule = longer_by t i counts rule ++ rule_by i (number_in t (Sequence i)) (part_in t rule 0 ∷ []) ∷ []

-- the rules of a slot that come from these, and of symbols
module _ (w : Grammar) (d : Decided w) (t : Numbering) where
  abbrev pub from_rule : Grammar.Slot → ℕ → List FlatRule
  from_rule slot i = map (numbered_in t) (slot_rules w d slot.symbol slot.level i (rule_at w i))

  abbrev pub from_rules : Grammar.Slot → List ℕ → List FlatRule
  from_rules slot row = flat_map (from_rule slot) row

  abbrev pub from_symbols : List FlatSymbol → List FlatRule
  from_symbols symbols = flat_map (λ x. map (numbered_in t) (rules_of w d x)) symbols

-- the rule of a top
abbrev pub top_by : Numbering → ℕ → ℕ → FlatRule
top_by t k start = record { lhs = number_in t (Top k); rhs = place_of t.slots (slot_of start) ∷ []; source = OfStart k }

-- What a written grammar refuses, in order: a symbol that it has not, a level that is not below the groups, and
-- more than it has room for.
use Rattle.std.specs.Prelude.{◌≡◌, ℕ, Bool, nat_lt, nat_le, ◌&&◌, ◌||◌, if◌then◌else◌, List, length, Option, Some, None, Result, Ok, Err}
use Rattle.std.specs.List.{list_all}
use Rattle.grammar_model.specs.Grammar.{WrittenRule, Plain, Sequence, Grammar}
use Rattle.grammar_core.specs.declared.refusal.CoreRefusal.{CoreRefusal}
use Rattle.grammar_core.specs.declared.refusal.CoreRefusal.TheVariants.{BadSymbol, BadLevel, TooMany, NoMemory}
use Rattle.grammar_core.specs.Written.{symbols_of, has_room, has_name}

-- refused so, or else granted, want of memory aside
abbrev pub Answers : {T : Type 0} → Option CoreRefusal → Result T CoreRefusal → Type 0
Answers (Some refusal) result = result ≡ Err refusal
Answers None (Ok x) = Unit {0}
Answers None (Err refusal) = refusal ≡ NoMemory

abbrev pub knows : Grammar → ℕ → Bool
knows g symbol = nat_lt symbol (length g.names)

abbrev pub is_levelled : WrittenRule → Bool
is_levelled (Plain r) = nat_lt r.level r.groups
is_levelled (Sequence r) = nat_lt 0 1

abbrev pub is_short : WrittenRule → Bool
is_short (Plain r) = nat_le (length r.rhs) 1000
is_short (Sequence r) = nat_lt 0 1

abbrev pub name_refusal : Grammar → List ℕ → Option CoreRefusal
name_refusal g name = if has_name g name || has_room (length g.names) then None else Some TooMany

abbrev pub rule_refusal : Grammar → WrittenRule → Option CoreRefusal
rule_refusal g rule =
    if list_all (knows g) (symbols_of rule) then
    (if is_levelled rule then (if is_short rule && has_room (length g.rules) then None else Some TooMany) else Some BadLevel)
    else Some BadSymbol

abbrev pub start_refusal : Grammar → ℕ → Option CoreRefusal
start_refusal g symbol = if knows g symbol then (if has_room (length g.starts) then None else Some TooMany) else Some BadSymbol

-- The command that a line spells, found from its first word on. A law says that it is the command of the line.
use Rattle.std.specs.Prelude.{◌≡◌, ℕ, ◌^◌, Bool, true, false, ◌&&◌, if◌then◌else◌, nat_lt, nat_le, List, [], ◌∷◌, length, Option, Some, None, option_map, bytes_eq, codes, ◌↔◌}
use Rattle.std.specs.Char.{is_ascii_digit}
use Rattle.std.specs.List.{list_all}
use Rattle.grammar_model.specs.Limits.{digits_number}
use Rattle.script_model.specs.Commands.{Command, Symbol, Rule, Sequence, Start, Precompute, Alternative, Complete, Expected, Report, Trees, IsCommand, words_of}

abbrev pub number_in : List ℕ → Option ℕ
number_in digits =
    if nat_lt 0 (length digits) && (nat_le (length digits) 10 && (list_all is_ascii_digit digits && nat_lt (digits_number digits) (2 ^ 32)))
    then Some (digits_number digits) else None

-- after the first word: nothing, a name, a number, or both
abbrev pub alone : Command → List (List ℕ) → Option Command
alone c [] = Some c
alone c (word ∷ words) = None

abbrev pub with_name : (List ℕ → Command) → List (List ℕ) → Option Command
with_name make [] = None
with_name make (name ∷ []) = Some (make name)
with_name make (name ∷ word ∷ words) = None

abbrev pub with_number : (ℕ → Command) → List (List ℕ) → Option Command
with_number make [] = None
with_number make (digits ∷ []) = option_map make (number_in digits)
with_number make (digits ∷ word ∷ words) = None

abbrev pub alternative_in : List (List ℕ) → Option Command
alternative_in [] = None
alternative_in (name ∷ words) = with_number (Alternative name) words

abbrev pub rule_in : List (List ℕ) → Option Command
rule_in [] = None
rule_in (lhs ∷ rhs) = Some (Rule lhs rhs)

abbrev pub kind_in : List ℕ → Option Bool
kind_in word = if bytes_eq word (codes "plus") then Some true else (if bytes_eq word (codes "star") then Some false else None)

-- the separator, and whether none may stand after the last item
abbrev pub separator_in : List (List ℕ) → Option (Option (List ℕ) × Bool)
separator_in [] = Some (None, false)
separator_in (by ∷ []) = None
separator_in (by ∷ name ∷ []) = if bytes_eq by (codes "by") then Some (Some name, false) else None
separator_in (by ∷ name ∷ proper ∷ []) = if bytes_eq by (codes "by") && bytes_eq proper (codes "proper") then Some (Some name, true) else None
separator_in (by ∷ name ∷ proper ∷ word ∷ words) = None

abbrev pub sequence_by : (lhs item : List ℕ) → Option Bool → Option (Option (List ℕ) × Bool) → Option Command
sequence_by lhs item None separator = None
sequence_by lhs item (Some plus) None = None
sequence_by lhs item (Some plus) (Some s) = Some (Sequence lhs item plus s.0 s.1)

abbrev pub sequence_in : List (List ℕ) → Option Command
sequence_in [] = None
sequence_in (lhs ∷ []) = None
sequence_in (lhs ∷ item ∷ []) = None
sequence_in (lhs ∷ item ∷ kind ∷ words) = sequence_by lhs item (kind_in kind) (separator_in words)

abbrev pub command_by : List (List ℕ) → Option Command
command_by [] = None
command_by (word ∷ words) =
    if bytes_eq word (codes "symbol") then with_name Symbol words
    else (if bytes_eq word (codes "rule") then rule_in words
    else (if bytes_eq word (codes "sequence") then sequence_in words
    else (if bytes_eq word (codes "start") then with_name Start words
    else (if bytes_eq word (codes "precompute") then alone Precompute words
    else (if bytes_eq word (codes "alternative") then alternative_in words
    else (if bytes_eq word (codes "complete") then alone Complete words
    else (if bytes_eq word (codes "expected") then alone Expected words
    else (if bytes_eq word (codes "report") then with_number Report words
    else (if bytes_eq word (codes "trees") then with_number Trees words
    else None)))))))))

abbrev pub command_in : List ℕ → Option Command
command_in line = if list_all (λ w. nat_lt 0 (length w)) (words_of line) then command_by (words_of line) else None

abbrev pub CommandsAreParsed : Type 0
CommandsAreParsed = (line : List ℕ) (c : Command) → (command_in line ≡ Some c) ↔ IsCommand line c

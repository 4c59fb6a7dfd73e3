-- What the calls on a teller do to the values that it holds, the newest last.
use Rattle.std.specs.Prelude.{◌≡◌, ℕ, ◌-◌, ◌≤◌, Bool, Option, List, [], ◌∷◌, ◌++◌, length, take, drop, option_map, option_copied, map}
use Rattle.std.specs.Borrow.{Bor}
use Rattle.value_text.specs.declared.meaning.Action.{Action as ActionCode}
use Rattle.value_text.specs.Meaning.{action_of}
use Rattle.grammar_model.specs.Values.{Value, Action, first_of_values}
use Rattle.grammar_model.specs.declared.Show.{Show}
use Rattle.grammar_model.specs.Text.{text_of}

-- the action that is passed, if there is one
abbrev pub action_in : Option (Bor ActionCode) → Option Action
action_in action = option_map action_of (option_copied action)

-- how many values are held
abbrev pub held_count : List Value → ℕ
held_count values = length values

-- at least n values are held
abbrev pub HoldsAtLeast : ℕ → List Value → Type 0
HoldsAtLeast n values = n ≤ length values

-- one is shown or hidden for each of n children
abbrev pub IsOneEach : ℕ → List Bool → Type 0
IsOneEach n shown = length shown ≡ n

-- the newest n values give way to the one that is made of them
abbrev pub replace_newest : ℕ → (List Value → Value) → List Value → List Value
replace_newest n make values = take (length values - n) values ++ make (drop (length values - n) values) ∷ []

-- one value is held, and its line
abbrev pub HoldsOne : List Value → Type 0
HoldsOne values = length values ≡ 1

abbrev pub line_of : List Value → List ℕ
line_of values = text_of (first_of_values values) ++ 10 ∷ []

-- tellers as their kinds and the values that they hold
abbrev pub states : {X : Type 0} → List X → (X → Show) → (X → List Value) → List (Show × List Value)
states tellers shows held = map (λ t. (shows t, held t)) tellers

-- each is told
abbrev pub advanced : (Show → List Value → List Value) → List (Show × List Value) → List (Show × List Value)
advanced tell tellers = map (λ s. (s.0, tell s.0 s.1)) tellers

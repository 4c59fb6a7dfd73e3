-- The values of trees. A rule's action makes a value of the values of the children that it shows; a lexeme's value
-- is its text, unless the lexemes have an action; a nulled symbol has the value of its empty rule or of its star,
-- if there is one. Shown as a tree, each node is the list of its left side's name, its rule's number and its children.
-- Source: the Marpa SLIF DSL manual (array descriptor actions).
use Rattle.std.specs.Prelude.{ℕ, zero, suc, ◌-◌, ◌+◌, ◌&&◌, ◌==◌, Bool, false, not, List, [], ◌∷◌, ◌++◌, Option, Some, None, length, take, drop, slice_index_or, option_map, ◌≡◌}
use Rattle.std.specs.List.{flat_map, position, items_where_true}
pub use Rattle.grammar_model.specs.declared.DescItem.{DescItem}
pub use Rattle.grammar_model.specs.declared.DescItem.TheVariants.{Name as ItemName, Symbol as ItemSymbol, Start as ItemStart, Length as ItemLength, G1Start as ItemG1Start, G1Length as ItemG1Length, Values as ItemValues}
pub use Rattle.grammar_model.specs.declared.Show.{Show}
pub use Rattle.grammar_model.specs.declared.Show.TheVariants.{Array as ShowArray, Tree as ShowTree}
use Rattle.grammar_model.specs.Grammar.{WrittenRule, Plain, Sequence, Grammar, lhs_of, rule_at, is_item}
use Rattle.grammar_model.specs.Trees.{Tree, Children, Leaf, Nulled, Node, NoChild, Child, child_count}
use Rattle.grammar_model.specs.Steps.{Step, TokenStep, NulledStep, RuleStep, steps_of}

-- a text is UTF-8 bytes
mutual
  pub data Value : Type 0 where
    Undefined : Value
    Number : (n : ℕ) → Value
    Text : (bytes : List ℕ) → Value
    ListOf : (items : Values) → Value

  pub data Values : Type 0 where
    NoValue : Values
    MoreValues : (first : Value) (rest : Values) → Values

abbrev pub values_of : List Value → Values
values_of [] = NoValue
values_of (v ∷ vs) = MoreValues v (values_of vs)

-- a list of values, as a value
abbrev pub list_of : List Value → Value
list_of vs = ListOf (values_of vs)

pub data Action : Type 0 where
  MakeArray : Action
  MakeFirst : Action
  MakeUndefined : Action
  MakeItems : (items : List DescItem) → Action

-- by rule number; shown is of a plain rule's parts
pub record RuleMeaning : Type 0 where
  pub action : Action
  pub shown : List Bool
  pub sequence : Bool
  pub separated : Bool

pub record Meaning : Type 0 where
  pub rules : List RuleMeaning
  pub lexeme : Option Action

-- a token of the reading: where it begins and how long it is, in characters, and its text
pub record Token : Type 0 where
  pub start : ℕ
  pub length : ℕ
  pub text : List ℕ

-- what an action may put into a value
pub record Made : Type 0 where
  pub name : List ℕ
  pub start : ℕ
  pub length : ℕ
  pub g1start : ℕ
  pub g1length : ℕ
  pub children : List Value

abbrev pub item_values : Made → DescItem → List Value
item_values m ItemName = Text m.name ∷ []
item_values m ItemSymbol = Text m.name ∷ []
item_values m ItemStart = Number m.start ∷ []
item_values m ItemLength = Number m.length ∷ []
item_values m ItemG1Start = Number m.g1start ∷ []
item_values m ItemG1Length = Number m.g1length ∷ []
item_values m ItemValues = m.children

abbrev pub first_of_values : List Value → Value
first_of_values [] = Undefined
first_of_values (v ∷ vs) = v

abbrev pub made_by : Action → Made → Value
made_by MakeArray m = list_of m.children
made_by MakeFirst m = first_of_values m.children
made_by MakeUndefined m = Undefined
made_by (MakeItems items) m = list_of (flat_map (item_values m) items)

abbrev pub made_by_option : Option Action → Value → Made → Value
made_by_option None otherwise m = otherwise
made_by_option (Some action) otherwise m = made_by action m

abbrev pub token_at : List Token → ℕ → Token
token_at tokens p = slice_index_or tokens p (record { start = 0; length = 0; text = [] })

-- where the token before a place ends, in characters
abbrev pub end_before : List Token → ℕ → ℕ
end_before tokens zero = 0
end_before tokens (suc p) = (token_at tokens p).start + (token_at tokens p).length

abbrev pub name_of : Grammar → ℕ → List ℕ
name_of g symbol = slice_index_or g.names symbol []

-- the value of a token: by the lexemes' action, over its text as its one child, and else its text
abbrev pub token_value : Show → (name text : List ℕ) (start length g1start : ℕ) → Option Action → Value
token_value ShowArray name text start length g1start action =
    made_by_option action (Text text) (record { name = name; start = start; length = length; g1start = g1start; g1length = 1; children = Text text ∷ [] })
token_value ShowTree name text start length g1start action = list_of (Text name ∷ Text text ∷ [])

-- the value of a nulled symbol
abbrev pub nulling_value : Show → (name : List ℕ) (start g1start : ℕ) → Option Action → Value
nulling_value ShowArray name start g1start action =
    made_by_option action Undefined (record { name = name; start = start; length = 0; g1start = g1start; g1length = 0; children = [] })
nulling_value ShowTree name start g1start action = list_of (Text name ∷ [])

-- the value of a rule's node, from the values of all its children and which of them are shown
abbrev pub rule_value : Show → (rule : ℕ) (name : List ℕ) (shown : List Bool) (start length g1start g1length : ℕ) → Action → List Value → Value
rule_value ShowArray rule name shown start length g1start g1length action children =
    made_by action (record { name = name; start = start; length = length; g1start = g1start; g1length = g1length; children = items_where_true shown children })
rule_value ShowTree rule name shown start length g1start g1length action children = list_of (Text name ∷ Number rule ∷ children)

abbrev pub meaning_at : Meaning → ℕ → RuleMeaning
meaning_at meaning i = slice_index_or meaning.rules i (record { action = MakeUndefined; shown = []; sequence = false; separated = false })

-- of a sequence's first n children which are items
abbrev pub items_shown : Option ℕ → ℕ → List Bool
items_shown separator zero = []
items_shown separator (suc n) = items_shown separator n ++ is_item separator n ∷ []

-- which of a rule's n children are shown: separators and parts in round brackets are hidden
abbrev pub shown_of : WrittenRule → List Bool → ℕ → List Bool
shown_of (Plain r) shown n = shown
shown_of (Sequence r) shown n = items_shown r.separator n

-- an empty rule, or a star
abbrev pub is_nulling : WrittenRule → Bool
is_nulling (Plain r) = length r.rhs == 0
is_nulling (Sequence r) = not r.plus

-- the action of a nulled symbol: that of its empty rule or of its star, if there is one
abbrev pub nulled_action : Grammar → Meaning → ℕ → Option Action
nulled_action g meaning symbol =
    option_map (λ i. (meaning_at meaning i).action) (position (λ rule. (lhs_of rule == symbol) && is_nulling rule) g.rules)

-- a value's parts for a step of a reading
module _ (show : Show) (g : Grammar) (meaning : Meaning) (tokens : List Token) where
  abbrev pub value_of_token : (symbol from : ℕ) → Value
  value_of_token symbol from =
      token_value show (name_of g symbol) (token_at tokens from).text (token_at tokens from).start (token_at tokens from).length from meaning.lexeme

  abbrev pub value_of_nulled : (symbol at : ℕ) → Value
  value_of_nulled symbol at = nulling_value show (name_of g symbol) (end_before tokens at) at (nulled_action g meaning symbol)

  abbrev pub value_of_rule : (i count from to : ℕ) → List Value → Value
  value_of_rule i count from to children =
      rule_value show i (name_of g (lhs_of (rule_at g i))) (shown_of (rule_at g i) (meaning_at meaning i).shown count)
      (token_at tokens from).start (end_before tokens to - (token_at tokens from).start) from (to - from) (meaning_at meaning i).action children

  abbrev mutual
    pub value_of : Tree → Value
    value_of (Leaf symbol from to) = value_of_token symbol from
    value_of (Nulled symbol at) = value_of_nulled symbol at
    value_of (Node i children from to) = value_of_rule i (child_count children) from to (values_of_all children)

    pub values_of_all : Children → List Value
    values_of_all NoChild = []
    values_of_all (Child prefix last) = values_of_all prefix ++ value_of last ∷ []

  -- what a step does to a list of values, the newest last
  abbrev pub told : List Value → Step → List Value
  told values (TokenStep symbol from to) = values ++ value_of_token symbol from ∷ []
  told values (NulledStep symbol at) = values ++ value_of_nulled symbol at ∷ []
  told values (RuleStep i n from to) = take (length values - n) values ++ value_of_rule i n from to (drop (length values - n) values) ∷ []

  abbrev pub told_all : List Value → List Step → List Value
  told_all values [] = values
  told_all values (step ∷ steps) = told_all (told values step) steps

-- the steps of a tree leave its value on top
abbrev pub StepsTellTheValue : Type 0
StepsTellTheValue = (show : Show) (g : Grammar) (meaning : Meaning) (tokens : List Token) (values : List Value) (t : Tree) →
    told_all show g meaning tokens values (steps_of t) ≡ values ++ value_of show g meaning tokens t ∷ []

-- What is seen of a label and of a node.
use Rattle.std.specs.Prelude.{ℕ, List, Bool, true, false, Option, Some, None}
use Rattle.tree_text.specs.declared.nodes.Label.{Label}
use Rattle.tree_text.specs.declared.nodes.Label.TheVariants.{Rule, Token, Nulled, List as ListLabel, Undefined, Number, Text}
use Rattle.tree_text.specs.declared.nodes.Node.{Node}

abbrev pub name_in : Label → Option (List ℕ)
name_in (Rule name rule) = Some name.now
name_in (Token name text) = Some name.now
name_in (Nulled name) = Some name.now
name_in ListLabel = None
name_in Undefined = None
name_in (Number n) = None
name_in (Text text) = None

abbrev pub number_in : Label → Option ℕ
number_in (Rule name rule) = Some rule
number_in (Token name text) = None
number_in (Nulled name) = None
number_in ListLabel = None
number_in Undefined = None
number_in (Number n) = Some n
number_in (Text text) = None

abbrev pub text_in : Label → Option (List ℕ)
text_in (Rule name rule) = None
text_in (Token name text) = Some text.now
text_in (Nulled name) = None
text_in ListLabel = None
text_in Undefined = None
text_in (Number n) = None
text_in (Text text) = Some text.now

-- nodes may stand below
abbrev pub is_open : Label → Bool
is_open (Rule name rule) = true
is_open (Token name text) = false
is_open (Nulled name) = false
is_open ListLabel = true
is_open Undefined = false
is_open (Number n) = false
is_open (Text text) = false

-- a node as it is written
pub record Look : Type 0 where
  pub name : Option (List ℕ)
  pub number : Option ℕ
  pub text : Option (List ℕ)
  pub opens : Bool
  pub depth : ℕ

abbrev pub look_of : Node → Look
look_of node = record { name = name_in node.label; number = number_in node.label; text = text_in node.label; opens = is_open node.label; depth = node.depth }

-- what two trees over the same tokens can share of a node: its symbol, its depth, and how many tokens are in it
pub record Face : Type 0 where
  pub name : Option (List ℕ)
  pub depth : ℕ
  pub tokens : ℕ

abbrev pub face_of : Node → Face
face_of node = record { name = name_in node.label; depth = node.depth; tokens = node.tokens }

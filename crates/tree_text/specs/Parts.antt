-- The parts of a value, in the order of its text: what is no list is one part, and a list's items stand between two parts of its own.
use Rattle.std.specs.Prelude.{◌<◌, ◌^◌, List, [], ◌∷◌, ◌++◌, IsUtf8}
use Rattle.std.specs.String.{string_bytes}
use Rattle.tree_text.specs.declared.part.Part.{Part as PartCode}
use Rattle.tree_text.specs.declared.part.Part.TheVariants.{Undefined as UndefinedCode, Number as NumberCode, Text as TextCode, Open as OpenCode, Close as CloseCode}
use Rattle.grammar_model.specs.Values.{Value, Values, Undefined, Number, Text, ListOf, NoValue, MoreValues}

pub data Part : Type 0 where
  Opens : Part
  Closes : Part
  Atom : (value : Value) → Part

abbrev pub part_of : PartCode → Part
part_of UndefinedCode = Atom Undefined
part_of (NumberCode n) = Atom (Number n)
part_of (TextCode text) = Atom (Text (string_bytes text))
part_of OpenCode = Opens
part_of CloseCode = Closes

abbrev mutual
  pub parts_of : Value → List Part
  parts_of Undefined = Atom Undefined ∷ []
  parts_of (Number n) = Atom (Number n) ∷ []
  parts_of (Text bytes) = Atom (Text bytes) ∷ []
  parts_of (ListOf items) = Opens ∷ (parts_of_all items ++ Closes ∷ [])

  pub parts_of_all : Values → List Part
  parts_of_all NoValue = []
  parts_of_all (MoreValues first rest) = parts_of first ++ parts_of_all rest

-- a value as programs hold it: its texts are UTF-8, and its numbers are below 2 ^ 64
abbrev mutual
  pub IsHeld : Value → Type 0
  IsHeld Undefined = Unit {0}
  IsHeld (Number n) = n < 2 ^ 64
  IsHeld (Text bytes) = IsUtf8 bytes
  IsHeld (ListOf items) = AreHeld items

  pub AreHeld : Values → Type 0
  AreHeld NoValue = Unit {0}
  AreHeld (MoreValues first rest) = IsHeld first × AreHeld rest

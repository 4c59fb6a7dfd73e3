-- A value by its parts, as a pool lends them, and the lists that are open while a text is written.
use Rattle.std.specs.Prelude.{◌≡◌, ℕ, Bool, if◌then◌else◌, List, [], ◌∷◌, ◌++◌, map}
use Rattle.value_text.specs.declared.pool.Part.{Part}
use Rattle.value_text.specs.declared.pool.Part.TheVariants.{Undefined as UndefinedPart, Number as NumberPart, Text as TextPart, List as ListPart}
use Rattle.value_text.specs.declared.text.Open.{Open}
use Rattle.value_text.specs.Nodes.{value_at}
use Rattle.value_text.specs.Pool.{AreIds}
use Rattle.grammar_model.specs.Values.{Value, Values, Undefined, Number, Text, list_of, values_of}
use Rattle.grammar_model.specs.Text.{texts_of, texts_after}

abbrev pub value_of_part : List Value → Part → Value
value_of_part values UndefinedPart = Undefined
value_of_part values (NumberPart n) = Number n
value_of_part values (TextPart text) = Text text.now
value_of_part values (ListPart ids) = list_of (map (value_at values) ids.now)

-- the ids of a list stand for values
abbrev pub IsPart : List Value → Part → Type 0
IsPart values UndefinedPart = Unit {0}
IsPart values (NumberPart n) = Unit {0}
IsPart values (TextPart text) = Unit {0}
IsPart values (ListPart ids) = AreIds values ids.now

abbrev pub comma : Bool → List ℕ
comma follows = if follows then 44 ∷ [] else []

-- the text from a place in a list to its end; a comma is before the next item where one is after it
abbrev pub items_text : Bool → Values → List ℕ
items_text follows items = (if follows then texts_after items else texts_of items) ++ 93 ∷ []

abbrev pub open_text : List Value → Open → List ℕ
open_text values l = items_text l.follows (values_of (map (value_at values) l.rest.now))

-- the text that is still to be written, the last list first
abbrev pub rest_text : List Value → List Open → List ℕ
rest_text values [] = []
rest_text values (l ∷ more) = rest_text values more ++ open_text values l

abbrev pub AreOpen : List Value → List Open → Type 0
AreOpen values [] = Unit {0}
AreOpen values (l ∷ more) = AreIds values l.rest.now × AreOpen values more

-- the new bytes begin with the old ones
pub record IsExtended (old new : List ℕ) : Type 0 where
  pub more : List ℕ
  pub is : new ≡ old ++ more

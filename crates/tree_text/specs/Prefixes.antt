-- What a text begins with: a character as it stands inside quotes, a number, or the part that a value begins with.
use Rattle.std.specs.Prelude.{◌≡◌, ◌≢◌, ℕ, ◌<◌, ◌^◌, List, [], ◌∷◌, ◌++◌, slice_index, decimal, Bool, not, ◌==◌, ◌&&◌, ◌||◌}
use Rattle.std.specs.List.{flat_map}
use Rattle.std.specs.Int.{IsInRange}
use Rattle.tree_text.specs.Parts.{Part, Opens, Closes, Atom, IsHeld}
use Rattle.tree_text.specs.declared.part.ReadRefusal.{ReadRefusal}
use Rattle.tree_text.specs.declared.part.ReadRefusal.TheVariants.{NotValue, NoMemory}
use Rattle.tree_text.specs.declared.read.Place.{Place}
use Rattle.tree_text.specs.declared.read.Place.TheVariants.{Value as ValueNext, Items as ItemsNext, After}
use Rattle.grammar_model.specs.Values.{Value, Undefined, Number, Text, ListOf}
use Rattle.grammar_model.specs.Text.{text_of, escaped, is_control}

-- a text that begins with this and goes on as the rest, and one that begins with it in no way
abbrev pub NeverBegins : List ℕ → List ℕ → Type 0
NeverBegins text prefix = (rest : List ℕ) → text ≢ prefix ++ rest

-- no character as it stands inside quotes
abbrev pub HasNoCharacter : List ℕ → Type 0
HasNoCharacter text = (c : ℕ) → NeverBegins text (escaped c)

-- a control character whose escape has its code
abbrev pub has_code : ℕ → Bool
has_code c = is_control c && not ((c == 10) || ((c == 13) || (c == 9)))

-- a quoted text after its first quote
abbrev pub quoted : List ℕ → List ℕ → List ℕ
quoted characters rest = flat_map escaped characters ++ 34 ∷ rest

pub record IsQuoted (text characters rest : List ℕ) : Type 0 where
  pub is : text ≡ quoted characters rest
  pub only : (cs r : List ℕ) → text ≡ quoted cs r → (cs ≡ characters) × (r ≡ rest)

-- a number is read to the last of its digits
abbrev pub IsNumberEnd : List ℕ → Type 0
IsNumberEnd rest = ¬ (IsInRange 48 57 (slice_index rest 0))

pub record IsNumber (text : List ℕ) (n : ℕ) (rest : List ℕ) : Type 0 where
  pub is : text ≡ decimal n ++ rest
  pub small : n < 2 ^ 64
  pub ends : IsNumberEnd rest

abbrev pub HasNoNumber : List ℕ → Type 0
HasNoNumber text = (n : ℕ) (rest : List ℕ) → ¬ (IsNumber text n rest)

-- the text of an atom, or a bracket
abbrev pub part_text : Part → List ℕ
part_text Opens = 91 ∷ []
part_text Closes = 93 ∷ []
part_text (Atom value) = text_of value

abbrev pub IsAtom : Value → Type 0
IsAtom Undefined = Unit {0}
IsAtom (Number n) = Unit {0}
IsAtom (Text bytes) = Unit {0}
IsAtom (ListOf items) = ⊥

-- a part that a value begins with
abbrev pub IsPrefix : Part → Type 0
IsPrefix Opens = Unit {0}
IsPrefix Closes = ⊥
IsPrefix (Atom value) = IsHeld value × IsAtom value

abbrev pub CanFollow : Value → List ℕ → Type 0
CanFollow Undefined rest = Unit {0}
CanFollow (Number n) rest = IsNumberEnd rest
CanFollow (Text bytes) rest = Unit {0}
CanFollow (ListOf items) rest = Unit {0}

abbrev pub EndsBefore : Part → List ℕ → Type 0
EndsBefore Opens rest = Unit {0}
EndsBefore Closes rest = Unit {0}
EndsBefore (Atom value) rest = CanFollow value rest

pub record BeginsWith (text : List ℕ) (part : Part) (rest : List ℕ) : Type 0 where
  pub is : text ≡ part_text part ++ rest
  pub prefix : IsPrefix part
  pub ends : EndsBefore part rest

pub record IsPrefixOf (text : List ℕ) (part : Part) (rest : List ℕ) : Type 0 where
  pub begins : BeginsWith text part rest
  pub only : (p : Part) (r : List ℕ) → BeginsWith text p r → (p ≡ part) × (r ≡ rest)

-- whether a list may end here
abbrev pub CanEnd : Place → ℕ → Type 0
CanEnd ValueNext depth = ⊥
CanEnd ItemsNext depth = 0 < depth
CanEnd After depth = 0 < depth

-- why there is no such text or part, where memory is not what was wanting
abbrev pub RefusesQuoted : List ℕ → ReadRefusal → Type 0
RefusesQuoted text (NotValue left) = (cs r : List ℕ) → text ≢ quoted cs r
RefusesQuoted text NoMemory = Unit {0}

abbrev pub RefusesPrefix : List ℕ → ReadRefusal → Type 0
RefusesPrefix text (NotValue left) = (p : Part) (r : List ℕ) → ¬ (BeginsWith text p r)
RefusesPrefix text NoMemory = Unit {0}

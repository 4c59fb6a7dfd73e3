-- What reading a text gives: the parts of the one value whose text it is, or that there is none.
use Rattle.std.specs.Prelude.{◌≡◌, ◌≢◌, ℕ, List}
use Rattle.tree_text.specs.Parts.{Part, parts_of, IsHeld}
use Rattle.tree_text.specs.declared.part.ReadRefusal.{ReadRefusal}
use Rattle.tree_text.specs.declared.part.ReadRefusal.TheVariants.{NotValue, NoMemory}
use Rattle.grammar_model.specs.Values.{Value}
use Rattle.grammar_model.specs.Text.{text_of}

pub record IsRead (text : List ℕ) (parts : List Part) : Type 0 where
  pub value : Value
  pub held : IsHeld value
  pub is : text_of value ≡ text
  pub only : (v : Value) → IsHeld v → text_of v ≡ text → v ≡ value
  pub told : parts ≡ parts_of value

-- no value has this text
abbrev pub IsNoText : List ℕ → Type 0
IsNoText text = (v : Value) → IsHeld v → text_of v ≢ text

abbrev pub RefusesText : List ℕ → ReadRefusal → Type 0
RefusesText text (NotValue left) = IsNoText text
RefusesText text NoMemory = Unit {0}

-- What is kept of the grammars of a text, to read with them.
use Rattle.std.specs.Prelude.{◌≡◌, ℕ, List, map, Option, Some, None, Contains, slice_get}
use Rattle.std.specs.List.Sorted.{IsStrictlySortedBy}
use Rattle.std.specs.Ordering.{nat_cmp}
use Rattle.grammar_model.specs.Values.{name_of}
use Rattle.recognizer_model.specs.Flat.{FlatGrammar}
use Rattle.flat_model.specs.Flattened.{IsFlattened}
use Rattle.language_model.specs.Building.{Built, LexemeRow}
use Rattle.language_model.specs.Texts.{IsBuilt}
use Rattle.reading_model.specs.Accepted.{IsLexical, IsAccepted}
use Rattle.prepared_grammars.specs.declared.abilities.Ability.{Ability}
use Rattle.prepared_grammars.specs.Abilities.{AreAbilities}
use Rattle.prepared_grammars.specs.declared.lookups.Lookups.{Lookups}
use Rattle.prepared_grammars.specs.Lookups.{AreLookups}

-- the lexemes are in order of their symbols, each of which has a name of its own, and the first starts are theirs
pub record AreInOrder (b : Built) : Type 0 where
  pub ascend : IsStrictlySortedBy nat_cmp (map (λ (l : LexemeRow). l.symbol) b.lexemes)
  pub differ : (l m : LexemeRow) → Contains b.lexemes l → Contains b.lexemes m → name_of b.g1 l.symbol ≡ name_of b.g1 m.symbol → l.symbol ≡ m.symbol
  pub places : (k : ℕ) (l : LexemeRow) → slice_get b.lexemes k ≡ Some l → l.start ≡ k

-- the flat form of the lexical grammar, which there is exactly where there is a lexeme or a discard
abbrev pub IsLexicalForm : Built → Option FlatGrammar → Type 0
IsLexicalForm b None = IsLexical b → ⊥
IsLexicalForm b (Some flat) = IsLexical b × IsFlattened b.l0 flat

pub record AreParts (b : Built) (flat : FlatGrammar) (lexical : Option FlatGrammar) (abilities : List Ability) : Type 0 where
  pub accepted : IsAccepted b
  pub flattened : IsFlattened b.g1 flat
  pub lexical_form : IsLexicalForm b lexical
  pub are_abilities : AreAbilities b.g1 abilities

pub record IsPrepared (b : Built) (flat : FlatGrammar) (lexical : Option FlatGrammar) (abilities : List Ability) (lookups : Lookups) : Type 0 where
  pub built : IsBuilt b
  pub parts : AreParts b flat lexical abilities
  pub are_lookups : AreLookups b lookups.always.items lookups.starts.items

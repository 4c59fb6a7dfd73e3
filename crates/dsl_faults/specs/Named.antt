-- The names that the tokens of statements give, as a program holds them.
use Rattle.std.specs.Prelude.{◌≡◌, [], map, flat_map}
use Rattle.language_model.specs.Building.{new_texts}
use Rattle.dsl_faults.specs.Uses.{used_of, texts_asked}
use Rattle.dsl_faults.specs.declared.faults.Named.{Named}
use Rattle.dsl_faults.specs.declared.uses.Which.TheVariants.{StructuralLeft, LexicalLeft, Structural}

-- the tables are those of the tokens
pub record AreTables (n : Named) : Type 0 where
  pub symbols : n.symbols ≡ new_texts [] (flat_map (texts_asked Structural) (map used_of n.uses.items))
  pub structural : n.structural ≡ new_texts [] (flat_map (texts_asked StructuralLeft) (map used_of n.uses.items))
  pub lexical : n.lexical ≡ new_texts [] (flat_map (texts_asked LexicalLeft) (map used_of n.uses.items))

-- The texts of a description, as a program holds them.
use Rattle.std.specs.Prelude.{◌≡◌, ℕ, List, [], ◌++◌, map, flat_map, filter, not}
use Rattle.language_model.specs.Description.{Statement}
use Rattle.language_model.specs.Building.{is_one_of, new_texts, symbols_g1, lexemes, discarded, start_texts, placed_tokens, named_l0}
use Rattle.dsl_build.specs.declared.texts.Starts.{Starts}
use Rattle.dsl_build.specs.declared.texts.Texts.{Texts}
use Rattle.dsl_faults.specs.declared.faults.Named.{Named}
use Rattle.dsl_faults.specs.declared.uses.Which.TheVariants.{Discarded}
use Rattle.dsl_faults.specs.Uses.{Used, used_of, uses_of, texts_asked}

-- the starts are the symbols that are no left sides, and what the uses discard
pub record AreStarts (us : List Used) (symbols left : List (List ℕ)) (s : Starts) : Type 0 where
  pub lexemes : s.lexemes ≡ filter (λ t. not (is_one_of left t)) symbols
  pub discards : s.discards ≡ new_texts [] (flat_map (texts_asked Discarded) us)
  pub texts : s.texts ≡ s.lexemes ++ filter (λ t. not (is_one_of s.lexemes t)) s.discards

-- the names and the texts are those of the description
pub record AreTexts (d : List Statement) (n : Named) (t : Texts) : Type 0 where
  pub uses : map used_of n.uses.items ≡ flat_map uses_of d
  pub symbols : n.symbols ≡ symbols_g1 d
  pub lexemes : t.starts.lexemes ≡ lexemes d
  pub discards : t.starts.discards ≡ discarded d
  pub starts : t.starts.texts ≡ start_texts d
  pub tokens : map (λ u. u.now) t.placed.tokens.items ≡ placed_tokens d
  pub named : t.placed.names ≡ named_l0 d

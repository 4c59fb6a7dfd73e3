-- What the symbols of a grammar can do, as a program keeps it.
use Rattle.std.specs.Prelude.{◌≡◌, ℕ, ◌↔◌, List, length, IsTrue, Some, slice_get}
use Rattle.grammar_model.specs.Grammar.{Grammar, slot_of}
use Rattle.grammar_model.specs.Analysis.{IsNullable, IsProductive, IsAccessible}
use Rattle.prepared_grammars.specs.declared.abilities.Ability.{Ability}

-- the symbol is nullable, productive and accessible as is told
pub record IsAbility (g : Grammar) (s : ℕ) (a : Ability) : Type 0 where
  pub nullable : IsTrue a.nullable ↔ IsNullable g (slot_of s)
  pub productive : IsTrue a.productive ↔ IsProductive g (slot_of s)
  pub accessible : IsTrue a.accessible ↔ ((l : ℕ) × IsAccessible g (record { symbol = s; level = l }))

-- the first so many symbols
abbrev pub AreAbilitiesOf : Grammar → ℕ → List Ability → Type 0
AreAbilitiesOf g n abilities = (length abilities ≡ n) × ((s : ℕ) (a : Ability) → slice_get abilities s ≡ Some a → IsAbility g s a)

abbrev pub AreAbilities : Grammar → List Ability → Type 0
AreAbilities g abilities = AreAbilitiesOf g (length g.names) abilities

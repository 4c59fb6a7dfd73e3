-- The values of trees and of children, put into a pool.
use Rattle.std.specs.Prelude.{◌≡◌, ℕ, ◌<◌, ◌≤◌, List, [], length, map, string_bytes, slice_get, Some}
use Rattle.grammar_model.specs.declared.Show.TheVariants.{Tree as ShowTree}
use Rattle.grammar_model.specs.Grammar.{Grammar}
use Rattle.grammar_model.specs.Trees.{Tree, Children}
use Rattle.grammar_model.specs.Values.{Value, value_of, values_of_all}
use Rattle.grammar_model.specs.Characters.{no_meaning, character_tokens}
use Rattle.value_text.specs.Nodes.{value_at}
use Rattle.value_text.specs.Pool.{AreIds}
use Rattle.plain_lister.specs.declared.Derivations.{Derivations}
use Rattle.plain_lister.specs.declared.lines.Told.{Told}
use Rattle.plain_lister.specs.declared.lines.Told.TheVariants as told
use Rattle.plain_lister.specs.declared.Cell.{Cell}
use Rattle.plain_lister.specs.Arena.{Meant}
use Rattle.plain_lister.specs.Adding.{at}
use Rattle.plain_lister.specs.Listing.{bare_rule}

abbrev pub grammar_of : Derivations → Grammar
grammar_of list = record { names = map string_bytes list.names.items; rules = map bare_rule list.lefts.items; starts = [] }

abbrev pub tree_value : Derivations → Tree → Value
tree_value list t = value_of ShowTree (grammar_of list) no_meaning (character_tokens 0 list.input.items) t

abbrev pub prefix_values : Derivations → Children → List Value
prefix_values list cs = values_of_all ShowTree (grammar_of list) no_meaning (character_tokens 0 list.input.items) cs

-- the values of a pool stay
pub record Stays (old new : List Value) : Type 0 where
  pub longer : length old ≤ length new
  pub same : (k : ℕ) → k < length old → value_at new k ≡ value_at old k

-- the id stands for the value, and those before stay
pub record Puts (old new : List Value) (id : ℕ) (value : Value) : Type 0 where
  pub stays : Stays old new
  pub within : id < length new
  pub stands : value_at new id ≡ value

abbrev pub ArePrefixIds : Told → List ℕ → Type 0
ArePrefixIds (told.Value id) ids = ⊥
ArePrefixIds (told.Prefix v) ids = ids ≡ v.items

abbrev pub IsValueId : Told → ℕ → Type 0
IsValueId (told.Value k) id = id ≡ k
IsValueId (told.Prefix v) id = ⊥

-- what was told of a cell
abbrev pub IsTold : Derivations → List Value → Told → Meant → Type 0
IsTold list pool (told.Value id) m = (id < length pool) × (value_at pool id ≡ tree_value list m.tree)
IsTold list pool (told.Prefix ids) m = AreIds pool ids.items × (map (value_at pool) ids.items ≡ prefix_values list m.prefix)

pub record IsPrefixTold (xs : List Told) (k : ℕ) (ids : List ℕ) : Type 0 where
  pub cell : Told
  pub found : slice_get xs k ≡ Some cell
  pub prefix : ArePrefixIds cell ids

pub record IsValueTold (xs : List Told) (k id : ℕ) : Type 0 where
  pub cell : Told
  pub found : slice_get xs k ≡ Some cell
  pub value : IsValueId cell id

-- each of the first cells was told
abbrev pub AllTold : Derivations → List Value → List Told → List Cell → Type 0
AllTold list pool xs cells = (length xs ≡ length cells) × ((j : ℕ) (x : Told) → slice_get xs j ≡ Some x → IsTold list pool x (at cells j))

-- the ids are those of the values that were told of these places
abbrev pub AreValuesTold : List Told → (trees ids : List ℕ) → Type 0
AreValuesTold xs trees ids = (length ids ≡ length trees) × ((j id : ℕ) → slice_get ids j ≡ Some id → (k : ℕ) × (slice_get trees j ≡ Some k) × IsValueTold xs k id)

-- A table of lists: of the trees of a symbol over a span, and of the first so many children of a rule over a span.
use Rattle.std.specs.Prelude.{◌≡◌, ℕ, zero, suc, ◌+◌, ◌-◌, ◌*◌, ◌<◌, Bool, ◌&&◌, ◌==◌, if◌then◌else◌, List, length, map, Some, slice_get, filter}
use Rattle.std.specs.Map.{lookup}
use Rattle.std.specs.List.{flat_map}
use Rattle.grammar_model.specs.Grammar.{Grammar, rule_at, slot_of, child_slot}
use Rattle.grammar_model.specs.Trees.{Tree, Children, Node, Child}
use Rattle.grammar_model.specs.Simple.{Below, part_count, is_terminal, fits, numbers, simple_prefixes, simple_trees}
use Rattle.grammar_model.specs.Characters.{is_quoted}
use Rattle.plain_lister.specs.declared.store.Store.{Store}
use Rattle.plain_lister.specs.Arena.{Meant}
use Rattle.plain_lister.specs.Adding.{at, as_tree, as_prefix, Within, Keeps}

abbrev pub Key : Type 0
Key = ℕ × ℕ × ℕ × ℕ

abbrev pub same_key : Key → Key → Bool
same_key x y = (((x.0 == y.0) && (x.1 == y.1)) && (x.2 == y.2)) && (x.3 == y.3)

-- all trees over a span
abbrev pub listed : Grammar → List ℕ → Below
listed g input slot p q = simple_trees g (is_quoted g input) (suc (length input)) slot p q

-- all first n children of a rule over a span
abbrev pub prefixes_listed : Grammar → List ℕ → (i n p q : ℕ) → List Children
prefixes_listed g input i n p q = simple_prefixes (listed g input) (rule_at g i) n p q

-- the trees of the symbol x, or the first n children of the rule x
abbrev pub value_at : Grammar → List ℕ → (x n p q : ℕ) → List Meant
value_at g input x zero p q = map as_tree (listed g input (slot_of x) p q)
value_at g input x (suc n) p q = map as_prefix (prefixes_listed g input x (suc n) p q)

-- a symbol, or a rule with at least so many parts
abbrev pub IsKey : Grammar → (x n : ℕ) → Type 0
IsKey g x zero = x < length g.names
IsKey g x (suc n) = (x < length g.rules) × (n < part_count (rule_at g x))

-- the list with this number is that of the key
pub record Holds (g : Grammar) (input : List ℕ) (store : Store) (k x n p q : ℕ) : Type 0 where
  pub places : List ℕ
  pub found : slice_get store.lists.items k ≡ Some places
  pub within : Within store.cells.items places
  pub told : map (at store.cells.items) places ≡ value_at g input x n p q

pub record Grows (old new : Store) : Type 0 where
  pub keeps : Keeps old.cells.items new.cells.items
  pub lists : (k : ℕ) (places : List ℕ) → slice_get old.lists.items k ≡ Some places → slice_get new.lists.items k ≡ Some places

abbrev pub IsSound : Grammar → List ℕ → Store → Type 0
IsSound g input store = (x n p q k : ℕ) → lookup (same_key (x, n, p, q)) store.memo.entries ≡ Some k → Holds g input store k x n p q

-- a call found the number k of the key's list
pub record IsListed (g : Grammar) (input : List ℕ) (old new : Store) (k x n p q : ℕ) : Type 0 where
  pub sound : IsSound g input new
  pub grows : Grows old new
  pub holds : Holds g input new k x n p q

-- a call made a list of what these values tell
pub record IsBuilt (g : Grammar) (input : List ℕ) (old new : Store) (places : List ℕ) (values : List Meant) : Type 0 where
  pub sound : IsSound g input new
  pub grows : Grows old new
  pub within : Within new.cells.items places
  pub told : map (at new.cells.items) places ≡ values

-- a call found the key's list
abbrev pub IsTold : Grammar → List ℕ → Store → Store → List ℕ → (x n p q : ℕ) → Type 0
IsTold g input old new places x n p q = IsBuilt g input old new places (value_at g input x n p q)

-- the nodes of the symbol x by its rules below n
abbrev pub nodes_below : Grammar → List ℕ → (x p q n : ℕ) → List Tree
nodes_below g input x p q n =
    flat_map (λ i. map (λ children. Node i children p q) (prefixes_listed g input i (part_count (rule_at g i)) p q)) (filter (λ i. fits (rule_at g i) (slot_of x)) (numbers n))

-- the first suc n children of the rule i whose last one starts at r
abbrev pub prefixes_from : Grammar → List ℕ → (i n p q r : ℕ) → List Children
prefixes_from g input i n p q r = flat_map (λ prefix. map (Child prefix) (listed g input (child_slot (rule_at g i) n) r q)) (prefixes_listed g input i n p r)

-- how far a key is from those that need no other
abbrev pub rank : Grammar → (x n : ℕ) → ℕ
rank g x zero = if is_terminal g x then 0 else 2
rank g x (suc zero) = if part_count (rule_at g x) == 1 then 1 else 3
rank g x (suc (suc n)) = 1

abbrev pub weight : Grammar → (x n p q : ℕ) → ℕ
weight g x n p q = 4 * (q - p) + rank g x n

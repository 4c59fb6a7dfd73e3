-- The order of a row: by the symbol after the dot (the postdot symbol), whole items, which are completed ones, last, then by rule, dot and origin.
use Rattle.std.specs.Prelude.{ℕ, List, Option, Some, None}
use Rattle.std.specs.declared.cmp.Ordering.{Ordering}
use Rattle.std.specs.Ordering.{ordering_then, nat_cmp}
use Rattle.std.specs.List.Sorted.{IsSortedByKey}
use Rattle.recognizer_model.specs.declared.Item.{Item}
use Rattle.recognizer_model.specs.Flat.{FlatGrammar}
use Rattle.recognizer_model.specs.Items.{after}
use Rattle.item_rows.specs.declared.order.RowKey.{RowKey}

-- the end stands after all symbols
abbrev pub or_end : Option ℕ → ℕ
or_end None = 4294967296
or_end (Some symbol) = symbol

abbrev pub symbol_or_end : FlatGrammar → Item → ℕ
symbol_or_end g item = or_end (after g item)

abbrev pub row_key : FlatGrammar → Item → RowKey
row_key g item = record { symbol = symbol_or_end g item; rule = item.rule; dot = item.dot; origin = item.origin }

abbrev pub item_of : RowKey → Item
item_of k = record { rule = k.rule; dot = k.dot; origin = k.origin }

abbrev pub key_cmp : RowKey → RowKey → Ordering
key_cmp a b = ordering_then (nat_cmp a.symbol b.symbol) (ordering_then (nat_cmp a.rule b.rule) (ordering_then (nat_cmp a.dot b.dot) (nat_cmp a.origin b.origin)))

abbrev pub IsInOrder : FlatGrammar → List Item → Type 0
IsInOrder g row = IsSortedByKey (row_key g) key_cmp row

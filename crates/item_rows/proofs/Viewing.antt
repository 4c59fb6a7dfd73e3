-- What waits for a symbol and what is whole, over the same grammar.
use Rattle.std.proofs.Common.{◌≡◌, ℕ, List, Some, Contains, subst}
use Rattle.recognizer_model.specs.declared.Item.{Item}
use Rattle.recognizer_model.specs.Flat.{FlatGrammar}
use Rattle.recognizer_model.specs.Items.{after, IsWhole}
use Rattle.recognizer_model.specs.Counts.{IsListOf}
use Rattle.item_rows.specs.Rows.{ItemRows}

pub waits_over : (rows : ItemRows) (g : FlatGrammar) (set items : List Item) (x : ℕ) → rows.flat ≡ g → IsListOf (λ item. Contains set item × (after rows.flat item ≡ Some x)) items → IsListOf (λ item. Contains set item × (after g item ≡ Some x)) items
waits_over rows g set items x same lists = subst (λ (f : FlatGrammar). IsListOf (λ item. Contains set item × (after f item ≡ Some x)) items) same lists

pub whole_over : (rows : ItemRows) (g : FlatGrammar) (set items : List Item) → rows.flat ≡ g → IsListOf (λ item. Contains set item × IsWhole rows.flat item) items → IsListOf (λ item. Contains set item × IsWhole g item) items
whole_over rows g set items same lists = subst (λ (f : FlatGrammar). IsListOf (λ item. Contains set item × IsWhole f item) items) same lists

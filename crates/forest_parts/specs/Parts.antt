-- Edges and whole rules, as what may be the cause in a node, and their order.
use Rattle.std.specs.Prelude.{◌≡◌, ℕ, ◌+◌, ◌<◌, ◌≤◌, List, length, Some, None, Contains, ◌⊎◌, slice_get, slice_index_or}
use Rattle.grammar_model.specs.declared.Edge.{Edge as HeldEdge}
use Rattle.recognizer_model.specs.declared.flat.FlatSymbol.TheVariants.{Terminal}
use Rattle.std.specs.declared.cmp.Ordering.{Ordering}
use Rattle.std.specs.Ordering.{ordering_then, nat_cmp, int_cmp, bool_cmp}
use Rattle.std.specs.Option.{option_cmp}
use Rattle.grammar_model.specs.declared.Ranking.{Ranking}
use Rattle.grammar_model.specs.Grammar.{Grammar, rule_at, has_trailing}
use Rattle.grammar_model.specs.Order.{rank_by}
use Rattle.recognizer_model.specs.declared.Item.{Item}
use Rattle.recognizer_model.specs.Flat.{FlatGrammar, lhs_of, rhs_of, source_of}
use Rattle.recognizer_model.specs.FlatForm.{source_number, list_length}
use Rattle.recognizer_model.specs.Items.{InSet}
use Rattle.earley_sets.specs.Recognizer.{Recognizer, earleme_of, set_at, edges_of, top_of}
use Rattle.forest_parts.specs.declared.parts.RuleKey.{RuleKey}
use Rattle.forest_parts.specs.declared.parts.Part.{Part}

-- what the place of a flat rule goes by
abbrev pub rule_key_of : Grammar → Ranking → FlatGrammar → ℕ → RuleKey
rule_key_of w ranking g r = record {
  length = record { 0 = list_length g r };
  rank = record { 0 = rank_by ranking (rule_at w (source_number w (source_of g r))) };
  source = source_number w (source_of g r);
  trailing = has_trailing (rule_at w (source_number w (source_of g r))) (length (rhs_of g r));
  rule = r;
}

abbrev pub key_cmp : RuleKey → RuleKey → Ordering
key_cmp a b = ordering_then (nat_cmp (b.length).0 (a.length).0) (ordering_then (int_cmp (b.rank).0 (a.rank).0) (ordering_then (nat_cmp a.source b.source) (ordering_then (bool_cmp a.trailing b.trailing) (nat_cmp a.rule b.rule))))

abbrev pub part_cmp : Part → Part → Ordering
part_cmp a b = ordering_then (nat_cmp a.end b.end) (ordering_then (nat_cmp a.symbol b.symbol) (ordering_then (nat_cmp a.length b.length) (option_cmp key_cmp a.whole b.whole)))

abbrev pub no_part : Part
no_part = record { end = 0; symbol = 0; length = 0; whole = None }

abbrev pub part_at : List Part → ℕ → Part
part_at parts k = slice_index_or parts k no_part

-- the part is an edge
pub record IsEdgeOf (g : FlatGrammar) (e : HeldEdge) (p : Part) : Type 0 where
  pub symbol : slice_get g.symbols p.symbol ≡ Some (Terminal e.symbol)
  pub end : p.end ≡ e.to
  pub start : e.from + p.length ≡ p.end
  pub whole : p.whole ≡ None

-- the part is the rule of an item that is whole at the end
pub record IsWholeOf (w : Grammar) (ranking : Ranking) (g : FlatGrammar) (earleme : ℕ) (item : Item) (p : Part) : Type 0 where
  pub dot : item.dot ≡ length (rhs_of g item.rule)
  pub end : p.end ≡ earleme
  pub spans : item.origin < earleme
  pub start : item.origin + p.length ≡ earleme
  pub symbol : p.symbol ≡ lhs_of g item.rule
  pub whole : p.whole ≡ Some (rule_key_of w ranking g item.rule)

abbrev pub IsEdgePart : Recognizer → Part → Type 0
IsEdgePart r p = (e : HeldEdge) × Contains r.edges e × IsEdgeOf r.flat e p

abbrev pub IsWholePart : Grammar → Ranking → Recognizer → Part → Type 0
IsWholePart w ranking r p = (end : ℕ) × (item : Item) × (end ≤ earleme_of r) × InSet r.flat (edges_of r) (top_of r) end item × IsWholeOf w ranking r.flat end item p

abbrev pub IsPart : Grammar → Ranking → Recognizer → Part → Type 0
IsPart w ranking r p = IsEdgePart r p ⊎ IsWholePart w ranking r p

-- a part that ends at a place, and begins at another or after it
abbrev pub IsPartAt : Grammar → Ranking → Recognizer → (end least : ℕ) → Part → Type 0
IsPartAt w ranking r end least p = IsPart w ranking r p × (p.end ≡ end) × (p.length + least ≤ end)

-- of these an edge, or the rule of an item that is kept or given
abbrev pub IsPartBy : Grammar → Ranking → Recognizer → (end least : ℕ) → (given : List Item) → Part → Type 0
IsPartBy w ranking r end least given p =
    ((e : HeldEdge) × (Contains r.edges e × (e.to ≡ end)) × ((least ≤ e.from) × IsEdgeOf r.flat e p)) ⊎
    ((item : Item) × (Contains (set_at r end) item ⊎ Contains given item) × ((least ≤ item.origin) × IsWholeOf w ranking r.flat end item p))

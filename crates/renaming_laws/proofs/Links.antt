-- Links, Leo pairs and placed items under other names.
use Rattle.std.proofs.Common.{◌≡◌, ◌∙◌, ℕ, ◌<◌, length, Some, ap, sym, subst}
use Rattle.grammar_model.specs.Derives.{Edges}
use Rattle.recognizer_model.specs.declared.Item.{Item}
use Rattle.recognizer_model.specs.declared.Pair.{Pair}
use Rattle.recognizer_model.specs.Flat.{FlatGrammar, IsRule, lhs_of}
use Rattle.recognizer_model.specs.Leo.{IsLeo, LeadsTo}
use Rattle.recognizer_model.specs.Links.{Link, Predicts, Skips, Scans, Completes, Leaps, IsCompleted, IsLink, PlacedLink, IsPlacedLink, IsLeoPair}
use Rattle.recognizer_model.specs.Nodes.{Placed}
use Rattle.renaming_laws.proofs.Renamed.{Renamed, renamed, named_again, part_there, whole_there, left_there}
use Rattle.renaming_laws.proofs.Sets.{in_set_rule, reduced_rule, reduced_there, leads_there, none_there, leo_there}

pub link_named : (ℕ → ℕ) → Link → Link
link_named rule (Predicts item r) = Predicts (renamed rule item) (rule r)
link_named rule (Skips item) = Skips (renamed rule item)
link_named rule (Scans item from) = Scans (renamed rule item) from
link_named rule (Completes whole item) = Completes (renamed rule whole) (renamed rule item)
link_named rule (Leaps whole) = Leaps (renamed rule whole)

abbrev pub placed_link : (ℕ → ℕ) → PlacedLink → PlacedLink
placed_link rule p = record { place = p.place; link = link_named rule p.link }

abbrev pub pair_named : (ℕ → ℕ) → Pair → Pair
pair_named symbol p = record { set = p.set; symbol = symbol p.symbol }

abbrev pub placed : (ℕ → ℕ) → Placed → Placed
placed rule p = record { place = p.place; item = renamed rule p.item }

module _ {f g : FlatGrammar} {E F : Edges} (ren : Renamed f g E F) (top : ℕ) (is_rule : IsRule f top) where
  completed_there : (j : ℕ) (whole : Item) → IsCompleted f E top j whole → IsCompleted g F (ren.rule top) j (renamed ren.rule whole)
  completed_there j whole (k, is, lt) = (reduced_there ren top is_rule k, whole_there ren.there whole (reduced_rule f E top is_rule k) is, lt)

  link_there : (j : ℕ) (l : Link) → IsLink f E top j l → IsLink g F (ren.rule top) j (link_named ren.rule l)
  unfolding link_named
  link_there j (Predicts item s) (x, k, a, is, l) =
      (ren.symbol x, reduced_there ren top is_rule k, part_there ren.there item.rule item.dot x (reduced_rule f E top is_rule k) a, ren.there.is_rule s is, left_there ren.there s x is l)
  link_there j (Skips item) (x, k, a, n) = (ren.symbol x, reduced_there ren top is_rule k, part_there ren.there item.rule item.dot x (reduced_rule f E top is_rule k) a, ren.there.marked x n)
  link_there j (Scans item from) (x, k, a, e) = (ren.symbol x, reduced_there ren top is_rule k, part_there ren.there item.rule item.dot x (reduced_rule f E top is_rule k) a, ren.there.edge x from j e)
  link_there j (Completes whole item) (c, none, k, a) =
      let of = reduced_rule f E top is_rule c.0 in (
        completed_there j whole c,
        none_there ren top is_rule whole.rule of none,
        reduced_there ren top is_rule k,
        part_there ren.there item.rule item.dot (lhs_of f whole.rule) (reduced_rule f E top is_rule k) a ∙ ap (λ (y : ℕ). Some y) (sym (ren.there.left whole.rule of)),
      )
  link_there j (Leaps whole) (c, (topmost, leads)) =
      let of = reduced_rule f E top is_rule c.0 in
      (completed_there j whole c, (renamed ren.rule topmost, subst (λ (y : ℕ). LeadsTo g F (ren.rule top) whole.origin y (renamed ren.rule topmost)) (sym (ren.there.left whole.rule of)) (leads_there ren top is_rule leads)))

  pub placed_link_there : (place : ℕ) (p : PlacedLink) → IsPlacedLink f E top place p → IsPlacedLink g F (ren.rule top) place (placed_link ren.rule p)
  placed_link_there place p (some, le, is) = (some, le, link_there p.place p.link is)

  link_again : (j : ℕ) (l : Link) → IsLink f E top j l → link_named ren.rule_back (link_named ren.rule l) ≡ l
  unfolding link_named
  link_again j (Predicts item s) (x, k, a, is, l) =
      ap (λ (m : Item). Predicts m (ren.rule_back (ren.rule s))) (named_again item (ren.rule_back (ren.rule item.rule)) (ren.same_rule item.rule (reduced_rule f E top is_rule k)))
      ∙ ap (Predicts item) (ren.same_rule s is)
  link_again j (Skips item) (x, k, a, n) = ap Skips (named_again item (ren.rule_back (ren.rule item.rule)) (ren.same_rule item.rule (reduced_rule f E top is_rule k)))
  link_again j (Scans item from) (x, k, a, e) = ap (λ (m : Item). Scans m from) (named_again item (ren.rule_back (ren.rule item.rule)) (ren.same_rule item.rule (reduced_rule f E top is_rule k)))
  link_again j (Completes whole item) (c, none, k, a) =
      ap (λ (m : Item). Completes m (renamed ren.rule_back (renamed ren.rule item))) (named_again whole (ren.rule_back (ren.rule whole.rule)) (ren.same_rule whole.rule (reduced_rule f E top is_rule c.0)))
      ∙ ap (Completes whole) (named_again item (ren.rule_back (ren.rule item.rule)) (ren.same_rule item.rule (reduced_rule f E top is_rule k)))
  link_again j (Leaps whole) (c, leads) = ap Leaps (named_again whole (ren.rule_back (ren.rule whole.rule)) (ren.same_rule whole.rule (reduced_rule f E top is_rule c.0)))

  pub placed_link_again : (place : ℕ) (p : PlacedLink) → IsPlacedLink f E top place p → placed_link ren.rule_back (placed_link ren.rule p) ≡ p
  placed_link_again place p (some, le, is) = ap (λ (l : Link). record { place = p.place; link = l }) (link_again p.place p.link is)

  pair_within : (p : Pair) → (item : Item) → IsLeo f E top p.set p.symbol item → p.symbol < length f.symbols
  pair_within p item leo = ren.flat.in_range.parts item.rule item.dot p.symbol (in_set_rule f E top is_rule leo.inside) leo.waits

  pub pair_there : (place : ℕ) (p : Pair) → IsLeoPair f E top place p → IsLeoPair g F (ren.rule top) place (pair_named ren.symbol p)
  pair_there place p (le, (item, leo)) = (le, (renamed ren.rule item, leo_there ren top is_rule leo))

  pub pair_again : (place : ℕ) (p : Pair) → IsLeoPair f E top place p → pair_named ren.symbol_back (pair_named ren.symbol p) ≡ p
  pair_again place p (le, (item, leo)) = ap (λ (x : ℕ). record { set = p.set; symbol = x }) (ren.same_symbol p.symbol (pair_within p item leo))

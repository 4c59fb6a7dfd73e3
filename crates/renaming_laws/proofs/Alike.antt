-- What is counted of a reading is counted alike by each flat form.
use Rattle.std.proofs.Common.{◌≡◌, ◌∙◌, ℕ, ◌≤◌, List, ap, sym, subst}
use Rattle.grammar_model.specs.Grammar.{Grammar}
use Rattle.grammar_model.specs.declared.Edge.{Edge}
use Rattle.grammar_model.specs.declared.Ranking.{Ranking}
use Rattle.grammar_model.specs.declared.Ranking.TheVariants.{None as NoRanks}
use Rattle.grammar_model.specs.Derives.{Edges, Held}
use Rattle.recognizer_model.specs.declared.Item.{Item}
use Rattle.recognizer_model.specs.declared.NodeKey.{NodeKey}
use Rattle.recognizer_model.specs.Flat.{FlatGrammar, IsRule}
use Rattle.recognizer_model.specs.Chosen.{Allowed, allowed_by}
use Rattle.recognizer_model.specs.Below.{node_of, IsHiddenNode}
use Rattle.recognizer_model.specs.Leo.{InReduced, IsHidden}
use Rattle.recognizer_model.specs.Links.{IsPlacedLink, IsLeoPair}
use Rattle.recognizer_model.specs.Nodes.{Placed, IsUsed, IsExpanded}
use Rattle.recognizer_model.specs.Counts.{IsCountOf}
use Rattle.renaming_laws.specs.Laws.{AreForms, edges_in, NumbersOfAnyForm, CountsOfAnyForm}
use Rattle.renaming_laws.proofs.Renamed.{Renamed, flip, renamed, named_again}
use Rattle.renaming_laws.proofs.Sets.{reduced_rule, expanded_rule, reduced_there, hidden_there}
use Rattle.renaming_laws.proofs.Trees.{Keeps, ranking_there, key_named, used_there, used_rule}
use Rattle.renaming_laws.proofs.Links.{placed_link, pair_named, placed, placed_link_there, placed_link_again, pair_there, pair_again}
use Rattle.renaming_laws.proofs.Over.{counts_over}
use Rattle.renaming_laws.proofs.Forms.{forms_are_renamed, top_is}

-- one way, for values that are told by items and nodes
module _ {f g : FlatGrammar} {E F : Edges} (ren : Renamed f g E F) (top : ℕ) (is_rule : IsRule f top) (place : ℕ) where
  abbrev other : ℕ
  other = ren.rule top

  abbrev IsKeptAt : Placed → Type 0
  IsKeptAt p = (p.place ≤ place) × InReduced f E top p.place p.item

  kept_there : (p : Placed) → IsKeptAt p → (p.place ≤ place) × InReduced g F other p.place (renamed ren.rule p.item)
  kept_there p (le, k) = (le, reduced_there ren top is_rule k)

  placed_again : (p : Placed) → IsRule f p.item.rule → placed ren.rule_back (placed ren.rule p) ≡ p
  placed_again p is = ap (λ (m : Item). record { place = p.place; item = m }) (named_again p.item (ren.rule_back (ren.rule p.item.rule)) (ren.same_rule p.item.rule is))

  key_again : (n : NodeKey) → IsRule f n.rule → key_named ren.rule_back (key_named ren.rule n) ≡ n
  key_again n is = ap (λ (r : ℕ). record { rule = r; dot = n.dot; origin = n.origin; end = n.end }) (ren.same_rule n.rule is)

  module _ (allowed allowed' : Allowed) (keeps : Keeps ren.rule f allowed allowed') where
    expanded_at : (p : Placed) → IsExpanded f E allowed top place p → IsExpanded g F allowed' other place (placed ren.rule p)
    expanded_at p (hidden, (n, used, same, le)) = (hidden_there ren top is_rule hidden, (key_named ren.rule n, used_there ren top is_rule allowed allowed' keeps used, same, le))

    node_at : (p : Placed) → IsHidden f E top p.place p.item × IsUsed f E allowed top place (node_of p.item p.place) →
        IsHidden g F other p.place (renamed ren.rule p.item) × IsUsed g F allowed' other place (node_of (renamed ren.rule p.item) p.place)
    node_at p (hidden, used) = (hidden_there ren top is_rule hidden, used_there ren top is_rule allowed allowed' keeps used)

  hidden_rule : (p : Placed) → IsHidden f E top p.place p.item → IsRule f p.item.rule
  hidden_rule p hidden = expanded_rule f E top is_rule hidden.0

-- both ways
module _ {f g : FlatGrammar} {E F : Edges} (ren : Renamed f g E F) (w : Grammar) (ranking : Ranking) (top other : ℕ) (is_rule : IsRule f top) (rule_of : IsRule g other) (same : ren.rule top ≡ other) (place : ℕ) where
  back : ren.rule_back other ≡ top
  back = ap ren.rule_back (sym same) ∙ ren.same_rule top is_rule

  pub kept_alike : (n : ℕ) → IsCountOf {A = Placed} (λ p. (p.place ≤ place) × InReduced f E top p.place p.item) n → IsCountOf {A = Placed} (λ p. (p.place ≤ place) × InReduced g F other p.place p.item) n
  kept_alike n count =
      counts_over (λ (p : Placed). (p.place ≤ place) × InReduced f E top p.place p.item) (λ (p : Placed). (p.place ≤ place) × InReduced g F other p.place p.item) (placed ren.rule) (placed ren.rule_back)
      (λ p k. subst (λ (t : ℕ). (p.place ≤ place) × InReduced g F t p.place (renamed ren.rule p.item)) same (kept_there ren top is_rule place p k))
      (λ p k. subst (λ (t : ℕ). (p.place ≤ place) × InReduced f E t p.place (renamed ren.rule_back p.item)) back (kept_there (flip ren) other rule_of place p k))
      (λ p (le, k). placed_again ren top is_rule place p (reduced_rule f E top is_rule k)) (λ p (le, k). placed_again (flip ren) other rule_of place p (reduced_rule g F other rule_of k)) n count

  pub nodes_alike : (n : ℕ) → IsCountOf (IsUsed f E (allowed_by w ranking f E) top place) n → IsCountOf (IsUsed g F (allowed_by w ranking g F) other place) n
  nodes_alike n count =
      counts_over (IsUsed f E (allowed_by w ranking f E) top place) (IsUsed g F (allowed_by w ranking g F) other place) (key_named ren.rule) (key_named ren.rule_back)
      (λ k u. subst (λ (t : ℕ). IsUsed g F (allowed_by w ranking g F) t place (key_named ren.rule k)) same (used_there ren top is_rule (allowed_by w ranking f E) (allowed_by w ranking g F) (ranking_there ren w ranking) u))
      (λ k u. subst (λ (t : ℕ). IsUsed f E (allowed_by w ranking f E) t place (key_named ren.rule_back k)) back (used_there (flip ren) other rule_of (allowed_by w ranking g F) (allowed_by w ranking f E) (ranking_there (flip ren) w ranking) u))
      (λ k u. key_again ren top is_rule place k (used_rule f E (allowed_by w ranking f E) top place k u)) (λ k u. key_again (flip ren) other rule_of place k (used_rule g F (allowed_by w ranking g F) other place k u)) n count

  pub expanded_alike : (n : ℕ) → IsCountOf (IsExpanded f E (allowed_by w ranking f E) top place) n → IsCountOf (IsExpanded g F (allowed_by w ranking g F) other place) n
  expanded_alike n count =
      counts_over (IsExpanded f E (allowed_by w ranking f E) top place) (IsExpanded g F (allowed_by w ranking g F) other place) (placed ren.rule) (placed ren.rule_back)
      (λ p x. subst (λ (t : ℕ). IsExpanded g F (allowed_by w ranking g F) t place (placed ren.rule p)) same (expanded_at ren top is_rule place (allowed_by w ranking f E) (allowed_by w ranking g F) (ranking_there ren w ranking) p x))
      (λ p x. subst (λ (t : ℕ). IsExpanded f E (allowed_by w ranking f E) t place (placed ren.rule_back p)) back (expanded_at (flip ren) other rule_of place (allowed_by w ranking g F) (allowed_by w ranking f E) (ranking_there (flip ren) w ranking) p x))
      (λ p (h, x). placed_again ren top is_rule place p (hidden_rule ren top is_rule place p h)) (λ p (h, x). placed_again (flip ren) other rule_of place p (hidden_rule (flip ren) other rule_of place p h)) n count

  pub hidden_alike : (n : ℕ) → IsCountOf (IsHiddenNode w f E top place) n → IsCountOf (IsHiddenNode w g F other place) n
  hidden_alike n count =
      counts_over (IsHiddenNode w f E top place) (IsHiddenNode w g F other place) (placed ren.rule) (placed ren.rule_back)
      (λ p x. subst (λ (t : ℕ). IsHiddenNode w g F t place (placed ren.rule p)) same (node_at ren top is_rule place (allowed_by w NoRanks f E) (allowed_by w NoRanks g F) (ranking_there ren w NoRanks) p x))
      (λ p x. subst (λ (t : ℕ). IsHiddenNode w f E t place (placed ren.rule_back p)) back (node_at (flip ren) other rule_of place (allowed_by w NoRanks g F) (allowed_by w NoRanks f E) (ranking_there (flip ren) w NoRanks) p x))
      (λ p (h, x). placed_again ren top is_rule place p (hidden_rule ren top is_rule place p h)) (λ p (h, x). placed_again (flip ren) other rule_of place p (hidden_rule (flip ren) other rule_of place p h)) n count

  pub links_alike : (n : ℕ) → IsCountOf (IsPlacedLink f E top place) n → IsCountOf (IsPlacedLink g F other place) n
  links_alike n count =
      counts_over (IsPlacedLink f E top place) (IsPlacedLink g F other place) (placed_link ren.rule) (placed_link ren.rule_back)
      (λ p l. subst (λ (t : ℕ). IsPlacedLink g F t place (placed_link ren.rule p)) same (placed_link_there ren top is_rule place p l))
      (λ p l. subst (λ (t : ℕ). IsPlacedLink f E t place (placed_link ren.rule_back p)) back (placed_link_there (flip ren) other rule_of place p l))
      (placed_link_again ren top is_rule place) (placed_link_again (flip ren) other rule_of place) n count

  pub pairs_alike : (n : ℕ) → IsCountOf (IsLeoPair f E top place) n → IsCountOf (IsLeoPair g F other place) n
  pairs_alike n count =
      counts_over (IsLeoPair f E top place) (IsLeoPair g F other place) (pair_named ren.symbol) (pair_named ren.symbol_back)
      (λ p l. subst (λ (t : ℕ). IsLeoPair g F t place (pair_named ren.symbol p)) same (pair_there ren top is_rule place p l))
      (λ p l. subst (λ (t : ℕ). IsLeoPair f E t place (pair_named ren.symbol_back p)) back (pair_there (flip ren) other rule_of place p l))
      (pair_again ren top is_rule place) (pair_again (flip ren) other rule_of place) n count

-- ---- of forms

module _ (w : Grammar) (edges : List Edge) (start : ℕ) (f g : FlatGrammar) (top other : ℕ) (are : AreForms w start f g top other) where
  ren : Renamed f g (edges_in f edges) (edges_in g edges)
  ren = forms_are_renamed f g w are.flat are.other_flat are.of are.other_of (Held edges)

  is_rule : IsRule f top
  is_rule = (are.flat.tops start top are.top_is).is_top.is_rule

  rule_of : IsRule g other
  rule_of = (are.other_flat.tops start other are.other_is).is_top.is_rule

  same : ren.rule top ≡ other
  unfolding ren
  same = top_is f g w are.flat are.other_flat are.of are.other_of start top other are.top_is are.other_is

pub numbers_of_any_form : NumbersOfAnyForm
numbers_of_any_form w edges ranking start place tokens kept nodes expanded f g top other are stats =
    let ren = ren w edges start f g top other are in
    let is_rule = is_rule w edges start f g top other are in
    let rule_of = rule_of w edges start f g top other are in
    let same = same w edges start f g top other are in
    record {
      places = stats.places;
      kept_items = kept_alike ren w ranking top other is_rule rule_of same place kept stats.kept_items;
      used_nodes = nodes_alike ren w ranking top other is_rule rule_of same place nodes stats.used_nodes;
      hidden_items = expanded_alike ren w ranking top other is_rule rule_of same place expanded stats.hidden_items;
    }

pub counts_of_any_form : CountsOfAnyForm
counts_of_any_form w edges ranking start place f g top other are =
    let ren = ren w edges start f g top other are in
    let is_rule = is_rule w edges start f g top other are in
    let rule_of = rule_of w edges start f g top other are in
    let same = same w edges start f g top other are in
    record {
      links = links_alike ren w ranking top other is_rule rule_of same place;
      pairs = pairs_alike ren w ranking top other is_rule rule_of same place;
      expanded = expanded_alike ren w ranking top other is_rule rule_of same place;
      hidden = hidden_alike ren w ranking top other is_rule rule_of same place;
    }

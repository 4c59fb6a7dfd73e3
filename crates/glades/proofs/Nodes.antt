-- What is always so of the nodes of a forest, as its readers tell them.
use Rattle.std.proofs.Common.{◌≡◌, ℕ, ◌-◌, ◌<◌, length, Some, sym, ap, ◌∙◌, subst, arith}
use Rattle.std.specs.Prelude.{slice_get, slice_index_or, Contains}
use Rattle.std.proofs.lemmas.Option.{slice_get-get_or}
use Rattle.finite_sets.proofs.Lists.{get_index, get_among}
use Rattle.finite_sets.proofs.Members.{contains_from}
use Rattle.recognizer_model.specs.declared.NodeKey.{NodeKey}
use Rattle.recognizer_model.specs.Flat.{FlatGrammar, IsRule, lhs_of, rhs_of, source_of}
use Rattle.recognizer_model.specs.declared.flat.FlatSymbol.{FlatSymbol}
use Rattle.recognizer_model.specs.declared.flat.FlatSymbol.TheVariants.{Top}
use Rattle.recognizer_model.specs.FlatForm.{symbol_at}
use Rattle.recognizer_model.proofs.Sources.{rule_there}
use Rattle.forest_model.specs.Forest.{ForestNode, Forest, IsForest, AreAlternatives}
use Rattle.forest_laws.specs.Lists.{rule_of}
use Rattle.glade_laws.proofs.Falling.{part_is}
use Rattle.bocage.specs.Readers.{node_at}

pub node_there : (f : Forest) (n : ℕ) → n < length f.nodes → slice_get f.nodes n ≡ Some (node_at f n)
node_there f n lt = slice_get-get_or f.nodes n (record { key = record { rule = 0; dot = 0; origin = 0; end = 0 }; alternatives = Rattle.std.specs.Prelude.[] }) lt

pub there_node : (f : Forest) (n : ℕ) (node : ForestNode) → slice_get f.nodes n ≡ Some node → (n < length f.nodes) × (node_at f n ≡ node)
there_node f n node at = get_index f.nodes n (record { key = record { rule = 0; dot = 0; origin = 0; end = 0 }; alternatives = Rattle.std.specs.Prelude.[] }) node at

pub is_alternatives : (f : Forest) → IsForest f → (n : ℕ) → n < length f.nodes → AreAlternatives f (node_at f n).key (node_at f n).alternatives
is_alternatives f is n lt = is.alternatives (node_at f n) (contains_from f.nodes (node_at f n) (get_among f.nodes n (node_at f n) (node_there f n lt)))

pub record IsSound (f : Forest) (flat : FlatGrammar) (key : NodeKey) : Type 0 where
  pub some : 0 < key.dot
  pub rule : IsRule flat key.rule
  pub place : key.dot - 1 < length (rhs_of flat key.rule)
  pub symbol : slice_index_or (rhs_of flat key.rule) (key.dot - 1) 0 < length flat.symbols
  pub left : lhs_of flat key.rule < length flat.symbols

sound_here : (f : Forest) → IsForest f → (n : ℕ) → n < length f.nodes → IsSound f f.flat (node_at f n).key
sound_here f is n lt =
    let node : ForestNode = node_at f n in
    let a = is_alternatives f is n lt in
    let some = a.dot_is in
    let rule = rule_there f.flat.rules node.key.rule a.dot a.symbol a.part in
    let within = (get_index (rhs_of f.flat node.key.rule) a.dot 0 a.symbol a.part).0 in
    let here = is.derived.flat.in_range.parts node.key.rule a.dot a.symbol rule a.part in
    record {
      some = omega (arith, some);
      rule = rule;
      place = omega (arith, some, within);
      symbol = subst (λ x. x < length f.flat.symbols) (sym (part_is f is node a)) here;
      left = is.derived.flat.in_range.left node.key.rule rule;
    }

pub key_sound : (f : Forest) → IsForest f → (n : ℕ) → n < length f.nodes → (flat : FlatGrammar) → flat ≡ f.flat → (key : NodeKey) → key ≡ (node_at f n).key → IsSound f flat key
key_sound f is n lt flat same key here = subst (λ g. IsSound f g key) (sym same) (subst (IsSound f f.flat) (sym here) (sound_here f is n lt))

-- what the rule of a node comes from
pub source_same : (f : Forest) (n : ℕ) → n < length f.nodes → (flat : FlatGrammar) → flat ≡ f.flat → (key : NodeKey) → key ≡ (node_at f n).key → source_of f.flat (rule_of (slice_get f.nodes n)) ≡ source_of flat key.rule
source_same f n lt flat same key here = (λ i. source_of (sym same i) ((ap rule_of (node_there f n lt) ∙ ap (λ (k : NodeKey). k.rule) (sym here)) i))

-- the symbol of its left side
pub left_symbol : (f : Forest) (n : ℕ) (flat : FlatGrammar) → flat ≡ f.flat → (key : NodeKey) → key ≡ (node_at f n).key → (x : ℕ) → x ≡ lhs_of flat key.rule → (s : FlatSymbol) → slice_get flat.symbols x ≡ Some s →
    symbol_at f.flat (lhs_of f.flat (node_at f n).key.rule) ≡ s
left_symbol f n flat same key here x is s at =
    (λ i. symbol_at (sym same i) (lhs_of (sym same i) ((sym here i).rule))) ∙ ap (symbol_at flat) (sym is) ∙ (get_index flat.symbols x (Top 0) s at).1

-- The lists of a reading: all trees of a symbol over a span, and all child lists of first parts, in order.
use Rattle.std.proofs.Common.{◌≡◌, ℕ, ◌<◌, ◌≤◌, List, length, subst, arith}
use Rattle.finite_sets.proofs.Members.{among_from, contains_from, Among}
use Rattle.grammar_model.specs.Grammar.{Slot, slot_of, rule_at}
use Rattle.grammar_model.specs.Grammar
use Rattle.grammar_model.specs.Trees.{Tree, Children, child_count}
use Rattle.grammar_model.specs.Derives.{Edges, Held, DerivesPrefix}
use Rattle.grammar_model.specs.Derives
use Rattle.grammar_model.specs.Order.{RuleOrder, IsRuleOrder}
use Rattle.grammar_model.specs.All.{IsAll}
use Rattle.grammar_model.proofs.Compose.{GoForward}
use Rattle.recognizer_model.specs.declared.NodeKey.{NodeKey}
use Rattle.recognizer_model.specs.Flat.{FlatGrammar, IsRule, rhs_of}
use Rattle.recognizer_model.specs.FlatForm.{flat_order}
use Rattle.recognizer_model.specs.FlatDerives.{Spans}
use Rattle.recognizer_model.specs.FlatDerives
use Rattle.recognizer_model.specs.Acceptable.{OnlyTerminals}
use Rattle.recognizer_model.specs.Invariant.{IsFlat}
use Rattle.recognizer_model.specs.View.{grammar_view}
use Rattle.recognizer_model.proofs.Views.{symbol_viewed, parts_viewed, symbol_back, parts_back}
use Rattle.recognizer_model.proofs.FlatKeeps.{flat_order_laws}
use Rattle.recognizer_model.proofs.FlatListed.{flat_list}
use Rattle.forest_model.specs.Forest.{Forest, edges_of, IsDerived}
use Rattle.forest_laws.proofs.Prefixes.{AllPrefixes, all_prefixes}

abbrev pub D : Grammar.Grammar → Edges → Slot → ℕ → ℕ → Tree → Type 0
D = Derives.Derives

module _ (f : Forest) (derived : IsDerived f) where
  abbrev g : FlatGrammar
  g = f.flat

  abbrev F : Grammar.Grammar
  F = grammar_view f.flat

  abbrev E : Edges
  E = edges_of f

  abbrev order : RuleOrder
  order = flat_order f.written f.ranking f.flat

  abbrev flat : IsFlat f.flat
  flat = derived.flat

  pub laws : IsRuleOrder (flat_order f.written f.ranking f.flat)
  laws = flat_order_laws f.written f.ranking f.flat

  pub held_forward : (s p q : ℕ) → Held f.edges s p q → p < q
  held_forward s p q h = derived.forward (record { symbol = s; from = p; to = q }) h

  pub forward : GoForward (edges_of f)
  forward x p q e = held_forward e.0 p q e.2

  pub only : OnlyTerminals f.flat (edges_of f)
  only x p q e = (e.0, e.1)

  pub viewed : {x p q : ℕ} {t : Tree} → FlatDerives.Derives g E x p q t → D F E (slot_of x) p q t
  viewed d = symbol_viewed g flat.marks E only flat.no_rules flat.terminals_span d

  pub back : (x p q : ℕ) (t : Tree) → D F E (slot_of x) p q t → FlatDerives.Derives g E x p q t
  back x p q t d = symbol_back g flat.marks E only flat.no_rules flat.terminals_span t (slot_of x) p q d

  pub prefix_viewed : {r d p q : ℕ} {cs : Children} → IsRule g r → Spans g E r d p q cs → DerivesPrefix F E (rule_at F r) p q cs × (child_count cs ≡ d)
  prefix_viewed rule s = parts_viewed g flat.marks E only flat.no_rules flat.terminals_span rule s

  pub prefix_back : (cs : Children) (r : ℕ) → IsRule g r → (p q : ℕ) → child_count cs ≤ length (rhs_of g r) → DerivesPrefix F E (rule_at F r) p q cs → Spans g E r (child_count cs) p q cs
  prefix_back cs r rule p q le d = parts_back g flat.marks E only flat.no_rules flat.terminals_span cs r rule p q le d

  pub exact : (slot : Slot) (p q : ℕ) → (trees : List Tree) × IsAll F E order slot p q trees
  exact slot p q = flat_list f.flat f.written flat f.ranking f.edges held_forward slot p q

  abbrev pub All : (r n p q : ℕ) → List Children → Type 0
  All r n p q xs = AllPrefixes F E forward order laws (rule_at F r) (order.null_high r) n p q xs

  abbrev pub spans : (r n p q : ℕ) → (cs : List Children) × All r n p q cs
  spans r n p q = all_prefixes F E forward order laws exact (rule_at F r) (order.null_high r) n p q

  abbrev pub key_list : NodeKey → List Children
  key_list k = (spans k.rule k.dot k.origin k.end).0

  abbrev pub trees_of : (x p q : ℕ) → List Tree
  trees_of x p q = (exact (slot_of x) p q).0

  pub tree_in : {x p q : ℕ} {t : Tree} → FlatDerives.Derives g E x p q t → Among t (trees_of x p q)
  tree_in {x} {p} {q} {t} d = among_from (trees_of x p q) t (((exact (slot_of x) p q).1.each t).1 (viewed d))

  pub in_trees : (x p q : ℕ) (t : Tree) → Among t (trees_of x p q) → FlatDerives.Derives g E x p q t
  in_trees x p q t m = back x p q t (((exact (slot_of x) p q).1.each t).0 (contains_from (trees_of x p q) t m))

  pub span_in : {r d p q : ℕ} {cs : Children} → IsRule g r → Spans g E r d p q cs → Among cs (spans r d p q).0
  span_in {r} {d} {p} {q} {cs} rule s = ((spans r d p q).1.each cs).1 (prefix_viewed rule s)

  pub in_spans : (r d p q : ℕ) (cs : Children) → IsRule g r → d ≤ length (rhs_of g r) → Among cs (spans r d p q).0 → Spans g E r d p q cs
  in_spans r d p q cs rule le m =
      let (h, n) = ((spans r d p q).1.each cs).0 m in
      subst (λ k. Spans g E r k p q cs) n (prefix_back cs r rule p q (omega (arith, n)) h)

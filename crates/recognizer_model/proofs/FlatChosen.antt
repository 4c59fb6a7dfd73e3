-- A flat derivation is of the rules that the ranking allows exactly where the ranking chooses what it stands for.
use Rattle.std.proofs.Common.{◌≡◌, ℕ, ◌<◌, ℤ, ◌≤ℤ◌, List, [], ◌∷◌, length, map, inl, inr, Some, refl, sym, ap, ◌∙◌, subst, arith}
use Rattle.std.specs.Prelude.{◌↔◌, slice_get, Contains}
use Rattle.std.specs.List.Sorted.{IsStrictlySortedBy}
use Rattle.std.proofs.lemmas.Int.{ints}
use Rattle.finite_sets.proofs.Members.{among_from, contains_from, among_map, among_map_from, Among}
use Rattle.grammar_model.specs.Grammar.{Grammar, slot_of, rule_at, rank_of}
use Rattle.grammar_model.specs.Grammar
use Rattle.grammar_model.specs.Trees.{Tree, Children, Leaf, Nulled, Node}
use Rattle.grammar_model.specs.Derives.{Edges, Held, Derives}
use Rattle.grammar_model.specs.declared.Edge.{Edge}
use Rattle.grammar_model.specs.declared.Ranking.{Ranking}
use Rattle.grammar_model.specs.declared.Ranking.TheVariants.{None as NoRanks, Rule as RuleRanks, High as HighRanks}
use Rattle.grammar_model.specs.Order.{rank_order, tree_cmp}
use Rattle.grammar_model.specs.All.{IsAll}
use Rattle.grammar_model.specs.Chosen.{IsBest, AreBest, IsChosen, AreChosen}
use Rattle.grammar_model.specs.Checked.{IsChecked}
use Rattle.grammar_model.proofs.Compose.{GoForward}
use Rattle.grammar_model.proofs.Lists.{sorted_map}
use Rattle.recognizer_model.specs.Flat.{FlatGrammar, IsRule, lhs_of, rhs_of}
use Rattle.recognizer_model.specs.declared.flat.FlatSymbol.TheVariants.{Top}
use Rattle.recognizer_model.specs.FlatDerives.{Spans, Rule}
use Rattle.recognizer_model.specs.FlatDerives
use Rattle.recognizer_model.specs.Invariant.{IsFlat}
use Rattle.recognizer_model.specs.FlatForm.{IsFlatOf, StandsFor, symbol_at, tree_of, flat_order, FlatEdges}
use Rattle.recognizer_model.specs.View.{grammar_view}
use Rattle.recognizer_model.specs.Chosen.{AreAllowed, flat_rank, IsBestRule, allowed_by}
use Rattle.recognizer_model.proofs.Forms
use Rattle.recognizer_model.proofs.Forms.{FlatList, FlatNames, IsHead, IsInner}
use Rattle.recognizer_model.proofs.FlatSound
use Rattle.recognizer_model.proofs.FlatWhole
use Rattle.recognizer_model.proofs.FlatNamed.{form}
use Rattle.recognizer_model.proofs.FlatJoin.{view, names, only, lhs_is, rhs_is, reads, has}
use Rattle.recognizer_model.proofs.FlatFormLaw.{inner_stands, agree_tree, top_node, top_tree, only_top, no_top_leaf, Standing, standing, flat_form}
use Rattle.recognizer_model.proofs.FlatBest.{tree_best}
use Rattle.recognizer_model.specs.ChosenLaws.{IsReading}
use Rattle.recognizer_model.proofs.Leaving.{all_alike, all_ruled, leaves_some}
use Rattle.recognizer_model.proofs.Views.{symbol_viewed, symbol_back, in_view}

most_itself : {x y : ℤ} → x ≡ y → x ≤ℤ y
most_itself {x} {y} e = omega (arith, ints, e)

-- the node of a rule
from_rule : {f : FlatGrammar} {E : Edges} {x p q r : ℕ} {cs : Children} {a b : ℕ} → FlatDerives.Derives f E x p q (Node r cs a b) →
    IsRule f r × (lhs_of f r ≡ x) × (p < q) × Spans f E r (length (rhs_of f r)) p q cs
from_rule (Rule rule l lt s) = (rule, l, lt, s)

module _ (f : FlatGrammar) (w : Grammar) (flat : IsFlat f) (made : IsFlatOf f w) (checked : IsChecked w) (edge : Edges) (forward : GoForward edge) where
  abbrev F : Grammar
  F = view f w flat made checked

  abbrev n : FlatNames
  n = names f w flat made checked

  abbrev E : Edges
  E = FlatEdges f edge

  laws : Forms.IsFlatOf F w n E edge
  laws = reads f w flat made checked edge

  all_rules : Forms.HasFlatRules F w n E edge
  all_rules = has f w flat made checked edge

  back : (x p q : ℕ) (t : Tree) → Derives F E (slot_of x) p q t → FlatDerives.Derives f E x p q t
  back x p q t d = symbol_back f flat.marks E (only f w flat made checked edge) flat.no_rules flat.terminals_span t (slot_of x) p q d

  viewed : {x p q : ℕ} {t : Tree} → FlatDerives.Derives f E x p q t → Derives F E (slot_of x) p q t
  viewed d = symbol_viewed f flat.marks E (only f w flat made checked edge) flat.no_rules flat.terminals_span d

  -- a rule of a slot
  module _ (x r p q : ℕ) (slot : Grammar.Slot) (cs : Children) (st : Forms.StandsFor (n.symbol x) slot) (d : Derives F E (slot_of x) p q (Node r cs p q)) where
    left : lhs_of f r ≡ x
    left = (from_rule (back x p q (Node r cs p q) d)).1

    best_to : IsBestRule w HighRanks f E r p q → IsBest w edge slot p q (n.source r)
    best_to best i children e = go (FlatWhole.tree_whole F w n E edge laws all_rules forward (Node i children p q) x p q slot st e)
      where
        go : (u : Tree) × Derives F E (slot_of x) p q u × (Forms.tree_of n u ≡ Node i children p q) → rank_of (rule_at w i) ≤ℤ rank_of (rule_at w (n.source r))
        go (Leaf y a b, d', same) = cc
        go (Nulled y a, d', same) = cc
        go (Node s us a b, d', same) =
            let (rule, l, lt, over) = from_rule (back x p q (Node s us a b) d') in
            let is : n.source s ≡ i = cc in
            subst (λ k. rank_of (rule_at w k) ≤ℤ rank_of (rule_at w (n.source r))) is (best s us rule (l ∙ sym left) over)

    best_from : IsBest w edge slot p q (n.source r) → IsBestRule w HighRanks f E r p q
    best_from best s us rule same over =
        let d' : Derives F E (slot_of x) p q (Node s us p q) = viewed (Rule rule (same ∙ left) d.spans over) in
        best (n.source s) (Forms.children_of n us) (FlatSound.tree_sound F w n E edge laws (Node s us p q) x p q slot st d')

  -- the rules of a list come from one rule
  list_best : (x i r p q : ℕ) (cs : Children) → n.symbol x ≡ FlatList i → Derives F E (slot_of x) p q (Node r cs p q) → IsBestRule w HighRanks f E r p q
  list_best x i r p q cs e d s us rule same over =
      let (rule', l, lt, over') = from_rule (back x p q (Node r cs p q) d) in
      most_itself (ap (λ k. rank_of (rule_at w k)) (from s rule (same ∙ l) ∙ sym (from r rule' l)))
    where
      from : (s : ℕ) → IsRule f s → lhs_of f s ≡ x → n.source s ≡ i
      from s rule l =
          let parts : length (n.rhs s) ≡ length (rhs_of f s) = ap length (rhs_is f w flat made checked s rule) in
          let some = flat.some s rule in
          let head = laws.head s (in_view f s rule) (omega (arith, parts, some)) in
          (subst (λ z. IsHead w z (n.source s) (length (n.rhs s))) (ap n.symbol (lhs_is f w flat made checked s rule ∙ l) ∙ e) head).0

  inner_best : (x p q : ℕ) (slot : Grammar.Slot) (t : Tree) → IsInner (form (symbol_at f x)) → StandsFor w (symbol_at f x) slot → Derives F E (slot_of x) p q t →
      AreAllowed (allowed_by w HighRanks f E) t ↔ AreBest w edge slot (tree_of w f t)
  inner_best x p q slot t inner st d =
      subst (λ z. AreAllowed (allowed_by w HighRanks f E) t ↔ AreBest w edge slot z) (sym (agree_tree f w flat made checked edge forward HighRanks t x p q inner d))
      (tree_best F w n E edge laws (allowed_by w HighRanks f E) (λ x r p q slot cs st d. (best_to x r p q slot cs st d, best_from x r p q slot cs st d)) list_best t x p q slot (inner_stands w (symbol_at f x) slot st inner) d)

  one_start : (k : ℕ) {a b : ℕ} → slice_get w.starts k ≡ Some a → slice_get w.starts k ≡ Some b → a ≡ b
  one_start k {a = a} {b = b} e e' = cc

  top_best : (x k p q start : ℕ) (t : Tree) → symbol_at f x ≡ Top k → slice_get w.starts k ≡ Some start → Derives F E (slot_of x) p q t →
      AreAllowed (allowed_by w HighRanks f E) t ↔ AreBest w edge (slot_of start) (tree_of w f t)
  top_best x k p q start (Leaf y a b) is at d = absurd (no_top_leaf f w flat made checked edge forward HighRanks x k p q y a b is d)
  top_best x k p q start (Nulled y a) is at d = ((λ h. tt), (λ h. tt))
  top_best x k p q start (Node r cs a b) is at d =
      let (rule, left, t) = top_node f w flat made checked edge forward HighRanks x k p q r cs a b is d in
      let under = inner_best t.symbol p q (slot_of t.start) t.child t.inner t.stands t.derives in
      let here : AreAllowed (allowed_by w HighRanks f E) t.child ↔ AreBest w edge (slot_of start) (tree_of w f (Node r cs a b)) =
      subst (λ z. AreAllowed (allowed_by w HighRanks f E) t.child ↔ AreBest w edge (slot_of start) z) (sym (top_tree f w flat made checked edge forward HighRanks k r p q cs a b t))
      (subst (λ z. AreAllowed (allowed_by w HighRanks f E) t.child ↔ AreBest w edge (slot_of z) (tree_of w f t.child)) (one_start k t.at at) under) in
      let l : lhs_of f r ≡ x = sym (lhs_is f w flat made checked r rule) ∙ left in
      let alone : IsBestRule w HighRanks f E r a b = λ s us rule' same over.
      most_itself (ap (flat_rank w HighRanks f) (only_top f w flat made checked edge forward HighRanks k r s rule rule' (ap (symbol_at f) l ∙ is) (ap (symbol_at f) (same ∙ l) ∙ is) same)) in
      subst (λ c. AreAllowed (allowed_by w HighRanks f E) (Node r c a b) ↔ AreBest w edge (slot_of start) (tree_of w f (Node r cs a b))) (sym t.is_child)
      ((λ c. here.0 c.1.1), (λ c. (alone, (tt, here.1 c))))

  high_form : (x p q : ℕ) (slot : Grammar.Slot) (t : Tree) → StandsFor w (symbol_at f x) slot → Derives F E (slot_of x) p q t → Standing f w flat made checked edge forward HighRanks x slot →
      AreAllowed (allowed_by w HighRanks f E) t ↔ AreBest w edge slot (tree_of w f t)
  high_form x p q slot t st d (inl inner) = inner_best x p q slot t inner st d
  high_form x p q slot t st d (inr (k, start, is, at, same)) =
      subst (λ z. AreAllowed (allowed_by w HighRanks f E) t ↔ AreBest w edge z (tree_of w f t)) (sym same) (top_best x k p q start t is at d)

  pub chosen_form : (ranking : Ranking) (x p q : ℕ) (slot : Grammar.Slot) (t : Tree) → StandsFor w (symbol_at f x) slot → Derives (grammar_view f) (FlatEdges f edge) (slot_of x) p q t →
      AreAllowed (allowed_by w ranking f (FlatEdges f edge)) t ↔ IsChosen ranking w edge slot (tree_of w f t)
  chosen_form NoRanks x p q slot t st d = ((λ h. tt), (λ h. all_alike w f E t))
  chosen_form RuleRanks x p q slot t st d = ((λ h. tt), (λ h. all_ruled w f E t))
  chosen_form HighRanks x p q slot t st d = high_form x p q slot t st d (standing f w flat made checked edge forward HighRanks (symbol_at f x) x slot refl st)

  -- what a list of the chosen flat derivations stands for is that of the written ones
  pub written_chosen : (ranking : Ranking) (x p q : ℕ) (slot : Grammar.Slot) (trees : List Tree) → x < length f.symbols → StandsFor w (symbol_at f x) slot → IsStrictlySortedBy (tree_cmp (flat_order w ranking f)) trees →
      ((t : Tree) → Contains trees t ↔ (Derives (grammar_view f) (FlatEdges f edge) (slot_of x) p q t × AreAllowed (allowed_by w ranking f (FlatEdges f edge)) t)) →
      AreChosen w edge ranking slot p q (map (tree_of w f) trees)
  written_chosen ranking x p q slot trees lt st sorted each = record {
    sorted = sorted_map (tree_cmp (flat_order w ranking f)) (tree_cmp (rank_order w ranking)) (tree_of w f) trees sorted
        (λ t u a b less. sym ((flat_form f w flat made checked edge forward ranking).in_order x p q slot t u lt st (known t a).0 (known u b).0) ∙ less);
    each = λ t. (
      λ c. (let m = among_map_from (tree_of w f) t trees (among_from _ t c) in
          let k = known m.0 m.1 in
          subst (λ z. Derives w edge slot p q z × IsChosen ranking w edge slot z) m.2
          ((flat_form f w flat made checked edge forward ranking).sound x p q slot m.0 lt st k.0, (chosen_form ranking x p q slot m.0 st k.0).0 k.1)),
      λ (d, c). (let v = (flat_form f w flat made checked edge forward ranking).whole x p q slot t lt st d in
          let k = (chosen_form ranking x p q slot v.0 st v.1).1 (subst (IsChosen ranking w edge slot) (sym v.2) c) in
          contains_from _ t (subst (λ z. Among z (map (tree_of w f) trees)) v.2 (among_map (tree_of w f) v.0 trees (among_from trees v.0 ((each v.0).1 (v.1, k)))))),
    );
  }
    where
      known : (t : Tree) → Among t trees → Derives (grammar_view f) (FlatEdges f edge) (slot_of x) p q t × AreAllowed (allowed_by w ranking f (FlatEdges f edge)) t
      known t m = (each t).0 (contains_from trees t m)

-- what has a derivation has a chosen one
module _ (f : FlatGrammar) (w : Grammar) (edges : List Edge) (ranking : Ranking) (r : IsReading f w edges) (x : ℕ) (slot : Grammar.Slot) (p q : ℕ) (lt : x < length f.symbols) (st : StandsFor w (symbol_at f x) slot) where
  some_chosen : (t : Tree) → Derives w (Held edges) slot p q t → (u : Tree) × Derives w (Held edges) slot p q u × IsChosen ranking w (Held edges) slot u
  some_chosen t d =
      let form = flat_form f w r.flat r.made r.checked (Held edges) r.forward ranking in
      let (v, flat, same) = form.whole x p q slot t lt st d in
      let (u, d', c) = leaves_some f w r.flat edges r.forward ranking x p q v (back f w r.flat r.made r.checked (Held edges) r.forward x p q v flat) in
      let there = viewed f w r.flat r.made r.checked (Held edges) r.forward d' in
      (tree_of w f u, form.sound x p q slot u lt st there, (chosen_form f w r.flat r.made r.checked (Held edges) r.forward ranking x p q slot u st there).0 c)

  chosen_none : (chosen all : List Tree) → AreChosen w (Held edges) ranking slot p q chosen → IsAll w (Held edges) (rank_order w ranking) slot p q all → chosen ≡ [] → all ≡ []
  chosen_none chosen [] are every none = refl
  chosen_none chosen (t ∷ all) are every none =
      let (u, d, c) = some_chosen t ((every.each t).0 (contains_from (t ∷ all) t (inl refl))) in
      absurd (among_from [] u (subst (λ l. Contains l u) none ((are.each u).1 (d, c))))

  all_none : (chosen all : List Tree) → AreChosen w (Held edges) ranking slot p q chosen → IsAll w (Held edges) (rank_order w ranking) slot p q all → all ≡ [] → chosen ≡ []
  all_none [] all are every none = refl
  all_none (t ∷ chosen) all are every none =
      absurd (among_from [] t (subst (λ l. Contains l t) none ((every.each t).1 ((are.each t).0 (contains_from (t ∷ chosen) t (inl refl))).0)))

pub chosen_some : (f : FlatGrammar) (w : Grammar) (edges : List Edge) (ranking : Ranking) → IsReading f w edges → (x : ℕ) (slot : Grammar.Slot) (p q : ℕ) (chosen all : List Tree) → x < length f.symbols → StandsFor w (symbol_at f x) slot →
    AreChosen w (Held edges) ranking slot p q chosen → IsAll w (Held edges) (rank_order w ranking) slot p q all → (chosen ≡ []) ↔ (all ≡ [])
chosen_some f w edges ranking r x slot p q chosen all lt st are every =
    (chosen_none f w edges ranking r x slot p q lt st chosen all are every, all_none f w edges ranking r x slot p q lt st chosen all are every)

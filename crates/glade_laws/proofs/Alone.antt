-- A slot has one group over a span.
use Rattle.std.proofs.Common.{◌≡◌, ℕ, suc, List, [], ◌∷◌, length, Some, refl, sym, ap, ◌∙◌, subst, arith}
use Rattle.std.specs.Prelude.{slice_get, map, slice_index_or}
use Rattle.std.specs.declared.cmp.Ordering.TheVariants.{Less}
use Rattle.std.specs.Ordering.{ordering_reverse}
use Rattle.std.proofs.lemmas.Option.{slice_get-get_or}
use Rattle.finite_sets.proofs.Lists.{get_index, get_map}
use Rattle.finite_sets.proofs.Members.{among_from, contains_from}
use Rattle.grammar_model.specs.Grammar.{Slot}
use Rattle.grammar_model.specs.declared.Ranking.TheVariants.{Rule as RuleRanks}
use Rattle.grammar_model.proofs.Lists.{one_sorted}
use Rattle.recognizer_model.specs.declared.NodeKey.{NodeKey}
use Rattle.recognizer_model.specs.declared.flat.FlatSymbol.TheVariants.{Slot as AtLevel, Top}
use Rattle.recognizer_model.specs.Flat.{rhs_of}
use Rattle.recognizer_model.proofs.FlatKeeps.{flat_order_laws}
use Rattle.recognizer_model.proofs.FlatNamed.{one_place}
use Rattle.forest_model.specs.Forest.{Forest, ForestNode, IsForest, IsNode, AreWholes, rules_cmp, whole_key}
use Rattle.glade_laws.specs.Groups.{IsGroup}
use Rattle.glade_laws.proofs.Listed.{symbol_of, in_symbols, wholes}

same_lists : {X : Type 0} (xs ys : List X) → length xs ≡ length ys → ((i : ℕ) (x y : X) → slice_get xs i ≡ Some x → slice_get ys i ≡ Some y → x ≡ y) → xs ≡ ys
same_lists [] [] e each = refl
same_lists [] (y ∷ ys) e each = absurd (omega (arith, e))
same_lists (x ∷ xs) [] e each = absurd (omega (arith, e))
same_lists (x ∷ xs) (y ∷ ys) e each =
    let first = each 0 x y refl refl in let rest = same_lists xs ys (omega (arith, e)) (λ i a b h k. each (suc i) a b h k) in λ k. first k ∷ rest k

module _ (f : Forest) (is : IsForest f) where
  abbrev key_of : ForestNode → NodeKey
  key_of n = n.key

  -- a key has one node
  pub one_node : (n m : ℕ) (key : NodeKey) → IsNode f n key → IsNode f m key → n ≡ m
  one_node n m key (a, at, k) (b, at', k') =
      let here = get_index (map key_of f.nodes) n key (key_of a) (get_map key_of f.nodes n a at) in
      let there = get_index (map key_of f.nodes) m key (key_of b) (get_map key_of f.nodes m b at') in
      one_place (map key_of f.nodes) is.used.once n m key here.0 there.0 (here.1 ∙ k ∙ sym k' ∙ sym there.1)

  asymmetric : (r s : ℕ) → rules_cmp f r s ≡ Less → rules_cmp f s r ≡ Less → ⊥
  asymmetric r s a b =
      let turned = (flat_order_laws f.written f.ranking f.flat).total.antisymm (r, length (rhs_of f.flat r)) (s, length (rhs_of f.flat s)) in
      not_less (sym a ∙ turned ∙ ap ordering_reverse b)
    where
      not_less : Less ≡ ordering_reverse Less → ⊥
      not_less e = cc

  pub one_wholes : (x p q : ℕ) (ns ms : List ℕ) → AreWholes f x p q ns → AreWholes f x p q ms → ns ≡ ms
  one_wholes x p q ns ms a b =
      same_lists ns ms (a.all ∙ ap length rules ∙ sym b.all) (λ i n m at at'. one i n m at at')
    where
      rules : a.rules ≡ b.rules
      rules = one_sorted (rules_cmp f) asymmetric a.rules b.rules a.sorted b.sorted
          (λ r m. among_from b.rules r ((b.exact r).1 ((a.exact r).0 (contains_from a.rules r m))))
          (λ r m. among_from a.rules r ((a.exact r).1 ((b.exact r).0 (contains_from b.rules r m))))

      one : (i n m : ℕ) → slice_get ns i ≡ Some n → slice_get ms i ≡ Some m → n ≡ m
      one i n m at at' =
          let lt = (get_index ns i 0 n at).0 in
          let count = a.all in
          let there = slice_get-get_or a.rules i 0 (omega (arith, lt, count)) in
          let r : ℕ = slice_index_or a.rules i 0 in
          one_node n m (whole_key f r p q) (a.each i n r at there) (b.each i m r at' (subst (λ (rs : List ℕ). slice_get rs i ≡ Some r) rules there))

  pub one_group : (rule : f.ranking ≡ RuleRanks) (slot : Slot) (p q : ℕ) (ns ms : List ℕ) → IsGroup f slot p q ns → IsGroup f slot p q ms → ns ≡ ms
  one_group rule slot p q ns ms a b =
      let x = symbol_of f is rule slot p q ns a in
      let y = symbol_of f is rule slot p q ms b in
      let at = slice_get-get_or f.flat.symbols x (Top 0) (in_symbols f is rule slot p q ns a) ∙ ap Some a.symbol in
      let at' = slice_get-get_or f.flat.symbols y (Top 0) (in_symbols f is rule slot p q ms b) ∙ ap Some b.symbol in
      let same : x ≡ y = is.derived.flat.differ x y (AtLevel slot.symbol slot.level) at at' in
      one_wholes y p q ns ms (subst (λ z. AreWholes f z p q ns) same (wholes f is rule slot p q ns a)) (wholes f is rule slot p q ms b)

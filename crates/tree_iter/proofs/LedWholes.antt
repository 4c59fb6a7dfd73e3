-- Which of the whole rules over a span a derivation's steps tell.
use Rattle.std.proofs.Common.{◌≡◌, ◌≢◌, inl, inr, ℕ, suc, ◌<◌, ◌↔◌, Bool, true, false, length, Option, Some, None, refl, sym, ap, ◌∙◌, subst, arith}
use Rattle.std.proofs.lemmas.Bool.{true≢false}
use Rattle.std.specs.declared.cmp.Ordering.TheVariants.{Equal}
use Rattle.std.specs.Ordering.{ordering_then, nat_cmp, bool_cmp}
use Rattle.std.specs.Cmp.{tied_itself, nat_cmp_total, int_cmp_total}
use Rattle.grammar_model.specs.Grammar.{WrittenRule, Plain, slot_of, rule_at, has_trailing, is_item, ends_with_separator}
use Rattle.grammar_model.specs.Grammar
use Rattle.grammar_model.specs.Trees.{Tree, Children, NoChild, Node, child_count}
use Rattle.grammar_model.specs.Derives.{Held, Derives}
use Rattle.grammar_model.specs.Order.{rule_cmp, rank_by}
use Rattle.recognizer_model.specs.declared.flat.FlatSymbol.{FlatSymbol}
use Rattle.recognizer_model.specs.declared.flat.FlatSymbol.TheVariants.{Terminal, Slot, Sequence, Top}
use Rattle.recognizer_model.specs.declared.flat.FlatSource.TheVariants.{Written}
use Rattle.recognizer_model.specs.Invariant.{IsFlat}
use Rattle.recognizer_model.specs.Flat.{FlatGrammar, IsRule, lhs_of, rhs_of, source_of}
use Rattle.recognizer_model.specs.FlatForm.{symbol_at, is_list, source_number, tree_of, children_of}
use Rattle.recognizer_model.specs.FlatDerives.{Spans, Nothing, More, Rule}
use Rattle.recognizer_model.proofs.Forms
use Rattle.recognizer_model.proofs.Forms.{FlatNames, IsInner}
use Rattle.recognizer_model.proofs.FlatNamed.{form}
use Rattle.recognizer_model.proofs.FlatJoin.{view, names, lhs_is, rhs_is, reads, only}
use Rattle.recognizer_model.proofs.FlatKeeps.{keeps, flat_order_laws}
use Rattle.recognizer_model.proofs.FlatSound.{Alike, has_parts, prefix_sound}
use Rattle.recognizer_model.proofs.FlatFormLaw.{agree_tree}
use Rattle.recognizer_model.proofs.Views.{in_view, symbol_viewed}
use Rattle.forest_model.specs.Forest.{Forest, edges_of, IsForest}

children_in : Tree → Children
children_in (Node r cs p q) = cs
children_in t = NoChild

trailing_alike : (separator : Option ℕ) (m n : ℕ) → is_item separator m ≡ is_item separator n → ends_with_separator separator m ≡ ends_with_separator separator n
trailing_alike None m n e = refl
trailing_alike (Some c) m n e = e

same_trailing : (rule : WrittenRule) (m n : ℕ) → Alike rule m n → has_trailing rule m ≡ has_trailing rule n
same_trailing (Plain r) m n a = refl
same_trailing (Grammar.Sequence r) m n a = trailing_alike r.separator m n a.1

bool_same : (a b : Bool) → a ≡ b → bool_cmp a b ≡ Equal
bool_same true true e = refl
bool_same false false e = refl
bool_same true false e = absurd (true≢false e)
bool_same false true e = absurd (true≢false (sym e))

module _ (f : Forest) (is : IsForest f) where
  abbrev g : FlatGrammar
  g = f.flat

  abbrev flat : IsFlat f.flat
  flat = is.derived.flat

  abbrev n : FlatNames
  n = names f.flat f.written is.derived.flat is.derived.flat_of is.derived.checked

  forward : (s p q : ℕ) → Held f.edges s p q → p < q
  forward s p q held = is.derived.forward (record { symbol = s; from = p; to = q }) held

  -- as many children as a rule has parts, and as its tree is written with, end alike
  module _ (r i p q : ℕ) (slot : Grammar.Slot) (rule : IsRule g r) (source : source_of g r ≡ Written i) (left : symbol_at g (lhs_of g r) ≡ Slot slot.symbol slot.level) (lt : p < q) (cs : Children)
      (spans : Spans g (edges_of f) r (length (rhs_of g r)) p q cs) where
    viewed : Derives (view f.flat f.written flat is.derived.flat_of is.derived.checked) (edges_of f) (slot_of (lhs_of g r)) p q (Node r cs p q)
    viewed = symbol_viewed f.flat flat.marks (edges_of f) (only f.flat f.written flat is.derived.flat_of is.derived.checked (Held f.edges)) flat.no_rules flat.terminals_span (Rule rule refl lt spans)

    inner : IsInner (form (symbol_at g (lhs_of g r)))
    inner = subst (λ (s : FlatSymbol). IsInner (form s)) (sym left) tt

    inner_left : IsInner (n.symbol (n.lhs r))
    inner_left = subst (λ k. IsInner (form (symbol_at g k))) (sym (lhs_is f.flat f.written flat is.derived.flat_of is.derived.checked r rule)) inner

    counted : child_count cs ≡ length (rhs_of g r)
    counted = (has_parts (view f.flat f.written flat is.derived.flat_of is.derived.checked) f.written n (edges_of f) (Held f.edges) (reads f.flat f.written flat is.derived.flat_of is.derived.checked (Held f.edges)) (lhs_of g r) p q r cs p q viewed).0
        ∙ ap length (rhs_is f.flat f.written flat is.derived.flat_of is.derived.checked r rule)

    alike : Alike (rule_at f.written (n.source r)) (child_count cs) (child_count (Forms.children_of n cs))
    alike =
        let c = ap length (rhs_is f.flat f.written flat is.derived.flat_of is.derived.checked r rule) in
        let k = counted in
        (prefix_sound (view f.flat f.written flat is.derived.flat_of is.derived.checked) f.written n (edges_of f) (Held f.edges) (reads f.flat f.written flat is.derived.flat_of is.derived.checked (Held f.edges)) cs r p q viewed.in_range inner_left (omega (arith, c, k)) viewed.prefix).1

    agrees : children_of f.written g cs ≡ Forms.children_of n cs
    unfolding children_in
    agrees =
        let same = agree_tree f.flat f.written flat is.derived.flat_of is.derived.checked (Held f.edges) forward f.ranking (Node r cs p q) (lhs_of g r) p q inner viewed in
        let node : tree_of f.written g (Node r cs p q) ≡ Node i (children_of f.written g cs) p q = ap (λ s. Rattle.recognizer_model.specs.FlatForm.node_by s (children_of f.written g cs) p q) source in
        ap children_in (sym node ∙ same)

    pub ends : has_trailing (rule_at f.written i) (length (rhs_of g r)) ≡ has_trailing (rule_at f.written i) (child_count (children_of f.written g cs))
    ends =
        let source_is : n.source r ≡ i = ap (source_number f.written) source in
        let here = same_trailing (rule_at f.written (n.source r)) (child_count cs) (child_count (Forms.children_of n cs)) alike in
        sym (ap (has_trailing (rule_at f.written i)) counted) ∙ sym (ap (λ k. has_trailing (rule_at f.written k) (child_count cs)) source_is) ∙ here
        ∙ ap (λ k. has_trailing (rule_at f.written k) (child_count (Forms.children_of n cs))) source_is ∙ ap (λ c. has_trailing (rule_at f.written i) (child_count c)) (sym agrees)

  past_ties : (i m k : ℕ) → rule_cmp f.written f.ranking i m i k ≡ bool_cmp (has_trailing (rule_at f.written i) m) (has_trailing (rule_at f.written i) k)
  past_ties i m k =
      (λ x. ordering_then (tied_itself int_cmp_total (rank_by f.ranking (rule_at f.written i)) x) (ordering_then (nat_cmp i i) (bool_cmp (has_trailing (rule_at f.written i) m) (has_trailing (rule_at f.written i) k))))
      ∙ (λ x. ordering_then (tied_itself nat_cmp_total i x) (bool_cmp (has_trailing (rule_at f.written i) m) (has_trailing (rule_at f.written i) k)))

  -- two rules of a slot that come from one written rule and end alike are one
  pub slot_one : (r r' i : ℕ) (slot : Grammar.Slot) → IsRule g r → IsRule g r' → source_of g r ≡ Written i → source_of g r' ≡ Written i → lhs_of g r ≡ lhs_of g r' → symbol_at g (lhs_of g r) ≡ Slot slot.symbol slot.level →
      has_trailing (rule_at f.written i) (length (rhs_of g r)) ≡ has_trailing (rule_at f.written i) (length (rhs_of g r')) → r ≡ r'
  slot_one r r' i slot rule rule' source source' left symbol alike =
      let l = lhs_is f.flat f.written flat is.derived.flat_of is.derived.checked r rule in
      let l' = lhs_is f.flat f.written flat is.derived.flat_of is.derived.checked r' rule' in
      let c = ap length (rhs_is f.flat f.written flat is.derived.flat_of is.derived.checked r rule) in
      let c' = ap length (rhs_is f.flat f.written flat is.derived.flat_of is.derived.checked r' rule') in
      let some = flat.some r rule in
      let some' = flat.some r' rule' in
      let law = (keeps f.flat f.written flat is.derived.flat_of is.derived.checked (edges_of f) f.ranking).slot_rules slot r r' (in_view f.flat r rule) (in_view f.flat r' rule') (omega (arith, c, some)) (omega (arith, c', some'))
      (ap (λ k. form (symbol_at g k)) l ∙ ap form symbol) (l ∙ left ∙ sym l') in
      let same : has_trailing (rule_at f.written i) (length (n.rhs r)) ≡ has_trailing (rule_at f.written i) (length (n.rhs r')) =
      ap (has_trailing (rule_at f.written i)) c ∙ alike ∙ sym (ap (has_trailing (rule_at f.written i)) c') in
      let written : rule_cmp f.written f.ranking (n.source r) (length (n.rhs r)) (n.source r') (length (n.rhs r')) ≡ Equal =
      (λ k. rule_cmp f.written f.ranking (ap (source_number f.written) source k) (length (n.rhs r)) (ap (source_number f.written) source' k) (length (n.rhs r')))
      ∙ past_ties i (length (n.rhs r)) (length (n.rhs r')) ∙ bool_same (has_trailing (rule_at f.written i) (length (n.rhs r))) (has_trailing (rule_at f.written i) (length (n.rhs r'))) same in
      (flat_order_laws f.written f.ranking g).same_rule r (length (n.rhs r)) r' (length (n.rhs r')) (law ∙ written)

  -- of two rules of a list one has one part and the other has more
  pub list_one : (r r' : ℕ) → IsRule g r → IsRule g r' → lhs_of g r ≡ lhs_of g r' → is_list (symbol_at g (lhs_of g r)) ≡ true → (length (rhs_of g r) ≡ 1) ↔ (length (rhs_of g r') ≡ 1) → r ≡ r'
  list_one r r' rule rule' left list alike = by (symbol_at g (lhs_of g r)) refl list
    where
      by : (s : FlatSymbol) → symbol_at g (lhs_of g r) ≡ s → is_list s ≡ true → r ≡ r'
      by (Terminal t) e h = absurd (true≢false (sym h))
      by (Slot t k) e h = absurd (true≢false (sym h))
      by (Top k) e h = absurd (true≢false (sym h))
      by (Sequence i) e h =
          let l = lhs_is f.flat f.written flat is.derived.flat_of is.derived.checked r rule in
          let l' = lhs_is f.flat f.written flat is.derived.flat_of is.derived.checked r' rule' in
          let c = ap length (rhs_is f.flat f.written flat is.derived.flat_of is.derived.checked r rule) in
          let c' = ap length (rhs_is f.flat f.written flat is.derived.flat_of is.derived.checked r' rule') in
          let some = flat.some r rule in
          let some' = flat.some r' rule' in
          elim ((keeps f.flat f.written flat is.derived.flat_of is.derived.checked (edges_of f) f.ranking).list_order i r r' (in_view f.flat r rule) (in_view f.flat r' rule') (omega (arith, c, some)) (omega (arith, c', some'))
          (ap (λ k. form (symbol_at g k)) l ∙ ap form e) (l ∙ left ∙ sym l')) [
            | inl same ↦ same
            | inr (inl (long, one, lt)) ↦ (let back = alike.1 (sym c' ∙ one) in absurd (omega (arith, back, long, c)))
            | inr (inr (one, long, gt)) ↦ (let on = alike.0 (sym c ∙ one) in absurd (omega (arith, on, long, c')))
          ]

-- a rule has as many children as it was read
pub spans_count : (f : Forest) {r d p q : ℕ} {cs : Children} → Spans f.flat (edges_of f) r d p q cs → child_count cs ≡ d
spans_count f Nothing = refl
spans_count f (More s e t) = ap suc (spans_count f s)

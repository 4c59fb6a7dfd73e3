use Rattle.std.proofs.Common.{◌≡◌, ℕ, suc, ◌<◌, length, Some, refl, sym, ◌∙◌, ap, subst, arith}
use Rattle.recognizer_model.specs.declared.NodeKey.{NodeKey}
use Rattle.grammar_model.specs.Trees.{Tree, Node, Children, Child, child_count, from_of}
use Rattle.recognizer_model.specs.Flat.{FlatGrammar, lhs_of, rhs_of}
use Rattle.grammar_model.specs.Derives.{Edges}
use Rattle.recognizer_model.specs.FlatDerives.{Derives, Token, Null, Rule, Spans, Nothing, More}
use Rattle.recognizer_model.specs.Contexts.{IsTop}
use Rattle.recognizer_model.specs.Acceptable.{IsTerminal, OnlyTerminals, NoTerminalHasRules}
use Rattle.recognizer_model.specs.Chosen.{Allowed, AreAllowed, AreAllowedIn, LeavesSome}
use Rattle.recognizer_model.proofs.Leaving.{prefix_some}
use Rattle.recognizer_model.specs.Nodes.{Has, All, Fewer, Inside, IsUsed, IsMet, Whole, Before, Last, UsedAreMet}

module _ (g : FlatGrammar) (E : Edges) (allowed : Allowed) (top : ℕ) (is_top : IsTop g top) (only : OnlyTerminals g E) (no_rules : NoTerminalHasRules g) where
  from_is : {x p q : ℕ} {t : Tree} → Derives g E x p q t → from_of t ≡ p
  from_is (Token s) = refl
  from_is (Null n) = refl
  from_is (Rule rule l lt s) = refl

  count_is : {r d p q : ℕ} {cs : Children} → Spans g E r d p q cs → child_count cs ≡ d
  count_is Nothing = refl
  count_is (More s e t) = ap suc (count_is s)

  -- the top's rule is allowed, since its symbol has no other
  pub top_allowed : {x p q : ℕ} {t : Tree} → Derives g E x p q t → AreAllowed allowed t → x ≡ lhs_of g top → p < q → allowed top p q
  top_allowed (Token {x = x} {p = p} {q = q} e) c same lt = absurd (no_rules top is_top.is_rule (subst (IsTerminal g) same (only x p q e)))
  top_allowed (Null n) c same lt = absurd (omega arith)
  top_allowed (Rule {p = p} {q = q} {r = r} rule l h s) c same lt = subst (λ k. allowed k p q) (is_top.alone r rule (l ∙ same)) c.0

  module _ (place : ℕ) where
    record IsBacked (r p q : ℕ) (cs : Children) : Type 0 where
      dot : ℕ
      spans : Spans g E r dot p q cs
      met : IsMet g E allowed top place r dot p q
      chosen : AreAllowedIn allowed cs

    backed_whole : {x a b r p q : ℕ} {cs : Children} → Derives g E x a b (Node r cs p q) → x ≡ lhs_of g top → a ≡ 0 → b ≡ place → AreAllowedIn allowed cs → IsBacked r p q cs
    backed_whole (Rule {p = p} {q = q} {r = r} {cs = cs} rule l lt s) same o w c =
        let is : r ≡ top = is_top.alone r rule (l ∙ same) in
        let s' : Spans g E r (length (rhs_of g r)) 0 place cs = subst (λ k. Spans g E r (length (rhs_of g r)) k place cs) o (subst (λ k. Spans g E r (length (rhs_of g r)) p k cs) w s) in
        let m : IsMet g E allowed top place top (length (rhs_of g top)) 0 place = Whole (omega arith) (subst (λ k. Spans g E k (length (rhs_of g k)) 0 place cs) is s') in
        record {
          dot = length (rhs_of g r);
          spans = s;
          met = subst (λ k. IsMet g E allowed top place k (length (rhs_of g k)) p q) (sym is)
              (subst (λ k. IsMet g E allowed top place top (length (rhs_of g top)) k q) (sym o) (subst (λ k. IsMet g E allowed top place top (length (rhs_of g top)) 0 k) (sym w) m));
          chosen = c;
        }

    backed_fewer : {r d p q : ℕ} {prefix : Children} {last : Tree} → Spans g E r d p q (Child prefix last) → IsMet g E allowed top place r d p q → AreAllowedIn allowed prefix → IsBacked r p (from_of last) prefix
    backed_fewer (More {r = r} {d = d} {p = p} {cs = prefix} s e t) m c =
        subst (λ k. IsBacked r p k prefix) (sym (from_is t)) (record { dot = d; spans = s; met = Before m s e t; chosen = c })

    backed_inside : {r d p q r' p' q' : ℕ} {prefix cs : Children} → Spans g E r d p q (Child prefix (Node r' cs p' q')) → IsMet g E allowed top place r d p q → AreAllowed allowed (Node r' cs p' q') → IsBacked r' p' q' cs
    backed_inside (More s e (Rule {r = r'} rule l lt s')) m c =
        record { dot = length (rhs_of g r'); spans = s'; met = Last m s (e ∙ ap Some (sym l)) rule lt s' c.0; chosen = c.1 }

    backed : {tree : Tree} {r p q : ℕ} {cs : Children} → Has tree r p q cs → Derives g E (lhs_of g top) 0 place tree → AreAllowed allowed tree → IsBacked r p q cs
    backed All d c = backed_whole d refl refl refl c.1
    backed (Fewer h) d c = let b = backed h d c in backed_fewer b.spans b.met b.chosen.0
    backed (Inside h) d c = let b = backed h d c in backed_inside b.spans b.met b.chosen.1

    record IsInTree (r p q : ℕ) (cs : Children) : Type 0 where
      tree : Tree
      derives : Derives g E (lhs_of g top) 0 place tree
      chosen : AreAllowed allowed tree
      has : Has tree r p q cs

    module _ (leaves : LeavesSome g E allowed) where
      -- whatever derives what was met, of allowed rules, stands in such a derivation of the whole
      in_tree : {r d p q : ℕ} → IsMet g E allowed top place r d p q → (cs : Children) → Spans g E r d p q cs → AreAllowedIn allowed cs → IsInTree r p q cs
      in_tree (Whole lt s') cs s c =
          let d = Rule is_top.is_rule refl lt s in
          let (u, d', c') = leaves (lhs_of g top) 0 place (Node top cs 0 place) d in
          record { tree = Node top cs 0 place; derives = d; chosen = (top_allowed d' c' refl lt, c); has = All }
      in_tree (Before {r = r} {p = p} {m = m} {q = q} {x = x} {t = t} met s' e d) cs s c =
          let (u, d', c') = leaves x m q t d in
          let k = in_tree met (Child cs u) (More s e d') (c, c') in
          record { tree = k.tree; derives = k.derives; chosen = k.chosen; has = subst (λ b. Has k.tree r p b cs) (from_is d') (Fewer k.has) }
      in_tree (Last {r' = r'} {m = m} {q = q} met s' e rule lt s'' is) cs s c =
          let (ds, prefix, c') = prefix_some g E allowed leaves s' in
          let k = in_tree met (Child ds (Node r' cs m q)) (More prefix e (Rule rule refl lt s)) (c', (is, c)) in
          record { tree = k.tree; derives = k.derives; chosen = k.chosen; has = Inside k.has }

    pub met_spans : {r d p q : ℕ} → IsMet g E allowed top place r d p q → (cs : Children) × Spans g E r d p q cs
    met_spans (Whole {cs = cs} lt s) = (cs, s)
    met_spans (Before {cs = cs} m s e d) = (cs, s)
    met_spans (Last {cs' = cs} met s e rule lt s' is) = (cs, s')

  used_met : (place : ℕ) (n : NodeKey) → IsUsed g E allowed top place n → (0 < n.dot) × IsMet g E allowed top place n.rule n.dot n.origin n.end
  used_met place n u =
      let b = backed place u.has u.derives u.chosen in
      let same : b.dot ≡ n.dot = sym (count_is b.spans) ∙ sym u.dot_is in
      (u.some, subst (λ d. IsMet g E allowed top place n.rule d n.origin n.end) same b.met)

  met_used : LeavesSome g E allowed → (place : ℕ) (n : NodeKey) → (0 < n.dot) × IsMet g E allowed top place n.rule n.dot n.origin n.end → IsUsed g E allowed top place n
  met_used leaves place n (lt, m) =
      let (cs, s) = met_spans place m in
      let (ds, s', c) = prefix_some g E allowed leaves s in
      let k = in_tree place leaves m ds s' c in
      record { tree = k.tree; derives = k.derives; chosen = k.chosen; children = ds; has = k.has; dot_is = sym (count_is s'); some = lt }

pub used_are_met : (g : FlatGrammar) (E : Edges) (allowed : Allowed) (top : ℕ) → IsTop g top → OnlyTerminals g E → NoTerminalHasRules g → LeavesSome g E allowed → UsedAreMet g E allowed top
used_are_met g E allowed top is_top only none leaves place n = (used_met g E allowed top is_top only none place n, met_used g E allowed top is_top only none leaves place n)

-- Whether a tree of a slot spans two places is decided, over edges that are decided and go forward.
use Rattle.std.proofs.Common.{arith, ◌≡◌, inl, inr, ℕ, zero, suc, ◌+◌, refl, sym, ◌∙◌, ap, subst}
use Rattle.grammar_model.specs.Grammar.{Grammar, Slot, rule_at, child_slot, IsChildCount}
use Rattle.grammar_model.specs.Trees.{Tree, Children, Leaf, Nulled, Node, NoChild, Child, child_count}
use Rattle.grammar_model.specs.Analysis.{IsNullable}
use Rattle.grammar_model.specs.Derives.{Edges, Held, Derives, DerivesPrefix}
use Rattle.finite_sets.specs.Decided.{IsDecided}
use Rattle.finite_sets.proofs.Deciding.{moved, is_true}
use Rattle.grammar_laws.specs.Laws.{GoForward, Told, TreesAreDecided, ToldTreesAreDecided}
use Rattle.grammar_laws.proofs.Facts.{class, after, class_zero, class_after, class_count, slot_same, Fact, TreeOf, PrefixOf, Base, Next, In, tree_in, fact_decided}
use Rattle.grammar_laws.proofs.Tests.{nullable_decided}
use Rattle.grammar_laws.proofs.ItemSets.{AreEdgesDecided, held_decided}

module _ (g : Grammar) (E : Edges) where
  abbrev Free : ℕ → Slot → Type 0
  Free p s = IsNullable g s

  abbrev Made : Fact → Type 0
  Made (TreeOf s p q) = (t : Tree) × Derives g E s p q t
  Made (PrefixOf i c p q) = (cs : Children) × DerivesPrefix g E (rule_at g i) p q cs × (class (rule_at g i) (child_count cs) ≡ c)

  base_made : (x : Fact) → Base g E Free x → Made x
  base_made (TreeOf s p q) (inl (terminal, h)) = (Leaf s.symbol p q, record { symbol_is = refl; from_is = refl; to_is = refl; terminal = terminal; held = h })
  base_made (TreeOf s p q) (inr (e, nullable)) = (Nulled s.symbol p, record { symbol_is = refl; from_is = refl; to_is = e; nullable = nullable })
  base_made (PrefixOf i c p q) (z, e) = (NoChild, e, class_zero (rule_at g i) ∙ sym z)

  next_made : (R : Fact → Type 0) → ((x : Fact) → R x → Made x) → (x : Fact) → Next g E Free R x → Made x
  next_made R f (TreeOf s p q) (lt, (i, il, (fits, (c, cl, (count, h))))) =
      let (cs, d, e) = f (PrefixOf i c p q) h in (
        Node i cs p q,
        record {
          from_is = refl;
          to_is = refl;
          spans = lt;
          in_range = il;
          fits = fits;
          complete = class_count (rule_at g i) (child_count cs) (subst (IsChildCount (rule_at g i)) (sym e) count);
          prefix = d;
        },
      )
  next_made R f (PrefixOf i c p q) (b, bl, ((e, le), (r, rl, (h, t)))) =
      let (cs, d, m) = f (PrefixOf i b p r) h in
      let (tree, dt) = f (TreeOf (child_slot (rule_at g i) b) r q) t in
      let same : child_slot (rule_at g i) b ≡ child_slot (rule_at g i) (child_count cs) = ap (child_slot (rule_at g i)) (sym m) ∙ slot_same (rule_at g i) (child_count cs) in
      (Child cs tree, (r, d, subst (λ s. Derives g E s r q tree) same dt), class_after (rule_at g i) (child_count cs) ∙ (ap (after (rule_at g i)) m ∙ e))

  made : (k : ℕ) (x : Fact) → In g E Free k x → Made x
  made zero x b = base_made x b
  made (suc k) x (inl b) = base_made x b
  made (suc k) x (inr n) = next_made (In g E Free k) (λ y h. made k y h) x n

  pub tree_decided : AreEdgesDecided E → GoForward E → (slot : Slot) (p q : ℕ) → IsDecided ((tree : Tree) × Derives g E slot p q tree)
  tree_decided edge forward slot p q =
      moved (λ (k, a). made k (TreeOf slot p q) a)
      (λ (t, d). tree_in g E Free E forward (λ k. k) (λ a b le. le) (λ p s h. h) (λ x a b t h. inl h) (λ a b lt. inl lt) t slot p q d)
      (fact_decided g E Free edge (λ p s. nullable_decided g s) (p + q) (TreeOf slot p q) (omega arith, omega arith))

pub trees_are_decided : TreesAreDecided
trees_are_decided g edges slot p q forward = tree_decided g (Held edges) (held_decided edges) forward slot p q

pub told_trees_are_decided : ToldTreesAreDecided
told_trees_are_decided g test slot p q forward = tree_decided g (Told test) (λ s a b. is_true (test s a b)) forward slot p q

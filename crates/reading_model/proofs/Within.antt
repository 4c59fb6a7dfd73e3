-- What a start of the lexical grammar matches lies within the text.
use Rattle.std.proofs.Common.{arith, ◌≡◌, ◌⊎◌, inl, inr, ℕ, ◌+◌, ◌<◌, ◌≤◌, List, length, slice_index, sym, ◌∙◌}
use Rattle.std.proofs.lemmas.Option.{slice_get_within}
use Rattle.grammar_model.specs.Grammar.{Grammar, Slot, WrittenRule, slot_of, rule_at, child_slot}
use Rattle.grammar_model.specs.Trees.{Tree, Children, Leaf, Nulled, Node, NoChild, Child, child_count}
use Rattle.grammar_model.specs.Derives.{Edges, Derives, DerivesPrefix}
use Rattle.language_model.specs.Building.{Built}
use Rattle.reading_model.specs.Matches.{CharacterEdges, Matches}

-- ---- trees end where edges end

module _ (g : Grammar) (E : Edges) (top : ℕ) (within : (s p q : ℕ) → E s p q → q ≤ top) where
  mutual
    tree_within : (t : Tree) (slot : Slot) (p q : ℕ) → Derives g E slot p q t → (q ≤ top) ⊎ (p ≡ q)
    tree_within (Leaf s a b) slot p q d = let le = within s a b d.held in let e = d.to_is in inl (omega (arith, le, e))
    tree_within (Nulled s a) slot p q d = inr (sym d.from_is ∙ d.to_is)
    tree_within (Node i cs a b) slot p q d = prefix_within cs (rule_at g i) p q d.prefix

    prefix_within : (cs : Children) (rule : WrittenRule) (p q : ℕ) → DerivesPrefix g E rule p q cs → (q ≤ top) ⊎ (p ≡ q)
    prefix_within NoChild rule p q e = inr e
    prefix_within (Child prefix last) rule p q (r, f, d) = join (tree_within last (child_slot rule (child_count prefix)) r q d) (prefix_within prefix rule p r f)
      where
        join : (q ≤ top) ⊎ (r ≡ q) → (r ≤ top) ⊎ (p ≡ r) → (q ≤ top) ⊎ (p ≡ q)
        join (inl le) f = inl le
        join (inr e) (inl le) = inl (omega (arith, e, le))
        join (inr e) (inr e') = inr (e' ∙ e)

-- ---- matches

module _ (b : Built) (text : List ℕ) where
  character_within : (s p q : ℕ) → CharacterEdges b text s p q → q ≤ length text
  character_within s p q (e, (c, is, h)) = let lt = slice_get_within text p c is in omega (arith, e, lt)

  pub match_within : (start at n : ℕ) → 0 < n → Matches b text start at (at + n) → at + n ≤ length text
  match_within start at n some (tree, d) =
      elim (tree_within b.l0 (CharacterEdges b text) (length text) character_within tree (slot_of (slice_index b.l0.starts start)) at (at + n) d) [ inl le ↦ le | inr e ↦ absurd (omega (arith, some, e)) ]

-- Derivations, moved back to place 0, and matches by places after where they begin.
use Rattle.std.proofs.Common.{◌≡◌, ℕ, suc, ◌+◌, ◌-◌, ◌<◌, ◌≤◌, List, sym, ap, subst, arith}
use Rattle.std.specs.Prelude.{slice_index}
use Rattle.grammar_model.specs.Grammar.{Grammar, Slot, WrittenRule, slot_of, rule_at, child_slot, IsChildCount}
use Rattle.grammar_model.specs.Trees.{Tree, Children, Leaf, Nulled, Node, NoChild, Child, child_count}
use Rattle.grammar_model.specs.Derives.{Edges, Derives, DerivesPrefix}
use Rattle.recognizer_model.specs.Flat.{rhs_of}
use Rattle.recognizer_model.specs.FlatForm.{FlatEdges}
use Rattle.recognizer_model.specs.View.{grammar_view}
use Rattle.recognizer_model.specs.Leo.{GoesForward}
use Rattle.recognizer_model.specs.Acceptable.{OnlyTerminals}
use Rattle.recognizer_model.proofs.Moved.{moved, moved_all, count-moved, tree_moved}
use Rattle.lexer.specs.Lexical.{LexicalForm, SetEdges, HasMatch}
use Rattle.lexer.specs.Reading.{EdgesFrom}

module _ (g : Grammar) (old new : Edges) (at : ℕ) (forward : (s p q : ℕ) → old s p q → p < q) (moves : (s p q : ℕ) → at ≤ p → old s p q → new s (p - at) (q - at)) where
  behind : (slot : Slot) (p q : ℕ) (t : Tree) → Derives g old slot p q t → p ≤ q
  behind slot p q (Leaf s a b) d = let h = forward s a b d.held in let e = d.from_is in let e' = d.to_is in omega arith
  behind slot p q (Nulled s a) d = let e = d.from_is in let e' = d.to_is in omega arith
  behind slot p q (Node i cs a b) d = let h = d.spans in omega arith

  prefix_behind : (cs : Children) (rule : WrittenRule) (p q : ℕ) → DerivesPrefix g old rule p q cs → p ≤ q
  prefix_behind NoChild rule p q e = omega arith
  prefix_behind (Child prefix last) rule p q (r, f, d) = let a = prefix_behind prefix rule p r f in let b = behind _ r q last d in omega arith

  mutual
    pub tree_back : (t : Tree) (slot : Slot) (p q : ℕ) → at ≤ p → Derives g old slot p q t → Derives g new slot (p - at) (q - at) (moved (λ z. z - at) t)
    tree_back (Leaf s a b) slot p q le d = record {
      symbol_is = d.symbol_is;
      from_is = ap (λ z. z - at) d.from_is;
      to_is = ap (λ z. z - at) d.to_is;
      terminal = d.terminal;
      held = moves s a b (let e = d.from_is in omega arith) d.held;
    }
    tree_back (Nulled s a) slot p q le d = record { symbol_is = d.symbol_is; from_is = ap (λ z. z - at) d.from_is; to_is = ap (λ z. z - at) d.to_is; nullable = d.nullable }
    tree_back (Node i cs a b) slot p q le d = record {
      from_is = ap (λ z. z - at) d.from_is;
      to_is = ap (λ z. z - at) d.to_is;
      spans = let s = d.spans in omega arith;
      in_range = d.in_range;
      fits = d.fits;
      complete = subst (IsChildCount (rule_at g i)) (sym (count-moved (λ z. z - at) cs)) d.complete;
      prefix = prefix_back cs (rule_at g i) p q le d.prefix;
    }

    prefix_back : (cs : Children) (rule : WrittenRule) (p q : ℕ) → at ≤ p → DerivesPrefix g old rule p q cs → DerivesPrefix g new rule (p - at) (q - at) (moved_all (λ z. z - at) cs)
    prefix_back NoChild rule p q le d = ap (λ z. z - at) d
    prefix_back (Child prefix last) rule p q le (r, fr, d) =
        let h = prefix_behind prefix rule p r fr in
        (r - at, prefix_back prefix rule p r le fr, subst (λ k. Derives g new (child_slot rule k) (r - at) (q - at) (moved (λ z. z - at) last)) (sym (count-moved (λ z. z - at) prefix)) (tree_back last (child_slot rule (child_count prefix)) r q (omega arith) d))

-- ---- matches over the edges from a place on

module _ (l : LexicalForm) (text : List ℕ) (at : ℕ) where
  pub by_one : (x p q : ℕ) → EdgesFrom l text at x p q → q ≡ suc p
  by_one x p q (t, is, (e, more)) = omega arith

  ahead : GoesForward (EdgesFrom l text at)
  ahead x p q (t, is, (e, more)) = omega arith

  pub terminals : OnlyTerminals l.flat (EdgesFrom l text at)
  terminals x p q (t, is, more) = (t, is)

  far : (x p q : ℕ) → FlatEdges l.flat (SetEdges l.sets text) x p q → p < q
  far x p q (t, is, (e, more)) = omega arith

  pub match_derived : (start n : ℕ) → HasMatch l text start at (at + n) → (t : Tree) × Derives (grammar_view l.flat) (EdgesFrom l text at) (slot_of (slice_index (rhs_of l.flat (slice_index l.flat.tops start)) 0)) 0 n t
  match_derived start n (t, d) =
      let slot = slot_of (slice_index (rhs_of l.flat (slice_index l.flat.tops start)) 0) in
      let moves = λ (x p q : ℕ) (le : at ≤ p) (h : FlatEdges l.flat (SetEdges l.sets text) x p q). (let f = far x p q h in
      subst (λ z. FlatEdges l.flat (SetEdges l.sets text) x z (at + (q - at))) (let z : p ≡ at + (p - at) = omega arith in z) (subst (λ z. FlatEdges l.flat (SetEdges l.sets text) x p z) (let z : q ≡ at + (q - at) = omega arith in z) h)) in
      let d' = tree_back (grammar_view l.flat) (FlatEdges l.flat (SetEdges l.sets text)) (EdgesFrom l text at) at far moves t slot at (at + n) (omega arith) d in (
        moved (λ z. z - at) t,
        subst (λ z. Derives (grammar_view l.flat) (EdgesFrom l text at) slot z n (moved (λ z. z - at) t)) (let z : at - at ≡ 0 = omega arith in z)
            (subst (λ z. Derives (grammar_view l.flat) (EdgesFrom l text at) slot (at - at) z (moved (λ z. z - at) t)) (let z : (at + n) - at ≡ n = omega arith in z) d'),
      )

  pub derived_match : (start n : ℕ) → (t : Tree) × Derives (grammar_view l.flat) (EdgesFrom l text at) (slot_of (slice_index (rhs_of l.flat (slice_index l.flat.tops start)) 0)) 0 n t → HasMatch l text start at (at + n)
  derived_match start n (t, d) =
      let slot = slot_of (slice_index (rhs_of l.flat (slice_index l.flat.tops start)) 0) in
      let d' = tree_moved (grammar_view l.flat) (EdgesFrom l text at) (FlatEdges l.flat (SetEdges l.sets text)) (λ z. at + z) n ahead (λ a b lt le. omega arith) (λ s a b h le. h) t slot 0 n (omega arith) d in
      (moved (λ z. at + z) t, subst (λ z. Derives (grammar_view l.flat) (FlatEdges l.flat (SetEdges l.sets text)) slot z (at + n) (moved (λ z. at + z) t)) (let z : at + 0 ≡ at = omega arith in z) d')

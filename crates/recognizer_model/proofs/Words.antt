-- The word that a derivation spells, and the same derivation over that word.
use Rattle.std.proofs.Common.{◌≡◌, ℕ, suc, ◌<◌, ◌≤◌, ◌+◌, ◌-◌, List, [], ◌∷◌, ◌++◌, length, refl, sym, ap, ◌∙◌, subst, arith, length-append}
use Rattle.finite_sets.proofs.Lists.{get_left, get_right}
use Rattle.grammar_model.specs.Grammar.{Grammar, Slot, WrittenRule, rule_at, child_slot, IsChildCount}
use Rattle.grammar_model.specs.Trees.{Tree, Children, Leaf, Nulled, Node, NoChild, Child, child_count}
use Rattle.grammar_model.specs.Derives.{Edges, Line, Derives, DerivesPrefix}
use Rattle.grammar_model.specs.Acceptable.{Spells}
use Rattle.grammar_model.proofs.Compose.{GoForward}
use Rattle.recognizer_model.proofs.Moved.{moved, moved_all, count-moved, tree_moved, prefix_moved}

pub line_forward : (w : List ℕ) → GoForward (Line w)
line_forward w s a b e = let z = e.1 in omega arith

pub spells-append : (edge : Edges) (p r q : ℕ) (x y : List ℕ) → Spells edge p r x → Spells edge r q y → Spells edge p q (x ++ y)
spells-append edge p r q [] y s t = subst (λ z. Spells edge z q y) (sym s) t
spells-append edge p r q (a ∷ x) y (m, e, s) t = (m, e, spells-append edge m r q x y s t)

module _ (g : Grammar) where
  -- a derivation over a word, before more words and after others
  before : (w y : List ℕ) (slot : Slot) (a b : ℕ) (t : Tree) → b ≤ length w → Derives g (Line w) slot a b t → Derives g (Line (w ++ y)) slot a b (moved (λ k. k) t)
  before w y slot a b t le d = tree_moved g (Line w) (Line (w ++ y)) (λ k. k) (length w) (line_forward w) (λ a b lt h. lt) (λ s a b e h. (get_left w y a s e.0, e.1)) t slot a b le d

  prefix_before : (w y : List ℕ) (rule : WrittenRule) (a b : ℕ) (cs : Children) → b ≤ length w → DerivesPrefix g (Line w) rule a b cs → DerivesPrefix g (Line (w ++ y)) rule a b (moved_all (λ k. k) cs)
  prefix_before w y rule a b cs le d = prefix_moved g (Line w) (Line (w ++ y)) (λ k. k) (length w) (line_forward w) (λ a b lt h. lt) (λ s a b e h. (get_left w y a s e.0, e.1)) cs rule a b le d

  behind_word : (x w : List ℕ) (slot : Slot) (t : Tree) → Derives g (Line w) slot 0 (length w) t → Derives g (Line (x ++ w)) slot (length x) (length (x ++ w)) (moved (λ k. length x + k) t)
  behind_word x w slot t d =
      let start : length x + 0 ≡ length x = omega arith in
      let end : length x + length w ≡ length (x ++ w) = sym (length-append x w) in
      let here = tree_moved g (Line w) (Line (x ++ w)) (λ k. length x + k) (length w) (line_forward w) (λ a b lt h. omega arith)
      (λ s a b e h. (get_right x w a s e.0, (let z = e.1 in omega arith))) t slot 0 (length w) (omega arith) d in
      subst (λ b. Derives g (Line (x ++ w)) slot (length x) b (moved (λ k. length x + k) t)) end
      (subst (λ a. Derives g (Line (x ++ w)) slot a (length x + length w) (moved (λ k. length x + k) t)) start here)

  prefix_behind : (x w : List ℕ) (rule : WrittenRule) (cs : Children) → DerivesPrefix g (Line w) rule 0 (length w) cs → DerivesPrefix g (Line (x ++ w)) rule (length x) (length (x ++ w)) (moved_all (λ k. length x + k) cs)
  prefix_behind x w rule cs d =
      let start : length x + 0 ≡ length x = omega arith in
      let end : length x + length w ≡ length (x ++ w) = sym (length-append x w) in
      let here = prefix_moved g (Line w) (Line (x ++ w)) (λ k. length x + k) (length w) (line_forward w) (λ a b lt h. omega arith)
      (λ s a b e h. (get_right x w a s e.0, (let z = e.1 in omega arith))) cs rule 0 (length w) (omega arith) d in
      subst (λ b. DerivesPrefix g (Line (x ++ w)) rule (length x) b (moved_all (λ k. length x + k) cs)) end
      (subst (λ a. DerivesPrefix g (Line (x ++ w)) rule a (length x + length w) (moved_all (λ k. length x + k) cs)) start here)

  -- one more child at the end of a word
  add_word : (rule : WrittenRule) (w y : List ℕ) (a : ℕ) (cs : Children) (t : Tree) → DerivesPrefix g (Line w) rule a (length w) cs → Derives g (Line (w ++ y)) (child_slot rule (child_count cs)) (length w) (length (w ++ y)) t →
      DerivesPrefix g (Line (w ++ y)) rule a (length (w ++ y)) (Child (moved_all (λ k. k) cs) t)
  add_word rule w y a cs t d e =
      (length w, prefix_before w y rule a (length w) cs (omega arith) d, subst (λ k. Derives g (Line (w ++ y)) (child_slot rule k) (length w) (length (w ++ y)) t) (sym (count-moved (λ k. k) cs)) e)

  -- the word that a derivation spells, and the same derivation over it
  module _ (edge : Edges) (forward : GoForward edge) where
    some_word : (p q : ℕ) (w : List ℕ) → Spells edge p q w → p < q → 0 < length w
    some_word p q [] s lt = absurd (omega arith)
    some_word p q (x ∷ w) s lt = omega arith

    mutual
      pub tree_word : (t : Tree) (slot : Slot) (p q : ℕ) → Derives g edge slot p q t → (w : List ℕ) × Spells edge p q w × (u : Tree) × Derives g (Line w) slot 0 (length w) u
      tree_word (Leaf s a b) slot p q d =
          let held : edge s p q = subst (λ z. edge s z q) d.from_is (subst (λ z. edge s a z) d.to_is d.held) in
          (s ∷ [], (q, held, refl), Leaf s 0 1, record { symbol_is = d.symbol_is; from_is = refl; to_is = refl; terminal = d.terminal; held = (refl, refl) })
      tree_word (Nulled s a) slot p q d = ([], sym d.from_is ∙ d.to_is, Nulled s 0, record { symbol_is = d.symbol_is; from_is = refl; to_is = refl; nullable = d.nullable })
      tree_word (Node i cs a b) slot p q d =
          let f = prefix_word cs (rule_at g i) p q d.prefix in
          (f.0, f.1, Node i f.2.0 0 (length f.0), record { from_is = refl; to_is = refl; spans = some_word p q f.0 f.1 d.spans; in_range = d.in_range; fits = d.fits; complete = subst (IsChildCount (rule_at g i)) (sym f.2.2) d.complete; prefix = f.2.1 })

      prefix_word : (cs : Children) (rule : WrittenRule) (p q : ℕ) → DerivesPrefix g edge rule p q cs → (w : List ℕ) × Spells edge p q w × ((ds : Children) × DerivesPrefix g (Line w) rule 0 (length w) ds × (child_count ds ≡ child_count cs))
      prefix_word NoChild rule p q d = ([], d, (NoChild, refl, refl))
      prefix_word (Child prefix last) rule p q (r, fr, d) =
          let f = prefix_word prefix rule p r fr in
          let l = tree_word last (child_slot rule (child_count prefix)) r q d in
          let slot : child_slot rule (child_count prefix) ≡ child_slot rule (child_count f.2.0) = ap (child_slot rule) (sym f.2.2) in
          let last' = subst (λ z. Derives g (Line (f.0 ++ l.0)) z (length f.0) (length (f.0 ++ l.0)) (moved (λ k. length f.0 + k) l.2)) slot (behind_word f.0 l.0 _ l.2 l.3) in
          (f.0 ++ l.0, spells-append edge p r q f.0 l.0 f.1 l.1, (Child (moved_all (λ k. k) f.2.0) (moved (λ k. length f.0 + k) l.2), add_word rule f.0 l.0 0 f.2.0 _ f.2.1 last', ap suc (count-moved (λ k. k) f.2.0 ∙ f.2.2)))

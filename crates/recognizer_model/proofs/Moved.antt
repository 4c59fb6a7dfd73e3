-- A derivation moved to other places, and the places on a path of edges.
use Rattle.std.proofs.Common.{◌≡◌, ℕ, zero, suc, ◌<◌, ◌≤◌, List, [], ◌∷◌, ◌++◌, length, Some, ◌⊎◌, inl, inr, refl, sym, ap, ◌∙◌, subst, ⊎_elim, arith, length-append}
use Rattle.std.specs.Prelude.{slice_get}
use Rattle.grammar_model.specs.Grammar.{Grammar, Slot, WrittenRule, slot_of, rule_at, slot_count, child_slot, Fits, IsTerminal, IsChildCount}
use Rattle.grammar_model.specs.Trees.{Tree, Children, Leaf, Nulled, Node, NoChild, Child, child_count}
use Rattle.grammar_model.specs.Derives.{Edges, Line, Derives, DerivesPrefix}
use Rattle.grammar_model.specs.Acceptable.{Spells, IsAcceptable}
use Rattle.grammar_model.proofs.Compose.{GoForward}

abbrev mutual
  pub moved : (ℕ → ℕ) → Tree → Tree
  moved f (Leaf s a b) = Leaf s (f a) (f b)
  moved f (Nulled s a) = Nulled s (f a)
  moved f (Node i cs a b) = Node i (moved_all f cs) (f a) (f b)

  pub moved_all : (ℕ → ℕ) → Children → Children
  moved_all f NoChild = NoChild
  moved_all f (Child prefix last) = Child (moved_all f prefix) (moved f last)

pub count-moved : (f : ℕ → ℕ) (cs : Children) → child_count (moved_all f cs) ≡ child_count cs
count-moved f NoChild = refl
count-moved f (Child prefix last) = ap suc (count-moved f prefix)

-- edges up to a place, and how they move
module _ (g : Grammar) (old new : Edges) (f : ℕ → ℕ) (top : ℕ) (forward : GoForward old) (rises : (a b : ℕ) → a < b → b ≤ top → f a < f b) (moves : (s a b : ℕ) → old s a b → b ≤ top → new s (f a) (f b)) where
  ahead : (slot : Slot) (p q : ℕ) (t : Tree) → Derives g old slot p q t → p ≤ q
  ahead slot p q (Leaf s a b) d = let h = forward s a b d.held in let e = d.from_is in let e' = d.to_is in omega arith
  ahead slot p q (Nulled s a) d = let e = d.from_is in let e' = d.to_is in omega arith
  ahead slot p q (Node i cs a b) d = let h = d.spans in omega arith

  mutual
    pub tree_moved : (t : Tree) (slot : Slot) (p q : ℕ) → q ≤ top → Derives g old slot p q t → Derives g new slot (f p) (f q) (moved f t)
    tree_moved (Leaf s a b) slot p q le d = record {
      symbol_is = d.symbol_is;
      from_is = ap f d.from_is;
      to_is = ap f d.to_is;
      terminal = d.terminal;
      held = moves s a b d.held (let e = d.to_is in omega arith);
    }
    tree_moved (Nulled s a) slot p q le d = record { symbol_is = d.symbol_is; from_is = ap f d.from_is; to_is = ap f d.to_is; nullable = d.nullable }
    tree_moved (Node i cs a b) slot p q le d = record {
      from_is = ap f d.from_is;
      to_is = ap f d.to_is;
      spans = rises p q d.spans le;
      in_range = d.in_range;
      fits = d.fits;
      complete = subst (IsChildCount (rule_at g i)) (sym (count-moved f cs)) d.complete;
      prefix = prefix_moved cs (rule_at g i) p q le d.prefix;
    }

    pub prefix_moved : (cs : Children) (rule : WrittenRule) (p q : ℕ) → q ≤ top → DerivesPrefix g old rule p q cs → DerivesPrefix g new rule (f p) (f q) (moved_all f cs)
    prefix_moved NoChild rule p q le d = ap f d
    prefix_moved (Child prefix last) rule p q le (r, fr, d) =
        let h = ahead _ r q last d in
        (f r, prefix_moved prefix rule p r (omega arith) fr, subst (λ k. Derives g new (child_slot rule k) (f r) (f q) (moved f last)) (sym (count-moved f prefix)) (tree_moved last (child_slot rule (child_count prefix)) r q le d))

-- the places on the path that spells a word
pub nodes : (edge : Edges) (w : List ℕ) (p q : ℕ) → Spells edge p q w → ℕ → ℕ
nodes edge [] p q s k = p
nodes edge (x ∷ w) p q s zero = p
nodes edge (x ∷ w) p q (r, e, s) (suc k) = nodes edge w r q s k

pub nodes-first : (edge : Edges) (w : List ℕ) (p q : ℕ) (s : Spells edge p q w) → nodes edge w p q s 0 ≡ p
unfolding nodes
nodes-first edge [] p q s = refl
nodes-first edge (x ∷ w) p q s = refl

pub nodes-last : (edge : Edges) (w : List ℕ) (p q : ℕ) (s : Spells edge p q w) → nodes edge w p q s (length w) ≡ q
unfolding nodes
nodes-last edge [] p q s = s
nodes-last edge (x ∷ w) p q (r, e, s) = nodes-last edge w r q s

pub nodes-edge : (edge : Edges) (w : List ℕ) (p q : ℕ) (s : Spells edge p q w) (k x : ℕ) → slice_get w k ≡ Some x → edge x (nodes edge w p q s k) (nodes edge w p q s (suc k))
unfolding nodes
nodes-edge edge [] p q s k x e = cc
nodes-edge edge (y ∷ w) p q (r, h, s) zero x e =
    let same : y ≡ x = cc in
    subst (λ z. edge z p (nodes edge w r q s 0)) same (subst (λ z. edge y p z) (sym (nodes-first edge w r q s)) h)
nodes-edge edge (y ∷ w) p q (r, h, s) (suc k) x e = nodes-edge edge w r q s k x e

pub get_some : (w : List ℕ) (k : ℕ) → k < length w → (x : ℕ) × (slice_get w k ≡ Some x)
get_some [] k lt = absurd (omega arith)
get_some (x ∷ w) zero lt = (x, refl)
get_some (x ∷ w) (suc k) lt = get_some w k (omega arith)

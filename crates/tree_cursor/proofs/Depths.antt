-- How many trees steps leave, and that those of a tree take what there is.
use Rattle.std.proofs.Common.{◌≡◌, ◌⊎◌, inl, inr, ℕ, suc, ◌+◌, ◌-◌, ◌<◌, List, [], ◌∷◌, ◌++◌, map, refl, sym, ap, ◌∙◌, subst, arith}
use Rattle.grammar_model.specs.Trees.{Tree, Children, Leaf, Nulled, Node, NoChild, Child, child_count}
use Rattle.grammar_model.specs.Steps.{Step, TokenStep, NulledStep, RuleStep, steps_of, steps_of_all}
use Rattle.cursor_model.specs.Laid.{IsLaid, AreLaid}
use Rattle.cursor_model.specs.Cursor.{step_text}
use Rattle.cursor_model.proofs.Texts.{bare_step, step_told, texts_told}
use Rattle.tree_cursor.specs.Told.{TakesWrong}

abbrev pub count_after : ℕ → Step → ℕ
count_after n (TokenStep symbol from to) = suc n
count_after n (NulledStep symbol at) = suc n
count_after n (RuleStep rule k from to) = suc (n - k)

abbrev pub counts : ℕ → List Step → ℕ
counts n [] = n
counts n (s ∷ ss) = counts (count_after n s) ss

abbrev AllRight : ℕ → List Step → Type 0
AllRight n [] = Unit {0}
AllRight n (s ∷ ss) = (TakesWrong n s → ⊥) × AllRight (count_after n s) ss

counts_both : (n : ℕ) (xs ys : List Step) → counts n (xs ++ ys) ≡ counts (counts n xs) ys
counts_both n [] ys = refl
counts_both n (x ∷ xs) ys = counts_both (count_after n x) xs ys

right_both : (n : ℕ) (xs ys : List Step) → AllRight n xs → AllRight (counts n xs) ys → AllRight n (xs ++ ys)
right_both n [] ys a b = b
right_both n (x ∷ xs) ys a b = (a.0, right_both (count_after n x) xs ys a.1 b)

right_at : (n : ℕ) (xs ys : List Step) (s : Step) → AllRight n (xs ++ s ∷ ys) → TakesWrong (counts n xs) s → ⊥
right_at n [] ys s a wrong = a.0 wrong
right_at n (x ∷ xs) ys s a wrong = right_at (count_after n x) xs ys s a.1 wrong

record AreRight (n m : ℕ) (steps : List Step) : Type 0 where
  all : AllRight n steps
  count : counts n steps ≡ m

mutual
  tree_right : (t : Tree) (n p q : ℕ) → IsLaid p q t → AreRight n (suc n) (steps_of t)
  tree_right (Leaf symbol from to) n p q h = record { all = ((λ w. w), tt); count = refl }
  tree_right (Nulled symbol at) n p q h = record { all = ((λ w. w), tt); count = refl }
  tree_right (Node rule children from to) n p q h =
      let r = trees_right children n p q h.3 in
      let some : 0 < child_count children = h.2 in record {
        all = right_both n (steps_of_all children) (RuleStep rule (child_count children) from to ∷ []) r.all ((wrong (child_count children) (counts n (steps_of_all children)) some (let c = r.count in omega arith)), tt);
        count = counts_both n (steps_of_all children) (RuleStep rule (child_count children) from to ∷ []) ∙ (let c = r.count in omega arith);
      }
    where
      wrong : (k m : ℕ) → 0 < k → (m < k → ⊥) → (k ≡ 0) ⊎ (m < k) → ⊥
      wrong k m some enough (inl none) = omega (arith, none, some)
      wrong k m some enough (inr few) = enough few

  trees_right : (cs : Children) (n p q : ℕ) → AreLaid p q cs → AreRight n (n + child_count cs) (steps_of_all cs)
  trees_right NoChild n p q h = record { all = tt; count = omega arith }
  trees_right (Child prefix last) n p q (m, h, k) =
      let a = trees_right prefix n p m h in
      let b = tree_right last (counts n (steps_of_all prefix)) m q k in record {
        all = right_both n (steps_of_all prefix) (steps_of last) a.all b.all;
        count = counts_both n (steps_of_all prefix) (steps_of last) ∙ b.count ∙ (let c = a.count in omega arith);
      }

counts_bare : (n : ℕ) (ss : List Step) → counts n (map bare_step ss) ≡ counts n ss
counts_bare n [] = refl
counts_bare n (TokenStep x a b ∷ ss) = counts_bare (suc n) ss
counts_bare n (NulledStep x a ∷ ss) = counts_bare (suc n) ss
counts_bare n (RuleStep r k a b ∷ ss) = counts_bare (suc (n - k)) ss

-- the texts of steps tell how many trees they leave
pub counts_told : (ss ts : List Step) → map step_text ss ≡ map step_text ts → counts 0 ss ≡ counts 0 ts
counts_told ss ts e = sym (counts_bare 0 ss) ∙ ap (counts 0) (texts_told ss ts e) ∙ counts_bare 0 ts

wrong_bare : (n : ℕ) (s : Step) → TakesWrong n (bare_step s) → TakesWrong n s
wrong_bare n (TokenStep x a b) w = w
wrong_bare n (NulledStep x a) w = w
wrong_bare n (RuleStep r k a b) w = w

bare_wrong : (n : ℕ) (s : Step) → TakesWrong n s → TakesWrong n (bare_step s)
bare_wrong n (TokenStep x a b) w = w
bare_wrong n (NulledStep x a) w = w
bare_wrong n (RuleStep r k a b) w = w

pub wrong_told : (n : ℕ) (s t : Step) → step_text s ≡ step_text t → TakesWrong n s → TakesWrong n t
wrong_told n s t e w = wrong_bare n t (subst (TakesWrong n) (step_told s t e) (bare_wrong n s w))

-- the steps of a tree leave one
pub tree_leaves_one : (t : Tree) (q : ℕ) → IsLaid 0 q t → counts 0 (steps_of t) ≡ 1
tree_leaves_one t q h = (tree_right t 0 0 q h).count

pub trees_leave : (cs : Children) (q : ℕ) → AreLaid 0 q cs → counts 0 (steps_of_all cs) ≡ child_count cs
trees_leave cs q h = let c = (trees_right cs 0 0 q h).count in omega arith

-- and none of them takes wrong
pub tree_takes_right : (t : Tree) (q : ℕ) → IsLaid 0 q t → (xs ys : List Step) (s : Step) → steps_of t ≡ xs ++ s ∷ ys → TakesWrong (counts 0 xs) s → ⊥
tree_takes_right t q h xs ys s e = right_at 0 xs ys s (subst (AllRight 0) e (tree_right t 0 0 q h).all)

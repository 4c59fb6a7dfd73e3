-- The steps of a tree, run on a stack, put the tree on top.
use Rattle.std.proofs.Common.{◌≡◌, List, [], ◌∷◌, ◌++◌, refl, sym, ap, ◌∙◌}
use Rattle.grammar_model.specs.Trees.{Tree, Children, Leaf, Nulled, Node, NoChild, Child, child_count}
use Rattle.grammar_model.specs.Steps.{Step, RuleStep, steps_of, steps_of_all, below_newest, newest, after_step, after_steps}

-- the children of one list after those of another
abbrev pub join : Children → Children → Children
join stack NoChild = stack
join stack (Child prefix last) = Child (join stack prefix) last

pub after_steps-append : (stack : Children) (xs ys : List Step) → after_steps stack (xs ++ ys) ≡ after_steps (after_steps stack xs) ys
after_steps-append stack [] ys = refl
after_steps-append stack (x ∷ xs) ys = after_steps-append (after_step stack x) xs ys

pub below_newest-join : (stack cs : Children) → below_newest (child_count cs) (join stack cs) ≡ stack
below_newest-join stack NoChild = refl
below_newest-join stack (Child prefix last) = below_newest-join stack prefix

pub newest-join : (stack cs : Children) → newest (child_count cs) (join stack cs) ≡ cs
newest-join stack NoChild = refl
newest-join stack (Child prefix last) = ap (λ cs. Child cs last) (newest-join stack prefix)

mutual
  pub steps_make : (t : Tree) (stack : Children) → after_steps stack (steps_of t) ≡ Child stack t
  steps_make (Leaf s a b) stack = refl
  steps_make (Nulled s a) stack = refl
  steps_make (Node i cs a b) stack =
      after_steps-append stack (steps_of_all cs) (RuleStep i (child_count cs) a b ∷ [])
      ∙ ap (λ x. after_step x (RuleStep i (child_count cs) a b)) (steps_make_all cs stack)
      ∙ (λ k. Child (below_newest-join stack cs k) (Node i (newest-join stack cs k) a b))

  pub steps_make_all : (cs : Children) (stack : Children) → after_steps stack (steps_of_all cs) ≡ join stack cs
  steps_make_all NoChild stack = refl
  steps_make_all (Child prefix last) stack =
      after_steps-append stack (steps_of_all prefix) (steps_of last)
      ∙ ap (λ x. after_steps x (steps_of last)) (steps_make_all prefix stack)
      ∙ steps_make last (join stack prefix)

pub steps_tell : (t u : Tree) → steps_of t ≡ steps_of u → t ≡ u
steps_tell t u e =
    let same : Child NoChild t ≡ Child NoChild u = sym (steps_make t NoChild) ∙ ap (after_steps NoChild) e ∙ steps_make u NoChild in
    cc

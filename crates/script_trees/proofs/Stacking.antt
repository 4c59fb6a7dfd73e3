-- The steps of a tree leave its value after those that were there.
use Rattle.std.proofs.Common.{◌≡◌, ◌∙◌, ℕ, ◌-◌, ◌++◌, List, [], ◌∷◌, length, take, drop, refl, sym, ap, arith, append_assoc, append-nil, length-append}
use Rattle.grammar_model.specs.Grammar.{Grammar, rule_at, lhs_of}
use Rattle.grammar_model.specs.Trees.{Tree, Children, Leaf, Nulled, Node, NoChild, Child, child_count}
use Rattle.grammar_model.specs.Steps.{Step, RuleStep, steps_of, steps_of_all}
use Rattle.grammar_model.specs.Values.{Value, Text, Number, list_of, name_of}
use Rattle.script_model.specs.Replies.{value_of_tree, values_of_children}
use Rattle.script_trees.specs.Stack.{after_step, after_steps}

first_of_both : {X : Type 0} (xs ys : List X) → take (length xs) (xs ++ ys) ≡ xs
first_of_both [] ys = refl
first_of_both (x ∷ xs) ys = ap (λ l. x ∷ l) (first_of_both xs ys)

rest_of_both : {X : Type 0} (xs ys : List X) → drop (length xs) (xs ++ ys) ≡ ys
rest_of_both [] ys = refl
rest_of_both (x ∷ xs) ys = rest_of_both xs ys

module _ (g : Grammar) where
  pub after_both : (values : List Value) (xs ys : List Step) → after_steps g values (xs ++ ys) ≡ after_steps g (after_steps g values xs) ys
  after_both values [] ys = refl
  after_both values (x ∷ xs) ys = after_both (after_step g values x) xs ys

  pub counted : (children : Children) → length (values_of_children g children) ≡ child_count children
  counted NoChild = refl
  counted (Child prefix last) =
      let before = counted prefix in
      let more = length-append (values_of_children g prefix) (value_of_tree g last ∷ []) in
      omega (arith, before, more)

  rule_made : (values children : List Value) (rule n from to : ℕ) → length children ≡ n →
      after_step g (values ++ children) (RuleStep rule n from to) ≡ values ++ list_of (Text (name_of g (lhs_of (rule_at g rule))) ∷ Number rule ∷ children) ∷ []
  rule_made values children rule n from to size =
      let at : length (values ++ children) - n ≡ length values = (let both = length-append values children in omega (arith, both, size)) in
      ap (λ (k : ℕ). take k (values ++ children) ++ list_of (Text (name_of g (lhs_of (rule_at g rule))) ∷ Number rule ∷ drop k (values ++ children)) ∷ []) at
      ∙ (λ i. first_of_both values children i ++ list_of (Text (name_of g (lhs_of (rule_at g rule))) ∷ Number rule ∷ rest_of_both values children i) ∷ [])

  mutual
    pub tree_made : (values : List Value) (t : Tree) → after_steps g values (steps_of t) ≡ values ++ value_of_tree g t ∷ []
    tree_made values (Leaf symbol from to) = refl
    tree_made values (Nulled symbol at) = refl
    tree_made values (Node rule children from to) =
        after_both values (steps_of_all children) (RuleStep rule (child_count children) from to ∷ [])
        ∙ ap (λ vs. after_step g vs (RuleStep rule (child_count children) from to)) (children_made values children)
        ∙ rule_made values (values_of_children g children) rule (child_count children) from to (counted children)

    pub children_made : (values : List Value) (children : Children) → after_steps g values (steps_of_all children) ≡ values ++ values_of_children g children
    children_made values NoChild = sym (append-nil values)
    children_made values (Child prefix last) =
        after_both values (steps_of_all prefix) (steps_of last) ∙ ap (λ vs. after_steps g vs (steps_of last)) (children_made values prefix)
        ∙ tree_made (values ++ values_of_children g prefix) last ∙ append_assoc values (values_of_children g prefix) (value_of_tree g last ∷ [])

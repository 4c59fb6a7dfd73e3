-- The steps of a tree leave its value on top of a list of values.
use Rattle.std.proofs.Common.{◌≡◌, ℕ, ◌-◌, List, [], ◌∷◌, ◌++◌, length, take, drop, refl, sym, ap, ◌∙◌, arith, append_assoc, length-append}
use Rattle.std.proofs.Math.Seq.{take-append_seam, drop-append_seam}
use Rattle.grammar_model.specs.Grammar.{Grammar}
use Rattle.grammar_model.specs.Trees.{Tree, Children, Leaf, Nulled, Node, NoChild, Child, child_count}
use Rattle.grammar_model.specs.Steps.{Step, RuleStep, steps_of, steps_of_all}
use Rattle.grammar_model.specs.Values.{Value, Show, Meaning, Token, value_of_rule, value_of, values_of_all, told, told_all}

module _ (show : Show) (g : Grammar) (meaning : Meaning) (tokens : List Token) where
  length-values : (cs : Children) → length (values_of_all show g meaning tokens cs) ≡ child_count cs
  length-values NoChild = refl
  length-values (Child prefix last) =
      let e = length-values prefix in
      omega (arith, length-append (values_of_all show g meaning tokens prefix) (value_of show g meaning tokens last ∷ []))

  told_all-append : (vs : List Value) (xs ys : List Step) → told_all show g meaning tokens vs (xs ++ ys) ≡ told_all show g meaning tokens (told_all show g meaning tokens vs xs) ys
  told_all-append vs [] ys = refl
  told_all-append vs (x ∷ xs) ys = told_all-append (told show g meaning tokens vs x) xs ys

  told_rule : (vs ws : List Value) (i n from to : ℕ) → length ws ≡ n → told show g meaning tokens (vs ++ ws) (RuleStep i n from to) ≡ vs ++ value_of_rule show g meaning tokens i n from to ws ∷ []
  told_rule vs ws i n from to e =
      let l : length (vs ++ ws) - n ≡ length vs = omega (arith, length-append vs ws) in
      (λ j. take (l j) (vs ++ ws) ++ value_of_rule show g meaning tokens i n from to (drop (l j) (vs ++ ws)) ∷ [])
      ∙ (λ j. take-append_seam vs ws j ++ value_of_rule show g meaning tokens i n from to (drop-append_seam vs ws j) ∷ [])

  mutual
    pub steps_tell_value : (t : Tree) (vs : List Value) → told_all show g meaning tokens vs (steps_of t) ≡ vs ++ value_of show g meaning tokens t ∷ []
    steps_tell_value (Leaf s a b) vs = refl
    steps_tell_value (Nulled s a) vs = refl
    steps_tell_value (Node i cs a b) vs =
        told_all-append vs (steps_of_all cs) (RuleStep i (child_count cs) a b ∷ [])
        ∙ ap (λ ws. told show g meaning tokens ws (RuleStep i (child_count cs) a b)) (steps_tell_values cs vs)
        ∙ told_rule vs (values_of_all show g meaning tokens cs) i (child_count cs) a b (length-values cs)

    pub steps_tell_values : (cs : Children) (vs : List Value) → told_all show g meaning tokens vs (steps_of_all cs) ≡ vs ++ values_of_all show g meaning tokens cs
    steps_tell_values NoChild vs = sym (Rattle.std.proofs.lemmas.List.append-nil vs)
    steps_tell_values (Child prefix last) vs =
        told_all-append vs (steps_of_all prefix) (steps_of last)
        ∙ ap (λ ws. told_all show g meaning tokens ws (steps_of last)) (steps_tell_values prefix vs)
        ∙ steps_tell_value last (vs ++ values_of_all show g meaning tokens prefix)
        ∙ append_assoc vs (values_of_all show g meaning tokens prefix) (value_of show g meaning tokens last ∷ [])

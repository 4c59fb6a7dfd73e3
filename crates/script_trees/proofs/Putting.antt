-- The steps of a derivation can be done, one after another.
use Rattle.std.proofs.Common.{◌≡◌, ◌∙◌, ℕ, zero, suc, ◌+◌, ◌<◌, ◌≤◌, ◌++◌, List, [], ◌∷◌, length, map, take, get_or, Some, None, Option, refl, sym, ap, subst, arith, length-append}
use Rattle.std.specs.Prelude.{option_to_list}
use Rattle.std.proofs.lemmas.Bool.{cond_both}
use Rattle.std.proofs.lemmas.List.{map_more, take_all, length-map}
use Rattle.grammar_model.specs.Grammar.{Grammar, WrittenRule, Plain, Sequence, SequenceRule, rule_at, Slot, child_slot, sequence_symbol, is_even, IsChildCount}
use Rattle.grammar_model.specs.Trees.{Tree, Children, Leaf, Nulled, Node, NoChild, Child, child_count}
use Rattle.grammar_model.specs.Derives.{Edges, Held, Derives, DerivesPrefix}
use Rattle.grammar_model.specs.Steps.{Step, RuleStep, steps_of, steps_of_all}
use Rattle.grammar_model.specs.Values.{Value}
use Rattle.grammar_core.specs.declared.steps.TreeStep.{TreeStep}
use Rattle.grammar_core.specs.Steps.{step_of}
use Rattle.grammar_core.specs.Written.{IsWritten, symbols_of}
use Rattle.value_text.specs.Nodes.{value_at}
use Rattle.valuator.specs.Made.{values_at}
use Rattle.script_model.specs.Replies.{value_of_tree, values_of_children}
use Rattle.script_trees.specs.Stack.{after_step, after_steps, CanPut, AreStepsOf, Holds}
use Rattle.script_trees.proofs.Stacking.{after_both, children_made, counted, tree_made}

-- each step can be done after those before it
abbrev pub CanPutAll : Grammar → List Value → List Step → Type 0
CanPutAll g values [] = Unit {0}
CanPutAll g values (step ∷ steps) = CanPut g (length values) step × CanPutAll g (after_step g values step) steps

known_in_sequence : (names k item : ℕ) (separator : Option ℕ) → item < names → ((s : ℕ) → separator ≡ Some s → s < names) → sequence_symbol item separator k < names
known_in_sequence names k item None i s = i
known_in_sequence names k item (Some t) i s = cond_both (is_even k) item t (λ n. n < names) (λ _. i) (λ _. s t refl)

known_child : (names : ℕ) (rule : WrittenRule) (n : ℕ) → ((k d : ℕ) → k < length (symbols_of rule) → get_or (symbols_of rule) k d < names) → IsChildCount rule n →
    (k : ℕ) → k < n → (child_slot rule k).symbol < names
known_child names (Plain r) n each c k b = each (suc k) 0 (omega (arith, c, b))
known_child names (Sequence r) n each c k b = known_in_sequence names k r.item r.separator (each 1 0 (omega arith)) (λ s e. separator r s e each)
  where
    separator : (r : SequenceRule) (s : ℕ) → r.separator ≡ Some s → ((k d : ℕ) → k < length (symbols_of (Sequence r)) → get_or (symbols_of (Sequence r)) k d < names) → s < names
    separator r s e each = subst (λ (o : Option ℕ). ((k d : ℕ) → k < length (r.lhs ∷ r.item ∷ option_to_list o) → get_or (r.lhs ∷ r.item ∷ option_to_list o) k d < names) → s < names)
        (sym e) (λ f. f 2 0 (omega arith)) each

module _ (g : Grammar) where
  can_both : (values : List Value) (xs ys : List Step) → CanPutAll g values xs → CanPutAll g (after_steps g values xs) ys → CanPutAll g values (xs ++ ys)
  can_both values [] ys a b = b
  can_both values (x ∷ xs) ys a b = (a.0, can_both (after_step g values x) xs ys a.1 b)

  enough : (values : List Value) (children : Children) → child_count children ≤ length (after_steps g values (steps_of_all children))
  enough values children =
      let long = ap length (children_made g values children) ∙ length-append values (values_of_children g children) in
      let size = counted g children in
      omega (arith, long, size)

  -- the step at a place can be done after the first ones
  pub can_at : (values : List Value) (steps : List TreeStep) (k : ℕ) (d : TreeStep) → CanPutAll g values (map step_of steps) → k < length steps →
      CanPut g (length (after_steps g values (map step_of (take k steps)))) (step_of (get_or steps k d))
  can_at values [] k d can lt = absurd (omega (arith, lt))
  can_at values (s ∷ steps) zero d can lt = can.0
  can_at values (s ∷ steps) (suc k) d can lt = can_at (after_step g values (step_of s)) steps k d can.1 (omega (arith, lt))

  pub one_more_step : (values : List Value) (steps : List TreeStep) (k : ℕ) (d : TreeStep) → k < length steps →
      after_steps g values (map step_of (take (k + 1) steps)) ≡ after_step g (after_steps g values (map step_of (take k steps))) (step_of (get_or steps k d))
  one_more_step values steps k d lt =
      ap (after_steps g values) (map_more step_of steps k d lt) ∙ after_both g values (map step_of (take k steps)) (step_of (get_or steps k d) ∷ [])

module _ (g : Grammar) (written : IsWritten g) (edge : Edges) where
  mutual
    pub tree_can : (values : List Value) (slot : Slot) (p q : ℕ) (t : Tree) → slot.symbol < length g.names → Derives g edge slot p q t → CanPutAll g values (steps_of t)
    tree_can values slot p q (Leaf s a b) known d = (subst (λ n. n < length g.names) (sym d.symbol_is) known, tt)
    tree_can values slot p q (Nulled s a) known d = (subst (λ n. n < length g.names) (sym d.symbol_is) known, tt)
    tree_can values slot p q (Node i cs a b) known d =
        let each = known_child (length g.names) (rule_at g i) (child_count cs) (written.rules_known i d.in_range).0 d.complete in
        can_both g values (steps_of_all cs) (RuleStep i (child_count cs) a b ∷ []) (children_can values (rule_at g i) p q cs each d.prefix) ((d.in_range, enough g values cs), tt)

    children_can : (values : List Value) (rule : WrittenRule) (p q : ℕ) (cs : Children) → ((k : ℕ) → k < child_count cs → (child_slot rule k).symbol < length g.names) →
        DerivesPrefix g edge rule p q cs → CanPutAll g values (steps_of_all cs)
    children_can values rule p q NoChild each d = tt
    children_can values rule p q (Child prefix last) each (r, before, d) =
        can_both g values (steps_of_all prefix) (steps_of last) (children_can values rule p r prefix (λ k lt. each k (omega (arith, lt))) before)
        (tree_can (after_steps g values (steps_of_all prefix)) (child_slot rule (child_count prefix)) r q last (each (child_count prefix) (omega arith)) d)

pub all_can : (g : Grammar) → IsWritten g → (steps : List Step) → AreStepsOf g steps → CanPutAll g [] steps
all_can g written steps of = subst (CanPutAll g []) (sym of.are) (tree_can g written (Held of.edges) [] of.slot of.from of.to of.tree of.known of.derived)

-- ---- WHAT IS HELD ON THE WAY

module _ (g : Grammar) (steps : List TreeStep) (k : ℕ) (pool : List Value) (ids : List ℕ) (holds : Holds pool ids (after_steps g [] (map step_of (take k steps)))) where
  pub can_now : (s : TreeStep) → s ≡ get_or steps k s → IsWritten g → AreStepsOf g (map step_of steps) → k < length steps → CanPut g (length ids) (step_of s)
  can_now s at written of lt =
      let long : length (after_steps g [] (map step_of (take k steps))) ≡ length ids = sym (ap length holds.are) ∙ length-map ids (value_at pool) in
      let here : CanPut g (length (after_steps g [] (map step_of (take k steps)))) (step_of (get_or steps k s)) = can_at g [] steps k s (all_can g written (map step_of steps) of) lt in
      subst (λ (x : TreeStep). CanPut g (length ids) (step_of x)) (sym at) (subst (λ n. CanPut g n (step_of (get_or steps k s))) long here)

  pub holds_next : (s : TreeStep) → s ≡ get_or steps k s → (new : List Value) (more : List ℕ) → k < length steps → Holds new more (after_step g (values_at pool ids) (step_of s)) →
      Holds new more (after_steps g [] (map step_of (take (k + 1) steps)))
  holds_next s at new more lt next =
      subst (Holds new more) (ap (λ vs. after_step g vs (step_of s)) holds.are ∙ ap (λ (x : TreeStep). after_step g (after_steps g [] (map step_of (take k steps))) (step_of x)) at ∙ sym (one_more_step g [] steps k s lt)) next

  pub holds_value : (t : Tree) → length steps ≤ k → map step_of steps ≡ steps_of t → Holds pool ids (value_of_tree g t ∷ [])
  holds_value t end is = subst (Holds pool ids) (ap (λ (l : List TreeStep). after_steps g [] (map step_of l)) (take_all k steps end) ∙ ap (after_steps g []) is ∙ tree_made g [] t) holds

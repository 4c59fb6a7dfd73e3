-- The steps of a derivation can be told to a teller, whatever it holds, and leave the value of its tree.
use Rattle.std.proofs.Common.{◌≡◌, ℕ, suc, ◌+◌, ◌-◌, ◌<◌, ◌≤◌, List, [], ◌∷◌, ◌++◌, length, get_or, Some, None, Option, refl, sym, ap, ◌∙◌, arith, subst, append_assoc}
use Rattle.std.proofs.lemmas.Bool.{cond_both}
use Rattle.std.proofs.lemmas.List.{append-nil}
use Rattle.grammar_model.specs.declared.Show.{Show}
use Rattle.grammar_model.specs.Grammar.{Grammar, WrittenRule, Plain, Sequence, SequenceRule, rule_at, lhs_of, Slot, child_slot, sequence_symbol, is_even, IsChildCount}
use Rattle.grammar_model.specs.Trees.{Tree, Children, Leaf, Nulled, Node, NoChild, Child, child_count}
use Rattle.grammar_model.specs.Derives.{Derives, DerivesPrefix}
use Rattle.grammar_model.specs.Steps.{Step, RuleStep, steps_of, steps_of_all}
use Rattle.grammar_model.specs.Values.{Value, Meaning, Token, value_of, told_all}
use Rattle.grammar_model.proofs.Values.{steps_tell_value}
use Rattle.grammar_core.specs.Written.{IsWritten, symbols_of}
use Rattle.valuator.specs.Told.{advanced}
use Rattle.valuator.specs.Play.{AreSteps, OnePlace, CanTellAll, EachCanTellAll}

-- a derivation ends no earlier than it begins
ahead : (g : Grammar) (slot : Slot) (p q : ℕ) (t : Tree) → Derives g OnePlace slot p q t → p ≤ q
ahead g slot p q (Leaf s a b) d = let h = d.held in let e = d.from_is in let e' = d.to_is in omega arith
ahead g slot p q (Nulled s a) d = let e = d.from_is in let e' = d.to_is in omega arith
ahead g slot p q (Node i cs a b) d = let h = d.spans in omega arith

-- the symbols of a rule's children are those of the rule
known_in_sequence : (names k item : ℕ) (separator : Option ℕ) → item < names → ((s : ℕ) → separator ≡ Some s → s < names) → sequence_symbol item separator k < names
known_in_sequence names k item None i s = i
known_in_sequence names k item (Some t) i s = cond_both (is_even k) item t (λ n. n < names) (λ _. i) (λ _. s t refl)

known_child : (names : ℕ) (rule : WrittenRule) (n : ℕ) → ((k d : ℕ) → k < length (symbols_of rule) → get_or (symbols_of rule) k d < names) → IsChildCount rule n →
    (k : ℕ) → k < n → (child_slot rule k).symbol < names
known_child names (Plain r) n each c k b = each (suc k) 0 (omega (arith, c, b))
known_child names (Sequence r) n each c k b = known_in_sequence names k r.item r.separator (each 1 0 (omega arith)) (λ s e. separator r s e each)
  where
    separator : (r : SequenceRule) (s : ℕ) → r.separator ≡ Some s → ((k d : ℕ) → k < length (symbols_of (Sequence r)) → get_or (symbols_of (Sequence r)) k d < names) → s < names
    separator r s e each = subst (λ (o : Option ℕ). ((k d : ℕ) → k < length (r.lhs ∷ r.item ∷ Rattle.std.specs.Prelude.option_to_list o) → get_or (r.lhs ∷ r.item ∷ Rattle.std.specs.Prelude.option_to_list o) k d < names) → s < names)
        (sym e) (λ f. f 2 0 (omega arith)) each

module _ (g : Grammar) (written : IsWritten g) (places : ℕ) where
  mutual
    can_tell_tree : (slot : Slot) (p q : ℕ) (t : Tree) → slot.symbol < length g.names → q ≤ places → Derives g OnePlace slot p q t →
        (held : ℕ) (rest : List Step) → CanTellAll g places (suc held) rest → CanTellAll g places held (steps_of t ++ rest)
    can_tell_tree slot p q (Leaf s a b) known inside d held rest after =
        ((subst (λ n. n < length g.names) (sym d.symbol_is) known, (let h = d.held in let e = d.to_is in omega arith)), after)
    can_tell_tree slot p q (Nulled s a) known inside d held rest after =
        ((subst (λ n. n < length g.names) (sym d.symbol_is) known, (let e = d.to_is in omega arith)), after)
    can_tell_tree slot p q (Node i cs a b) known inside d held rest after =
        let n = child_count cs in
        let each = (written.rules_known i d.in_range).0 in
        let lhs : lhs_of (rule_at g i) < length g.names = subst (λ m. m < length g.names) (sym d.fits.0) known in
        let order : a < b = (let e = d.from_is in let e' = d.to_is in let h = d.spans in omega arith) in
        let end : b ≤ places = (let e' = d.to_is in omega arith) in
        let same : held + n - n ≡ held = omega arith in
        subst (CanTellAll g places held) (sym (append_assoc (steps_of_all cs) (RuleStep i n a b ∷ []) rest))
        (can_tell_children (rule_at g i) p q cs (known_child (length g.names) (rule_at g i) n each d.complete) inside d.prefix held (RuleStep i n a b ∷ rest)
        ((d.in_range, lhs, d.complete, order, end, omega arith), subst (λ m. CanTellAll g places (suc m) rest) (sym same) after))

    can_tell_children : (rule : WrittenRule) (p q : ℕ) (cs : Children) → ((k : ℕ) → k < child_count cs → (child_slot rule k).symbol < length g.names) → q ≤ places → DerivesPrefix g OnePlace rule p q cs →
        (held : ℕ) (rest : List Step) → CanTellAll g places (held + child_count cs) rest → CanTellAll g places held (steps_of_all cs ++ rest)
    can_tell_children rule p q NoChild known inside d held rest after =
        let same : held + 0 ≡ held = omega arith in subst (λ m. CanTellAll g places m rest) same after
    can_tell_children rule p q (Child prefix last) known inside (r, f, d) held rest after =
        let before = ahead g _ r q last d in
        let same : held + suc (child_count prefix) ≡ suc (held + child_count prefix) = omega arith in
        subst (CanTellAll g places held) (sym (append_assoc (steps_of_all prefix) (steps_of last) rest))
        (can_tell_children rule p r prefix (λ k b. known k (omega arith)) (omega arith) f held (steps_of last ++ rest)
        (can_tell_tree (child_slot rule (child_count prefix)) r q last (known (child_count prefix) (omega arith)) inside d (held + child_count prefix) rest
        (subst (λ m. CanTellAll g places m rest) same after)))

  can_tell_steps : (steps : List Step) → AreSteps g places steps → (held : ℕ) → CanTellAll g places held steps
  can_tell_steps steps s held =
      subst (CanTellAll g places held) (append-nil (steps_of s.tree) ∙ sym s.are)
      (can_tell_tree s.slot s.from s.to s.tree s.known s.inside s.derived held [] tt)

  pub each_can_tell : (steps : List Step) (ss : List (Show × List Value)) → AreSteps g places steps → EachCanTellAll g places ss steps
  each_can_tell steps ss s k d inside = can_tell_steps steps s (length (get_or ss k d).1)

-- what is told of a tree's steps is its value
pub advanced_by_tree : (g : Grammar) (m : Meaning) (tokens : List Token) (ss : List (Show × List Value)) (steps : List Step) (t : Tree) → steps ≡ steps_of t →
    advanced (λ show values. told_all show g m tokens values steps) ss ≡ advanced (λ show values. values ++ value_of show g m tokens t ∷ []) ss
advanced_by_tree g m tokens [] steps t e = refl
advanced_by_tree g m tokens (s ∷ ss) steps t e =
    (λ i. (s.0, (ap (told_all s.0 g m tokens s.1) e ∙ steps_tell_value s.0 g m tokens t s.1) i) ∷ advanced_by_tree g m tokens ss steps t e i)

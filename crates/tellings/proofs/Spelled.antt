-- A derivation whose cursor is not too long is spelled by it.
use Rattle.std.proofs.Common.{◌≡◌, ℕ, suc, ◌+◌, ◌<◌, ◌≤◌, List, [], ◌∷◌, ◌++◌, map, length, get_or, Option, Some, None, refl, sym, ap, subst, arith}
use Rattle.std.specs.Prelude.{option_to_list}
use Rattle.std.specs.List.{join_with_byte}
use Rattle.std.proofs.lemmas.Bool.{cond_both}
use Rattle.std.proofs.lemmas.List.{length-append}
use Rattle.grammar_model.specs.declared.Edge.{Edge}
use Rattle.grammar_model.specs.declared.limits.TheConstants.{LONGEST_CURSOR}
use Rattle.grammar_model.specs.Grammar.{Grammar, WrittenRule, Plain, Sequence, SequenceRule, Slot, rule_at, child_slot, sequence_symbol, is_even, IsChildCount}
use Rattle.grammar_model.specs.Trees.{Tree, Children, Leaf, Nulled, Node, NoChild, Child, child_count}
use Rattle.grammar_model.specs.Derives.{Held, Derives, DerivesPrefix}
use Rattle.grammar_model.specs.Steps.{Step, TokenStep, NulledStep, RuleStep, steps_of, steps_of_all}
use Rattle.grammar_core.specs.Written.{IsWritten, symbols_of}
use Rattle.cursor_model.specs.Cursor.{step_text, cursor_text, cursor_of}
use Rattle.cursor_model.specs.Laid.{AreSmall, Spells}
use Rattle.cursor_model.specs.Laws.{AreUnits}
use Rattle.cursor_model.proofs.Bare.{has_first, derivations_are_laid}

-- ---- a cursor has a byte for each step at least

step_long : (s : Step) → 0 < length (step_text s)
step_long (TokenStep symbol from to) = omega arith
step_long (NulledStep symbol at) = omega arith
step_long (RuleStep rule children from to) = omega arith

cursor_long : (ss : List Step) → length ss ≤ length (cursor_text ss)
cursor_long [] = omega arith
cursor_long (s ∷ []) = step_long s
cursor_long (s ∷ t ∷ ss) =
    let own = step_long s in
    let rest = cursor_long (t ∷ ss) in
    let all = length-append (step_text s) (46 ∷ cursor_text (t ∷ ss)) in
    omega (arith, own, rest, all)

some_steps : (t : Tree) → 0 < length (steps_of t)
some_steps t = let x = has_first t in let e = ap length x.is in omega (arith, e)

count_few : (cs : Children) → child_count cs ≤ length (steps_of_all cs)
count_few NoChild = omega arith
count_few (Child prefix last) =
    let before = count_few prefix in
    let own = some_steps last in
    let all = length-append (steps_of_all prefix) (steps_of last) in
    omega (arith, before, own, all)

-- ---- its numbers are not too great

both_small : (xs ys : List Step) → AreSmall xs → AreSmall ys → AreSmall (xs ++ ys)
both_small [] ys a b = b
both_small (x ∷ xs) ys a b = (a.0, both_small xs ys a.1 b)

known_in_sequence : (names k item : ℕ) (separator : Option ℕ) → item < names → ((s : ℕ) → separator ≡ Some s → s < names) → sequence_symbol item separator k < names
known_in_sequence names k item None i s = i
known_in_sequence names k item (Some t) i s = cond_both (is_even k) item t (λ n. n < names) (λ _. i) (λ _. s t refl)

known_child : (names : ℕ) (rule : WrittenRule) (n : ℕ) → ((k d : ℕ) → k < length (symbols_of rule) → get_or (symbols_of rule) k d < names) → IsChildCount rule n
    → (k : ℕ) → k < n → (child_slot rule k).symbol < names
known_child names (Plain r) n each c k b = each (suc k) 0 (omega (arith, c, b))
known_child names (Sequence r) n each c k b = known_in_sequence names k r.item r.separator (each 1 0 (omega arith)) (λ s e. separator r s e each)
  where
    separator : (r : SequenceRule) (s : ℕ) → r.separator ≡ Some s → ((k d : ℕ) → k < length (symbols_of (Sequence r)) → get_or (symbols_of (Sequence r)) k d < names) → s < names
    separator r s e each =
        subst (λ (o : Option ℕ). ((k d : ℕ) → k < length (r.lhs ∷ r.item ∷ option_to_list o) → get_or (r.lhs ∷ r.item ∷ option_to_list o) k d < names) → s < names)
        (sym e) (λ f. f 2 0 (omega arith)) each

module _ (g : Grammar) (written : IsWritten g) (edges : List Edge) where
  mutual
    small_tree : (slot : Slot) (p q : ℕ) (t : Tree) → slot.symbol < length g.names → Derives g (Held edges) slot p q t → length (steps_of t) ≤ 4294967295 → AreSmall (steps_of t)
    small_tree slot p q (Leaf s a b) known d few = let names = written.few_names in let is = d.symbol_is in (omega (arith, names, is, known), tt)
    small_tree slot p q (Nulled s a) known d few = let names = written.few_names in let is = d.symbol_is in (omega (arith, names, is, known), tt)
    small_tree slot p q (Node i cs a b) known d few =
        let n = child_count cs in
        let all = length-append (steps_of_all cs) (RuleStep i n a b ∷ []) in
        let count = count_few cs in
        let rules = written.few_rules in
        let in_range = d.in_range in
        both_small (steps_of_all cs) (RuleStep i n a b ∷ [])
        (small_children (rule_at g i) p q cs (known_child (length g.names) (rule_at g i) n (written.rules_known i d.in_range).0 d.complete) d.prefix (omega (arith, all, few)))
        ((omega (arith, rules, in_range), omega (arith, all, few, count)), tt)

    small_children : (rule : WrittenRule) (p q : ℕ) (cs : Children) → ((k : ℕ) → k < child_count cs → (child_slot rule k).symbol < length g.names)
        → DerivesPrefix g (Held edges) rule p q cs → length (steps_of_all cs) ≤ 4294967295 → AreSmall (steps_of_all cs)
    small_children rule p q NoChild known d few = tt
    small_children rule p q (Child prefix last) known (r, f, d) few =
        let all = length-append (steps_of_all prefix) (steps_of last) in
        both_small (steps_of_all prefix) (steps_of last)
        (small_children rule p r prefix (λ k b. known k (omega (arith, b))) f (omega (arith, all, few)))
        (small_tree (child_slot rule (child_count prefix)) r q last (known (child_count prefix) (omega arith)) d (omega (arith, all, few)))

  pub spelled : (slot : Slot) (q : ℕ) (t : Tree) → AreUnits edges → slot.symbol < length g.names → Derives g (Held edges) slot 0 q t → length (cursor_of t) ≤ LONGEST_CURSOR → Spells (cursor_of t) t
  spelled slot q t units known d within =
      let long = cursor_long (steps_of t) in
      record {
        within = within;
        end = q;
        laid = derivations_are_laid g edges slot 0 q t units d;
        small = small_tree slot 0 q t known d (omega (arith, within, long));
        is = refl;
      }

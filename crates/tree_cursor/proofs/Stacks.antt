-- Trees that are taken off a stack, and the rule that takes them.
use Rattle.std.proofs.Common.{◌≡◌, ℕ, zero, suc, ◌-◌, ◌<◌, ◌≤◌, List, [], ◌∷◌, ◌++◌, length, take, get_or, refl, sym, ap, ◌∙◌, subst, append_assoc, append-nil, length-append, arith}
use Rattle.grammar_model.specs.Trees.{Tree, Children, Leaf, Nulled, Node, NoChild, Child, child_count, from_of}
use Rattle.grammar_model.specs.Steps.{RuleStep, steps_of, steps_of_all, below_newest, newest}
use Rattle.cursor_model.specs.Laid.{IsLaid, AreLaid}
use Rattle.tree_cursor.specs.declared.stack.Stack.{Stack}
use Rattle.tree_cursor.specs.Told.{starts_of, IsDone}

begins : (t : Tree) (p q : ℕ) → IsLaid p q t → from_of t ≡ p
begins (Leaf symbol from to) p q h = h.0
begins (Nulled symbol at) p q h = h.0
begins (Node rule children from to) p q h = h.0

pub starts_count : (cs : Children) → length (starts_of cs) ≡ child_count cs
starts_count NoChild = refl
starts_count (Child prefix last) = let n = starts_count prefix in let l = length-append (starts_of prefix) (from_of last ∷ []) in omega arith

record BeginsAt (r : ℕ) (starts : List ℕ) : Type 0 where
  others : List ℕ
  is : starts ≡ r ∷ others

first_start : (cs : Children) (r q : ℕ) → AreLaid r q cs → 0 < child_count cs → BeginsAt r (starts_of cs)
first_start NoChild r q h some = absurd (omega arith)
first_start (Child NoChild last) r q (m, h, k) some = record { others = []; is = ap (λ x. x ∷ []) (begins last m q k ∙ sym h) }
first_start (Child (Child prefix one) last) r q (m, h, k) some =
    let b = first_start (Child prefix one) r m h (omega arith) in
    record { others = b.others ++ from_of last ∷ []; is = ap (λ l. l ++ from_of last ∷ []) b.is }

-- the newest so many, and those below them
record IsSplit (n p q : ℕ) (cs : Children) : Type 0 where
  middle : ℕ
  below : AreLaid p middle (below_newest n cs)
  above : AreLaid middle q (newest n cs)
  steps : steps_of_all cs ≡ steps_of_all (below_newest n cs) ++ steps_of_all (newest n cs)
  starts : starts_of cs ≡ starts_of (below_newest n cs) ++ starts_of (newest n cs)
  count : child_count (newest n cs) ≡ n
  left : child_count (below_newest n cs) ≡ child_count cs - n

split : (n : ℕ) (cs : Children) (p q : ℕ) → AreLaid p q cs → n ≤ child_count cs → IsSplit n p q cs
split zero cs p q h le = record {
  middle = q;
  below = h;
  above = refl;
  steps = sym (append-nil (steps_of_all cs));
  starts = sym (append-nil (starts_of cs));
  count = refl;
  left = omega arith;
}
split (suc n) NoChild p q h le = absurd (omega arith)
split (suc n) (Child prefix last) p q (m, h, k) le =
    let s = split n prefix p m h (omega arith) in record {
      middle = s.middle;
      below = s.below;
      above = (m, s.above, k);
      steps = ap (λ l. l ++ steps_of last) s.steps ∙ append_assoc (steps_of_all (below_newest n prefix)) (steps_of_all (newest n prefix)) (steps_of last);
      starts = ap (λ l. l ++ from_of last ∷ []) s.starts ∙ append_assoc (starts_of (below_newest n prefix)) (starts_of (newest n prefix)) (from_of last ∷ []);
      count = ap suc s.count;
      left = let e = s.left in omega arith;
    }

at_middle : (xs ys : List ℕ) (r : ℕ) (others : List ℕ) (k : ℕ) → ys ≡ r ∷ others → length xs ≡ k → get_or (xs ++ ys) k 0 ≡ r
at_middle [] ys r others zero e l = ap (λ v. get_or v 0 0) e
at_middle [] ys r others (suc k) e l = absurd (omega arith)
at_middle (x ∷ xs) ys r others zero e l = absurd (omega arith)
at_middle (x ∷ xs) ys r others (suc k) e l = at_middle xs ys r others k e (omega arith)

up_to : (xs ys : List ℕ) (k : ℕ) → length xs ≡ k → take k (xs ++ ys) ≡ xs
up_to [] ys zero l = refl
up_to [] ys (suc k) l = absurd (omega arith)
up_to (x ∷ xs) ys zero l = absurd (omega arith)
up_to (x ∷ xs) ys (suc k) l = ap (λ v. x ∷ v) (up_to xs ys k (omega arith))

-- a rule takes its children, and its node lies where they do
pub rule_done : (old new : Stack) (rule n from a b : ℕ) → 0 < n → n ≤ length old.starts.items → from ≡ get_or old.starts.items (length old.starts.items - n) 0 →
    new.starts.items ≡ take (length old.starts.items - n) old.starts.items ++ from ∷ [] → new.end ≡ old.end → IsDone old new (RuleStep rule n a b) (RuleStep rule n from old.end)
rule_done old new rule n from a b some le from_is starts end = record {
  same_text = refl;
  stands = λ trees t.
      let count : length old.starts.items ≡ child_count trees = ap length t.starts ∙ starts_count trees in
      let s = split n trees 0 old.end t.laid (omega (arith, le, count)) in
      let f = first_start (newest n trees) s.middle old.end s.above (let c = s.count in omega (arith, c, some)) in
      let long : length (starts_of (below_newest n trees)) ≡ length old.starts.items - n = starts_count (below_newest n trees) ∙ s.left ∙ ap (λ k. k - n) (sym count) in
      let both : old.starts.items ≡ starts_of (below_newest n trees) ++ starts_of (newest n trees) = t.starts ∙ s.starts in
      let first : from ≡ s.middle =
      from_is ∙ ap (λ l. get_or l (length old.starts.items - n) 0) both ∙ at_middle (starts_of (below_newest n trees)) (starts_of (newest n trees)) s.middle f.others (length old.starts.items - n) f.is long in
      let kept : take (length old.starts.items - n) old.starts.items ≡ starts_of (below_newest n trees) =
      ap (take (length old.starts.items - n)) both ∙ up_to (starts_of (below_newest n trees)) (starts_of (newest n trees)) (length old.starts.items - n) long in (
        record {
          laid = (s.middle, s.below, (first, sym end, (let c = s.count in omega (arith, c, some)), subst (λ q. AreLaid s.middle q (newest n trees)) (sym end) s.above));
          starts = starts ∙ ap (λ l. l ++ from ∷ []) kept;
        },
        sym (append_assoc (steps_of_all (below_newest n trees)) (steps_of_all (newest n trees)) (RuleStep rule (child_count (newest n trees)) from old.end ∷ []))
            ∙ ap (λ l. l ++ RuleStep rule (child_count (newest n trees)) from old.end ∷ []) (sym s.steps)
            ∙ ap (λ k. steps_of_all trees ++ RuleStep rule k from old.end ∷ []) s.count,
      );
}

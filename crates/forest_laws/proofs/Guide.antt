-- Rows of steps, and what a derivation's choices are at most.
use Rattle.std.proofs.Common.{◌≡◌, ℕ, suc, ◌+◌, ◌*◌, ◌≤◌, List, [], ◌∷◌, ◌++◌, drop, length, refl, sym, ap, ◌∙◌, append_assoc, length-append, arith}
use Rattle.grammar_model.specs.Trees.{Tree, Children, Leaf, Nulled, Node, NoChild, Child, child_count, from_of}
use Rattle.grammar_model.specs.Steps.{Step, TokenStep, NulledStep, RuleStep, steps_of, steps_of_all}
use Rattle.recognizer_model.specs.Links.{choices, choices_among}
use Rattle.forest_laws.specs.Guide.{ends_after, all_ends, step_from, top_of, RowsLead, ChoicesPerStep}

ends_both : (ends : List ℕ) (place : ℕ) (xs ys : List Step) → all_ends ends place (xs ++ ys) ≡ all_ends (all_ends ends place xs) (length xs + place) ys
ends_both ends place [] ys = let at : place ≡ 0 + place = omega arith in ap (λ n. all_ends ends n ys) at
ends_both ends place (x ∷ xs) ys =
    let at : length xs + suc place ≡ suc (length xs) + place = omega arith in
    ends_both (ends_after ends place x) (suc place) xs ys ∙ ap (λ n. all_ends (all_ends (ends_after ends place x) (suc place) xs) n ys) at

-- what children put on the stack, and what their rule takes off again
abbrev ends_of : Children → List ℕ → ℕ → List ℕ
ends_of NoChild ends place = ends
ends_of (Child prefix last) ends place = (length (steps_of_all (Child prefix last)) + place) ∷ ends_of prefix ends place

taken_off : (cs : Children) (ends : List ℕ) (place : ℕ) → drop (child_count cs) (ends_of cs ends place) ≡ ends
taken_off NoChild ends place = refl
taken_off (Child prefix last) ends place = taken_off prefix ends place

mutual
  ends_tree : (t : Tree) (ends : List ℕ) (place : ℕ) → all_ends ends place (steps_of t) ≡ (length (steps_of t) + place) ∷ ends
  ends_tree (Leaf s a b) ends place = let at : suc place ≡ 1 + place = omega arith in ap (λ n. n ∷ ends) at
  ends_tree (Nulled s a) ends place = let at : suc place ≡ 1 + place = omega arith in ap (λ n. n ∷ ends) at
  ends_tree (Node r cs a b) ends place =
      let size = length-append (steps_of_all cs) (RuleStep r (child_count cs) a b ∷ []) in
      let all : suc (length (steps_of_all cs) + place) ≡ length (steps_of_all cs ++ RuleStep r (child_count cs) a b ∷ []) + place = omega (arith, size) in
      let rest = taken_off cs ends place in
      ends_both ends place (steps_of_all cs) (RuleStep r (child_count cs) a b ∷ [])
      ∙ ap (λ e. all_ends e (length (steps_of_all cs) + place) (RuleStep r (child_count cs) a b ∷ [])) (ends_children cs ends place)
      ∙ (λ i. all i ∷ rest i)

  ends_children : (cs : Children) (ends : List ℕ) (place : ℕ) → all_ends ends place (steps_of_all cs) ≡ ends_of cs ends place
  ends_children NoChild ends place = refl
  ends_children (Child prefix last) ends place =
      let size = length-append (steps_of_all prefix) (steps_of last) in
      let all : length (steps_of last) + (length (steps_of_all prefix) + place) ≡ length (steps_of_all prefix ++ steps_of last) + place = omega (arith, size) in
      ends_both ends place (steps_of_all prefix) (steps_of last)
      ∙ ap (λ e. all_ends e (length (steps_of_all prefix) + place) (steps_of last)) (ends_children prefix ends place)
      ∙ ends_tree last (ends_of prefix ends place) (length (steps_of_all prefix) + place)
      ∙ ap (λ n. n ∷ ends_of prefix ends place) all

-- the newest tree ends after the last step
top_behind : (ends : List ℕ) (place : ℕ) (step : Step) (steps : List Step) → top_of (all_ends ends place (step ∷ steps)) ≡ suc place + length steps
top_behind ends place (TokenStep s a b) [] = omega arith
top_behind ends place (NulledStep s a) [] = omega arith
top_behind ends place (RuleStep r n a b) [] = omega arith
top_behind ends place step (next ∷ steps) = let h = top_behind (ends_after ends place step) (suc place) next steps in h ∙ omega arith

top_is : (steps : List Step) → top_of (all_ends [] 0 steps) ≡ length steps
top_is [] = refl
top_is (step ∷ steps) = top_behind [] 0 step steps ∙ omega arith

top_children : (before : List Step) (cs : Children) → top_of (ends_of cs (all_ends [] 0 before) (length before + 0)) ≡ length (before ++ steps_of_all cs)
top_children before NoChild = let size = length-append before [] in top_is before ∙ omega (arith, size)
top_children before (Child prefix last) = let size = length-append before (steps_of_all prefix ++ steps_of last) in omega (arith, size)

-- ---- the last step of a tree

record HasLast (t : Tree) : Type 0 where
  front : List Step
  last : Step
  is : steps_of t ≡ front ++ last ∷ []
  from : step_from last ≡ from_of t

has_last : (t : Tree) → HasLast t
has_last (Leaf s a b) = record { front = []; last = TokenStep s a b; is = refl; from = refl }
has_last (Nulled s a) = record { front = []; last = NulledStep s a; is = refl; from = refl }
has_last (Node r cs a b) = record { front = steps_of_all cs; last = RuleStep r (child_count cs) a b; is = refl; from = refl }

prefixes : {X : Type 0} (xs ys us vs : List X) → xs ++ us ≡ ys ++ vs → length xs ≡ length ys → xs ≡ ys
prefixes [] [] us vs e l = refl
prefixes [] (y ∷ ys) us vs e l = absurd (omega (arith, l))
prefixes (x ∷ xs) [] us vs e l = absurd (omega (arith, l))
prefixes (x ∷ xs) (y ∷ ys) us vs e l =
    let heads : x ≡ y = cc in
    let tails : xs ++ us ≡ ys ++ vs = cc in
    let r = prefixes xs ys us vs tails (omega (arith, l)) in
    λ i. heads i ∷ r i

lasts : {X : Type 0} (xs ys : List X) (x y : X) → xs ++ x ∷ [] ≡ ys ++ y ∷ [] → x ≡ y
lasts [] [] x y e = cc
lasts [] (k ∷ []) x y e = cc
lasts [] (k ∷ l ∷ ys) x y e = cc
lasts (k ∷ []) [] x y e = cc
lasts (k ∷ l ∷ xs) [] x y e = cc
lasts (k ∷ xs) (l ∷ ys) x y e = let tails : xs ++ x ∷ [] ≡ ys ++ y ∷ [] = cc in lasts xs ys x y tails

pub rows_lead : RowsLead
rows_lead steps before behind prefix last place from below split size row =
    let whole : List Step = before ++ (steps_of_all prefix ++ steps_of last) in
    let h = has_last last in
    let long = length-append row.before (row.step ∷ []) in
    let at = row.place_is in
    let same : row.before ++ row.step ∷ [] ≡ before ++ (steps_of_all prefix ++ steps_of last) =
    prefixes (row.before ++ row.step ∷ []) (before ++ (steps_of_all prefix ++ steps_of last)) row.behind behind (append_assoc row.before (row.step ∷ []) row.behind ∙ sym row.split ∙ split) (omega (arith, long, at, size)) in
    let parts : before ++ (steps_of_all prefix ++ steps_of last) ≡ ((before ++ steps_of_all prefix) ++ h.front) ++ h.last ∷ [] =
    ap (λ l. before ++ (steps_of_all prefix ++ l)) h.is
    ∙ sym (append_assoc before (steps_of_all prefix) (h.front ++ h.last ∷ []))
    ∙ sym (append_assoc (before ++ steps_of_all prefix) h.front (h.last ∷ [])) in
    let step : row.step ≡ h.last = lasts row.before ((before ++ steps_of_all prefix) ++ h.front) row.step h.last (same ∙ parts) in
    let ends : all_ends [] 0 (row.before ++ row.step ∷ []) ≡ ends_of (Child prefix last) (all_ends [] 0 before) (length before + 0) =
    ap (all_ends [] 0) same ∙ ends_both [] 0 before (steps_of_all prefix ++ steps_of last) ∙ ends_children (Child prefix last) (all_ends [] 0 before) (length before + 0) in (
      row.from_is ∙ ap step_from step ∙ h.from,
      row.below_is ∙ ap (λ l. top_of (drop 1 l)) ends ∙ top_children before prefix,
    )

-- ---- choices

mutual
  per_step : (t : Tree) → choices t + 3 ≤ 7 * length (steps_of t)
  per_step (Leaf s a b) = omega arith
  per_step (Nulled s a) = omega arith
  per_step (Node r cs a b) =
      let own = per_children cs in
      let size = length-append (steps_of_all cs) (RuleStep r (child_count cs) a b ∷ []) in
      omega (arith, own, size)

  per_children : (cs : Children) → choices_among cs + 3 * child_count cs ≤ 7 * length (steps_of_all cs)
  per_children NoChild = omega arith
  per_children (Child prefix last) =
      let first = per_children prefix in
      let then = per_step last in
      let size = length-append (steps_of_all prefix) (steps_of last) in
      omega (arith, first, then, size)

pub choices_per_step : ChoicesPerStep
choices_per_step = per_step

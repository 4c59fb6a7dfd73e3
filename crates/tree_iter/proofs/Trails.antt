-- Trails: what was done along them, and the choices on them.
use Rattle.std.proofs.Common.{◌≡◌, inl, inr, ℕ, zero, suc, ◌≤◌, List, [], ◌∷◌, ◌++◌, length, take, drop, refl, sym, ap, ◌∙◌, subst, append_assoc, length-append, arith}
use Rattle.std.proofs.lemmas.List.{take-append-le, take-take, append-nil}
use Rattle.grammar_model.specs.Steps.{Step}
use Rattle.forest_model.specs.Forest.{Forest}
use Rattle.forest_laws.specs.Lists.{Lists}
use Rattle.forest_laws.specs.Goals.{Goal, options, Done, written, to_come, WalksGoOn}
use Rattle.forest_laws.specs.Goals
use Rattle.tree_iter.specs.declared.goals.GoalRow.{GoalRow}
use Rattle.tree_iter.specs.declared.walk.Choice.{Choice}
use Rattle.tree_iter.specs.Goals.{IsStack}
use Rattle.tree_iter.specs.Walk.{Trail, Begun, Wrote, Chose, done_of, steps_on, IsChoice, AreChoices}

written_both : (a b : List Done) → written (a ++ b) ≡ written a ++ written b
written_both [] b = refl
written_both (Goals.Wrote step ∷ a) b = ap (λ l. step ∷ l) (written_both a b)
written_both (Goals.Chose later behind ∷ a) b = written_both a b

-- the steps on a trail are those that were written
pub steps_are : (f : Forest) (trail : Trail) → written (done_of f trail) ≡ steps_on trail
steps_are f Begun = refl
steps_are f (Wrote trail step) = written_both (done_of f trail) (Goals.Wrote step ∷ []) ∙ ap (λ l. l ++ step ∷ []) (steps_are f trail)
steps_are f (Chose trail goal chosen behind) =
    written_both (done_of f trail) (Goals.Chose (drop (suc chosen) (options f goal)) behind ∷ []) ∙ append-nil (written (done_of f trail)) ∙ steps_are f trail

-- ---- a choice stays one when rows are added

pub choice_in : (f : Forest) (rows others : List GoalRow) (trail : Trail) (goal : Goal) (chosen : ℕ) (behind : List Goal) (c : Choice) →
    c.goals ≤ length others → take c.goals others ≡ take c.goals rows → IsChoice f rows trail goal chosen behind c → IsChoice f others trail goal chosen behind c
choice_in f rows others trail goal chosen behind c le same h = record {
  goal_is = h.goal_is;
  ready = h.ready;
  chosen_is = h.chosen_is;
  count = h.count;
  among = h.among;
  goals = le;
  behind_is = subst (λ r. IsStack r c.behind behind) (sym same) h.behind_is;
  backed = h.backed;
  are_ready = h.are_ready;
  steps = h.steps;
  counts = h.counts;
}

pub choices_more : (f : Forest) (rows more : List GoalRow) (choices : List Choice) (trail : Trail) → AreChoices f rows choices trail → AreChoices f (rows ++ more) choices trail
choices_more f rows more choices Begun h = h
choices_more f rows more choices (Wrote trail step) h = choices_more f rows more choices trail h
choices_more f rows more choices (Chose trail goal chosen behind) (inr (spent, h)) = inr (spent, choices_more f rows more choices trail h)
choices_more f rows more choices (Chose trail goal chosen behind) (inl (before, c, e, is, h)) =
    let same = take-append-le c.goals rows more is.goals in
    let longer = length-append rows more in
    let le = is.goals in
    inl (before, c, e, choice_in f rows (rows ++ more) trail goal chosen behind c (omega arith) same is, subst (λ r. AreChoices f r before trail) (sym same) h)

size_taken : {X : Type 0} (n k : ℕ) (xs : List X) → n ≤ k → n ≤ length xs → n ≤ length (take k xs)
size_taken zero k xs le h = omega arith
size_taken (suc n) zero xs le h = absurd (omega arith)
size_taken (suc n) (suc k) [] le h = h
size_taken (suc n) (suc k) (x ∷ xs) le h = let r = size_taken n k xs (omega arith) (omega arith) in omega arith

-- rows that no choice protects are cut off
pub choices_cut : (f : Forest) (rows : List GoalRow) (k : ℕ) (choices : List Choice) (trail : Trail) → ((before : List Choice) (c : Choice) → choices ≡ before ++ c ∷ [] → c.goals ≤ k) →
    AreChoices f rows choices trail → AreChoices f (take k rows) choices trail
choices_cut f rows k choices Begun within h = h
choices_cut f rows k choices (Wrote trail step) within h = choices_cut f rows k choices trail within h
choices_cut f rows k choices (Chose trail goal chosen behind) within (inr (spent, h)) = inr (spent, choices_cut f rows k choices trail within h)
choices_cut f rows k choices (Chose trail goal chosen behind) within (inl (before, c, e, is, h)) =
    let le = within before c e in
    let same = take-take c.goals k rows le in
    inl (before, c, e, choice_in f rows (take k rows) trail goal chosen behind c (size_taken c.goals k rows le is.goals) same is, subst (λ r. AreChoices f r before trail) (sym same) h)

-- ---- the last choice

pub no_more : {X : Type 0} (xs : List X) (x : X) → xs ++ x ∷ [] ≡ [] → ⊥
no_more [] x e = cc
no_more (y ∷ xs) x e = cc

pub record IsSame {X : Type 0} (xs ys : List X) (x y : X) : Type 0 where
  pub prefixes : xs ≡ ys
  pub lasts : x ≡ y

pub same_ends : {X : Type 0} (xs ys : List X) (x y : X) → xs ++ x ∷ [] ≡ ys ++ y ∷ [] → IsSame xs ys x y
same_ends [] [] x y e = record { prefixes = refl; lasts = cc }
same_ends [] (z ∷ ys) x y e = let gone : ys ++ y ∷ [] ≡ [] = cc in absurd (no_more ys y gone)
same_ends (z ∷ xs) [] x y e = let gone : xs ++ x ∷ [] ≡ [] = cc in absurd (no_more xs x gone)
same_ends (z ∷ xs) (v ∷ ys) x y e =
    let tails : xs ++ x ∷ [] ≡ ys ++ y ∷ [] = cc in
    let heads : z ≡ v = cc in
    let r = same_ends xs ys x y tails in
    let prefixes = r.prefixes in
    record { prefixes = λ i. heads i ∷ prefixes i; lasts = r.lasts }

-- the trail up to the last choice
pub record IsCut (f : Forest) (lists : Lists) (rows : List GoalRow) (before : List Choice) (c : Choice) (trail : Trail) : Type 0 where
  pub first : Trail
  pub goal : Goal
  pub chosen : ℕ
  pub behind : List Goal
  pub is : IsChoice f rows first goal chosen behind c
  pub earlier : AreChoices f (take c.goals rows) before first
  pub more : List Step
  pub steps : steps_on trail ≡ steps_on first ++ more
  pub same : to_come f lists (done_of f trail) ≡ to_come f lists (done_of f (Chose first goal chosen behind))

pub cut_at : (f : Forest) (lists : Lists) → WalksGoOn f lists → (rows : List GoalRow) (before : List Choice) (c : Choice) (trail : Trail) →
    AreChoices f rows (before ++ c ∷ []) trail → IsCut f lists rows before c trail
cut_at f lists walks rows before c Begun h = absurd (no_more before c h)
cut_at f lists walks rows before c (Wrote trail step) h =
    let r = cut_at f lists walks rows before c trail h in
    record {
      first = r.first;
      goal = r.goal;
      chosen = r.chosen;
      behind = r.behind;
      is = r.is;
      earlier = r.earlier;
      more = r.more ++ step ∷ [];
      steps = ap (λ l. l ++ step ∷ []) r.steps ∙ append_assoc (steps_on r.first) r.more (step ∷ []);
      same = walks.unwrites (done_of f trail) step ∙ r.same;
    }
cut_at f lists walks rows before c (Chose trail goal chosen behind) (inr (spent, h)) =
    let r = cut_at f lists walks rows before c trail h in
    record {
      first = r.first;
      goal = r.goal;
      chosen = r.chosen;
      behind = r.behind;
      is = r.is;
      earlier = r.earlier;
      more = r.more;
      steps = r.steps;
      same = ap (λ l. to_come f lists (done_of f trail ++ Goals.Chose l behind ∷ [])) spent ∙ walks.is_spent (done_of f trail) behind ∙ r.same;
    }
cut_at f lists walks rows before c (Chose trail goal chosen behind) (inl (others, d, e, is, h)) =
    let s = same_ends others before d c (sym e) in
    record {
      first = trail;
      goal = goal;
      chosen = chosen;
      behind = behind;
      is = subst (IsChoice f rows trail goal chosen behind) s.lasts is;
      earlier = subst (λ l. AreChoices f (take c.goals rows) l trail) s.prefixes (subst (λ (x : Choice). AreChoices f (take x.goals rows) others trail) s.lasts h);
      more = [];
      steps = sym (append-nil (steps_on trail));
      same = refl;
    }

-- with no choice nothing is still to come
pub none_to_come : (f : Forest) (lists : Lists) → WalksGoOn f lists → (rows : List GoalRow) (trail : Trail) → AreChoices f rows [] trail → to_come f lists (done_of f trail) ≡ []
none_to_come f lists walks rows Begun h = refl
none_to_come f lists walks rows (Wrote trail step) h = walks.unwrites (done_of f trail) step ∙ none_to_come f lists walks rows trail h
none_to_come f lists walks rows (Chose trail goal chosen behind) (inr (spent, h)) =
    ap (λ l. to_come f lists (done_of f trail ++ Goals.Chose l behind ∷ [])) spent ∙ walks.is_spent (done_of f trail) behind ∙ none_to_come f lists walks rows trail h
none_to_come f lists walks rows (Chose trail goal chosen behind) (inl (before, c, e, is, h)) = absurd (no_more before c (sym e))

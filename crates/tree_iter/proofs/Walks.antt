-- Walks: what is still to come when a goal is done, and when the last choice is taken again.
use Rattle.std.proofs.Common.{◌≡◌, inl, ℕ, zero, suc, ◌+◌, ◌-◌, ◌<◌, ◌≤◌, List, [], ◌∷◌, ◌++◌, length, map, take, drop, Option, Some, None, refl, sym, ap, ◌∙◌, subst, length-append, arith}
use Rattle.std.specs.Prelude.{slice_get, slice_set, slice_index_or}
use Rattle.std.proofs.Math.Seq.{take-append_seam}
use Rattle.std.proofs.lemmas.Option.{slice_get_within}
use Rattle.std.proofs.lemmas.List.{append-nil, drop_all}
use Rattle.grammar_core.specs.declared.steps.TreeStep.{TreeStep}
use Rattle.grammar_core.specs.Steps.{step_of}
use Rattle.grammar_model.specs.Grammar.{Grammar}
use Rattle.grammar_model.specs.Steps.{Step, steps_of}
use Rattle.recognizer_model.specs.Flat.{FlatGrammar}
use Rattle.forest_model.specs.Forest.{Forest, IsForest}
use Rattle.forest_laws.specs.Lists.{Lists, roots_by}
use Rattle.forest_laws.specs.Laws.{AreAllLists}
use Rattle.forest_laws.specs.Goals.{Goal, Write, IsGoal, options, written, to_come, stands, steps_from, root_goals}
use Rattle.forest_laws.specs.Goals
use Rattle.forest_laws.specs.Walked.{IsWalked}
use Rattle.forest_laws.specs.Written.{steps_written}
use Rattle.forest_laws.proofs.Exact.{forests_have_lists}
use Rattle.forest_laws.proofs.Walked.{forests_are_walked}
use Rattle.tree_iter.specs.declared.goals.Fork.{Fork}
use Rattle.tree_iter.specs.declared.goals.Fork.TheVariants.{Parts, OneOf}
use Rattle.tree_iter.specs.declared.goals.GoalRow.{GoalRow}
use Rattle.tree_iter.specs.declared.goals.Put.{Put}
use Rattle.flat_steps.specs.declared.writing.CountRow.{CountRow}
use Rattle.tree_iter.specs.declared.walk.Choice.{Choice}
use Rattle.tree_iter.specs.declared.walk.Walk.{Walk}
use Rattle.tree_iter.specs.declared.walk.Place.TheVariants.{Walking}
use Rattle.tree_iter.specs.declared.iter.Current.TheVariants.{Begun as NotBegun}
use Rattle.flat_steps.specs.Linked.{Grows}
use Rattle.tree_iter.specs.Goals.{fork_of, goal_of, IsStack, IsReady, IsBacked, AreReady, unit, units, look, Puts, PutsOption}
use Rattle.flat_steps.specs.Writing.{IsStepOf, AreDone, IsCounted, counts_behind}
use Rattle.tree_iter.specs.Walk.{IsKept, IsLast, HasLeft, KeepsLeft, HasSteps, Looks, Trail, Begun, Wrote, Chose, done_of, steps_on, IsChoice, AreChoices, IsTrail, StandsBefore, StandsBehind, Reaches, Stays, IsOn, IsAbout, IsBack, IsUnderWay}
use Rattle.flat_steps.proofs.Linked.{grows_none, drop_from, linked_top, linked_none, linked_more, linked_taken, linked_bound}
use Rattle.flat_steps.proofs.Written.{done_taken}
use Rattle.tree_iter.proofs.GoalLemmas.{units_both, ready_both, option_ready, option_units, root_ready}
use Rattle.tree_iter.proofs.Trails.{no_more, same_ends, steps_are, choice_in, choices_more, choices_cut, cut_at, none_to_come}

take_all : {X : Type 0} (k : ℕ) (xs : List X) → k ≡ length xs → take k xs ≡ xs
take_all zero [] e = refl
take_all zero (x ∷ xs) e = absurd (omega arith)
take_all (suc k) [] e = absurd (omega arith)
take_all (suc k) (x ∷ xs) e = ap (λ l. x ∷ l) (take_all k xs (omega arith))

take_before : {X : Type 0} (xs before : List X) (c : X) → xs ≡ before ++ c ∷ [] → take (length xs - 1) xs ≡ before
take_before xs before c e =
    let size : length xs - 1 ≡ length before = (let a = ap (λ (l : List _). length l) e in let b = length-append before (c ∷ []) in omega arith) in
    (λ i. take (size i) (e i)) ∙ take-append_seam before (c ∷ [])

set_behind : {X : Type 0} (before : List X) (c y : X) → slice_set (before ++ c ∷ []) (length before) y ≡ before ++ y ∷ []
set_behind [] c y = refl
set_behind (x ∷ before) c y = ap (λ l. x ∷ l) (set_behind before c y)

pub set_last : {X : Type 0} (xs before : List X) (c y : X) → xs ≡ before ++ c ∷ [] → slice_set xs (length xs - 1) y ≡ before ++ y ∷ []
set_last xs before c y e =
    let size : length xs - 1 ≡ length before = (let a = ap (λ (l : List _). length l) e in let b = length-append before (c ∷ []) in omega arith) in
    (λ i. slice_set (e i) (size i) y) ∙ set_behind before c y

get_behind : {X : Type 0} (before : List X) (c d : X) → slice_index_or (before ++ c ∷ []) (length before) d ≡ c
get_behind [] c d = refl
get_behind (x ∷ before) c d = get_behind before c d

pub get_last : {X : Type 0} (xs before : List X) (c d : X) → xs ≡ before ++ c ∷ [] → slice_index_or xs (length xs - 1) d ≡ c
get_last xs before c d e =
    let size : length xs - 1 ≡ length before = (let a = ap (λ (l : List _). length l) e in let b = length-append before (c ∷ []) in omega arith) in
    (λ i. slice_index_or (e i) (size i) d) ∙ get_behind before c d

-- a stack has one list of goals
pub stack_one : (rows : List GoalRow) (top : ℕ) (a b : List Goal) → IsStack rows top a → IsStack rows top b → a ≡ b
stack_one rows top [] [] h g = refl
stack_one rows top [] (y ∷ b) h g = let e = g.0.top_is in absurd (omega (arith, h))
stack_one rows top (x ∷ a) b h g =
    let t = h.0 in
    let on = linked_top (λ (r : GoalRow). goal_of r.goal) (λ r. r.below) rows t.place t.row b t.row_is (subst (λ k. IsStack rows k b) t.top_is g) in
    let tails = stack_one rows t.row.below a on.rest h.1 on.linked in
    (λ i. sym t.value_is i ∷ tails i) ∙ sym on.both

-- the topmost goal of a walk, and the others
pub record IsFirst (w : Walk) (rest : List (List Step)) (goal : Goal) (behind : ℕ) : Type 0 where
  pub lists : Lists
  pub all : AreAllLists w.forest.now lists
  pub trail : Trail
  pub is : IsTrail w trail
  pub others : List Goal
  pub linked : IsStack w.goals.items behind others
  pub ready : IsReady w.forest.now goal
  pub backed : IsBacked goal others
  pub are_ready : AreReady w.forest.now others
  pub rest_is : rest ≡ stands w.forest.now lists (done_of w.forest.now trail) (goal ∷ others)

pub first_goal : (w : Walk) (rest : List (List Step)) (place : ℕ) (row : GoalRow) → w.left ≡ suc place → slice_get w.goals.items place ≡ Some row →
    StandsBefore w rest → IsFirst w rest (goal_of row.goal) row.below
first_goal w rest place row at e h =
    let on = linked_top (λ (r : GoalRow). goal_of r.goal) (λ r. r.below) w.goals.items place row h.left e (subst (λ k. IsStack w.goals.items k h.left) at h.left_is) in
    let ready : AreReady w.forest.now (goal_of row.goal ∷ on.rest) = subst (AreReady w.forest.now) on.both h.ready in
    record {
      lists = h.lists;
      all = h.all;
      trail = h.trail;
      is = h.is;
      others = on.rest;
      linked = on.linked;
      ready = ready.0;
      backed = ready.1;
      are_ready = ready.2;
      rest_is = h.rest_is ∙ ap (stands w.forest.now h.lists (done_of w.forest.now h.trail)) on.both;
    }

pub walked : (w : Walk) (trail : Trail) (lists : Lists) → IsTrail w trail → AreAllLists w.forest.now lists → IsWalked w.forest.now lists
walked w trail lists is all = forests_are_walked w.forest.now lists is.forest all

pub first_of : (w : Walk) (goal : Goal) (behind : ℕ) → IsAbout w goal behind → (rest : List (List Step)) → StandsBefore w rest → IsFirst w rest goal behind
first_of w goal behind a rest h =
    subst (IsFirst w rest goal) a.behind_is (subst (λ g. IsFirst w rest g a.row.below) a.goal_is (first_goal w rest a.place a.row a.left_is a.row_is h))

-- a fork that is about to be chosen for has options
no_write : (fork : Fork) (step : Step) → fork_of fork ≡ Write step → ⊥
no_write (Parts node) step e = cc
no_write (OneOf start end nodes) step e = cc

no_write_goal : (f : Forest) (fork : Fork) → IsReady f (fork_of fork) → IsGoal f (fork_of fork)
no_write_goal f (Parts node) h = h
no_write_goal f (OneOf start end nodes) h = h

pub fork_goal : (w : Walk) (fork : Fork) (behind : ℕ) → IsAbout w (fork_of fork) behind → IsGoal w.forest.now (fork_of fork)
fork_goal w fork behind a = no_write_goal w.forest.now fork ((first_of w (fork_of fork) behind a a.rest a.stands).ready)

pub fork_some : (w : Walk) (fork : Fork) (behind : ℕ) → IsAbout w (fork_of fork) behind → 0 < length (options w.forest.now (fork_of fork))
fork_some w fork behind a =
    let h = first_of w (fork_of fork) behind a a.rest a.stands in
    (walked w h.trail h.lists h.is h.all).choices.some (fork_of fork) (fork_goal w fork behind a) (no_write fork)

-- the step that is about to be written is one of the grammar's
pub step_ready : (w : Walk) (step : Step) (behind : ℕ) → IsAbout w (Write step) behind → IsStepOf w.forest.now.flat step
step_ready w step behind a = (first_of w (Write step) behind a a.rest a.stands).ready

-- where goals are left, the topmost has a row
pub left_within : (w : Walk) (rest : List (List Step)) → StandsBefore w rest → w.left ≤ length w.goals.items
left_within w rest h = linked_bound (λ (r : GoalRow). goal_of r.goal) (λ r. r.below) w.goals.items w.left h.left h.left_is

wrote_count : (w n : Walk) (step : Step) (done : List Step) → length w.counts.items ≡ length done → length n.counts.items ≡ length (done ++ step ∷ []) → length n.counts.items ≡ suc (length w.counts.items)
wrote_count w n step done a b = let c = length-append done (step ∷ []) in omega arith

pub wrote_longer : (w n : Walk) (step : Step) (behind : ℕ) → IsAbout w (Write step) behind →
    ((done : List Step) → AreDone w.forest.now.written w.forest.now.flat w.counts.items w.steps.items done → AreDone w.forest.now.written w.forest.now.flat n.counts.items n.steps.items (done ++ step ∷ [])) →
    length n.counts.items ≡ suc (length w.counts.items)
wrote_longer w n step behind a done =
    let first = first_of w (Write step) behind a a.rest a.stands in
    let after = done (steps_on first.trail) first.is.done in
    wrote_count w n step (steps_on first.trail) first.is.done.counted.all after.counted.all

-- what is done by the grammars of a forest
pub done_on : (f : Forest) (w : Grammar) (g : FlatGrammar) (rows more : List CountRow) (steps longer : List TreeStep) (step : Step) → w ≡ f.written → g ≡ f.flat →
    ((done : List Step) → AreDone w g rows steps done → AreDone w g more longer (done ++ step ∷ [])) → (done : List Step) → AreDone f.written f.flat rows steps done → AreDone f.written f.flat more longer (done ++ step ∷ [])
done_on f w g rows more steps longer step w_is g_is ok done h =
    subst (λ y. AreDone f.written y more longer (done ++ step ∷ [])) g_is
    (subst (λ x. AreDone x g more longer (done ++ step ∷ [])) w_is
    (ok done (subst (λ x. AreDone x g rows steps done) (sym w_is) (subst (λ y. AreDone f.written y rows steps done) (sym g_is) h))))

-- a step was written
pub wrote_one : (w n : Walk) (rest : List (List Step)) (step : Step) (behind : ℕ) → IsFirst w rest (Write step) behind →
    ((done : List Step) → AreDone w.forest.now.written w.forest.now.flat w.counts.items w.steps.items done → AreDone w.forest.now.written w.forest.now.flat n.counts.items n.steps.items (done ++ step ∷ [])) →
    StandsBefore (record w { left = behind; counts = n.counts; steps = n.steps }) rest
wrote_one w n rest step behind h done =
    let after = done (steps_on h.trail) h.is.done in
    let longer = wrote_count w n step (steps_on h.trail) h.is.done.counted.all after.counted.all in
    record {
      lists = h.lists;
      all = h.all;
      trail = Wrote h.trail step;
      is = record { forest = h.is.forest; choices = h.is.choices; done = after };
      left = h.others;
      left_is = h.linked;
      ready = h.are_ready;
      some = omega arith;
      rest_is = h.rest_is ∙ (walked w h.trail h.lists h.is h.all).walks.writes (done_of w.forest.now h.trail) step h.others;
    }

-- it was not, and all is as before
pub same_before : (w n : Walk) (rest : List (List Step)) → n.counts.items ≡ w.counts.items → n.steps.items ≡ w.steps.items → StandsBefore w rest →
    StandsBefore (record w { counts = n.counts; steps = n.steps }) rest
same_before w n rest counts steps h =
    let F : Forest = w.forest.now in
    record {
      lists = h.lists;
      all = h.all;
      trail = h.trail;
      is = record {
        forest = h.is.forest;
        choices = h.is.choices;
        done = subst (λ c. AreDone F.written F.flat c n.steps.items (steps_on h.trail)) (sym counts) (subst (λ s. AreDone F.written F.flat w.counts.items s (steps_on h.trail)) (sym steps) h.is.done);
      };
      left = h.left;
      left_is = h.left_is;
      ready = h.ready;
      some = subst (λ (c : List _). 0 < length c + units h.left) (sym counts) h.some;
      rest_is = h.rest_is;
    }

-- rows were added that nothing names
pub grown_before : (w n : Walk) (rest : List (List Step)) → Grows w.goals.items n.goals.items → n.choices.items ≡ w.choices.items → StandsBefore w rest →
    StandsBefore (record w { goals = n.goals; choices = n.choices }) rest
grown_before w n rest grows choices h =
    let F : Forest = w.forest.now in
    let is : AreChoices F n.goals.items w.choices.items h.trail = subst (λ g. AreChoices F g w.choices.items h.trail) (sym grows.is) (choices_more F w.goals.items grows.more w.choices.items h.trail h.is.choices) in
    record {
      lists = h.lists;
      all = h.all;
      trail = h.trail;
      is = record {
        forest = h.is.forest;
        choices = subst (λ c. AreChoices F n.goals.items c h.trail) (sym choices) is;
        done = h.is.done;
      };
      left = h.left;
      left_is = subst (λ g. IsStack g w.left h.left) (sym grows.is) (linked_more (λ (r : GoalRow). goal_of r.goal) (λ r. r.below) w.goals.items grows.more w.left h.left h.left_is);
      ready = h.ready;
      some = h.some;
      rest_is = h.rest_is;
    }

-- how a new choice stands to what there is
pub record IsMarked (w : Walk) (goal : Goal) (chosen behind : ℕ) (c : Choice) : Type 0 where
  pub goal_is : fork_of c.fork ≡ goal
  pub chosen_is : c.chosen ≡ chosen
  pub behind_is : c.behind ≡ behind
  pub goals : c.goals ≡ length w.goals.items
  pub steps : c.steps ≡ length w.steps.items
  pub counts : c.counts ≡ length w.counts.items

-- rows and choices have more room
pub stays : (w n : Walk) → n.goals.items ≡ w.goals.items → n.choices.items ≡ w.choices.items → Stays w (record w { goals = n.goals; choices = n.choices })
stays w n goals choices = record {
  forest = refl;
  goes = before;
  about = λ goal behind a. record {
    rest = a.rest;
    stands = before a.rest a.stands;
    place = a.place;
    row = a.row;
    left_is = a.left_is;
    row_is = subst (λ g. slice_get g a.place ≡ Some a.row) (sym goals) a.row_is;
    goal_is = a.goal_is;
    behind_is = a.behind_is;
  };
  steps = λ k h. record { left = h.left; left_is = subst (λ g. IsStack g w.left h.left) (sym goals) h.left_is; count = h.count };
  come = λ k h. record { left = h.left; left_is = subst (λ g. IsStack g w.left h.left) (sym goals) h.left_is; count = h.count };
  on = λ lists trail left h. record {
    all = h.all;
    is = record {
      forest = h.is.forest;
      choices = subst (λ c. AreChoices w.forest.now n.goals.items c trail) (sym choices) (subst (λ g. AreChoices w.forest.now g w.choices.items trail) (sym goals) h.is.choices);
      done = h.is.done;
    };
    left_is = subst (λ g. IsStack g w.left left) (sym goals) h.left_is;
    ready = h.ready;
    some = h.some;
  };
  written = refl;
}
  where
    before : (rest : List (List Step)) → StandsBefore w rest → StandsBefore (record w { goals = n.goals; choices = n.choices }) rest
    before rest h = grown_before w n rest (subst (Grows w.goals.items) (sym goals) (grows_none w.goals.items)) choices h

-- ---- rows that nothing needs are cut off

pub last_within : (choices : List Choice) (last : Choice) (k : ℕ) → IsLast choices last → last.goals ≤ k → (before : List Choice) (c : Choice) → choices ≡ before ++ c ∷ [] → c.goals ≤ k
last_within choices last k (predecessor, e) le before c e' =
    let same = same_ends predecessor before last c (sym e ∙ e') in
    subst (λ (x : Choice). x.goals ≤ k) same.lasts le

pub none_within : (choices : List Choice) (k : ℕ) → choices ≡ [] → (before : List Choice) (c : Choice) → choices ≡ before ++ c ∷ [] → c.goals ≤ k
none_within choices k none before c e = absurd (no_more before c (sym e ∙ none))

pub cut_before : (w n : Walk) (rest : List (List Step)) (k : ℕ) → IsKept w w.left k → n.goals.items ≡ take k w.goals.items → StandsBefore w rest → StandsBefore (record w { goals = n.goals }) rest
cut_before w n rest k kept goals h =
    let F : Forest = w.forest.now in
    record {
      lists = h.lists;
      all = h.all;
      trail = h.trail;
      is = record {
        forest = h.is.forest;
        choices = subst (λ g. AreChoices F g w.choices.items h.trail) (sym goals) (choices_cut F w.goals.items k w.choices.items h.trail kept.1 h.is.choices);
        done = h.is.done;
      };
      left = h.left;
      left_is = subst (λ g. IsStack g w.left h.left) (sym goals) (linked_taken (λ (r : GoalRow). goal_of r.goal) (λ r. r.below) w.goals.items k w.left h.left kept.0 h.left_is);
      ready = h.ready;
      some = h.some;
      rest_is = h.rest_is;
    }

pub cut_on : (w n : Walk) (lists : Lists) (trail : Trail) (left : List Goal) (k : ℕ) → IsKept w w.left k → n.goals.items ≡ take k w.goals.items → IsOn w lists trail left → IsOn (record w { goals = n.goals }) lists trail left
cut_on w n lists trail left k kept goals h =
    let F : Forest = w.forest.now in
    record {
      all = h.all;
      is = record {
        forest = h.is.forest;
        choices = subst (λ g. AreChoices F g w.choices.items trail) (sym goals) (choices_cut F w.goals.items k w.choices.items trail kept.1 h.is.choices);
        done = h.is.done;
      };
      left_is = subst (λ g. IsStack g w.left left) (sym goals) (linked_taken (λ (r : GoalRow). goal_of r.goal) (λ r. r.below) w.goals.items k w.left left kept.0 h.left_is);
      ready = h.ready;
      some = h.some;
    }

pub cut_left : (w n : Walk) (k : ℕ) → IsKept w w.left k → n.goals.items ≡ take k w.goals.items → KeepsLeft w (record w { goals = n.goals })
cut_left w n k kept goals = λ left h. subst (λ g. IsStack g w.left left) (sym goals) (linked_taken (λ (r : GoalRow). goal_of r.goal) (λ r. r.below) w.goals.items k w.left left kept.0 h)

-- ---- looks

-- the goals after the topmost one, which all stay
pub record HasBehind (w : Walk) (goal : Goal) (behind : ℕ) (left : List Goal) : Type 0 where
  pub others : List Goal
  pub all : left ≡ goal ∷ others
  pub linked : IsStack w.goals.items behind others

pub left_behind : (w : Walk) (goal : Goal) (behind : ℕ) → IsAbout w goal behind → (left : List Goal) → HasLeft w left → HasBehind w goal behind left
left_behind w goal behind a left h =
    let on = linked_top (λ (r : GoalRow). goal_of r.goal) (λ r. r.below) w.goals.items a.place a.row left a.row_is (subst (λ t. IsStack w.goals.items t left) a.left_is h) in
    record {
      others = on.rest;
      all = on.both ∙ ap (λ g. g ∷ on.rest) a.goal_is;
      linked = subst (λ t. IsStack w.goals.items t on.rest) a.behind_is on.linked;
    }

-- an option of the topmost goal was put in its place
pub put_left : (w n : Walk) (goal : Goal) (at behind k : ℕ) (put : Put) → n.left ≡ put.top → behind ≤ k → (p : PutsOption w.forest.now goal (take k w.goals.items) n.goals.items at behind put) →
    (others : List Goal) → IsStack w.goals.items behind others → HasLeft n (p.option ++ others)
put_left w n goal at behind k put left le p others linked =
    subst (λ t. IsStack n.goals.items t (p.option ++ others)) (sym left)
    (p.puts.stack others (linked_taken (λ (r : GoalRow). goal_of r.goal) (λ r. r.below) w.goals.items k behind others le linked))

pub put_steps : (w n : Walk) (goal : Goal) (at behind k : ℕ) (put : Put) → IsAbout w goal behind → n.counts.items ≡ w.counts.items → n.left ≡ put.top → behind ≤ k →
    PutsOption w.forest.now goal (take k w.goals.items) n.goals.items at behind put → (m : ℕ) → HasSteps w m → HasSteps n (m + look goal)
put_steps w n goal at behind k put a counts left le p m h =
    let on = left_behind w goal behind a h.left h.left_is in
    let all : units h.left ≡ unit goal + units on.others = ap units on.all in
    let own = option_units w.forest.now goal at p.option p.option_is in
    let both = units_both p.option on.others in
    let same : length n.counts.items ≡ length w.counts.items = ap (λ (l : List _). length l) counts in
    let sum = h.count in
    record {
      left = p.option ++ on.others;
      left_is = put_left w n goal at behind k put left le p on.others on.linked;
      count = omega arith;
    }

-- the topmost goal was written, and the others are left
pub write_left : (w n : Walk) (behind : ℕ) → n.goals.items ≡ w.goals.items → n.left ≡ behind → (others : List Goal) → IsStack w.goals.items behind others → HasLeft n others
write_left w n behind goals left others linked = subst (λ t. IsStack n.goals.items t others) (sym left) (subst (λ g. IsStack g behind others) (sym goals) linked)

pub write_steps : (w n : Walk) (step : Step) (behind : ℕ) → IsAbout w (Write step) behind → length n.counts.items ≡ suc (length w.counts.items) → n.goals.items ≡ w.goals.items → n.left ≡ behind →
    (k : ℕ) → HasSteps w k → HasSteps n k
write_steps w n step behind a longer goals left k h =
    let on = left_behind w (Write step) behind a h.left h.left_is in
    let same : units h.left ≡ units (Write step ∷ on.others) = ap units on.all in
    let all : units h.left ≡ suc (units on.others) = omega arith in
    let sum = h.count in
    record {
      left = on.others;
      left_is = write_left w n behind goals left on.others on.linked;
      count = omega arith;
    }

pub steps_kept : (w n : Walk) → KeepsLeft w n → n.counts ≡ w.counts → (k : ℕ) → HasSteps w k → HasSteps n k
steps_kept w n keeps counts k h = record {
  left = h.left;
  left_is = keeps h.left h.left_is;
  count = h.count ∙ sym (ap (λ (c : _). length c.items + units h.left) counts);
}

-- with no goal left the walk wrote them all
pub all_written : (w : Walk) → w.left ≡ 0 → (k : ℕ) → HasSteps w k → k ≡ length w.counts.items
all_written w none k h =
    let empty = linked_none (λ (r : GoalRow). goal_of r.goal) (λ r. r.below) w.goals.items h.left (subst (λ t. IsStack w.goals.items t h.left) none h.left_is) in
    let no_units : units h.left ≡ 0 = ap units empty in
    let sum = h.count in
    omega arith

pub has_steps : (w : Walk) (rest : List (List Step)) (h : StandsBefore w rest) → HasSteps w (length w.counts.items + units h.left)
has_steps w rest h = record { left = h.left; left_is = h.left_is; count = refl }

pub looks_none : (w : Walk) (steps : ℕ) → Looks w w steps steps
looks_none w steps = λ n h. (0, subst (HasSteps w) (let e : n ≡ n + 0 = omega arith in e) h, (let e : steps ≡ steps + 0 = omega arith in e))

pub looks_then : (a b c : Walk) (i j k : ℕ) → Looks a b i j → Looks b c j k → Looks a c i k
looks_then a b c i j k g h = λ n has.
    let (m, mid, e) = g n has in
    let (l, end, e') = h (n + m) mid in
    (m + l, subst (HasSteps c) (let s : (n + m) + l ≡ n + (m + l) = omega arith in s) end, (let s : k ≡ i + (m + l) = omega arith in s))

-- a walk that leaves some and goes on to the end looked less often than the derivation has steps
pub all_looked : (w n : Walk) (mid after before k : ℕ) → Looks w n mid after → n.left ≡ 0 → HasSteps w k → mid < before + k → after < before + length n.counts.items
all_looked w n mid after before k looks none has lt =
    let (more, end, e) = looks k has in
    let all = all_written n none (k + more) end in
    omega arith

-- no goal is left
pub reaches : (w : Walk) (rest : List (List Step)) → w.left ≡ 0 → StandsBefore w rest → Reaches w rest
reaches w rest none h =
    let F : Forest = w.forest.now in
    let known = walked w h.trail h.lists h.is h.all in
    let empty : h.left ≡ [] = linked_none (λ (r : GoalRow). goal_of r.goal) (λ r. r.below) w.goals.items h.left (subst (λ k. IsStack w.goals.items k h.left) none h.left_is) in
    record {
      first = written (done_of F h.trail);
      later = to_come F h.lists (done_of F h.trail);
      rest_is = h.rest_is ∙ ap (stands F h.lists (done_of F h.trail)) empty ∙ known.walks.gives (done_of F h.trail);
      behind = record { lists = h.lists; all = h.all; trail = h.trail; is = h.is; rest_is = refl };
      shows = h.is.done.written ∙ ap (steps_written F.written F.flat []) (sym (steps_are F h.trail));
      counts = h.is.done.counted.all ∙ ap (λ (l : List Step). length l) (sym (steps_are F h.trail));
      some = (let some = h.some in let gone : units h.left ≡ 0 = ap units empty in let counts = h.is.done.counted.all in
          subst (λ (l : List Step). 0 < length l) (sym (steps_are F h.trail)) (omega arith));
    }

-- ---- back

-- what was done after the last choice was undone
pub cut_back : (w n : Walk) (rest : List (List Step)) (before : List Choice) (c : Choice) → w.choices.items ≡ before ++ c ∷ [] → n.goals.items ≡ take c.goals w.goals.items →
    n.counts.items ≡ take c.counts w.counts.items → n.steps.items ≡ take c.steps w.steps.items → StandsBehind w rest →
    IsBack (record w { goals = n.goals; counts = n.counts; steps = n.steps }) c rest
cut_back w n rest before c choices goals counts steps h =
    let F : Forest = w.forest.now in
    let known = walked w h.trail h.lists h.is h.all in
    let r = cut_at F h.lists known.walks w.goals.items before c h.trail (subst (λ l. AreChoices F w.goals.items l h.trail) choices h.is.choices) in
    let le = r.is.goals in
    let size : length n.goals.items ≡ c.goals = ap (λ (l : List GoalRow). length l) goals ∙ length_taken c.goals w.goals.items le in
    let done = done_taken F.written F.flat w.counts.items w.steps.items (steps_on r.first) r.more (subst (AreDone F.written F.flat w.counts.items w.steps.items) r.steps h.is.done) in
    let counts_same : n.counts.items ≡ take (length (steps_on r.first)) w.counts.items = counts ∙ ap (λ k. take k w.counts.items) r.is.counts in
    let steps_same : n.steps.items ≡ take (length (steps_written F.written F.flat [] (steps_on r.first))) w.steps.items = steps ∙ ap (λ k. take k w.steps.items) r.is.steps in
    record {
      forest = h.is.forest;
      lists = h.lists;
      all = h.all;
      trail = r.first;
      goal = r.goal;
      chosen = r.chosen;
      behind = r.behind;
      before = before;
      choices = choices;
      is = choice_in F w.goals.items n.goals.items r.first r.goal r.chosen r.behind c (omega arith) (ap (take c.goals) goals ∙ take_twice c.goals w.goals.items) r.is;
      goals = sym size;
      earlier = subst (λ g. AreChoices F g before r.first) (sym goals) r.earlier;
      done = subst (λ x. AreDone F.written F.flat x n.steps.items (steps_on r.first)) (sym counts_same) (subst (λ x. AreDone F.written F.flat (take (length (steps_on r.first)) w.counts.items) x (steps_on r.first)) (sym steps_same) done);
      rest_is = h.rest_is ∙ r.same;
    }
  where
    take_twice : {X : Type 0} (k : ℕ) (xs : List X) → take k (take k xs) ≡ take k xs
    take_twice zero xs = refl
    take_twice (suc k) [] = refl
    take_twice (suc k) (x ∷ xs) = ap (λ l. x ∷ l) (take_twice k xs)

    length_taken : {X : Type 0} (k : ℕ) (xs : List X) → k ≤ length xs → length (take k xs) ≡ k
    length_taken zero xs le = refl
    length_taken (suc k) [] le = absurd (omega arith)
    length_taken (suc k) (x ∷ xs) le = ap suc (length_taken k xs (omega arith))

-- the walk is after a choice again, with other rows after those
pub back_behind : (w n : Walk) (rest : List (List Step)) (c : Choice) → Grows w.goals.items n.goals.items → IsBack w c rest → StandsBehind (record w { goals = n.goals }) rest
back_behind w n rest c grows h =
    let F : Forest = w.forest.now in
    let goals = h.goals in
    let is : AreChoices F w.goals.items w.choices.items (Chose h.trail h.goal h.chosen h.behind) =
    inl (h.before, c, h.choices, h.is, subst (λ g. AreChoices F g h.before h.trail) (sym (take_all c.goals w.goals.items goals)) h.earlier) in
    record {
      lists = h.lists;
      all = h.all;
      trail = Chose h.trail h.goal h.chosen h.behind;
      is = record {
        forest = h.forest;
        choices = subst (λ g. AreChoices F g w.choices.items (Chose h.trail h.goal h.chosen h.behind)) (sym grows.is)
            (choices_more F w.goals.items grows.more w.choices.items (Chose h.trail h.goal h.chosen h.behind) is);
        done = h.done;
      };
      rest_is = h.rest_is;
    }

-- the choice has no later option, and is given up
pub gave_up : (w n : Walk) (rest : List (List Step)) (c : Choice) → n.choices.items ≡ take (length w.choices.items - 1) w.choices.items → c.count ≤ suc c.chosen → IsBack w c rest → StandsBehind (record w { choices = n.choices }) rest
gave_up w n rest c choices last h =
    let F : Forest = w.forest.now in
    let predecessor : h.before ≡ n.choices.items = sym (choices ∙ take_before w.choices.items h.before c h.choices) in
    let a = h.is.count in
    let b = h.is.chosen_is in
    let none : drop (suc h.chosen) (options F h.goal) ≡ [] = drop_all (suc h.chosen) (options F h.goal) (omega arith) in
    let known = forests_are_walked F h.lists h.forest h.all in
    record {
      lists = h.lists;
      all = h.all;
      trail = h.trail;
      is = record { forest = h.forest; choices = subst (λ l. AreChoices F w.goals.items l h.trail) predecessor h.earlier; done = h.done };
      rest_is = h.rest_is ∙ ap (λ l. to_come F h.lists (done_of F h.trail ++ Goals.Chose l h.behind ∷ [])) none ∙ known.walks.is_spent (done_of F h.trail) h.behind;
    }

-- what a choice that was gone back to has yet to choose from
pub back_goal : (w : Walk) (c : Choice) (rest : List (List Step)) → IsBack w c rest → IsGoal w.forest.now (fork_of c.fork)
back_goal w c rest h = no_write_goal w.forest.now c.fork (subst (IsReady w.forest.now) (sym h.is.goal_is) h.is.ready)

pub back_at : (w : Walk) (c : Choice) (rest : List (List Step)) → IsBack w c rest → (at : ℕ) → at < c.count → at < length (options w.forest.now (fork_of c.fork))
back_at w c rest h at lt = subst (λ (g : Goal). at < length (options w.forest.now g)) (sym h.is.goal_is) (subst (λ k. at < k) h.is.count lt)

-- the next option of the choice was chosen
pub chose_next : (w n : Walk) (rest : List (List Step)) (c d : Choice) (put : Put) → d ≡ record c { chosen = suc c.chosen } → PutsOption w.forest.now (fork_of c.fork) w.goals.items n.goals.items (suc c.chosen) c.behind put →
    ((before : List Choice) → w.choices.items ≡ before ++ c ∷ [] → n.choices.items ≡ before ++ d ∷ []) → IsBack w c rest →
    StandsBefore (record w { goals = n.goals; left = put.top; choices = n.choices }) rest
chose_next w n rest c d put d_is q choices h =
    let F : Forest = w.forest.now in
    let known = forests_are_walked F h.lists h.forest h.all in
    let p : PutsOption F h.goal w.goals.items n.goals.items (suc h.chosen) c.behind put =
    subst (λ k. PutsOption F h.goal w.goals.items n.goals.items (suc k) c.behind put) h.is.chosen_is (subst (λ g. PutsOption F g w.goals.items n.goals.items (suc c.chosen) c.behind put) h.is.goal_is q) in
    let opened = drop_from (options F h.goal) (suc h.chosen) p.option p.option_is in
    let within = slice_get_within (options F h.goal) (suc h.chosen) p.option p.option_is in
    let old : take c.goals n.goals.items ≡ w.goals.items = (λ i. take (h.goals i) (p.puts.grows.is i)) ∙ take-append_seam w.goals.items p.puts.grows.more in
    let linked : IsStack w.goals.items c.behind h.behind = subst (λ g. IsStack g c.behind h.behind) (take_all c.goals w.goals.items h.goals) h.is.behind_is in
    let longer : length n.goals.items ≡ length w.goals.items + length p.puts.grows.more = ap (λ (l : List GoalRow). length l) p.puts.grows.is ∙ length-append w.goals.items p.puts.grows.more in
    let goals = h.goals in
    let next : Choice = record c { chosen = suc c.chosen } in
    let is : IsChoice F n.goals.items h.trail h.goal (suc h.chosen) h.behind next = record {
      goal_is = h.is.goal_is;
      ready = h.is.ready;
      chosen_is = ap suc h.is.chosen_is;
      count = h.is.count;
      among = within;
      goals = omega arith;
      behind_is = subst (λ g. IsStack g c.behind h.behind) (sym old) linked;
      backed = h.is.backed;
      are_ready = h.is.are_ready;
      steps = h.is.steps;
      counts = h.is.counts;
    } in
    record {
      lists = h.lists;
      all = h.all;
      trail = Chose h.trail h.goal (suc h.chosen) h.behind;
      is = record {
        forest = h.forest;
        choices = inl (h.before, next, choices h.before h.choices ∙ ap (λ x. h.before ++ x ∷ []) d_is, is, subst (λ g. AreChoices F g h.before h.trail) (sym old) h.earlier);
        done = h.done;
      };
      left = p.option ++ h.behind;
      left_is = p.puts.stack h.behind linked;
      ready = ready_both F p.option h.behind (option_ready F h.lists h.forest known.choices h.goal h.is.ready (suc h.chosen) p.option p.option_is) h.is.are_ready;
      some = (let backed = h.is.backed in let own = option_units F h.goal (suc h.chosen) p.option p.option_is in let both = units_both p.option h.behind in omega arith);
      rest_is = h.rest_is ∙ ap (λ l. to_come F h.lists (done_of F h.trail ++ Goals.Chose l h.behind ∷ [])) opened
          ∙ known.walks.goes_on (done_of F h.trail) p.option h.behind (drop (suc (suc h.chosen)) (options F h.goal));
    }

-- the looks at the option that was chosen next: none, or one, and then it is not the last step
pub next_leaves : (w n : Walk) (rest : List (List Step)) (c : Choice) (put : Put) (before after : ℕ) → after ≡ before + look (fork_of c.fork) → IsBack w c rest →
    PutsOption w.forest.now (fork_of c.fork) w.goals.items n.goals.items (suc c.chosen) c.behind put → n.left ≡ put.top → (k : ℕ) → HasSteps n k → after < before + k
next_leaves w n rest c put before after looks h q left k has =
    let F : Forest = w.forest.now in
    let linked : IsStack w.goals.items c.behind h.behind = subst (λ g. IsStack g c.behind h.behind) (take_all c.goals w.goals.items h.goals) h.is.behind_is in
    let same = stack_one n.goals.items n.left has.left (q.option ++ h.behind) has.left_is (subst (λ t. IsStack n.goals.items t (q.option ++ h.behind)) (sym left) (q.puts.stack h.behind linked)) in
    let all : units has.left ≡ units (q.option ++ h.behind) = ap units same in
    let both = units_both q.option h.behind in
    let own = option_units F (fork_of c.fork) (suc c.chosen) q.option q.option_is in
    let backed : 0 < unit (fork_of c.fork) + units h.behind = subst (λ g. 0 < unit g + units h.behind) (sym h.is.goal_is) h.is.backed in
    let sum = has.count in
    omega arith

-- with no choice left there is no other derivation
pub none_left : (w : Walk) (rest : List (List Step)) → w.choices.items ≡ [] → StandsBehind w rest → rest ≡ []
none_left w rest none h =
    let F : Forest = w.forest.now in
    h.rest_is ∙ none_to_come F h.lists (walked w h.trail h.lists h.is h.all).walks w.goals.items h.trail (subst (λ l. AreChoices F w.goals.items l h.trail) none h.is.choices)

-- ---- the beginning

map_id : {X : Type 0} (xs : List X) → map (λ x. x) xs ≡ xs
map_id [] = refl
map_id (x ∷ xs) = ap (λ l. x ∷ l) (map_id xs)

root_units : (f : Forest) (root : Option ℕ) → units (root_goals f root) ≡ 1
root_units f None = refl
root_units f (Some n) = refl

pub begun_walk : (w : Walk) → IsForest w.forest.now → w.choices.items ≡ [] → w.counts.items ≡ [] → w.steps.items ≡ [] →
    Puts [] w.goals.items 0 w.left (root_goals w.forest.now w.forest.now.root) → (copied : List TreeStep) → IsUnderWay w Walking NotBegun copied
begun_walk w is choices counts steps puts copied =
    let F : Forest = w.forest.now in
    let l = forests_have_lists F is in
    let known = forests_are_walked F l.0 is l.1 in
    let goals : List Goal = root_goals F F.root in
    record {
      lists = l.0;
      all = l.1;
      taken = [];
      rest = map steps_of (roots_by F l.0 F.root);
      both = refl;
      taken_by = refl;
      remain = record {
        lists = l.0;
        all = l.1;
        trail = Begun;
        is = record {
          forest = is;
          choices = choices;
          done = record {
            counted = record { all = ap (λ (x : List _). length x) counts; each = λ n le. (let none : 0 ≡ n = omega arith in subst (λ k. IsCounted w.counts.items k (counts_behind F.flat [] (take k []))) none refl) };
            written = ap (map step_of) steps;
          };
        };
        left = goals;
        left_is = subst (IsStack w.goals.items w.left) (append-nil goals) (puts.stack [] refl);
        ready = root_ready F is F.root is.root;
        some = (let own = root_units F F.root in omega arith);
        rest_is = sym known.root ∙ sym (append-nil (map (λ x. x) (steps_from F l.0 goals)) ∙ map_id (steps_from F l.0 goals));
      };
    }

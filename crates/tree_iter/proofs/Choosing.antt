-- A walk when an option of its topmost goal is chosen, whichever it is.
use Rattle.std.proofs.Common.{◌≡◌, inl, inr, ℕ, zero, suc, ◌+◌, ◌≤◌, List, [], ◌∷◌, ◌++◌, length, map, take, drop, Some, refl, sym, ap, ◌∙◌, subst, length-append, arith}
use Rattle.std.specs.Prelude.{slice_get}
use Rattle.std.proofs.Math.Seq.{take-append_seam}
use Rattle.std.proofs.lemmas.Option.{slice_get_within}
use Rattle.std.proofs.lemmas.List.{length-map, drop_all}
use Rattle.grammar_core.specs.Steps.{step_of}
use Rattle.grammar_model.specs.Steps.{Step}
use Rattle.forest_model.specs.Forest.{Forest}
use Rattle.forest_laws.specs.Lists.{Lists}
use Rattle.forest_laws.specs.Laws.{AreAllLists}
use Rattle.forest_laws.specs.Goals.{Goal, Write, Done, options, written, later_steps, stands}
use Rattle.forest_laws.proofs.Skips.{walks_skip}
use Rattle.tree_iter.specs.declared.goals.GoalRow.{GoalRow}
use Rattle.tree_iter.specs.declared.goals.Put.{Put}
use Rattle.tree_iter.specs.declared.walk.Choice.{Choice}
use Rattle.tree_iter.specs.declared.walk.Walk.{Walk}
use Rattle.tree_iter.specs.Goals.{goal_of, IsStack, IsReady, IsBacked, AreReady, PutsOption}
use Rattle.tree_iter.specs.Walk.{IsKept, Trail, Wrote, Chose, done_of, steps_on, IsChoice, AreChoices, IsTrail, IsOn, Chooses, StandsBefore, SkipsTo, IsAbout}
use Rattle.flat_steps.specs.Writing.{AreDone}
use Rattle.flat_steps.proofs.Linked.{linked_taken}
use Rattle.tree_iter.proofs.GoalLemmas.{units_both, ready_both, option_ready, option_units, is_goal}
use Rattle.tree_iter.proofs.Trails.{choices_more, choices_cut}
use Rattle.tree_iter.proofs.Walks.{walked, left_behind, IsMarked}

-- the topmost goal, and the others
pub record IsFirstOn (w : Walk) (lists : Lists) (trail : Trail) (goal : Goal) (behind : ℕ) (others : List Goal) : Type 0 where
  pub all : AreAllLists w.forest.now lists
  pub is : IsTrail w trail
  pub linked : IsStack w.goals.items behind others
  pub ready : IsReady w.forest.now goal
  pub backed : IsBacked goal others
  pub are_ready : AreReady w.forest.now others

tails_same : (x y : Goal) (xs ys : List Goal) → x ∷ xs ≡ y ∷ ys → ys ≡ xs
tails_same x y xs ys e = cc

pub first_on : (w : Walk) (lists : Lists) (trail : Trail) (goal : Goal) (behind : ℕ) (others : List Goal) → IsAbout w goal behind → IsOn w lists trail (goal ∷ others) → IsFirstOn w lists trail goal behind others
first_on w lists trail goal behind others a h =
    let on = left_behind w goal behind a (goal ∷ others) h.left_is in
    record {
      all = h.all;
      is = h.is;
      linked = subst (IsStack w.goals.items behind) (tails_same goal goal others on.others on.all) on.linked;
      ready = h.ready.0;
      backed = h.ready.1;
      are_ready = h.ready.2;
    }

-- the row of the topmost goal is cut off, and others that only that needs
pub cut_first : (w n : Walk) (lists : Lists) (trail : Trail) (goal : Goal) (behind : ℕ) (others : List Goal) (k : ℕ) → IsKept w behind k → n.goals.items ≡ take k w.goals.items → IsFirstOn w lists trail goal behind others →
    IsFirstOn (record w { goals = n.goals }) lists trail goal behind others
cut_first w n lists trail goal behind others k kept goals h =
    let F : Forest = w.forest.now in
    record {
      all = h.all;
      is = record {
        forest = h.is.forest;
        choices = subst (λ g. AreChoices F g w.choices.items trail) (sym goals) (choices_cut F w.goals.items k w.choices.items trail kept.1 h.is.choices);
        done = h.is.done;
      };
      linked = subst (λ g. IsStack g behind others) (sym goals) (linked_taken (λ (r : GoalRow). goal_of r.goal) (λ r. r.below) w.goals.items k behind others kept.0 h.linked);
      ready = h.ready;
      backed = h.backed;
      are_ready = h.are_ready;
    }

-- an option of a goal was chosen, and the choice is kept
pub chose_one : (w n : Walk) (lists : Lists) (trail : Trail) (goal : Goal) (at behind : ℕ) (others : List Goal) (c : Choice) (put : Put) → IsFirstOn w lists trail goal behind others → IsMarked w goal at behind c →
    c.count ≡ put.count → n.choices.items ≡ w.choices.items ++ c ∷ [] → (p : PutsOption w.forest.now goal w.goals.items n.goals.items at behind put) →
    IsOn (record w { goals = n.goals; left = put.top; choices = n.choices }) lists (Chose trail goal at others) (p.option ++ others)
chose_one w n lists trail goal at behind others c put h mark count choices p =
    let F : Forest = w.forest.now in
    let known = walked w trail lists h.is h.all in
    let within = slice_get_within (options F goal) at p.option p.option_is in
    let longer : length n.goals.items ≡ length w.goals.items + length p.puts.grows.more = ap (λ (l : List GoalRow). length l) p.puts.grows.is ∙ length-append w.goals.items p.puts.grows.more in
    let old : take c.goals n.goals.items ≡ w.goals.items = (λ i. take (mark.goals i) (p.puts.grows.is i)) ∙ take-append_seam w.goals.items p.puts.grows.more in
    let goals = mark.goals in
    let is : IsChoice F n.goals.items trail goal at others c = record {
      goal_is = mark.goal_is;
      ready = h.ready;
      chosen_is = mark.chosen_is;
      count = count ∙ p.count;
      among = within;
      goals = omega arith;
      behind_is = subst (λ g. IsStack g c.behind others) (sym old) (subst (λ k. IsStack w.goals.items k others) (sym mark.behind_is) h.linked);
      backed = h.backed;
      are_ready = h.are_ready;
      steps = mark.steps ∙ sym (length-map w.steps.items step_of) ∙ ap (λ (l : List Step). length l) h.is.done.written;
      counts = mark.counts ∙ h.is.done.counted.all;
    } in
    record {
      all = h.all;
      is = record {
        forest = h.is.forest;
        choices = subst (λ l. AreChoices F n.goals.items l (Chose trail goal at others)) (sym choices)
            (inl (w.choices.items, c, refl, is, subst (λ g. AreChoices F g w.choices.items trail) (sym old) h.is.choices));
        done = h.is.done;
      };
      left_is = p.puts.stack others h.linked;
      ready = ready_both F p.option others (option_ready F lists h.is.forest known.choices goal h.ready at p.option p.option_is) h.are_ready;
      some = (let backed = h.backed in let own = option_units F goal at p.option p.option_is in let both = units_both p.option others in omega arith);
    }

-- the only option was chosen, and the choice is not kept
pub chose_only : (w n : Walk) (lists : Lists) (trail : Trail) (goal : Goal) (at behind : ℕ) (others : List Goal) (put : Put) → IsFirstOn w lists trail goal behind others → put.count ≤ 1 → n.choices.items ≡ w.choices.items →
    (p : PutsOption w.forest.now goal w.goals.items n.goals.items at behind put) → IsOn (record w { goals = n.goals; left = put.top; choices = n.choices }) lists (Chose trail goal at others) (p.option ++ others)
chose_only w n lists trail goal at behind others put h one choices p =
    let F : Forest = w.forest.now in
    let known = walked w trail lists h.is h.all in
    let count = p.count in
    let spent : drop (suc at) (options F goal) ≡ [] = drop_all (suc at) (options F goal) (omega arith) in
    let more = choices_more F w.goals.items p.puts.grows.more w.choices.items trail h.is.choices in
    let grown : AreChoices F n.goals.items n.choices.items trail =
    subst (λ c. AreChoices F n.goals.items c trail) (sym choices) (subst (λ g. AreChoices F g w.choices.items trail) (sym p.puts.grows.is) more) in
    record {
      all = h.all;
      is = record { forest = h.is.forest; choices = inr (spent, grown); done = h.is.done };
      left_is = p.puts.stack others h.linked;
      ready = ready_both F p.option others (option_ready F lists h.is.forest known.choices goal h.ready at p.option p.option_is) h.are_ready;
      some = (let backed = h.backed in let own = option_units F goal at p.option p.option_is in let both = units_both p.option others in omega arith);
    }

-- ---- what is skipped

parted_at : {X : Type 0} (xs : List X) (k : ℕ) (x : X) → slice_get xs k ≡ Some x → xs ≡ take k xs ++ x ∷ drop (suc k) xs
parted_at [] k x e = absurd (cc e)
parted_at (y ∷ xs) zero x e = let heads : y ≡ x = cc in ap (λ z. z ∷ xs) heads
parted_at (y ∷ xs) (suc k) x e = ap (λ l. y ∷ l) (parted_at xs k x e)

-- what the options before this one stand for
abbrev skipped_by : Forest → Lists → List Done → Goal → List Goal → ℕ → List (List Step)
skipped_by F lists done goal others at = map (λ rest. written done ++ rest) (later_steps F lists others (take at (options F goal)))

none_skipped : (F : Forest) (lists : Lists) (done : List Done) (goal : Goal) (others : List Goal) (at : ℕ) → at ≡ 0 → skipped_by F lists done goal others at ≡ []
none_skipped F lists done goal others at e = ap (skipped_by F lists done goal others) e

-- the walk that stands before derivations is on a trail
pub on_before : (w : Walk) (rest : List (List Step)) (h : StandsBefore w rest) → IsOn w h.lists h.trail h.left
on_before w rest h = record { all = h.all; is = h.is; left_is = h.left_is; ready = h.ready; some = h.some }

pub skips_to : (w n : Walk) (rest : List (List Step)) (goal : Goal) (at behind : ℕ) → IsAbout w goal behind → n.forest ≡ w.forest → StandsBefore w rest →
    ((lists : Lists) (trail : Trail) (others : List Goal) → IsOn w lists trail (goal ∷ others) → Chooses w.forest.now n goal at lists trail others) → SkipsTo n rest at
skips_to w n rest goal at behind a forest h chooses =
    let F : Forest = w.forest.now in
    let same : w.forest.now ≡ n.forest.now = ap (λ (x : _). x.now) (sym forest) in
    let first = left_behind w goal behind a h.left h.left_is in
    let on : IsOn w h.lists h.trail (goal ∷ first.others) = subst (IsOn w h.lists h.trail) first.all (on_before w rest h) in
    let c = chooses h.lists h.trail first.others on in
    let known = walked w h.trail h.lists h.is h.all in
    let within = slice_get_within (options F goal) at c.option c.option_is in
    let parts = parted_at (options F goal) at c.option c.option_is in
    let skip = walks_skip F h.lists known.choices (done_of F h.trail) goal first.others c.option (take at (options F goal)) (drop (suc at) (options F goal)) (is_goal F goal at on.ready.0 within) parts in
    record {
      skipped = skipped_by F h.lists (done_of F h.trail) goal first.others at;
      later = stands F h.lists (done_of F (Chose h.trail goal at first.others)) (c.option ++ first.others);
      rest_is = h.rest_is ∙ ap (stands F h.lists (done_of F h.trail)) first.all ∙ skip;
      none = none_skipped F h.lists (done_of F h.trail) goal first.others at;
      stands = record {
        lists = h.lists;
        all = c.on.all;
        trail = Chose h.trail goal at first.others;
        is = c.on.is;
        left = c.option ++ first.others;
        left_is = c.on.left_is;
        ready = c.on.ready;
        some = c.on.some;
        rest_is = ap (λ (f : Forest). stands f h.lists (done_of f (Chose h.trail goal at first.others)) (c.option ++ first.others)) same;
      };
    }

-- a first option skips nothing
pub goes_first : (w : Walk) (rest : List (List Step)) → SkipsTo w rest 0 → StandsBefore w rest
goes_first w rest s = subst (StandsBefore w) (sym (s.rest_is ∙ ap (λ l. l ++ s.later) (s.none refl))) s.stands

-- the topmost goal was written
pub wrote_on : (w n : Walk) (lists : Lists) (trail : Trail) (step : Step) (behind : ℕ) (others : List Goal) → IsFirstOn w lists trail (Write step) behind others →
    ((done : List Step) → AreDone w.forest.now.written w.forest.now.flat w.counts.items w.steps.items done → AreDone w.forest.now.written w.forest.now.flat n.counts.items n.steps.items (done ++ step ∷ [])) →
    IsOn (record w { left = behind; counts = n.counts; steps = n.steps }) lists (Wrote trail step) others
wrote_on w n lists trail step behind others h done =
    let after = done (steps_on trail) h.is.done in
    let longer = length-append (steps_on trail) (step ∷ []) in
    let counted = after.counted.all in
    record {
      all = h.all;
      is = record { forest = h.is.forest; choices = h.is.choices; done = after };
      left_is = h.linked;
      ready = h.are_ready;
      some = omega arith;
    }

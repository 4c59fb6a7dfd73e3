-- A walk through a forest as it is kept: what it has done, what it has left, and what is still to come.
use Rattle.std.specs.Prelude.{◌≡◌, ◌⊎◌, ℕ, suc, ◌+◌, ◌*◌, ◌<◌, ◌≤◌, Bool, true, false, List, [], ◌∷◌, ◌++◌, length, map, take, drop, Option, Some, None, slice_get}
use Rattle.grammar_core.specs.declared.steps.TreeStep.{TreeStep}
use Rattle.grammar_core.specs.Steps.{step_of}
use Rattle.grammar_model.specs.Steps.{Step, steps_of}
use Rattle.forest_model.specs.Forest.{Forest, IsForest}
use Rattle.forest_laws.specs.Lists.{Lists, roots_by}
use Rattle.forest_laws.specs.Laws.{AreAllLists}
use Rattle.forest_laws.specs.Goals.{Goal, options, Done, to_come, stands, root_goals}
use Rattle.forest_laws.specs.Goals
use Rattle.forest_laws.specs.Written.{steps_written}
use Rattle.tree_iter.specs.declared.goals.GoalRow.{GoalRow}
use Rattle.tree_iter.specs.declared.walk.Choice.{Choice}
use Rattle.tree_iter.specs.declared.walk.Walk.{Walk}
use Rattle.tree_iter.specs.declared.walk.Place.{Place}
use Rattle.tree_iter.specs.declared.walk.Place.TheVariants.{Walking, Between}
use Rattle.tree_iter.specs.declared.iter.Current.{Current}
use Rattle.tree_iter.specs.declared.iter.Current.TheVariants.{Begun as NotBegun, Walked, Copied, Ended}
use Rattle.flat_steps.specs.Writing.{AreDone}
use Rattle.tree_iter.specs.Goals.{fork_of, goal_of, IsStack, IsReady, IsBacked, AreReady, units, weights}

-- the trail of a walk, which in Prolog tells what going back undoes: what it has done, the newest last; it wrote a step, or chose an option
-- of a goal, with other goals after that goal
pub data Trail : Type 0 where
  Begun : Trail
  Wrote : (trail : Trail) (step : Step) → Trail
  Chose : (trail : Trail) (goal : Goal) (chosen : ℕ) (behind : List Goal) → Trail

-- the trail, with the later options in place of those that were chosen
abbrev pub done_of : Forest → Trail → List Done
done_of f Begun = []
done_of f (Wrote trail step) = done_of f trail ++ Goals.Wrote step ∷ []
done_of f (Chose trail goal chosen behind) = done_of f trail ++ Goals.Chose (drop (suc chosen) (options f goal)) behind ∷ []

-- the flat steps that it wrote
abbrev pub steps_on : Trail → List Step
steps_on Begun = []
steps_on (Wrote trail step) = steps_on trail ++ step ∷ []
steps_on (Chose trail goal chosen behind) = steps_on trail

-- a choice as it is kept, with how far the rest had come
pub record IsChoice (f : Forest) (rows : List GoalRow) (trail : Trail) (goal : Goal) (chosen : ℕ) (behind : List Goal) (c : Choice) : Type 0 where
  pub goal_is : fork_of c.fork ≡ goal
  pub ready : IsReady f goal
  pub chosen_is : c.chosen ≡ chosen
  pub count : c.count ≡ length (options f goal)
  pub among : chosen < length (options f goal)
  pub goals : c.goals ≤ length rows
  pub behind_is : IsStack (take c.goals rows) c.behind behind
  pub backed : IsBacked goal behind
  pub are_ready : AreReady f behind
  pub steps : c.steps ≡ length (steps_written f.written f.flat [] (steps_on trail))
  pub counts : c.counts ≡ length (steps_on trail)

-- each choice is kept, or has no later option
abbrev pub AreChoices : Forest → List GoalRow → List Choice → Trail → Type 0
AreChoices f rows choices Begun = choices ≡ []
AreChoices f rows choices (Wrote trail step) = AreChoices f rows choices trail
AreChoices f rows choices (Chose trail goal chosen behind) =
    ((before : List Choice) × (c : Choice) × (choices ≡ before ++ c ∷ []) × IsChoice f rows trail goal chosen behind c × AreChoices f (take c.goals rows) before trail)
    ⊎ ((drop (suc chosen) (options f goal) ≡ []) × AreChoices f rows choices trail)

-- the walk has come along this trail
pub record IsTrail (w : Walk) (trail : Trail) : Type 0 where
  pub forest : IsForest w.forest.now
  pub choices : AreChoices w.forest.now w.goals.items w.choices.items trail
  pub done : AreDone w.forest.now.written w.forest.now.flat w.counts.items w.steps.items (steps_on trail)

-- the walk has done nothing yet
pub record IsBegun (w : Walk) : Type 0 where
  pub choices : w.choices.items ≡ []
  pub counts : w.counts.items ≡ []
  pub steps : w.steps.items ≡ []
  pub left : IsStack w.goals.items w.left (root_goals w.forest.now w.forest.now.root)

-- the walk has goals left, and these are the steps of the derivations still to come, from the one that it is on
pub record StandsBefore (w : Walk) (rest : List (List Step)) : Type 0 where
  pub lists : Lists
  pub all : AreAllLists w.forest.now lists
  pub trail : Trail
  pub is : IsTrail w trail
  pub left : List Goal
  pub left_is : IsStack w.goals.items w.left left
  pub ready : AreReady w.forest.now left
  pub some : 0 < length w.counts.items + units left
  pub rest_is : rest ≡ stands w.forest.now lists (done_of w.forest.now trail) left

-- the walk has come along this trail and has these goals left, where the nodes stand for these lists
pub record IsOn (w : Walk) (lists : Lists) (trail : Trail) (left : List Goal) : Type 0 where
  pub all : AreAllLists w.forest.now lists
  pub is : IsTrail w trail
  pub left_is : IsStack w.goals.items w.left left
  pub ready : AreReady w.forest.now left
  pub some : 0 < length w.counts.items + units left

-- the walk has an option of the goal left in place of the goal
pub record Chooses (f : Forest) (w : Walk) (goal : Goal) (at : ℕ) (lists : Lists) (trail : Trail) (others : List Goal) : Type 0 where
  pub option : List Goal
  pub option_is : slice_get (options f goal) at ≡ Some option
  pub on : IsOn w lists (Chose trail goal at others) (option ++ others)

-- the walk has come to the end of a derivation, and these are those after it
pub record StandsBehind (w : Walk) (rest : List (List Step)) : Type 0 where
  pub lists : Lists
  pub all : AreAllLists w.forest.now lists
  pub trail : Trail
  pub is : IsTrail w trail
  pub rest_is : rest ≡ to_come w.forest.now lists (done_of w.forest.now trail)

-- the steps are written
abbrev pub Shows : Walk → List Step → Type 0
Shows w steps = map step_of w.steps.items ≡ steps_written w.forest.now.written w.forest.now.flat [] steps

-- the walk has these goals left
abbrev pub HasLeft : Walk → List Goal → Type 0
HasLeft w left = IsStack w.goals.items w.left left

-- what was left is left
abbrev pub KeepsLeft : (old new : Walk) → Type 0
KeepsLeft old new = (left : List Goal) → HasLeft old left → HasLeft new left

-- so many flat steps the walk wrote, and has goals left for
pub record HasSteps (w : Walk) (n : ℕ) : Type 0 where
  pub left : List Goal
  pub left_is : HasLeft w left
  pub count : n ≡ length w.counts.items + units left

-- each look at alternatives makes a derivation longer by one step
abbrev pub Looks : (old new : Walk) → (before after : ℕ) → Type 0
Looks old new before after = (n : ℕ) → HasSteps old n → (looked : ℕ) × HasSteps new (n + looked) × (after ≡ before + looked)

-- so far the walk has come
pub record HasCome (w : Walk) (n : ℕ) : Type 0 where
  pub left : List Goal
  pub left_is : HasLeft w left
  pub count : n ≡ 3 * length w.counts.items + weights left

-- each goal that is done brings it further
abbrev pub GoesFurther : (old new : Walk) → Type 0
GoesFurther old new = (n : ℕ) → HasCome old n → (m : ℕ) × HasCome new m × (n < m)

-- there were fewer looks than the derivation has steps, and none where there is no derivation
abbrev pub AreFewLooks : Walk → Bool → (before after : ℕ) → Type 0
AreFewLooks w true before after = after < before + length w.counts.items
AreFewLooks w false before after = after ≡ before

-- so few that the walk may go on from there
abbrev pub LeavesSome : Walk → Bool → (before after : ℕ) → Type 0
LeavesSome w true before after = (n : ℕ) → HasSteps w n → after < before + n
LeavesSome w false before after = after ≡ before

-- the walk came to the end of the first of those derivations
pub record Reaches (w : Walk) (rest : List (List Step)) : Type 0 where
  pub first : List Step
  pub later : List (List Step)
  pub rest_is : rest ≡ first ∷ later
  pub behind : StandsBehind w later
  pub shows : Shows w first
  pub counts : length w.counts.items ≡ length first
  pub some : 0 < length first

-- the walk is on the next derivation, or there is none
abbrev pub Turns : Walk → List (List Step) → Bool → Type 0
Turns w rest true = StandsBefore w rest
Turns w rest false = StandsBehind w rest × (rest ≡ [])

-- what is still to come before one walk is so before the other
abbrev pub Goes : (old new : Walk) → Type 0
Goes old new = (rest : List (List Step)) → StandsBefore old rest → StandsBefore new rest

-- what stood before the walk is what was skipped and what stands before it now; nothing was skipped by a first option
pub record SkipsTo (w : Walk) (rest : List (List Step)) (at : ℕ) : Type 0 where
  pub skipped : List (List Step)
  pub later : List (List Step)
  pub rest_is : rest ≡ skipped ++ later
  pub stands : StandsBefore w later
  pub none : at ≡ 0 → skipped ≡ []

-- what stood before a walk is what was skipped and what stands before this one
pub record Passes (w : Walk) (rest : List (List Step)) : Type 0 where
  pub skipped : List (List Step)
  pub later : List (List Step)
  pub rest_is : rest ≡ skipped ++ later
  pub stands : StandsBefore w later

-- what stood before a walk is what was skipped, then the derivation that this one came to the end of, and those after it
pub record ComesTo (w : Walk) (rest : List (List Step)) : Type 0 where
  pub skipped : List (List Step)
  pub later : List (List Step)
  pub rest_is : rest ≡ skipped ++ later
  pub reaches : Reaches w later

-- what stands before one walk stands before the other, but for what is skipped
abbrev pub GoesPast : (old new : Walk) → Type 0
GoesPast old new = (rest : List (List Step)) → StandsBefore old rest → Passes new rest

-- the walk has this goal left, and then those after it
pub record IsAbout (w : Walk) (goal : Goal) (behind : ℕ) : Type 0 where
  pub rest : List (List Step)
  pub stands : StandsBefore w rest
  pub place : ℕ
  pub row : GoalRow
  pub left_is : w.left ≡ suc place
  pub row_is : slice_get w.goals.items place ≡ Some row
  pub goal_is : goal_of row.goal ≡ goal
  pub behind_is : row.below ≡ behind

-- the walk stands as it stood, with more room
pub record Stays (old new : Walk) : Type 0 where
  pub forest : new.forest ≡ old.forest
  pub goes : Goes old new
  pub about : (goal : Goal) (behind : ℕ) → IsAbout old goal behind → IsAbout new goal behind
  pub steps : (n : ℕ) → HasSteps old n → HasSteps new n
  pub come : (n : ℕ) → HasCome old n → HasCome new n
  pub on : (lists : Lists) (trail : Trail) (left : List Goal) → IsOn old lists trail left → IsOn new lists trail left
  pub written : new.steps ≡ old.steps

-- the rows below that place are all that is left or that a choice goes back to
abbrev pub IsKept : Walk → (left k : ℕ) → Type 0
IsKept w left k = (left ≤ k) × ((before : List Choice) (c : Choice) → w.choices.items ≡ before ++ c ∷ [] → c.goals ≤ k)

-- it is the last of the choices
abbrev pub IsLast : List Choice → Choice → Type 0
IsLast choices choice = (before : List Choice) × (choices ≡ before ++ choice ∷ [])

-- the walk is right after a choice, and what was done after it is undone
pub record IsBack (w : Walk) (choice : Choice) (rest : List (List Step)) : Type 0 where
  pub forest : IsForest w.forest.now
  pub lists : Lists
  pub all : AreAllLists w.forest.now lists
  pub trail : Trail
  pub goal : Goal
  pub chosen : ℕ
  pub behind : List Goal
  pub before : List Choice
  pub choices : w.choices.items ≡ before ++ choice ∷ []
  pub is : IsChoice w.forest.now w.goals.items trail goal chosen behind choice
  pub goals : choice.goals ≡ length w.goals.items
  pub earlier : AreChoices w.forest.now w.goals.items before trail
  pub done : AreDone w.forest.now.written w.forest.now.flat w.counts.items w.steps.items (steps_on trail)
  pub rest_is : rest ≡ to_come w.forest.now lists (done_of w.forest.now (Chose trail goal chosen behind))

-- what is still to come, by where the walk is
abbrev pub Remain : Place → Walk → List (List Step) → Type 0
Remain Walking w rest = StandsBefore w rest
Remain Between w rest = StandsBehind w rest

-- the steps of the derivation that is stood at, if any
abbrev pub current_of : Current → (walked copied : List TreeStep) → Option (List Step)
current_of NotBegun walked copied = None
current_of Walked walked copied = Some (map step_of walked)
current_of Copied walked copied = Some (map step_of copied)
current_of Ended walked copied = None

abbrev pub has_ended : Current → Bool
has_ended NotBegun = false
has_ended Walked = false
has_ended Copied = false
has_ended Ended = true

-- the last of those taken is written as these steps
pub record ShowsLast (f : Forest) (steps : List TreeStep) (taken : List (List Step)) : Type 0 where
  pub front : List (List Step)
  pub last : List Step
  pub is : taken ≡ front ++ last ∷ []
  pub shows : map step_of steps ≡ steps_written f.written f.flat [] last

-- how many were taken, by where the iterator stands
abbrev pub AreTakenBy : Forest → Current → (walked copied : List TreeStep) → (taken rest : List (List Step)) → Type 0
AreTakenBy f NotBegun walked copied taken rest = taken ≡ []
AreTakenBy f Walked walked copied taken rest = ShowsLast f walked taken
AreTakenBy f Copied walked copied taken rest = ShowsLast f copied taken
AreTakenBy f Ended walked copied taken rest = rest ≡ []

-- the walk is at one more derivation, or there is none
abbrev pub Advances : Place → Walk → List (List Step) → Bool → Type 0
Advances place w rest true = Reaches w rest
Advances place w rest false = (place ≡ Between) × StandsBehind w rest × (rest ≡ [])

-- the iterator stands where it stood, whatever the walk has written since
pub record Keeps (old new : Current) (walked others copied kept : List TreeStep) : Type 0 where
  pub ended : has_ended new ≡ has_ended old
  pub current : current_of new others kept ≡ current_of old walked copied
  pub taken : (f : Forest) (taken rest : List (List Step)) → AreTakenBy f old walked copied taken rest → AreTakenBy f new others kept taken rest

-- derivations were taken, and the others remain
pub record IsUnderWay (w : Walk) (place : Place) (current : Current) (copied : List TreeStep) : Type 0 where
  pub lists : Lists
  pub all : AreAllLists w.forest.now lists
  pub taken : List (List Step)
  pub rest : List (List Step)
  pub both : map steps_of (roots_by w.forest.now lists w.forest.now.root) ≡ taken ++ rest
  pub taken_by : AreTakenBy w.forest.now current w.steps.items copied taken rest
  pub remain : Remain place w rest

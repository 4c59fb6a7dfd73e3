-- A walk comes further with each goal that is done, and only so far.
use Rattle.std.proofs.Common.{◌≡◌, ℕ, zero, suc, ◌+◌, ◌-◌, ◌*◌, ◌^◌, ◌<◌, ◌≤◌, List, [], ◌∷◌, ◌++◌, length, take, Option, Some, None, refl, sym, ap, ◌∙◌, subst, arith}
use Rattle.std.specs.Prelude.{slice_get}
use Rattle.std.specs.declared.vec.Vec.{Vec}
use Rattle.grammar_model.specs.Steps.{Step}
use Rattle.forest_model.specs.Forest.{Cause, AnEdge, Nothing, Wholes, ForestNode, Forest}
use Rattle.forest_laws.specs.Lists.{cause_symbol}
use Rattle.forest_laws.specs.Goals.{Goal, Parts, OneOf, Write, predecessor_goals, cause_goals, whole_goals, alternative_goals, node_options, options}
use Rattle.tree_iter.specs.declared.goals.GoalRow.{GoalRow}
use Rattle.tree_iter.specs.declared.goals.Put.{Put}
use Rattle.tree_iter.specs.declared.walk.Walk.{Walk}
use Rattle.tree_iter.specs.Goals.{goal_of, IsStack, weight, weights, PutsOption}
use Rattle.tree_iter.specs.Walk.{KeepsLeft, GoesFurther, StandsBefore, IsAbout}
use Rattle.flat_steps.proofs.Linked.{linked_bound}
use Rattle.tree_iter.proofs.GoalLemmas.{mapped_at}
use Rattle.tree_iter.proofs.Walks.{left_behind, put_left, write_left}

weights_both : (a b : List Goal) → weights (a ++ b) ≡ weights a + weights b
weights_both [] b = omega arith
weights_both (x ∷ a) b = let h = weights_both a b in omega arith

-- an option is further than its goal

last_weights : (symbol start end : ℕ) (last : Cause) → 0 < weights (cause_goals symbol start end last)
last_weights symbol start end AnEdge = omega arith
last_weights symbol start end Nothing = omega arith
last_weights symbol start end (Wholes nodes) = omega arith

parts_further : (f : Forest) (node : Option ForestNode) (k : ℕ) (option : List Goal) → slice_get (node_options f node) k ≡ Some option → 0 < weights option
parts_further f None k option there = cc
parts_further f (Some node) k option there =
    let r = mapped_at (alternative_goals f node) node.alternatives k option there in
    let predecessors = predecessor_goals r.x.predecessor in
    let causes = cause_goals (cause_symbol f node.key) r.x.start node.key.end r.x.cause in
    let both = weights_both predecessors causes in
    let some = last_weights (cause_symbol f node.key) r.x.start node.key.end r.x.cause in
    let more : 0 < weights (predecessors ++ causes) = omega arith in
    subst (λ o. 0 < weights o) r.is more

option_further : (f : Forest) (goal : Goal) (k : ℕ) (option : List Goal) → slice_get (options f goal) k ≡ Some option → weight goal < weights option
option_further f (Parts n) k option there = parts_further f (slice_get f.nodes n) k option there
option_further f (OneOf start end nodes) k option there =
    let r = mapped_at (whole_goals f start end) nodes k option there in
    let more : 1 < weights (whole_goals f start end r.x) = omega arith in
    subst (λ o. 1 < weights o) r.is more
option_further f (Write step) k option there = cc

-- an option of the topmost goal was put in its place
pub put_further : (w n : Walk) (goal : Goal) (at behind k : ℕ) (put : Put) → IsAbout w goal behind → n.counts.items ≡ w.counts.items → n.left ≡ put.top → behind ≤ k →
    PutsOption w.forest.now goal (take k w.goals.items) n.goals.items at behind put → GoesFurther w n
put_further w n goal at behind k put a counts left le p = λ m h.
    let on = left_behind w goal behind a h.left h.left_is in
    let all : weights h.left ≡ weight goal + weights on.others = ap weights on.all in
    let more = option_further w.forest.now goal at p.option p.option_is in
    let both = weights_both p.option on.others in
    let same : length n.counts.items ≡ length w.counts.items = ap (λ (l : List _). length l) counts in
    let sum = h.count in (
      3 * length n.counts.items + weights (p.option ++ on.others),
      record { left = p.option ++ on.others; left_is = put_left w n goal at behind k put left le p on.others on.linked; count = refl },
      omega arith,
    )

-- the topmost goal was written
pub write_further : (w n : Walk) (step : Step) (behind : ℕ) → IsAbout w (Write step) behind → length n.counts.items ≡ suc (length w.counts.items) → n.goals.items ≡ w.goals.items → n.left ≡ behind → GoesFurther w n
write_further w n step behind a longer goals left = λ m h.
    let on = left_behind w (Write step) behind a h.left h.left_is in
    let same : weights h.left ≡ weights (Write step ∷ on.others) = ap weights on.all in
    let all : weights h.left ≡ 2 + weights on.others = same in
    let sum = h.count in (
      3 * length n.counts.items + weights on.others,
      record { left = on.others; left_is = write_left w n behind goals left on.others on.linked; count = refl },
      omega arith,
    )

pub further_kept : (w n v : Walk) → GoesFurther w n → KeepsLeft n v → v.counts ≡ n.counts → GoesFurther w v
further_kept w n v further keeps counts = λ m h.
    let (r, h', more) = further m h in
    (r, record { left = h'.left; left_is = keeps h'.left h'.left_is; count = h'.count ∙ sym (ap (λ (c : _). 3 * length c.items + weights h'.left) counts) }, more)

-- how far the goals of a stack have come

weight_at : Option GoalRow → ℕ
weight_at None = 0
weight_at (Some row) = weight (goal_of row.goal)

below_at : Option GoalRow → ℕ
below_at None = 0
below_at (Some row) = row.below

weights_at : List GoalRow → (rounds top : ℕ) → ℕ
weights_at rows zero top = 0
weights_at rows (suc k) zero = 0
weights_at rows (suc k) (suc place) = weight_at (slice_get rows place) + weights_at rows k (below_at (slice_get rows place))

weights_are : (rows : List GoalRow) (k top : ℕ) (left : List Goal) → top ≤ k → IsStack rows top left → weights_at rows k top ≡ weights left
unfolding weights_at weight_at below_at
weights_are rows zero top [] le h = refl
weights_are rows zero top (goal ∷ left) le (t, h) = let e = t.top_is in absurd (omega arith)
weights_are rows (suc k) zero [] le h = refl
weights_are rows (suc k) zero (goal ∷ left) le (t, h) = let e = t.top_is in absurd (omega arith)
weights_are rows (suc k) (suc place) [] le h = absurd (omega (arith, h))
weights_are rows (suc k) (suc place) (goal ∷ left) le (t, h) =
    let e = t.top_is in
    let under = t.under in
    let here : t.place ≡ place = omega arith in
    let there : slice_get rows place ≡ Some t.row = subst (λ j. slice_get rows j ≡ Some t.row) here t.row_is in
    let less : t.row.below ≤ k = omega arith in
    let others = weights_are rows k t.row.below left less h in
    let one : weight_at (slice_get rows place) ≡ weight goal = ap weight_at there ∙ ap weight t.value_is in
    let more : weights_at rows k (below_at (slice_get rows place)) ≡ weights left = ap (λ (r : Option GoalRow). weights_at rows k (below_at r)) there ∙ others in
    λ i. one i + more i

weight_few : (goal : Goal) → weight goal ≤ 2
weight_few (Parts node) = omega arith
weight_few (OneOf start end nodes) = omega arith
weight_few (Write step) = omega arith

weights_few : (rows : List GoalRow) (top : ℕ) (left : List Goal) → IsStack rows top left → weights left ≤ 2 * top
weights_few rows top [] h = omega arith
weights_few rows top (goal ∷ left) (t, h) =
    let one = weight_few goal in
    let others = weights_few rows t.row.below left h in
    let e = t.top_is in
    let under = t.under in
    omega arith

in_word : {X Z : Type 0} (v : Vec X Z) → length v.items < 2 ^ 63
in_word v =
    let same = v.ok.0 in
    let within = v.ok.1 in
    let small = v.small in
    omega arith

-- how far a walk can come yet, since its rows are in memory
pub to_go : Walk → ℕ
to_go w = 5 * 2 ^ 63 - (3 * length w.counts.items + weights_at w.goals.items (length w.goals.items) w.left)

pub closer : (a b : Walk) (rest : List (List Step)) → StandsBefore a rest → GoesFurther a b → to_go b < to_go a
unfolding to_go
closer a b rest h further =
    let (m, after, more) = further (3 * length a.counts.items + weights h.left) (record { left = h.left; left_is = h.left_is; count = refl }) in
    let bound_a = linked_bound (λ (r : GoalRow). goal_of r.goal) (λ r. r.below) a.goals.items a.left h.left h.left_is in
    let bound_b = linked_bound (λ (r : GoalRow). goal_of r.goal) (λ r. r.below) b.goals.items b.left after.left after.left_is in
    let at_a = weights_are a.goals.items (length a.goals.items) a.left h.left bound_a h.left_is in
    let at_b = weights_are b.goals.items (length b.goals.items) b.left after.left bound_b after.left_is in
    let few = weights_few b.goals.items b.left after.left after.left_is in
    let rows = in_word b.goals in
    let counts = in_word b.counts in
    let count = after.count in
    omega arith

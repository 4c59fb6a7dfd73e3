-- A walk that is led to a derivation, one goal after another.
use Rattle.std.proofs.Common.{◌≡◌, ℕ, zero, suc, ◌+◌, ◌-◌, ◌*◌, ◌<◌, ◌≤◌, ◌==◌, cond, List, [], ◌∷◌, ◌++◌, length, map, take, position, Option, Some, None, refl, sym, ap, ◌∙◌, subst, append_assoc, length-append, arith}
use Rattle.std.specs.Prelude.{slice_get, Contains}
use Rattle.std.proofs.Math.Seq.{take-append_seam}
use Rattle.std.proofs.lemmas.List.{length-map}
use Rattle.std.proofs.lemmas.Option.{slice_get-get_or}
use Rattle.finite_sets.proofs.Members.{contains_from}
use Rattle.finite_sets.proofs.Lists.{get_among, get_map}
use Rattle.grammar_core.specs.Steps.{step_of}
use Rattle.grammar_model.specs.Steps.{Step, RuleStep, steps_of, steps_of_all}
use Rattle.grammar_model.specs.Trees.{Children, Node, child_count}
use Rattle.forest_model.specs.Forest.{Forest, Alternative, IsForest, AreAlternatives}
use Rattle.forest_laws.specs.Laws.{AreAllLists}
use Rattle.forest_laws.specs.Lists.{Lists, rule_of}
use Rattle.forest_laws.specs.Goals.{Goal, Parts, OneOf, Write, options, node_options, alternative_goals, whole_goals}
use Rattle.forest_laws.specs.Guide.{IsRowAt}
use Rattle.forest_laws.specs.Written.{is_list_rule, steps_written}
use Rattle.bocage.specs.Readers.{node_at}
use Rattle.tree_iter.specs.declared.walk.Walk.{Walk}
use Rattle.tree_iter.specs.Goals.{unit, units, look}
use Rattle.tree_iter.specs.Walk.{Trail, Wrote, Chose, steps_on, HasSteps, IsOn, Stays, Chooses, IsAbout}
use Rattle.tree_iter.specs.Leads.{AreRows, IsGuide, Leads, HasLooks, IsLastRow, IsToldAt, IsTold, sought, upper_of, over, LeadsTo, LeadsToPart, LeadsToNode, LeadsOn, size_of, StandsFor, AreAimed, IsLedTo}
use Rattle.tree_iter.proofs.GoalLemmas.{at_node}
use Rattle.tree_iter.proofs.Sizes.{size_both, sized}
use Rattle.tree_iter.proofs.LedParts.{position_is, position_some}
use Rattle.tree_iter.proofs.LedOn.{IsPartLed, parts_led}
use Rattle.tree_iter.proofs.LedTold.{children_some, told_node, told_only, place_once, wholes_aimed, upper_node}
use Rattle.tree_iter.specs.declared.goals.Fork.{Fork}
use Rattle.tree_iter.specs.declared.goals.Fork.TheVariants as fork
use Rattle.tree_iter.specs.Goals.{fork_of}
use Rattle.tree_iter.proofs.Trails.{same_ends}
use Rattle.tree_iter.proofs.Walks.{fork_goal, left_behind, stack_one}
use Rattle.tree_iter.specs.declared.leads.LeadRow.{LeadRow}
use Rattle.tree_iter.specs.declared.jump.Led.{Led}
use Rattle.tree_iter.specs.declared.jump.Guide.{Guide}
use Rattle.grammar_core.specs.declared.steps.TreeStep.{TreeStep}

pub some_same : {X : Type 0} (x y : X) → Some x ≡ Some y → x ≡ y
some_same x y e = cc

-- how many steps are written, by the trail
pub written_size : (w : Walk) (lists : Lists) (trail : Trail) (left : List Goal) → IsOn w lists trail left → length w.steps.items ≡ size_of w.forest.now.flat (steps_on trail)
written_size w lists trail left h =
    sym (length-map w.steps.items step_of) ∙ ap (λ (l : List Step). length l) h.is.done.written ∙ sized w.forest.now.written w.forest.now.flat [] (steps_on trail)

-- an option of the topmost goal was chosen, whose goals are aimed
pub led_chose : (w n : Walk) (lists : Lists) (trail : Trail) (goal : Goal) (at : ℕ) (others : List Goal) (option : List Goal) (aims : List ℕ) (steps to : List Step) → n.forest ≡ w.forest → n.steps ≡ w.steps →
    Chooses w.forest.now n goal at lists trail others → slice_get (options w.forest.now goal) at ≡ Some option → AreAimed w.forest.now lists (length w.steps.items) (option ++ others) aims steps →
    to ≡ steps_written w.forest.now.written w.forest.now.flat [] (steps_on trail ++ steps) → length (steps_on trail ++ steps) + 2 ≤ 7 * length to → IsLedTo n aims to
led_chose w n lists trail goal at others option aims steps to forest kept c option_is aimed to_is few =
    let same : w.forest.now ≡ n.forest.now = ap (λ (x : _). x.now) (sym forest) in
    let one : option ≡ c.option = some_same option c.option (sym option_is ∙ c.option_is) in
    let count : length w.steps.items ≡ length n.steps.items = ap (λ (v : _). length v.items) (sym kept) in
    record {
      lists = lists;
      trail = Chose trail goal at others;
      left = c.option ++ others;
      on = c.on;
      steps = steps;
      aimed = subst (λ (f : Forest). AreAimed f lists (length n.steps.items) (c.option ++ others) aims steps) same
          (subst (λ k. AreAimed w.forest.now lists k (c.option ++ others) aims steps) count (subst (λ o. AreAimed w.forest.now lists (length w.steps.items) (o ++ others) aims steps) one aimed));
      to_is = to_is ∙ ap (λ (f : Forest). steps_written f.written f.flat [] (steps_on trail ++ steps)) same;
      few = few;
    }

-- the walk has more room
pub led_stays : (w n : Walk) (aims : List ℕ) (to : List Step) → Stays w n → IsLedTo w aims to → IsLedTo n aims to
led_stays w n aims to s h =
    let same : w.forest.now ≡ n.forest.now = ap (λ (x : _). x.now) (sym s.forest) in
    let count : length w.steps.items ≡ length n.steps.items = ap (λ (v : _). length v.items) (sym s.written) in
    record {
      lists = h.lists;
      trail = h.trail;
      left = h.left;
      on = s.on h.lists h.trail h.left h.on;
      steps = h.steps;
      aimed = subst (λ (f : Forest). AreAimed f h.lists (length n.steps.items) h.left aims h.steps) same (subst (λ k. AreAimed w.forest.now h.lists k h.left aims h.steps) count h.aimed);
      to_is = h.to_is ∙ ap (λ (f : Forest). steps_written f.written f.flat [] (steps_on h.trail ++ h.steps)) same;
      few = h.few;
    }

-- each goal stands for as many flat steps at least as it becomes

goal_units : (f : Forest) (lists : Lists) (goal : Goal) (steps : List Step) → StandsFor f lists goal steps → unit goal ≤ length steps
goal_units f lists (Parts n) steps h = omega arith
goal_units f lists (OneOf start end nodes) steps h =
    let size : length steps ≡ length (steps_of (Node (rule_of (slice_get f.nodes h.node)) h.children start end)) = ap (λ (l : List Step). length l) h.steps_are in
    let long = node_long (rule_of (slice_get f.nodes h.node)) h.children start end in
    omega (arith, size, long)
  where
    node_long : (r : ℕ) (cs : Children) (p q : ℕ) → 1 ≤ length (steps_of (Node r cs p q))
    node_long r cs p q = let both = length-append (steps_of_all cs) (RuleStep r (child_count cs) p q ∷ []) in omega (arith, both)
goal_units f lists (Write step) steps h = let size : length steps ≡ 1 = ap (λ (l : List Step). length l) h in omega (arith, size)

pub aimed_units : (f : Forest) (lists : Lists) (done : ℕ) (goals : List Goal) (aims : List ℕ) (steps : List Step) → AreAimed f lists done goals aims steps → units goals ≤ length steps
aimed_units f lists done [] aims steps h = omega arith
aimed_units f lists done (goal ∷ goals) aims steps (t, h) =
    let own = goal_units f lists goal t.own t.stands in
    let others = aimed_units f lists t.aim goals t.under t.behind h in
    let size : length steps ≡ length (t.own ++ t.behind) = ap (λ (l : List Step). length l) t.steps_are in
    let both = length-append t.own t.behind in
    omega (arith, own, others, size, both)

-- ---- the topmost goal of a walk that is led

pub record IsLedGoal (w : Walk) (goal : Goal) (aims : List ℕ) (to : List TreeStep) (rows : List LeadRow) : Type 0 where
  pub lists : Lists
  pub trail : Trail
  pub others : List Goal
  pub on : IsOn w lists trail (goal ∷ others)
  pub own : List Step
  pub behind : List Step
  pub stands : StandsFor w.forest.now lists goal own
  pub under : List ℕ
  pub place : ℕ
  pub aims_are : aims ≡ under ++ suc place ∷ []
  pub size : suc place ≡ size_of w.forest.now.flat (steps_on trail) + size_of w.forest.now.flat own
  pub rest : AreAimed w.forest.now lists (suc place) others under behind
  pub step : TreeStep
  pub row : LeadRow
  pub last : IsLastRow to rows (suc place) step row
  pub row_at : IsRowAt (map step_of to) place row.from row.below
  pub step_is : row_at.step ≡ step_of step
  pub to_is : map step_of to ≡ steps_written w.forest.now.written w.forest.now.flat [] (steps_on trail ++ (own ++ behind))
  pub few : length (steps_on trail ++ (own ++ behind)) + 2 ≤ 7 * length (map step_of to)

getting : {X : Type 0} (xs : List X) (k : ℕ) → k < length xs → (x : X) × (slice_get xs k ≡ Some x)
getting [] k lt = absurd (omega arith)
getting (x ∷ xs) zero lt = (x, refl)
getting (x ∷ xs) (suc k) lt = getting xs k (omega arith)

split_at : (xs ys : List Step) (y : Step) (k : ℕ) (x : Step) (zs : List Step) → xs ≡ ys ++ y ∷ zs → k ≡ length ys → slice_get xs k ≡ Some x → y ≡ x
split_at xs ys y k x zs e at there = go ys k at (sym (ap (λ l. slice_get l k) e) ∙ there)
  where
    go : (ys : List Step) (k : ℕ) → k ≡ length ys → slice_get (ys ++ y ∷ zs) k ≡ Some x → y ≡ x
    go [] zero at there = cc
    go [] (suc k) at there = absurd (omega (arith, at))
    go (v ∷ ys) zero at there = absurd (omega (arith, at))
    go (v ∷ ys) (suc k) at there = go ys k (omega (arith, at)) there

pub led_goal : (w : Walk) (goal : Goal) (behind : ℕ) (aims : List ℕ) (to : List TreeStep) (rows : List LeadRow) → IsAbout w goal behind → AreRows rows (map step_of to) → IsLedTo w aims (map step_of to) →
    ((lists : Lists) (own : List Step) → AreAllLists w.forest.now lists → StandsFor w.forest.now lists goal own → 0 < size_of w.forest.now.flat own) → IsLedGoal w goal aims to rows
led_goal w goal behind aims to rows a are h some =
    let F : Forest = w.forest.now in
    let first = left_behind w goal behind a h.left h.on.left_is in
    let on : IsOn w h.lists h.trail (goal ∷ first.others) = subst (IsOn w h.lists h.trail) first.all h.on in
    let aimed : AreAimed F h.lists (length w.steps.items) (goal ∷ first.others) aims h.steps = subst (λ l. AreAimed F h.lists (length w.steps.items) l aims h.steps) first.all h.aimed in
    let t = aimed.0 in
    let done = written_size w h.lists h.trail h.left h.on in
    let pos = some h.lists t.own h.on.all t.stands in
    let aim = t.aim_is in
    let place_is : t.aim ≡ suc (t.aim - 1) = omega (arith, pos, aim) in
    let to_is : map step_of to ≡ steps_written F.written F.flat [] (steps_on h.trail ++ (t.own ++ t.behind)) = h.to_is ∙ ap (λ l. steps_written F.written F.flat [] (steps_on h.trail ++ l)) t.steps_are in
    let long : length (map step_of to) ≡ size_of F.flat (steps_on h.trail ++ (t.own ++ t.behind)) = ap (λ (l : List Step). length l) to_is ∙ sized F.written F.flat [] (steps_on h.trail ++ (t.own ++ t.behind)) in
    let both = size_both F.flat (steps_on h.trail) (t.own ++ t.behind) in
    let parts = size_both F.flat t.own t.behind in
    let count = length-map to step_of in
    let all = are.all in
    let (step, step_at) = getting to (t.aim - 1) (omega (arith, pos, aim, done, long, both, parts, count)) in
    let (row, row_at) = getting rows (t.aim - 1) (omega (arith, pos, aim, done, long, both, parts, all)) in
    let r = are.each (t.aim - 1) row row_at in
    record {
      lists = h.lists;
      trail = h.trail;
      others = first.others;
      on = on;
      own = t.own;
      behind = t.behind;
      stands = t.stands;
      under = t.under;
      place = t.aim - 1;
      aims_are = t.aims_are ∙ ap (λ k. t.under ++ k ∷ []) place_is;
      size = sym place_is ∙ aim ∙ ap (λ k. k + size_of F.flat t.own) done;
      rest = subst (λ k. AreAimed F h.lists k first.others t.under t.behind) place_is aimed.1;
      step = step;
      row = row;
      last = record { place = t.aim - 1; aim_is = refl; step_is = step_at; row_is = row_at };
      row_at = r;
      step_is = split_at (map step_of to) r.before r.step (t.aim - 1) (step_of step) r.behind r.split r.place_is (get_map step_of to (t.aim - 1) step step_at);
      to_is = to_is;
      few = subst (λ l. length (steps_on h.trail ++ l) + 2 ≤ 7 * length (map step_of to)) t.steps_are h.few;
    }

-- there are looks left
pub looks_some : (w : Walk) (looks : ℕ) (aims : List ℕ) (to : List Step) → HasLooks w looks to → IsLedTo w aims to → 0 < looks
looks_some w looks aims to has h =
    let same : has.steps.left ≡ h.left = stack_one w.goals.items w.left has.steps.left h.left has.steps.left_is h.on.left_is in
    let all : units has.steps.left ≡ units h.left = ap units same in
    let own = aimed_units w.forest.now h.lists (length w.steps.items) h.left aims h.steps h.aimed in
    let both = length-append (steps_on h.trail) h.steps in
    let counts = h.on.is.done.counted.all in
    let count = has.steps.count in
    let looks_are = has.looks_are in
    let few = h.few in
    omega arith

-- ---- parts

-- a node's children are written with a step
pub parts_some : (w : Walk) (node : ℕ) → IsForest w.forest.now → node < length w.forest.now.nodes → (lists : Lists) (own : List Step) → AreAllLists w.forest.now lists → StandsFor w.forest.now lists (Parts node) own → 0 < size_of w.forest.now.flat own
parts_some w node is lt lists own all (cs, held, same) =
    let F : Forest = w.forest.now in
    let there = at_node F node lt in
    let are = is.alternatives (node_at F node) (contains_from F.nodes (node_at F node) (get_among F.nodes node (node_at F node) there)) in
    let dot = are.dot_is in
    let spans = (((all.nodes node (node_at F node) there).exact cs).0 held).0 in
    subst (λ l. 0 < size_of F.flat l) (sym same) (children_some F is spans (omega (arith, dot)))

module _ (w : Walk) (node : ℕ) (lt : node < length w.forest.now.nodes) (aims : List ℕ) (to : List TreeStep) (rows : List LeadRow) (h : IsLedGoal w (Parts node) aims to rows) where
  abbrev F : Forest
  F = w.forest.now

  pub part : IsPartLed w.forest.now h.on.is.forest h.lists h.on.all node (node_at w.forest.now node) h.stands.0 h.others h.under h.behind (size_of w.forest.now.flat (steps_on h.trail)) (suc h.place) h.row.from h.row.below
  part = parts_led w.forest.now h.on.is.forest h.lists h.on.all node (node_at w.forest.now node) (at_node w.forest.now node lt) h.stands.0 h.stands.1 h.others h.under (steps_on h.trail) h.behind (map step_of to) h.place h.row.from h.row.below
      (h.to_is ∙ ap (λ l. steps_written w.forest.now.written w.forest.now.flat [] (steps_on h.trail ++ (l ++ h.behind))) h.stands.2) (h.size ∙ ap (λ l. size_of w.forest.now.flat (steps_on h.trail) + size_of w.forest.now.flat l) h.stands.2) h.row_at h.rest

  are : AreAlternatives w.forest.now (node_at w.forest.now node).key (node_at w.forest.now node).alternatives
  are = h.on.is.forest.alternatives (node_at w.forest.now node) (contains_from w.forest.now.nodes (node_at w.forest.now node) (get_among w.forest.now.nodes node (node_at w.forest.now node) (at_node w.forest.now node lt)))

  -- an alternative begins where it is looked for
  pub part_there : position (λ (a : Alternative). a.start == sought (node_at w.forest.now node).key h.row.from) (node_at w.forest.now node).alternatives ≡ None → ⊥
  part_there none = position_some w.forest.now (node_at w.forest.now node).key (node_at w.forest.now node).alternatives (sought (node_at w.forest.now node).key h.row.from) part.alternative are part.among part.start none

  -- and is the derivation's
  pub part_option : (at : ℕ) → position (λ (a : Alternative). a.start == sought (node_at w.forest.now node).key h.row.from) (node_at w.forest.now node).alternatives ≡ Some at →
      slice_get (options w.forest.now (Parts node)) at ≡ Some (alternative_goals w.forest.now (node_at w.forest.now node) part.alternative)
  part_option at e =
      ap (λ x. slice_get (node_options w.forest.now x) at) (at_node w.forest.now node lt)
      ∙ get_map (alternative_goals w.forest.now (node_at w.forest.now node)) (node_at w.forest.now node).alternatives at part.alternative
      (position_is w.forest.now (node_at w.forest.now node).key (node_at w.forest.now node).alternatives (sought (node_at w.forest.now node).key h.row.from) at part.alternative are part.among part.start e)

  -- what the search led to
  pub part_result : (result : Option Led) → LeadsToPart w.forest.now node h.row (suc h.place) result →
      (at : ℕ) × (position (λ (a : Alternative). a.start == sought (node_at w.forest.now node).key h.row.from) (node_at w.forest.now node).alternatives ≡ Some at)
      × LeadsTo at (suc h.place) (upper_of (node_at w.forest.now node).key h.row.below) result
  part_result result leads = go (position (λ (a : Alternative). a.start == sought (node_at w.forest.now node).key h.row.from) (node_at w.forest.now node).alternatives) refl
    where
      go : (found : Option ℕ) → position (λ (a : Alternative). a.start == sought (node_at w.forest.now node).key h.row.from) (node_at w.forest.now node).alternatives ≡ found →
          (at : ℕ) × (position (λ (a : Alternative). a.start == sought (node_at w.forest.now node).key h.row.from) (node_at w.forest.now node).alternatives ≡ Some at)
          × LeadsTo at (suc h.place) (upper_of (node_at w.forest.now node).key h.row.below) result
      go None e = absurd (part_there e)
      go (Some at) e = (at, e, leads at e)

  -- so the walk stays led
  pub led_part : (n : Walk) (at : ℕ) → n.forest ≡ w.forest → n.steps ≡ w.steps → Chooses w.forest.now n (Parts node) at h.lists h.trail h.others →
      position (λ (a : Alternative). a.start == sought (node_at w.forest.now node).key h.row.from) (node_at w.forest.now node).alternatives ≡ Some at →
      IsLedTo n (over h.under (suc h.place) (upper_of (node_at w.forest.now node).key h.row.below)) (map step_of to)
  led_part n at forest kept c e =
      led_chose w n h.lists h.trail (Parts node) at h.others (alternative_goals w.forest.now (node_at w.forest.now node) part.alternative) (over h.under (suc h.place) (upper_of (node_at w.forest.now node).key h.row.below)) (h.own ++ h.behind) (map step_of to)
      forest kept c (part_option at e)
      (subst (λ k. AreAimed w.forest.now h.lists k (alternative_goals w.forest.now (node_at w.forest.now node) part.alternative ++ h.others) (over h.under (suc h.place) (upper_of (node_at w.forest.now node).key h.row.below)) (h.own ++ h.behind))
      (sym (written_size w h.lists h.trail (Parts node ∷ h.others) h.on))
      (subst (λ l. AreAimed w.forest.now h.lists (size_of w.forest.now.flat (steps_on h.trail)) (alternative_goals w.forest.now (node_at w.forest.now node) part.alternative ++ h.others) (over h.under (suc h.place) (upper_of (node_at w.forest.now node).key h.row.below)) (l ++ h.behind))
      (sym h.stands.2) part.aimed)) h.to_is h.few

-- ---- one of the whole rules over a span

pub one_some : (w : Walk) (start end : ℕ) (nodes : List ℕ) → IsForest w.forest.now → ((n : ℕ) → Contains nodes n → n < length w.forest.now.nodes) → (lists : Lists) (own : List Step) → AreAllLists w.forest.now lists →
    StandsFor w.forest.now lists (OneOf start end nodes) own → 0 < size_of w.forest.now.flat own
one_some w start end nodes is within lists own all o =
    let F : Forest = w.forest.now in
    let r : ℕ = rule_of (slice_get F.nodes o.node) in
    let inside = parts_some w o.node is (within o.node o.among) lists (steps_of_all o.children) all (o.children, o.held, refl) in
    let both = size_both F.flat (steps_of_all o.children) (RuleStep (rule_of (slice_get F.nodes o.node)) (child_count o.children) start end ∷ []) in
    subst (λ l. 0 < size_of F.flat l) (sym o.steps_are) (omega (arith, inside, both))

module _ (w : Walk) (start end : ℕ) (nodes : List ℕ) (aims : List ℕ) (to : List TreeStep) (rows : List LeadRow) (h : IsLedGoal w (OneOf start end nodes) aims to rows) where
  there : slice_get nodes h.stands.among.0 ≡ Some h.stands.node
  there = slice_get-get_or nodes h.stands.among.0 h.stands.node h.stands.among.1 ∙ ap Some h.stands.among.2

  within : (n : ℕ) → Contains nodes n → n < length w.forest.now.nodes
  within = h.on.ready.0.1

  done_is : length w.steps.items ≡ size_of w.forest.now.flat (steps_on h.trail)
  done_is = written_size w h.lists h.trail (OneOf start end nodes ∷ h.others) h.on

  told_here : IsTold w.forest.now (node_at w.forest.now h.stands.node).key (step_of h.step) h.row.below (length w.steps.items)
  told_here =
      subst (λ k. IsTold w.forest.now (node_at w.forest.now h.stands.node).key (step_of h.step) h.row.below k) (sym done_is)
      (subst (λ s. IsTold w.forest.now (node_at w.forest.now h.stands.node).key s h.row.below (size_of w.forest.now.flat (steps_on h.trail))) h.step_is
      (told_node w.forest.now h.on.is.forest h.lists h.on.all start end nodes h.own h.stands (steps_on h.trail) h.behind (map step_of to) h.place h.row.from h.row.below h.to_is h.size h.row_at))

  -- it is the first that is told
  pub led_node : IsToldAt w.forest.now nodes (step_of h.step) h.row.below (length w.steps.items) h.stands.among.0 h.stands.node
  led_node = record {
    there = there;
    told = told_here;
    first = λ k m lt at told.
        let held = contains_from nodes m (get_among nodes k m at) in
        let back = subst (λ j. IsTold w.forest.now (node_at w.forest.now m).key (step_of h.step) h.row.below j) done_is told in
        let back' = subst (λ s. IsTold w.forest.now (node_at w.forest.now m).key s h.row.below (size_of w.forest.now.flat (steps_on h.trail))) (sym h.step_is) back in
        let same = told_only w.forest.now h.on.is.forest h.lists h.on.all start end nodes h.own h.stands (steps_on h.trail) h.behind (map step_of to) h.place h.row.from h.row.below h.to_is h.size h.row_at
        m (node_at w.forest.now m) held (at_node w.forest.now m (within m held)) back' in
        let place = place_once w.forest.now h.on.is.forest h.stands.symbol start end nodes h.stands.wholes k h.stands.among.0 m at (there ∙ ap Some same) in
        omega (arith, lt, place);
  }

  pub one_result : (result : Option Led) → LeadsToNode w.forest.now nodes (step_of h.step) h.row.below (length w.steps.items) (suc h.place) result →
      LeadsTo h.stands.among.0 (suc h.place) (Some (cond (is_list_rule w.forest.now.flat (node_at w.forest.now h.stands.node).key.rule) (suc h.place) h.place)) result
  one_result result leads = leads h.stands.among.0 h.stands.node h.place refl led_node

  pub led_one : (n : Walk) → n.forest ≡ w.forest → n.steps ≡ w.steps → Chooses w.forest.now n (OneOf start end nodes) h.stands.among.0 h.lists h.trail h.others →
      IsLedTo n (over h.under (suc h.place) (Some (cond (is_list_rule w.forest.now.flat (node_at w.forest.now h.stands.node).key.rule) (suc h.place) h.place))) (map step_of to)
  led_one n forest kept c =
      led_chose w n h.lists h.trail (OneOf start end nodes) h.stands.among.0 h.others (whole_goals w.forest.now start end h.stands.node)
      (over h.under (suc h.place) (Some (cond (is_list_rule w.forest.now.flat (node_at w.forest.now h.stands.node).key.rule) (suc h.place) h.place))) (h.own ++ h.behind) (map step_of to)
      forest kept c (get_map (whole_goals w.forest.now start end) nodes h.stands.among.0 h.stands.node there)
      (subst (λ k. AreAimed w.forest.now h.lists k (whole_goals w.forest.now start end h.stands.node ++ h.others)
      (over h.under (suc h.place) (Some (cond (is_list_rule w.forest.now.flat (node_at w.forest.now h.stands.node).key.rule) (suc h.place) h.place))) (h.own ++ h.behind)) (sym done_is)
      (wholes_aimed w.forest.now h.on.is.forest h.lists h.on.all start end nodes h.own h.stands (steps_on h.trail) h.behind (map step_of to) h.place h.row.from h.row.below h.to_is h.size h.row_at
      h.others h.under (cond (is_list_rule w.forest.now.flat (node_at w.forest.now h.stands.node).key.rule) (suc h.place) h.place)
      (upper_node w.forest.now h.on.is.forest h.lists h.on.all start end nodes h.own h.stands (steps_on h.trail) h.behind (map step_of to) h.place h.row.from h.row.below h.to_is h.size h.row_at) h.rest)) h.to_is h.few

-- ---- a step is written

pub led_wrote : (w n : Walk) (step : Step) (behind : ℕ) (aims : List ℕ) (to : List Step) → IsAbout w (Write step) behind → n.forest ≡ w.forest →
    ((lists : Lists) (trail : Trail) (others : List Goal) → IsOn w lists trail (Write step ∷ others) → IsOn n lists (Wrote trail step) others) → IsLedTo w aims to → (under : List ℕ) × (aim : ℕ) × (aims ≡ under ++ aim ∷ []) × IsLedTo n under to
led_wrote w n step behind aims to a forest on h =
    let F : Forest = w.forest.now in
    let same : w.forest.now ≡ n.forest.now = ap (λ (x : _). x.now) (sym forest) in
    let first = left_behind w (Write step) behind a h.left h.on.left_is in
    let before : IsOn w h.lists h.trail (Write step ∷ first.others) = subst (IsOn w h.lists h.trail) first.all h.on in
    let aimed : AreAimed F h.lists (length w.steps.items) (Write step ∷ first.others) aims h.steps = subst (λ l. AreAimed F h.lists (length w.steps.items) l aims h.steps) first.all h.aimed in
    let t = aimed.0 in
    let after = on h.lists h.trail first.others before in
    let old = written_size w h.lists h.trail h.left h.on in
    let new = written_size n h.lists (Wrote h.trail step) first.others after in
    let new' : length n.steps.items ≡ size_of F.flat (steps_on h.trail ++ step ∷ []) = new ∙ ap (λ (f : Forest). size_of f.flat (steps_on h.trail ++ step ∷ [])) (sym same) in
    let both = size_both F.flat (steps_on h.trail) (step ∷ []) in
    let aim : t.aim ≡ length w.steps.items + size_of F.flat (step ∷ []) = t.aim_is ∙ ap (λ l. length w.steps.items + size_of F.flat l) t.stands in
    let here : t.aim ≡ length n.steps.items = omega (arith, old, new', both, aim) in (
      t.under,
      t.aim,
      t.aims_are,
      record {
        lists = h.lists;
        trail = Wrote h.trail step;
        left = first.others;
        on = after;
        steps = t.behind;
        aimed = subst (λ (f : Forest). AreAimed f h.lists (length n.steps.items) first.others t.under t.behind) same (subst (λ k. AreAimed F h.lists k first.others t.under t.behind) here aimed.1);
        to_is = h.to_is ∙ ap (λ (f : Forest). steps_written f.written f.flat [] (steps_on h.trail ++ h.steps)) same
            ∙ ap (λ l. steps_written n.forest.now.written n.forest.now.flat [] (steps_on h.trail ++ l)) (t.steps_are ∙ ap (λ l. l ++ t.behind) t.stands)
            ∙ ap (steps_written n.forest.now.written n.forest.now.flat []) (sym (append_assoc (steps_on h.trail) (step ∷ []) t.behind));
        few = subst (λ (l : List Step). length l + 2 ≤ 7 * length to) (ap (λ l. steps_on h.trail ++ l) (t.steps_are ∙ ap (λ l. l ++ t.behind) t.stands) ∙ sym (append_assoc (steps_on h.trail) (step ∷ []) t.behind)) h.few;
      },
    )

-- ---- an option is chosen

-- the option that is led to, after which the walk is still led
pub record IsLedChoice (w : Walk) (goal : Goal) (under : List ℕ) (to : List Step) (result : Option Led) : Type 0 where
  pub led : Led
  pub is : result ≡ Some led
  pub on : (n : Walk) → n.forest ≡ w.forest → n.steps ≡ w.steps → ((lists : Lists) (trail : Trail) (others : List Goal) → IsOn w lists trail (goal ∷ others) → Chooses w.forest.now n goal led.at lists trail others) →
      IsLedTo n (over under led.aim led.upper) to

pub led_choice : (w : Walk) (fork : Fork) (behind : ℕ) (to : List TreeStep) (rows : List LeadRow) (looks : ℕ) (aims under : List ℕ) (aim : ℕ) (result : Option Led) → IsAbout w (fork_of fork) behind → AreRows rows (map step_of to) →
    IsLedTo w aims (map step_of to) → aims ≡ under ++ aim ∷ [] → 0 < looks →
    ((step : TreeStep) (row : LeadRow) → IsLastRow to rows aim step row → 0 < looks → LeadsOn w.forest.now (fork_of fork) step row (length w.steps.items) aim result) →
    IsLedChoice w (fork_of fork) under (map step_of to) result
led_choice w (fork.Parts node) behind to rows looks aims under aim result a are led aims_are some leads =
    let lt = fork_goal w (fork.Parts node) behind a in
    let h = led_goal w (Parts node) behind aims to rows a are led (parts_some w node led.on.is.forest lt) in
    let ends = same_ends under h.under aim (suc h.place) (sym aims_are ∙ h.aims_are) in
    let last : IsLastRow to rows aim h.step h.row = subst (λ k. IsLastRow to rows k h.step h.row) (sym ends.lasts) h.last in
    let found = leads h.step h.row last some in
    let (at, e, r) = part_result w node lt aims to rows h result (subst (λ k. LeadsToPart w.forest.now node h.row k result) ends.lasts found) in
    record {
      led = r.led;
      is = r.is;
      on = λ n forest kept chooses.
          subst (λ u. IsLedTo n u (map step_of to)) (λ i. over (sym ends.prefixes i) (sym r.aim_is i) (sym r.upper_is i))
          (led_part w node lt aims to rows h n at forest kept (subst (λ k. Chooses w.forest.now n (Parts node) k h.lists h.trail h.others) r.at_is (chooses h.lists h.trail h.others h.on)) e);
    }
led_choice w (fork.OneOf start end nodes) behind to rows looks aims under aim result a are led aims_are some leads =
    let goal = fork_goal w (fork.OneOf start end nodes) behind a in
    let h = led_goal w (OneOf start end nodes.now) behind aims to rows a are led (one_some w start end nodes.now led.on.is.forest goal.1) in
    let ends = same_ends under h.under aim (suc h.place) (sym aims_are ∙ h.aims_are) in
    let last : IsLastRow to rows aim h.step h.row = subst (λ k. IsLastRow to rows k h.step h.row) (sym ends.lasts) h.last in
    let found = leads h.step h.row last some in
    let r = one_result w start end nodes.now aims to rows h result (subst (λ k. LeadsToNode w.forest.now nodes.now (step_of h.step) h.row.below (length w.steps.items) k result) ends.lasts found) in
    record {
      led = r.led;
      is = r.is;
      on = λ n forest kept chooses.
          subst (λ u. IsLedTo n u (map step_of to)) (λ i. over (sym ends.prefixes i) (sym r.aim_is i) (sym r.upper_is i))
          (led_one w start end nodes.now aims to rows h n forest kept (subst (λ k. Chooses w.forest.now n (OneOf start end nodes.now) k h.lists h.trail h.others) r.at_is (chooses h.lists h.trail h.others h.on)));
    }

-- ---- a guide goes on

-- the guide's aims and looks alone have changed
pub leads_with : (old new : Guide) (w : Walk) → new.rows ≡ old.rows → new.to ≡ old.to → IsGuide old → HasLooks w new.looks (map step_of old.to.now) → IsLedTo w new.aims.items (map step_of old.to.now) → Leads new w
leads_with old new w rows to is looks led = record {
  rows = subst (λ (r : _). AreRows r.items (map step_of new.to.now)) (sym rows) (subst (λ (t : _). AreRows old.rows.items (map step_of t.now)) (sym to) is);
  looks = subst (λ (t : _). HasLooks w new.looks (map step_of t.now)) (sym to) looks;
  led = subst (λ (t : _). IsLedTo w new.aims.items (map step_of t.now)) (sym to) led;
}

-- a step was written, and its aim is taken off
pub wrote_leads : (w n : Walk) (old new : Guide) (step : Step) (behind : ℕ) → IsAbout w (Write step) behind → n.forest ≡ w.forest →
    ((lists : Lists) (trail : Trail) (others : List Goal) → IsOn w lists trail (Write step ∷ others) → IsOn n lists (Wrote trail step) others) → ((k : ℕ) → HasSteps w k → HasSteps n k) →
    new.rows ≡ old.rows → new.to ≡ old.to → new.looks ≡ old.looks → new.aims.items ≡ take (length old.aims.items - 1) old.aims.items → Leads old w → Leads new n
wrote_leads w n old new step behind about forest on keeps rows to looks rest h =
    let (under, aim, aims_are, led) = led_wrote w n step behind old.aims.items (map step_of old.to.now) about forest on h.led in
    let all = ap (λ (l : List ℕ). length l) aims_are in
    let long = length-append under (aim ∷ []) in
    let size : length old.aims.items - 1 ≡ length under = omega arith in
    let popped : new.aims.items ≡ under = rest ∙ (λ i. take (size i) (aims_are i)) ∙ take-append_seam under (aim ∷ []) in
    let looks_are = h.looks.looks_are in
    leads_with old new n rows to h.rows (record { n = h.looks.n; steps = keeps h.looks.n h.looks.steps; looks_are = ap (λ k. k + h.looks.n) looks ∙ looks_are }) (subst (λ a. IsLedTo n a (map step_of old.to.now)) (sym popped) led)

-- an option leads on
pub led_option : (w mid : Walk) (old : Guide) (popped : List ℕ) (fork : Fork) (behind aim : ℕ) (result : Option Led) → IsAbout w (fork_of fork) behind → Stays w mid → old.aims.items ≡ popped ++ aim ∷ [] →
    ((step : TreeStep) (row : LeadRow) → IsLastRow old.to.now old.rows.items aim step row → 0 < old.looks → LeadsOn mid.forest.now (fork_of fork) step row (length mid.steps.items) aim result) → Leads old w →
    IsLedChoice mid (fork_of fork) popped (map step_of old.to.now) result
led_option w mid old popped fork behind aim result about stays aims leads h =
    let on = led_stays w mid old.aims.items (map step_of old.to.now) stays h.led in
    let looks : HasLooks mid old.looks (map step_of old.to.now) = record { n = h.looks.n; steps = stays.steps h.looks.n h.looks.steps; looks_are = h.looks.looks_are } in
    let some = looks_some mid old.looks old.aims.items (map step_of old.to.now) looks on in
    led_choice mid fork behind old.to.now old.rows.items old.looks old.aims.items popped aim result (stays.about (fork_of fork) behind about) h.rows on aims some leads

-- and there is one
pub led_some : (w mid : Walk) (old : Guide) (popped : List ℕ) (fork : Fork) (behind aim : ℕ) (result : Option Led) → IsAbout w (fork_of fork) behind → Stays w mid → old.aims.items ≡ popped ++ aim ∷ [] →
    ((step : TreeStep) (row : LeadRow) → IsLastRow old.to.now old.rows.items aim step row → 0 < old.looks → LeadsOn mid.forest.now (fork_of fork) step row (length mid.steps.items) aim result) → Leads old w → result ≡ None → ⊥
led_some w mid old popped fork behind aim result about stays aims leads h none = never (led_option w mid old popped fork behind aim result about stays aims leads h).led (sym none ∙ (led_option w mid old popped fork behind aim result about stays aims leads h).is)
  where
    never : (l : Led) → None ≡ Some l → ⊥
    never l e = cc

-- a goal that is left has its aim
pub has_aim : (w : Walk) (goal : Goal) (behind : ℕ) (aims : List ℕ) (to : List Step) → IsAbout w goal behind → IsLedTo w aims to → 0 < length aims
has_aim w goal behind aims to a h =
    let first = left_behind w goal behind a h.left h.on.left_is in
    let aimed : AreAimed w.forest.now h.lists (length w.steps.items) (goal ∷ first.others) aims h.steps = subst (λ l. AreAimed w.forest.now h.lists (length w.steps.items) l aims h.steps) first.all h.aimed in
    let all = ap (λ (l : List ℕ). length l) aimed.0.aims_are in
    let long = length-append aimed.0.under (aimed.0.aim ∷ []) in
    omega arith

-- an option that leads on was chosen
pub chose_leads : (w mid n : Walk) (old popped new : Guide) (fork : Fork) (behind aim : ℕ) (result : Option Led) (led : Led) → IsAbout w (fork_of fork) behind → Stays w mid → n.forest ≡ mid.forest → n.steps ≡ mid.steps →
    ((lists : Lists) (trail : Trail) (others : List Goal) → IsOn mid lists trail (fork_of fork ∷ others) → Chooses mid.forest.now n (fork_of fork) led.at lists trail others) →
    ((k : ℕ) → HasSteps mid k → HasSteps n (k + look (fork_of fork))) → old.aims.items ≡ popped.aims.items ++ aim ∷ [] →
    ((step : TreeStep) (row : LeadRow) → IsLastRow old.to.now old.rows.items aim step row → 0 < old.looks → LeadsOn mid.forest.now (fork_of fork) step row (length mid.steps.items) aim result) →
    result ≡ Some led → new.rows ≡ old.rows → new.to ≡ old.to → old.looks ≡ new.looks + look (fork_of fork) → new.aims.items ≡ over popped.aims.items led.aim led.upper → Leads old w → Leads new n
chose_leads w mid n old popped new fork behind aim result led about stays forest kept chooses steps aims leads is rows to taken over_is h =
    let looks : HasLooks mid old.looks (map step_of old.to.now) = record { n = h.looks.n; steps = stays.steps h.looks.n h.looks.steps; looks_are = h.looks.looks_are } in
    let choice = led_option w mid old popped.aims.items fork behind aim result about stays aims leads h in
    let same : choice.led ≡ led = some_same choice.led led (sym choice.is ∙ is) in
    let after = choice.on n forest kept (subst (λ (l : Led). (lists : Lists) (trail : Trail) (others : List Goal) → IsOn mid lists trail (fork_of fork ∷ others) → Chooses mid.forest.now n (fork_of fork) l.at lists trail others) (sym same) chooses) in
    let looks_are = h.looks.looks_are in
    leads_with old new n rows to h.rows (record { n = h.looks.n + look (fork_of fork); steps = steps h.looks.n looks.steps; looks_are = omega arith })
    (subst (λ a. IsLedTo n a (map step_of old.to.now)) (ap (λ (l : Led). over popped.aims.items l.aim l.upper) same ∙ sym over_is) after)

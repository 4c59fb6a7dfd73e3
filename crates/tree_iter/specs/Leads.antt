-- What leads a walk to the derivation that has these steps: a row for each of them.
use Rattle.std.specs.Prelude.{◌≡◌, ◌≢◌, ◌↔◌, ℕ, suc, ◌+◌, ◌*◌, ◌<◌, ◌≤◌, ◌==◌, Bool, true, false, cond, List, [], ◌∷◌, ◌++◌, length, map, position, Option, Some, None, slice_get, Contains}
use Rattle.grammar_model.specs.Grammar.{rule_at, has_trailing}
use Rattle.recognizer_model.specs.declared.NodeKey.{NodeKey}
use Rattle.grammar_model.specs.Trees.{Children, Node}
use Rattle.grammar_model.specs.Steps.{Step, TokenStep, NulledStep, RuleStep, steps_of, steps_of_all}
use Rattle.recognizer_model.specs.declared.flat.FlatSource.{FlatSource}
use Rattle.recognizer_model.specs.declared.flat.FlatSource.TheVariants.{Written, Top as OfStart}
use Rattle.recognizer_model.specs.Flat.{FlatGrammar, source_of, part_of}
use Rattle.forest_model.specs.Forest.{Forest, AreWholes}
use Rattle.forest_laws.specs.Lists.{Lists, rule_of}
use Rattle.forest_laws.specs.Goals.{Goal, Parts, OneOf, Write, options}
use Rattle.forest_laws.specs.Written.{is_list_rule, steps_written}
use Rattle.forest_laws.specs.Guide.{top_of, all_ends, IsRowAt}
use Rattle.bocage.specs.Readers.{node_at}
use Rattle.grammar_core.specs.declared.steps.TreeStep.{TreeStep}
use Rattle.tree_iter.specs.declared.leads.LeadRow.{LeadRow}
use Rattle.tree_iter.specs.declared.jump.Led.{Led}
use Rattle.tree_iter.specs.declared.jump.Guide.{Guide}
use Rattle.grammar_core.specs.Steps.{step_of}
use Rattle.tree_iter.specs.declared.walk.Walk.{Walk}
use Rattle.tree_iter.specs.Goals.{goal_opened, IsOpened}
use Rattle.tree_iter.specs.Walk.{Trail, IsOn, HasSteps, StandsBefore, steps_on}

-- the rows tell after how many steps each tree of a stack ends
abbrev pub AreEnds : List LeadRow → List ℕ → Type 0
AreEnds rows [] = Unit {0}
AreEnds rows (end ∷ ends) = (place : ℕ) × (row : LeadRow) × (end ≡ suc place) × (slice_get rows place ≡ Some row) × (row.below ≡ top_of ends) × AreEnds rows ends

-- each of the steps has its row
pub record AreRows (rows : List LeadRow) (steps : List Step) : Type 0 where
  pub all : length rows ≡ length steps
  pub each : (place : ℕ) (row : LeadRow) → slice_get rows place ≡ Some row → IsRowAt steps place row.from row.below
  pub ends : AreEnds rows (all_ends [] 0 steps)

-- it is an option of the goal
pub record IsOptionOf (f : Forest) (goal : Goal) (led : Led) : Type 0 where
  pub goal_is : goal_opened led.opened ≡ goal
  pub opened : IsOpened f led.opened
  pub at : led.at < length (options f goal)

-- none of these flat derivations that has so few steps is written as those
abbrev pub HasNoFlat : Forest → List (List Step) → List Step → Type 0
HasNoFlat f rest steps = (flat : List Step) → Contains rest flat → length flat + 2 ≤ 7 * length steps → steps_written f.written f.flat [] flat ≢ steps

-- nor is one that stands before the walk
abbrev pub HasNoFlatBefore : Walk → List Step → Type 0
HasNoFlatBefore w steps = (rest : List (List Step)) → StandsBefore w rest → HasNoFlat w.forest.now rest steps

-- ---- how far a walk is led

-- how many steps a flat step is written as, whatever is before it
abbrev pub rule_size : Bool → FlatSource → ℕ
rule_size true source = 0
rule_size false (Written i) = 1
rule_size false (OfStart k) = 0

abbrev pub step_size : FlatGrammar → Step → ℕ
step_size g (TokenStep x from to) = 1
step_size g (NulledStep x at) = 1
step_size g (RuleStep r n from to) = rule_size (is_list_rule g r) (source_of g r)

abbrev pub size_of : FlatGrammar → List Step → ℕ
size_of g [] = 0
size_of g (step ∷ steps) = step_size g step + size_of g steps

-- the nodes are those of a part of some rule over the span, and the steps are those of one of their trees
pub record IsOneOf (f : Forest) (lists : Lists) (start end : ℕ) (nodes : List ℕ) (steps : List Step) : Type 0 where
  pub rule : ℕ
  pub dot : ℕ
  pub symbol : ℕ
  pub part : part_of f.flat rule dot ≡ Some symbol
  pub wholes : AreWholes f symbol start end nodes
  pub node : ℕ
  pub among : Contains nodes node
  pub children : Children
  pub held : Contains (lists node) children
  pub steps_are : steps ≡ steps_of (Node (rule_of (slice_get f.nodes node)) children start end)

-- a goal stands for these steps
abbrev pub StandsFor : Forest → Lists → Goal → List Step → Type 0
StandsFor f lists (Parts node) steps = (children : Children) × Contains (lists node) children × (steps ≡ steps_of_all children)
StandsFor f lists (OneOf start end nodes) steps = IsOneOf f lists start end nodes steps
StandsFor f lists (Write step) steps = steps ≡ step ∷ []

-- the goal stands for the first of these steps, and its aim, the last of these, is how many steps are written with them
pub record IsAimed (f : Forest) (lists : Lists) (done : ℕ) (goal : Goal) (aims : List ℕ) (steps : List Step) : Type 0 where
  pub under : List ℕ
  pub aim : ℕ
  pub aims_are : aims ≡ under ++ aim ∷ []
  pub own : List Step
  pub behind : List Step
  pub steps_are : steps ≡ own ++ behind
  pub stands : StandsFor f lists goal own
  pub aim_is : aim ≡ done + size_of f.flat own

-- goals stand for these steps, one after another, where so many steps were written before
abbrev pub AreAimed : Forest → Lists → (done : ℕ) → List Goal → (aims : List ℕ) → List Step → Type 0
AreAimed f lists done [] aims steps = steps ≡ []
AreAimed f lists done (goal ∷ goals) aims steps = (t : IsAimed f lists done goal aims steps) × AreAimed f lists t.aim goals t.under t.behind

-- the walk is on the way to a flat derivation that is written as these steps
pub record IsLedTo (w : Walk) (aims : List ℕ) (to : List Step) : Type 0 where
  pub lists : Lists
  pub trail : Trail
  pub left : List Goal
  pub on : IsOn w lists trail left
  pub steps : List Step
  pub aimed : AreAimed w.forest.now lists (length w.steps.items) left aims steps
  pub to_is : to ≡ steps_written w.forest.now.written w.forest.now.flat [] (steps_on trail ++ steps)
  pub few : length (steps_on trail ++ steps) + 2 ≤ 7 * length to

-- the last step of a whole rule's tree and its row tell the node: a list's rule by whether one tree lies there, another by its written
-- rule and by whether a separator is last
abbrev pub IsRuleTold : Forest → NodeKey → Step → Type 0
IsRuleTold f key (TokenStep x from to) = ⊥
IsRuleTold f key (NulledStep x at) = ⊥
IsRuleTold f key (RuleStep i n from to) = (source_of f.flat key.rule ≡ Written i) × (has_trailing (rule_at f.written i) key.dot ≡ has_trailing (rule_at f.written i) n)

abbrev pub IsToldBy : Bool → Forest → NodeKey → Step → (below done : ℕ) → Type 0
IsToldBy true f key step below done = (key.dot ≡ 1) ↔ (below ≡ done)
IsToldBy false f key step below done = IsRuleTold f key step

abbrev pub IsTold : Forest → NodeKey → Step → (below done : ℕ) → Type 0
IsTold f key step below done = IsToldBy (is_list_rule f.flat key.rule) f key step below done

-- the step that is the last of those up to an aim, with its row
pub record IsLastRow (to : List TreeStep) (rows : List LeadRow) (aim : ℕ) (step : TreeStep) (row : LeadRow) : Type 0 where
  pub place : ℕ
  pub aim_is : aim ≡ suc place
  pub step_is : slice_get to place ≡ Some step
  pub row_is : slice_get rows place ≡ Some row

-- it holds of the step and the row that are the last of those up to an aim, if there are any
abbrev pub AtAim : Guide → (aim : ℕ) → (TreeStep → LeadRow → Type 0) → Type 0
AtAim guide aim P = (step : TreeStep) (row : LeadRow) → IsLastRow guide.to.now guide.rows.items aim step row → P step row

-- this option is the one that is led to, and these are the aims of its goals
pub record LeadsTo (at aim : ℕ) (upper : Option ℕ) (result : Option Led) : Type 0 where
  pub led : Led
  pub is : result ≡ Some led
  pub at_is : led.at ≡ at
  pub aim_is : led.aim ≡ aim
  pub upper_is : led.upper ≡ upper

-- where the last part of a node is looked for, and the aim of the parts before it, by the row of the last step
abbrev pub sought : NodeKey → (from : ℕ) → ℕ
sought key from = cond (key.dot == 1) key.origin from

abbrev pub upper_of : NodeKey → (below : ℕ) → Option ℕ
upper_of key below = cond (key.dot == 1) None (Some below)

-- the aims of an option's goals, put over those of the others
abbrev pub over : List ℕ → (aim : ℕ) → Option ℕ → List ℕ
over under aim None = under ++ aim ∷ []
over under aim (Some upper) = (under ++ aim ∷ []) ++ upper ∷ []

-- the first of the nodes that the step and its row tell
pub record IsToldAt (f : Forest) (nodes : List ℕ) (step : Step) (below done at n : ℕ) : Type 0 where
  pub there : slice_get nodes at ≡ Some n
  pub told : IsTold f (node_at f n).key step below done
  pub first : (k m : ℕ) → k < at → slice_get nodes k ≡ Some m → IsTold f (node_at f m).key step below done → ⊥

-- what a search for the last part of a node leads to
abbrev pub LeadsToPart : Forest → (node : ℕ) → LeadRow → (aim : ℕ) → Option Led → Type 0
LeadsToPart f node row aim result = (at : ℕ) → position (λ a. a.start == sought (node_at f node).key row.from) (node_at f node).alternatives ≡ Some at → LeadsTo at aim (upper_of (node_at f node).key row.below) result

-- what a search for the node of a whole rule leads to
abbrev pub LeadsToNode : Forest → (nodes : List ℕ) → Step → (below done aim : ℕ) → Option Led → Type 0
LeadsToNode f nodes step below done aim result = (at n place : ℕ) → aim ≡ suc place → IsToldAt f nodes step below done at n → LeadsTo at aim (Some (cond (is_list_rule f.flat (node_at f n).key.rule) aim place)) result

abbrev pub LeadsOn : Forest → Goal → TreeStep → LeadRow → (done aim : ℕ) → Option Led → Type 0
LeadsOn f (Parts node) step row done aim result = LeadsToPart f node row aim result
LeadsOn f (OneOf start end nodes) step row done aim result = LeadsToNode f nodes (step_of step) row.below done aim result
LeadsOn f (Write written) step row done aim result = Unit {0}

-- the same, by how many steps the walk has written
abbrev pub LeadsToNodeOf : Walk → (nodes : List ℕ) → TreeStep → LeadRow → (aim : ℕ) → Option Led → Type 0
LeadsToNodeOf w nodes step row aim result = LeadsToNode w.forest.now nodes (step_of step) row.below (length w.steps.items) aim result

abbrev pub LeadsOnFrom : Walk → Goal → TreeStep → LeadRow → (aim : ℕ) → Option Led → Type 0
LeadsOnFrom w goal step row aim result = LeadsOn w.forest.now goal step row (length w.steps.items) aim result

-- a guide has a row for each of its steps
abbrev pub IsGuide : Guide → Type 0
IsGuide guide = AreRows guide.rows.items (map step_of guide.to.now)

-- each look made the walk longer by one step, from the one step that it had to begin with
pub record HasLooks (w : Walk) (looks : ℕ) (to : List Step) : Type 0 where
  pub n : ℕ
  pub steps : HasSteps w n
  pub looks_are : looks + n ≡ suc (7 * length to)

-- the guide leads the walk, and has looks enough
pub record Leads (guide : Guide) (w : Walk) : Type 0 where
  pub rows : IsGuide guide
  pub looks : HasLooks w guide.looks (map step_of guide.to.now)
  pub led : IsLedTo w guide.aims.items (map step_of guide.to.now)

-- How far a walk has come: its nodes, of which the last one is next, and its steps, of which the last one is the derivation's first so far.
use Rattle.std.specs.Prelude.{◌≡◌, ℕ, suc, ◌-◌, ◌<◌, ◌≤◌, Bool, false, ◌==◌, ◌&&◌, if◌then◌else◌, List, [], ◌∷◌, ◌++◌, map, reverse, length, Option, Some, None, Contains, slice_index_or}
use Rattle.grammar_model.specs.declared.Ranking.{Ranking}
use Rattle.grammar_model.specs.Grammar.{Grammar}
use Rattle.grammar_model.specs.Steps.{Step, TokenStep, NulledStep, RuleStep}
use Rattle.recognizer_model.specs.declared.NodeKey.{NodeKey}
use Rattle.recognizer_model.specs.Flat.{FlatGrammar, rhs_of}
use Rattle.recognizer_model.specs.Nodes.{Placed}
use Rattle.earley_sets.specs.Recognizer.{Recognizer, earleme_of}
use Rattle.forest_model.specs.Forest.{ForestNode, Forest, IsForest}
use Rattle.forest_laws.specs.Goals.{Goal, Parts, root_goals}
use Rattle.forest_laws.specs.Laws.{with_nodes}
use Rattle.forest_parts.specs.declared.parts.Part.{Part}
use Rattle.forest_parts.specs.declared.parts.RuleKey.{RuleKey}
use Rattle.forest_parts.specs.Given.{GivenAt}
use Rattle.bocage.specs.Expanded.{IsGivenIn}
use Rattle.bocage.specs.Walk.{IsUsedIn, top_key}
use Rattle.flat_steps.specs.declared.writing.FlatStep.{FlatStep}
use Rattle.flat_steps.specs.Writing.{flat_step, IsStepOf}
use Rattle.first_walk.specs.declared.walk.Walk.{Walk}
use Rattle.first_walk.specs.Walk.{IsWalk}
use Rattle.first_walk.specs.Place.{reading_of, IsUnder, AreFrom, HasOther}

-- steps that were written the last one first
abbrev pub backwards : List FlatStep → List Step
backwards steps = reverse (map flat_step steps)

-- WHAT A NODE LEADS TO

-- the node of the parts before the last one, if there are any
abbrev pub parts_before : NodeKey → (start : ℕ) → List NodeKey
parts_before key start = if key.dot == 1 then [] else record { rule = key.rule; dot = key.dot - 1; origin = key.origin; end = start } ∷ []

abbrev pub nothing_step : FlatGrammar → NodeKey → Step
nothing_step g key = NulledStep (slice_index_or (rhs_of g key.rule) (key.dot - 1) 0) key.end

-- a whole rule over a span
abbrev pub whole_key_of : FlatGrammar → (rule start end : ℕ) → NodeKey
whole_key_of g rule start end = record { rule = rule; dot = length (rhs_of g rule); origin = start; end = end }

abbrev pub whole_step : FlatGrammar → (rule start end : ℕ) → Step
whole_step g rule start end = RuleStep rule (length (rhs_of g rule)) start end

-- the step of a part, and the node of its rule, if it is one
abbrev pub step_by : FlatGrammar → Option RuleKey → (symbol start end : ℕ) → Step
step_by g None symbol start end = TokenStep symbol start end
step_by g (Some rule) symbol start end = whole_step g rule.rule start end

abbrev pub keys_by : FlatGrammar → Option RuleKey → (start end : ℕ) → List NodeKey
keys_by g None start end = []
keys_by g (Some rule) start end = whole_key_of g rule.rule start end ∷ []

-- where the last part of a node begins
abbrev pub start_of : NodeKey → Option Part → ℕ
start_of key None = key.end
start_of key (Some part) = key.end - part.length

abbrev pub chosen_step : FlatGrammar → NodeKey → Option Part → Step
chosen_step g key None = nothing_step g key
chosen_step g key (Some part) = step_by g part.whole part.symbol (key.end - part.length) key.end

abbrev pub chosen_keys : FlatGrammar → NodeKey → Option Part → List NodeKey
chosen_keys g key None = []
chosen_keys g key (Some part) = keys_by g part.whole (key.end - part.length) key.end

-- GOALS OF A FOREST

abbrev pub is_key : NodeKey → NodeKey → Bool
is_key a b = (a.rule == b.rule) && ((a.dot == b.dot) && ((a.origin == b.origin) && (a.end == b.end)))

-- the number of a key's node
abbrev pub number_of : List ForestNode → NodeKey → ℕ
number_of [] key = 0
number_of (node ∷ nodes) key = if is_key node.key key then 0 else suc (number_of nodes key)

abbrev pub goals_of : Forest → List NodeKey → List Goal
goals_of f keys = map (λ key. Parts (number_of f.nodes key)) keys

-- whatever steps the nodes stand for first, the whole stands first for them and for the steps behind them
abbrev pub IsOn : Forest → List NodeKey → (behind : List Step) → (alone : Bool) → Type 0
IsOn f keys behind alone = (first : List Step) (only : Bool) → IsWalk f (goals_of f keys) first only → IsWalk f (root_goals f f.root) (first ++ behind) (only && alone)

-- each node ends no later than those behind it begin
abbrev pub AreApart : List NodeKey → Type 0
AreApart [] = Unit {0}
AreApart (key ∷ keys) = ((other : NodeKey) → Contains keys other → key.end ≤ other.origin) × AreApart keys

-- a walk in each forest of the reading: its nodes are used ones, and where it is not alone one of those had another alternative
pub record IsUnderWay (w : Grammar) (ranking : Ranking) (r : Recognizer) (keys : List NodeKey) (behind : List Step) (alone : Bool) : Type 0 where
  pub used : (key : NodeKey) → Contains keys key → IsUsedIn w ranking r key
  pub apart : AreApart keys
  pub steps : (step : Step) → Contains behind step → IsStepOf r.flat step
  pub other : alone ≡ false → HasOther w ranking r
  pub on : (nodes : List ForestNode) (root : Option ℕ) → IsForest (with_nodes (reading_of w ranking r) nodes root) → IsOn (with_nodes (reading_of w ranking r) nodes root) keys behind alone

abbrev pub IsWalking : Grammar → Ranking → Recognizer → (keys : List NodeKey) → Walk → Type 0
IsWalking w ranking r keys walk = IsUnderWay w ranking r keys (backwards walk.steps.items) walk.alone

-- WHERE IT STANDS

-- a node that may be next after what was listed for a first one: with the same end it is asked for by that, and else it waits for one more part
abbrev pub IsAheadOf : Grammar → Ranking → Recognizer → (first key : NodeKey) → Type 0
IsAheadOf w ranking r first key =
    (key.end ≤ first.end) × (key.end ≡ first.end → key.origin < key.end → IsUnder w ranking r first key) × (key.end < first.end → key.dot < length (rhs_of r.flat key.rule))

-- before anything was listed it is the node of the whole
abbrev pub IsAhead : Grammar → Ranking → Recognizer → (first : Option NodeKey) → NodeKey → Type 0
IsAhead w ranking r None key = (0 < earleme_of r) × (key ≡ top_key r)
IsAhead w ranking r (Some first) key = IsAheadOf w ranking r first key

abbrev pub AreAhead : Grammar → Ranking → Recognizer → (first : Option NodeKey) → List NodeKey → Type 0
AreAhead w ranking r first keys = (key : NodeKey) → Contains keys key → IsAhead w ranking r first key

-- hidden items that a forest may be given for a place or for one after it
abbrev pub IsGivenFrom : Grammar → Ranking → Recognizer → (end : ℕ) → Placed → Type 0
IsGivenFrom w ranking r end p = IsGivenIn w ranking r p × (end ≤ p.place)

-- from the place on that was listed last, if anything was listed
abbrev pub IsGivenTo : Grammar → Ranking → Recognizer → (first : Option NodeKey) → Placed → Type 0
IsGivenTo w ranking r None p = ⊥
IsGivenTo w ranking r (Some first) p = IsGivenFrom w ranking r first.end p

-- what was given is of such places
abbrev pub AreTo : (first : Option NodeKey) → List GivenAt → Type 0
AreTo None given = given ≡ []
AreTo (Some first) given = AreFrom first.end given

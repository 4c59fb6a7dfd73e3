-- What is looked up at one place, and how what is found grows.
use Rattle.std.specs.Prelude.{◌≡◌, ℕ, suc, ◌+◌, ◌-◌, ◌<◌, ◌≤◌, List, [], ◌∷◌, ◌++◌, length, map, Bool, Option, Some, None, Contains, ◌⊎◌, ◌↔◌, slice_get}
use Rattle.std.specs.List.Sorted.{IsStrictlySortedBy}
use Rattle.grammar_model.specs.declared.Ranking.{Ranking}
use Rattle.grammar_model.specs.Grammar.{Grammar}
use Rattle.grammar_model.specs.Checked.{IsChecked}
use Rattle.recognizer_model.specs.declared.Item.{Item}
use Rattle.recognizer_model.specs.declared.NodeKey.{NodeKey}
use Rattle.recognizer_model.specs.Flat.{FlatGrammar, IsRule, rhs_of, part_of, IsNullable}
use Rattle.recognizer_model.specs.FlatForm.{IsFlatOf, flat_order}
use Rattle.recognizer_model.specs.Chosen.{allowed_by}
use Rattle.recognizer_model.specs.Nodes.{IsUsed}
use Rattle.earley_sets.specs.Recognizer.{Recognizer, IsRecognizer, earleme_of, set_at, edges_of, top_of}
use Rattle.forest_model.specs.Forest.{Forest, ForestNode, IsAlternative, starts_cmp}
use Rattle.forest_parts.specs.declared.parts.Part.{Part}
use Rattle.forest_parts.specs.declared.parts.RuleKey.{RuleKey}
use Rattle.forest_parts.specs.declared.groups.Group.{Group}
use Rattle.forest_parts.specs.Groups.{RanksFall, AreGroups}
use Rattle.forest_parts.specs.Parts.{part_cmp, IsPartAt, part_at}
use Rattle.forest_parts.specs.Lists.{between}
use Rattle.bocage.specs.declared.rows.AlternativeRow.{AlternativeRow}
use Rattle.bocage.specs.declared.rows.CauseRow.{CauseRow}
use Rattle.bocage.specs.declared.rows.CauseRow.TheVariants as row
use Rattle.bocage.specs.declared.walk.Known.{Known}
use Rattle.bocage.specs.declared.walk.Found.{Found}
use Rattle.bocage.specs.declared.joins.Join.{Join}
use Rattle.bocage.specs.Joins.{join_cmp, predecessor_of_join, AreJoins}
use Rattle.bocage.specs.Needed.{IsNeeded}
use Rattle.bocage.specs.Rows.{alternative_of, IsCauseWithin}

-- a recognizer over the flat grammar of a checked one
pub record IsRead (w : Grammar) (r : Recognizer) : Type 0 where
  pub checked : IsChecked w
  pub flat_of : IsFlatOf r.flat w
  pub is : IsRecognizer r

-- what may be the cause in nodes that end at a place and do not begin too early, and what may stand before it: parts, and all that are needed
pub record AreGathered (w : Grammar) (ranking : Ranking) (r : Recognizer) (end least : ℕ) (parts : List Part) (spans : List Group) (predecessors : List Join) : Type 0 where
  pub are : (p : Part) → Contains parts p → IsPartAt w ranking r end least p
  pub all : (p : Part) → IsPartAt w ranking r end least p → IsNeeded w ranking r end p → Contains parts p
  pub sorted : IsStrictlySortedBy part_cmp parts
  pub ranks : RanksFall parts
  pub groups : AreGroups ranking end parts spans
  pub joins : AreJoins r least spans predecessors

-- with all of this for one place
pub record Knows (k : Known) : Type 0 where
  pub checked : IsChecked k.written.now
  pub flat_of : IsFlatOf k.recce.now.flat k.written.now
  pub is : IsRecognizer k.recce.now
  pub end : k.end ≤ earleme_of k.recce.now
  pub gathered : AreGathered k.written.now k.ranking k.recce.now k.end k.least k.parts.now k.groups.now k.joins.now

-- a node of which the key is known
abbrev pub bare : NodeKey → ForestNode
bare key = record { key = key; alternatives = [] }

-- the forest of the reading with these nodes
abbrev pub seen : Grammar → Ranking → Recognizer → List NodeKey → Forest
seen w ranking r keys = record { written = w; flat = r.flat; start = r.start; edges = r.edges; place = earleme_of r; ranking = ranking; nodes = map bare keys; root = None }

abbrev pub IsUsedIn : Grammar → Ranking → Recognizer → NodeKey → Type 0
IsUsedIn w ranking r key = IsUsed r.flat (edges_of r) (allowed_by w ranking r.flat (edges_of r)) (top_of r) (earleme_of r) key

-- more keys stand after the old ones, each with the property
abbrev pub GrowsBy : (NodeKey → Type 0) → (old new : List NodeKey) → Type 0
GrowsBy P old new = (more : List NodeKey) × (new ≡ old ++ more) × ((key : NodeKey) → Contains more key → P key)

-- the node of a prefix up to a place
abbrev pub node_of_item : Item → (end : ℕ) → NodeKey
node_of_item item end = record { rule = item.rule; dot = item.dot; origin = item.origin; end = end }

-- the node of one part more
abbrev pub node_after : Item → (end : ℕ) → NodeKey
node_after predecessor end = record { rule = predecessor.rule; dot = suc predecessor.dot; origin = predecessor.origin; end = end }

abbrev pub whole_keys_by : FlatGrammar → Part → Option RuleKey → List NodeKey
whole_keys_by g p None = []
whole_keys_by g p (Some key) = record { rule = key.rule; dot = length (rhs_of g key.rule); origin = p.end - p.length; end = p.end } ∷ []

-- the nodes of those parts that are whole rules
abbrev pub whole_keys : FlatGrammar → List Part → List NodeKey
whole_keys g [] = []
whole_keys g (p ∷ ps) = whole_keys_by g p p.whole ++ whole_keys g ps

abbrev pub HasRule : FlatGrammar → Option RuleKey → Type 0
HasRule g None = Unit {0}
HasRule g (Some key) = IsRule g key.rule

-- the part lies where it can, and its rule is one of the grammar's
abbrev pub FitsPart : FlatGrammar → Part → Type 0
FitsPart g p = (p.length ≤ p.end) × HasRule g p.whole

-- the numbers are those of the keys
abbrev pub AreNumbers : (keys : List NodeKey) → (numbers : List ℕ) → (of : List NodeKey) → Type 0
AreNumbers keys numbers of = map (slice_get keys) numbers ≡ map Some of

-- more nodes of whole rules stand after the old ones
abbrev pub AddsWholes : (keys of : List NodeKey) → (old new : List ℕ) → Type 0
AddsWholes keys of old new = (numbers : List ℕ) × (new ≡ old ++ numbers) × AreNumbers keys numbers of

-- the number of the predecessor, if there are parts before
abbrev pub IsPredecessorFound : List NodeKey → Item → (end : ℕ) → Option ℕ → Type 0
IsPredecessorFound keys predecessor end None = predecessor.dot ≡ 0
IsPredecessorFound keys predecessor end (Some n) = (0 < predecessor.dot) × (slice_get keys n ≡ Some (node_of_item predecessor end))

-- the cause, by parts over one span
abbrev pub IsCauseFound : FlatGrammar → List Part → (keys : List NodeKey) → (old new : List ℕ) → CauseRow → Type 0
IsCauseFound g parts keys old new row.Edge = ((part_at parts 0).whole ≡ None) × (new ≡ old)
IsCauseFound g parts keys old new row.Nothing = ⊥
IsCauseFound g parts keys old new (row.Wholes first end) = (key : RuleKey) × ((part_at parts 0).whole ≡ Some key) × (first ≡ length old) × (end ≡ length new) × AddsWholes keys (whole_keys g parts) old new

-- the cause is that of parts over one span, with the numbers of its nodes
abbrev pub IsCauseHeld : FlatGrammar → List Part → (keys : List NodeKey) → (wholes : List ℕ) → CauseRow → Type 0
IsCauseHeld g parts keys wholes row.Edge = (part_at parts 0).whole ≡ None
IsCauseHeld g parts keys wholes row.Nothing = ⊥
IsCauseHeld g parts keys wholes (row.Wholes first end) = (key : RuleKey) × ((part_at parts 0).whole ≡ Some key) × (first ≤ end) × (end ≤ length wholes) × AreNumbers keys (between first end wholes) (whole_keys g parts)

abbrev pub parts_of_group : Known → Group → List Part
parts_of_group k g = between g.first g.past k.parts.now

-- what is noted of a group is its cause
pub record AreNoted (k : Known) (f : Found) : Type 0 where
  pub long : length f.causes.items ≡ length k.groups.now
  pub each : (n : ℕ) (g : Group) (cause : CauseRow) → slice_get k.groups.now n ≡ Some g → slice_get f.causes.items n ≡ Some (Some cause) → IsCauseHeld k.recce.now.flat (parts_of_group k g) f.keys.keys f.wholes.items cause

-- the cause of a group, as it is noted
pub record IsCauseNoted (k : Known) (g : Group) (old new : Found) (cause : CauseRow) : Type 0 where
  pub held : IsCauseHeld k.recce.now.flat (parts_of_group k g) new.keys.keys new.wholes.items cause
  pub keys : GrowsBy (λ z. Contains (whole_keys k.recce.now.flat (parts_of_group k g)) z) old.keys.keys new.keys.keys
  pub alternatives : new.alternatives ≡ old.alternatives
  pub more : List ℕ
  pub wholes : new.wholes.items ≡ old.wholes.items ++ more
  pub noted : AreNoted k new

abbrev pub seen_by : Known → List NodeKey → Forest
seen_by k keys = seen k.written.now k.ranking k.recce.now keys

-- a used node that may be met here: it ends here and does not begin too early, or waits for one more part
pub record IsNew (k : Known) (key : NodeKey) : Type 0 where
  pub used : IsUsedIn k.written.now k.ranking k.recce.now key
  pub before : key.end ≤ k.end
  pub least : key.end ≡ k.end → k.least ≤ key.origin
  pub waits : key.end < k.end → key.dot < length (rhs_of k.recce.now.flat key.rule)

abbrev pub is_high : Known → Item → Bool
is_high k predecessor = (flat_order k.written.now k.ranking k.recce.now.flat).null_high predecessor.rule

-- the alternatives of the node of one part more, whose causes begin where D says: those where the predecessor's item is there, in order
pub record AreListed (F : Forest) (r : Recognizer) (high : Bool) (predecessor : Item) (symbol end : ℕ) (D : ℕ → Type 0) (wholes : List ℕ) (rows : List AlternativeRow) : Type 0 where
  pub exact : (m : ℕ) → Contains (map (λ a. a.start) rows) m ↔ (D m × Contains (set_at r m) predecessor)
  pub sorted : IsStrictlySortedBy (starts_cmp high end) (map (λ a. a.start) rows)
  pub each : (a : AlternativeRow) → Contains rows a → IsAlternative F predecessor.rule predecessor.dot predecessor.origin symbol end (alternative_of wholes a) × IsCauseWithin wholes a.cause

-- so many alternatives were put
pub record Lists (k : Known) (predecessor : Item) (symbol : ℕ) (D : ℕ → Type 0) (old new : Found) : Type 0 where
  pub rows : List AlternativeRow
  pub is : new.alternatives.items ≡ old.alternatives.items ++ rows
  pub listed : AreListed (seen_by k new.keys.keys) k.recce.now (is_high k predecessor) predecessor symbol k.end D new.wholes.items rows
  pub keys : GrowsBy (IsNew k) old.keys.keys new.keys.keys
  pub more : List ℕ
  pub wholes : new.wholes.items ≡ old.wholes.items ++ more
  pub noted : AreNoted k new

abbrev pub IsGroupOf : Known → Group → Type 0
IsGroupOf k g = Contains k.groups.now g

-- the joins of one item, in order
pub record AreJoinsOf (k : Known) (predecessor : Item) (joins : List Join) : Type 0 where
  pub sorted : IsStrictlySortedBy join_cmp joins
  pub exact : (j : Join) → Contains joins j ↔ (Contains k.joins.now j × (predecessor_of_join j ≡ predecessor))

-- a cause begins where the group of one of the joins does
abbrev pub BeginsIn : Known → List Join → ℕ → Type 0
BeginsIn k joins m = (j : Join) × (g : Group) × Contains joins j × (slice_get k.groups.now j.group ≡ Some g) × (m ≡ g.start)

-- the node of one part more is used and ends here, and the symbol is that part
pub record IsNext (k : Known) (predecessor : Item) (symbol : ℕ) : Type 0 where
  pub used : IsUsedIn k.written.now k.ranking k.recce.now (node_after predecessor k.end)
  pub part : part_of k.recce.now.flat predecessor.rule predecessor.dot ≡ Some symbol
  pub least : k.least ≤ predecessor.origin

-- a cause of the symbol may begin there
abbrev pub MayBegin : Known → (symbol : ℕ) → ℕ → Type 0
MayBegin k symbol m = ((m ≡ k.end) × IsNullable k.recce.now.flat symbol) ⊎ ((p : Part) × Contains k.parts.now p × (p.symbol ≡ symbol) × (m + p.length ≡ k.end))

abbrev pub predecessor_of_key : NodeKey → Item
predecessor_of_key key = record { rule = key.rule; dot = key.dot - 1; origin = key.origin }

-- the alternatives of a node were put
pub record ListsKey (k : Known) (key : NodeKey) (old new : Found) : Type 0 where
  pub symbol : ℕ
  pub some : 0 < key.dot
  pub part : part_of k.recce.now.flat key.rule (key.dot - 1) ≡ Some symbol
  pub next : IsNext k (predecessor_of_key key) symbol
  pub lists : Lists k (predecessor_of_key key) symbol (MayBegin k symbol) old new

-- the node of the whole
abbrev pub top_key : Recognizer → NodeKey
top_key r = record { rule = top_of r; dot = length (rhs_of r.flat (top_of r)); origin = 0; end = earleme_of r }

-- begun with the node of the whole, if there is one
abbrev pub IsBegun : Recognizer → List NodeKey → Option ℕ → Type 0
IsBegun r keys None = (earleme_of r ≡ 0) × (keys ≡ [])
IsBegun r keys (Some n) = (0 < earleme_of r) × (slice_get keys n ≡ Some (top_key r)) × ((key : NodeKey) → Contains keys key → key ≡ top_key r)

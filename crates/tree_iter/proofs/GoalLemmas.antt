-- Goals that are put on stacks, and what is always so of a forest's goals.
use Rattle.std.proofs.Common.{◌≡◌, ℕ, zero, suc, ◌+◌, ◌-◌, ◌<◌, ◌≤◌, List, [], ◌∷◌, ◌++◌, length, map, Option, Some, None, refl, sym, ap, ◌∙◌, subst, append_assoc, arith}
use Rattle.std.specs.Prelude.{slice_get, slice_index_or, Contains}
use Rattle.std.proofs.lemmas.Option.{slice_get_within, slice_get-get_or}
use Rattle.std.proofs.lemmas.List.{length-map}
use Rattle.finite_sets.proofs.Members.{contains_from}
use Rattle.finite_sets.proofs.Lists.{get_map, get_among}
use Rattle.grammar_model.specs.Steps.{NulledStep, RuleStep}
use Rattle.recognizer_model.specs.declared.NodeKey.{NodeKey}
use Rattle.recognizer_model.specs.Flat.{FlatGrammar, IsRule, rhs_of, lhs_of}
use Rattle.forest_model.specs.Forest.{Cause, AnEdge, Nothing, Wholes, Alternative, ForestNode, Forest, top_of, AreAlternatives, IsForest, IsRoot}
use Rattle.forest_laws.specs.Lists.{Lists, cause_symbol, rule_of}
use Rattle.forest_laws.specs.Goals.{Goal, Parts, OneOf, Write, count_of, predecessor_goals, cause_goals, whole_goals, alternative_goals, node_options, options, IsGoal, AreGoals, root_goals, GoalsAreChosen}
use Rattle.bocage.specs.Readers.{alternative_at, node_at}
use Rattle.tree_iter.specs.declared.goals.GoalRow.{GoalRow}
use Rattle.tree_iter.specs.declared.goals.Put.{Put}
use Rattle.tree_iter.specs.Goals.{goal_of, IsStack, IsReady, AreReady, unit, units, look, Puts, PutsOption}
use Rattle.flat_steps.proofs.Linked.{index_is, linked_push, grows_then}
use Rattle.recognizer_model.proofs.Sources.{rule_there}

-- ---- stacks

-- one goal is put on top
pub puts_one : (rows : List GoalRow) (row : GoalRow) → Puts rows (rows ++ row ∷ []) row.below (suc (length rows)) (goal_of row.goal ∷ [])
puts_one rows row = record {
  grows = record { more = row ∷ []; is = refl };
  stack = λ below h. linked_push (λ (r : GoalRow). goal_of r.goal) (λ r. r.below) rows row below h;
}

-- and others above
pub puts_then : (a b c : List GoalRow) (behind mid top : ℕ) (under over : List Goal) → Puts a b behind mid under → Puts b c mid top over → Puts a c behind top (over ++ under)
puts_then a b c behind mid top under over g h = record {
  grows = grows_then a b c g.grows h.grows;
  stack = λ below s. subst (IsStack c top) (sym (append_assoc over under below)) (h.stack (under ++ below) (g.stack below s));
}

-- ---- goals of a forest

pub goals_split : (f : Forest) (a b : List Goal) → AreGoals f (a ++ b) → AreGoals f a × AreGoals f b
goals_split f [] b h = (tt, h)
goals_split f (x ∷ a) b (is, h) = let r = goals_split f a b h in ((is, r.0), r.1)

pub units_both : (a b : List Goal) → units (a ++ b) ≡ units a + units b
units_both [] b = omega arith
units_both (x ∷ a) b = let h = units_both a b in omega arith

pub ready_both : (f : Forest) (a b : List Goal) → AreReady f a → AreReady f b → AreReady f (a ++ b)
ready_both f [] b h g = g
ready_both f (x ∷ a) b (is, backed, h) g = let both = units_both a b in (is, omega (arith, both, backed), ready_both f a b h g)

pub record IsSound (f : Forest) (node : ForestNode) : Type 0 where
  pub some : 0 < node.key.dot
  pub rule : IsRule f.flat node.key.rule
  pub place : node.key.dot - 1 < length (rhs_of f.flat node.key.rule)
  pub symbol : cause_symbol f node.key < length f.flat.symbols

pub node_sound : (f : Forest) → IsForest f → (node : ForestNode) → Contains f.nodes node → IsSound f node
node_sound f is node m =
    let a : AreAlternatives f node.key node.alternatives = is.alternatives node m in
    let some = a.dot_is in
    let rule = rule_there f.flat.rules node.key.rule a.dot a.symbol a.part in
    let place : node.key.dot - 1 ≡ a.dot = omega arith in
    let same : cause_symbol f node.key ≡ a.symbol = ap (λ k. slice_index_or (rhs_of f.flat node.key.rule) k 0) place ∙ index_is (rhs_of f.flat node.key.rule) a.dot a.symbol 0 a.part in
    let here = is.derived.flat.in_range.parts node.key.rule a.dot a.symbol rule a.part in
    let within = slice_get_within (rhs_of f.flat node.key.rule) a.dot a.symbol a.part in
    record {
      some = omega arith;
      rule = rule;
      place = omega arith;
      symbol = omega arith;
    }

cause_unit : (symbol start end : ℕ) (cause : Cause) → units (cause_goals symbol start end cause) ≡ 1
cause_unit symbol start end AnEdge = refl
cause_unit symbol start end Nothing = refl
cause_unit symbol start end (Wholes nodes) = refl

predecessor_ready : (f : Forest) (predecessor : Option ℕ) (causes : List Goal) → units causes ≡ 1 → AreGoals f (predecessor_goals predecessor) → AreReady f causes → AreReady f (predecessor_goals predecessor ++ causes)
predecessor_ready f None causes one h g = g
predecessor_ready f (Some n) causes one h g = (h.0, omega (arith, one), g)

cause_ready : (f : Forest) (symbol start end : ℕ) (cause : Cause) → symbol < length f.flat.symbols → AreGoals f (cause_goals symbol start end cause) → AreReady f (cause_goals symbol start end cause)
cause_ready f symbol start end AnEdge lt h = (lt, omega arith, tt)
cause_ready f symbol start end Nothing lt h = (lt, omega arith, tt)
cause_ready f symbol start end (Wholes nodes) lt h = (h.0, omega arith, tt)

pub alternative_ready : (f : Forest) → IsForest f → (node : ForestNode) → Contains f.nodes node → (a : Alternative) → AreGoals f (alternative_goals f node a) → AreReady f (alternative_goals f node a)
alternative_ready f is node m a h =
    let s = node_sound f is node m in
    let g = goals_split f (predecessor_goals a.predecessor) (cause_goals (cause_symbol f node.key) a.start node.key.end a.cause) h in
    predecessor_ready f a.predecessor (cause_goals (cause_symbol f node.key) a.start node.key.end a.cause) (cause_unit (cause_symbol f node.key) a.start node.key.end a.cause) g.0
    (cause_ready f (cause_symbol f node.key) a.start node.key.end a.cause s.symbol g.1)

whole_ready_at : (f : Forest) → IsForest f → (start end n : ℕ) (node : Option ForestNode) → slice_get f.nodes n ≡ node → n < length f.nodes → IsRule f.flat (rule_of node)
whole_ready_at f is start end n None e lt = absurd (none_there f.nodes n e lt)
  where
    none_there : (xs : List ForestNode) (k : ℕ) → slice_get xs k ≡ None → k < length xs → ⊥
    none_there [] k e lt = omega arith
    none_there (x ∷ xs) zero e lt = cc
    none_there (x ∷ xs) (suc k) e lt = none_there xs k e (omega arith)
whole_ready_at f is start end n (Some node) e lt = (node_sound f is node (contains_from f.nodes node (get_among f.nodes n node e))).rule

pub whole_ready : (f : Forest) → IsForest f → (start end n : ℕ) → n < length f.nodes → AreReady f (whole_goals f start end n)
whole_ready f is start end n lt = (lt, omega arith, (whole_ready_at f is start end n (slice_get f.nodes n) refl lt, omega arith, tt))

-- the options of a goal are ready
pub record IsMapped {X Y : Type 0} (h : X → Y) (xs : List X) (k : ℕ) (y : Y) : Type 0 where
  pub x : X
  pub there : slice_get xs k ≡ Some x
  pub is : h x ≡ y

pub mapped_at : {X Y : Type 0} (h : X → Y) (xs : List X) (k : ℕ) (y : Y) → slice_get (map h xs) k ≡ Some y → IsMapped h xs k y
mapped_at h [] k y e = cc
mapped_at h (x ∷ xs) zero y e = record { x = x; there = refl; is = cc }
mapped_at h (x ∷ xs) (suc k) y e = let r = mapped_at h xs k y e in record { x = r.x; there = r.there; is = r.is }

parts_ready : (f : Forest) → IsForest f → (n : ℕ) (node : Option ForestNode) → slice_get f.nodes n ≡ node → (k : ℕ) (option : List Goal) →
    slice_get (node_options f node) k ≡ Some option → AreGoals f option → AreReady f option
parts_ready f is n None e k option there h = cc
parts_ready f is n (Some node) e k option there h =
    let r = mapped_at (alternative_goals f node) node.alternatives k option there in
    subst (AreReady f) r.is (alternative_ready f is node (contains_from f.nodes node (get_among f.nodes n node e)) r.x (subst (AreGoals f) (sym r.is) h))

pub option_ready : (f : Forest) (lists : Lists) → IsForest f → GoalsAreChosen f lists → (goal : Goal) → IsReady f goal → (k : ℕ) (option : List Goal) → slice_get (options f goal) k ≡ Some option → AreReady f option
option_ready f lists is choices (Parts n) ready k option there =
    parts_ready f is n (slice_get f.nodes n) refl k option there (choices.kept (Parts n) option ready (contains_from (options f (Parts n)) option (get_among (options f (Parts n)) k option there)))
option_ready f lists is choices (OneOf start end nodes) ready k option there =
    let r = mapped_at (whole_goals f start end) nodes k option there in
    subst (AreReady f) r.is (whole_ready f is start end r.x (ready.1 r.x (contains_from nodes r.x (get_among nodes k r.x r.there))))
option_ready f lists is choices (Write step) ready k option there = cc

pub root_ready : (f : Forest) → IsForest f → (root : Option ℕ) → IsRoot f root → AreReady f (root_goals f root)
root_ready f is None h =
    let top = top_there f.flat.tops f.start is.derived.start in
    (is.derived.flat.in_range.left (top_of f) ((is.derived.flat.tops f.start (top_of f) top).is_top.is_rule), omega arith, tt)
  where
    top_there : (tops : List ℕ) (k : ℕ) → k < length tops → slice_get tops k ≡ Some (slice_index_or tops k 0)
    top_there [] k lt = absurd (omega arith)
    top_there (t ∷ tops) zero lt = refl
    top_there (t ∷ tops) (suc k) lt = top_there tops k (omega arith)
root_ready f is (Some n) (lt, (node, e, same)) = whole_ready f is 0 f.place n (slice_get_within f.nodes n node e)

-- ---- an option becomes as many steps as its goal, and one more for a look

predecessor_unit : (predecessor : Option ℕ) → units (predecessor_goals predecessor) ≡ 0
predecessor_unit None = refl
predecessor_unit (Some n) = refl

parts_units : (f : Forest) (node : Option ForestNode) (k : ℕ) (option : List Goal) → slice_get (node_options f node) k ≡ Some option → units option ≡ 1
parts_units f None k option there = cc
parts_units f (Some node) k option there =
    let r = mapped_at (alternative_goals f node) node.alternatives k option there in
    let predecessors = predecessor_goals r.x.predecessor in
    let causes = cause_goals (cause_symbol f node.key) r.x.start node.key.end r.x.cause in
    let both = units_both predecessors causes in
    let none = predecessor_unit r.x.predecessor in
    let one = cause_unit (cause_symbol f node.key) r.x.start node.key.end r.x.cause in
    let sum : units (predecessors ++ causes) ≡ 1 = omega arith in
    subst (λ o. units o ≡ 1) r.is sum

pub option_units : (f : Forest) (goal : Goal) (k : ℕ) (option : List Goal) → slice_get (options f goal) k ≡ Some option → units option ≡ unit goal + look goal
option_units f (Parts n) k option there = parts_units f (slice_get f.nodes n) k option there
option_units f (OneOf start end nodes) k option there =
    let r = mapped_at (whole_goals f start end) nodes k option there in
    subst (λ o. units o ≡ 1) r.is refl
option_units f (Write step) k option there = cc

-- ---- a step is no goal to choose for
pub is_goal : (f : Forest) (goal : Goal) (k : ℕ) → IsReady f goal → k < length (options f goal) → IsGoal f goal
is_goal f (Parts n) k h lt = h
is_goal f (OneOf start end nodes) k h lt = h
is_goal f (Write step) k h lt = tt

-- ---- nodes by their numbers

pub at_node : (f : Forest) (n : ℕ) → n < length f.nodes → slice_get f.nodes n ≡ Some (node_at f n)
at_node f n lt = slice_get-get_or f.nodes n (record { key = record { rule = 0; dot = 0; origin = 0; end = 0 }; alternatives = [] }) lt

pub record IsKeySound (g : FlatGrammar) (key : NodeKey) : Type 0 where
  pub some : 1 ≤ key.dot
  pub rule : IsRule g key.rule
  pub place : key.dot - 1 < length (rhs_of g key.rule)

pub key_sound : (f : Forest) → IsForest f → (n : ℕ) → n < length f.nodes → (g : FlatGrammar) → g ≡ f.flat → (key : NodeKey) → key ≡ (node_at f n).key → IsKeySound g key
key_sound f is n lt g same key k =
    let s = node_sound f is (node_at f n) (contains_from f.nodes (node_at f n) (get_among f.nodes n (node_at f n) (at_node f n lt))) in
    subst (λ x. IsKeySound x key) (sym same) (subst (IsKeySound f.flat) (sym k) (record { some = s.some; rule = s.rule; place = s.place }))

-- ---- options that are put

-- the predecessor on top of the cause
pub alternative_put : (f : Forest) (node : ForestNode) (a : Alternative) (rows mid new : List GoalRow) (behind under top : ℕ) (cause : Goal) (predecessor : ℕ) →
    cause ∷ [] ≡ cause_goals (cause_symbol f node.key) a.start node.key.end a.cause → Some predecessor ≡ a.predecessor → Puts rows mid behind under (cause ∷ []) → Puts mid new under top (Parts predecessor ∷ []) →
    Puts rows new behind top (alternative_goals f node a)
alternative_put f node a rows mid new behind under top cause predecessor e some g h =
    subst (Puts rows new behind top) (λ i. predecessor_goals (some i) ++ e i) (puts_then rows mid new behind under top (cause ∷ []) (Parts predecessor ∷ []) g h)

pub whole_put : (f : Forest) (start end n : ℕ) (key : NodeKey) (rows mid new : List GoalRow) (behind under top : ℕ) → n < length f.nodes → key ≡ (node_at f n).key →
    Puts rows mid behind under (Write (RuleStep key.rule key.dot start end) ∷ []) → Puts mid new under top (Parts n ∷ []) → Puts rows new behind top (whole_goals f start end n)
whole_put f start end n key rows mid new behind under top lt k g h =
    subst (Puts rows new behind top) (λ i. Parts n ∷ Write (RuleStep (rule i) (count i) start end) ∷ []) (puts_then rows mid new behind under top (Write (RuleStep key.rule key.dot start end) ∷ []) (Parts n ∷ []) g h)
  where
    rule : key.rule ≡ rule_of (slice_get f.nodes n)
    rule = ap (λ (x : NodeKey). x.rule) k ∙ sym (ap rule_of (at_node f n lt))

    count : key.dot ≡ count_of (slice_get f.nodes n)
    count = ap (λ (x : NodeKey). x.dot) k ∙ sym (ap count_of (at_node f n lt))

there : (xs : List ℕ) (k : ℕ) → k < length xs → slice_get xs k ≡ Some (slice_index_or xs k 0)
there [] k lt = absurd (omega arith)
there (x ∷ xs) zero lt = refl
there (x ∷ xs) (suc k) lt = there xs k (omega arith)

alternative_there : (alternatives : List Alternative) (k : ℕ) → k < length alternatives → slice_get alternatives k ≡ Some (alternative_at alternatives k)
alternative_there [] k lt = absurd (omega arith)
alternative_there (x ∷ xs) zero lt = refl
alternative_there (x ∷ xs) (suc k) lt = alternative_there xs k (omega arith)

-- how many options the parts of a node have
pub parts_count : (f : Forest) (n : ℕ) (alternatives : List Alternative) → n < length f.nodes → alternatives ≡ (node_at f n).alternatives → length (options f (Parts n)) ≡ length alternatives
parts_count f n alternatives lt same =
    ap (λ x. length (node_options f x)) (at_node f n lt) ∙ length-map (node_at f n).alternatives (alternative_goals f (node_at f n)) ∙ ap (λ (x : List Alternative). length x) (sym same)

pub parts_option : (f : Forest) (goal : Goal) (n at behind : ℕ) (alternatives : List Alternative) (rows new : List GoalRow) (put : Put) → goal ≡ Parts n → n < length f.nodes → alternatives ≡ (node_at f n).alternatives →
    at < length (options f goal) → put.count ≡ length alternatives → Puts rows new behind put.top (alternative_goals f (node_at f n) (alternative_at alternatives at)) → PutsOption f goal rows new at behind put
parts_option f goal n at behind alternatives rows new put e lt same within count puts =
    let sizes = parts_count f n alternatives lt same in
    let within' : at < length alternatives = subst (λ k. at < k) sizes (subst (λ g. at < length (options f g)) e within) in
    subst (λ g. PutsOption f g rows new at behind put) (sym e) (record {
      option = alternative_goals f (node_at f n) (alternative_at alternatives at);
      option_is = ap (λ x. slice_get (node_options f x) at) (at_node f n lt)
          ∙ get_map (alternative_goals f (node_at f n)) (node_at f n).alternatives at (alternative_at alternatives at) (subst (λ x. slice_get x at ≡ Some (alternative_at alternatives at)) same (alternative_there alternatives at within'));
      count = count ∙ sym sizes;
      puts = puts;
    })

pub whole_option : (f : Forest) (goal : Goal) (start end at behind : ℕ) (nodes : List ℕ) (rows new : List GoalRow) (put : Put) → goal ≡ OneOf start end nodes →
    at < length (options f goal) → put.count ≡ length nodes → Puts rows new behind put.top (whole_goals f start end (slice_index_or nodes at 0)) → PutsOption f goal rows new at behind put
whole_option f goal start end at behind nodes rows new put e within count puts =
    let sizes = length-map nodes (whole_goals f start end) in
    let within' : at < length nodes = subst (λ k. at < k) sizes (subst (λ g. at < length (options f g)) e within) in
    subst (λ g. PutsOption f g rows new at behind put) (sym e) (record {
      option = whole_goals f start end (slice_index_or nodes at 0);
      option_is = get_map (whole_goals f start end) nodes at (slice_index_or nodes at 0) (there nodes at within');
      count = count ∙ sym sizes;
      puts = puts;
    })

-- the node of a whole rule to be chosen
pub whole_within : (f : Forest) (goal : Goal) (start end at : ℕ) (nodes : List ℕ) → goal ≡ OneOf start end nodes → IsGoal f goal → at < length (options f goal) → slice_index_or nodes at 0 < length f.nodes
whole_within f goal start end at nodes e is within =
    let sizes = length-map nodes (whole_goals f start end) in
    let within' : at < length nodes = subst (λ k. at < k) sizes (subst (λ g. at < length (options f g)) e within) in
    let is' : IsGoal f (OneOf start end nodes) = subst (IsGoal f) e is in
    is'.1 (slice_index_or nodes at 0) (contains_from nodes (slice_index_or nodes at 0) (get_among nodes at (slice_index_or nodes at 0) (there nodes at within')))

-- the whole of a forest
pub top_rule : (f : Forest) → IsForest f → (g : FlatGrammar) (start top : ℕ) → g ≡ f.flat → start ≡ f.start → slice_get g.tops start ≡ Some top → IsRule g top
top_rule f is g start top same s e =
    let e' : slice_get f.flat.tops f.start ≡ Some top = subst (λ k. slice_get f.flat.tops k ≡ Some top) s (subst (λ (x : FlatGrammar). slice_get x.tops start ≡ Some top) same e) in
    subst (λ (x : FlatGrammar). IsRule x top) (sym same) ((is.derived.flat.tops f.start top e').is_top.is_rule)

pub none_put : (f : Forest) (g : FlatGrammar) (start top symbol : ℕ) (rows new : List GoalRow) (at : ℕ) → None ≡ f.root → g ≡ f.flat → start ≡ f.start → slice_get g.tops start ≡ Some top → symbol ≡ lhs_of g top →
    Puts rows new 0 at (Write (NulledStep symbol 0) ∷ []) → Puts rows new 0 at (root_goals f f.root)
none_put f g start top symbol rows new at none same s e lhs h = subst (Puts rows new 0 at) (ap (λ x. Write (NulledStep x 0) ∷ []) symbol_is ∙ ap (root_goals f) none) h
  where
    top_is : top ≡ top_of f
    top_is = sym (index_is f.flat.tops f.start top 0 (subst (λ k. slice_get f.flat.tops k ≡ Some top) s (subst (λ (x : FlatGrammar). slice_get x.tops start ≡ Some top) same e)))

    symbol_is : symbol ≡ lhs_of f.flat (top_of f)
    symbol_is = lhs ∙ (λ i. lhs_of (same i) (top_is i))

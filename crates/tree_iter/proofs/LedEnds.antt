-- Where a walk that is led begins and ends.
use Rattle.std.proofs.Common.{◌≡◌, ◌⊎◌, inl, inr, ℕ, ◌+◌, ◌*◌, ◌≤◌, Bool, true, false, List, [], ◌∷◌, ◌++◌, length, map, Option, Some, None, refl, sym, ap, ◌∙◌, subst, arith}
use Rattle.std.specs.Prelude.{slice_get, Contains, IsTrue, IsFalse}
use Rattle.std.proofs.lemmas.List.{append-nil, length-map}
use Rattle.finite_sets.proofs.Members.{Among, contains_from, among_from, among_map_from, among_flat_map_from}
use Rattle.grammar_core.specs.Steps.{step_of}
use Rattle.grammar_model.specs.Steps.{Step, NulledStep, RuleStep, steps_of_all}
use Rattle.recognizer_model.specs.declared.NodeKey.{NodeKey}
use Rattle.recognizer_model.specs.declared.flat.FlatSource.{FlatSource}
use Rattle.recognizer_model.specs.declared.flat.FlatSource.TheVariants.{Top as OfStart}
use Rattle.recognizer_model.specs.Flat.{lhs_of, source_of}
use Rattle.forest_model.specs.Forest.{Forest, IsForest, IsRoot, top_of}
use Rattle.forest_laws.specs.Lists.{Lists, rule_of}
use Rattle.forest_laws.specs.Goals.{Parts, Write, written, steps_from, to_come, stands, count_of, root_goals}
use Rattle.forest_laws.specs.Written.{is_list_rule, steps_written}
use Rattle.forest_laws.proofs.Written.{top_is}
use Rattle.tree_iter.specs.declared.walk.Walk.{Walk}
use Rattle.tree_iter.specs.declared.goals.GoalRow.{GoalRow}
use Rattle.tree_iter.specs.declared.jump.Guide.{Guide}
use Rattle.tree_iter.specs.Goals.{goal_of, IsStack, units}
use Rattle.tree_iter.specs.Walk.{done_of, steps_on, HasSteps, IsBegun, AreChoices, StandsBefore}
use Rattle.tree_iter.specs.declared.leads.LeadRow.{LeadRow}
use Rattle.grammar_core.specs.declared.steps.TreeStep.{TreeStep}
use Rattle.tree_iter.specs.Leads.{AreRows, HasLooks, rule_size, size_of, AreAimed, IsLedTo, Leads}
use Rattle.flat_steps.proofs.Linked.{linked_none}
use Rattle.tree_iter.proofs.Sizes.{size_both, sized}
use Rattle.tree_iter.proofs.Trails.{steps_are, none_to_come}
use Rattle.tree_iter.proofs.Walks.{stack_one, walked}
use Rattle.tree_iter.proofs.Choosing.{on_before}
use Rattle.tree_iter.proofs.LedOn.{aimed_one, aimed_two}

only : {X : Type 0} (x t : X) → (x ≡ t) ⊎ ⊥ → x ≡ t
only x t (inl e) = e
only x t (inr b) = absurd b

none_of : {X : Type 0} (xs : List X) → 0 ≡ length xs → xs ≡ []
none_of [] e = refl
none_of (x ∷ xs) e = absurd (omega (arith, e))

none_before : (a n : ℕ) → a ≡ n → a ≡ 0 + n
none_before a n e = omega (arith, e)

start_size : (b : Bool) (s : FlatSource) (k : ℕ) → s ≡ OfStart k → rule_size b s ≡ 0
start_size true s k e = refl
start_size false s k e = ap (rule_size false) e

-- the goals of the whole are aimed at all steps of each derivation that they stand for
root_aimed : (f : Forest) (lists : Lists) → IsForest f → (root : Option ℕ) → IsRoot f root → (flat : List Step) → Among flat (steps_from f lists (root_goals f root)) → (aim : ℕ) → aim ≡ size_of f.flat flat →
    AreAimed f lists 0 (root_goals f root) (aim ∷ aim ∷ []) flat
root_aimed f lists is None root flat m aim size =
    let (none, in_nil, e) = among_map_from (λ rest. NulledStep (lhs_of f.flat (top_of f)) 0 ∷ rest) flat ([] ∷ []) m in
    let empty : [] ≡ none = only [] none in_nil in
    let one : NulledStep (lhs_of f.flat (top_of f)) 0 ∷ [] ≡ flat = ap (λ rest. NulledStep (lhs_of f.flat (top_of f)) 0 ∷ rest) empty ∙ e in
    subst (AreAimed f lists 0 (Write (NulledStep (lhs_of f.flat (top_of f)) 0) ∷ []) (aim ∷ aim ∷ [])) one
    (aimed_one f lists 0 aim (Write (NulledStep (lhs_of f.flat (top_of f)) 0)) [] (aim ∷ []) (NulledStep (lhs_of f.flat (top_of f)) 0 ∷ []) [] refl (none_before aim _ (size ∙ sym (ap (size_of f.flat) one))) refl)
root_aimed f lists is (Some n) (lt, (node, there, key)) flat m aim size =
    let last : Step = RuleStep (rule_of (slice_get f.nodes n)) (count_of (slice_get f.nodes n)) 0 f.place in
    let (cs, held, own) = among_flat_map_from (λ children. map (λ rest. steps_of_all children ++ rest) (map (λ rest. RuleStep (rule_of (slice_get f.nodes n)) (count_of (slice_get f.nodes n)) 0 f.place ∷ rest) ([] ∷ []))) flat (lists n) m in
    let (tail, in_one, e) = among_map_from (λ rest. steps_of_all cs ++ rest) flat (map (λ rest. RuleStep (rule_of (slice_get f.nodes n)) (count_of (slice_get f.nodes n)) 0 f.place ∷ rest) ([] ∷ [])) own in
    let (none, in_nil, e') = among_map_from (λ rest. RuleStep (rule_of (slice_get f.nodes n)) (count_of (slice_get f.nodes n)) 0 f.place ∷ rest) tail ([] ∷ []) in_one in
    let empty : [] ≡ none = only [] none in_nil in
    let one : RuleStep (rule_of (slice_get f.nodes n)) (count_of (slice_get f.nodes n)) 0 f.place ∷ [] ≡ tail = ap (λ rest. RuleStep (rule_of (slice_get f.nodes n)) (count_of (slice_get f.nodes n)) 0 f.place ∷ rest) empty ∙ e' in
    let flat_is : steps_of_all cs ++ RuleStep (rule_of (slice_get f.nodes n)) (count_of (slice_get f.nodes n)) 0 f.place ∷ [] ≡ flat = ap (λ l. steps_of_all cs ++ l) one ∙ e in
    let top : rule_of (slice_get f.nodes n) ≡ top_of f = ap rule_of there ∙ ap (λ (k : NodeKey). k.rule) key in
    let source : source_of f.flat (rule_of (slice_get f.nodes n)) ≡ OfStart f.start = ap (source_of f.flat) top ∙ (top_is f is.derived).source in
    let nothing = start_size (is_list_rule f.flat (rule_of (slice_get f.nodes n))) (source_of f.flat (rule_of (slice_get f.nodes n))) f.start source in
    let both = size_both f.flat (steps_of_all cs) (RuleStep (rule_of (slice_get f.nodes n)) (count_of (slice_get f.nodes n)) 0 f.place ∷ []) in
    let sizes : aim ≡ size_of f.flat (steps_of_all cs ++ RuleStep (rule_of (slice_get f.nodes n)) (count_of (slice_get f.nodes n)) 0 f.place ∷ []) = size ∙ sym (ap (size_of f.flat) flat_is) in
    let upper : aim ≡ size_of f.flat (steps_of_all cs) = omega (arith, nothing, both, sizes) in
    subst (AreAimed f lists 0 (Parts n ∷ Write (RuleStep (rule_of (slice_get f.nodes n)) (count_of (slice_get f.nodes n)) 0 f.place) ∷ []) (aim ∷ aim ∷ [])) (append-nil (steps_of_all cs ++ RuleStep (rule_of (slice_get f.nodes n)) (count_of (slice_get f.nodes n)) 0 f.place ∷ []) ∙ flat_is)
    (aimed_two f lists 0 aim aim (Parts n) (Write (RuleStep (rule_of (slice_get f.nodes n)) (count_of (slice_get f.nodes n)) 0 f.place)) [] [] (steps_of_all cs) (RuleStep (rule_of (slice_get f.nodes n)) (count_of (slice_get f.nodes n)) 0 f.place ∷ []) []
    (cs, contains_from (lists n) cs held, refl) (none_before aim _ upper) refl (none_before aim _ sizes) refl)

-- a walk that has done nothing is led to each of the derivations before which it stands
pub led_first : (w : Walk) (rest : List (List Step)) (flat to : List Step) → IsBegun w → StandsBefore w rest → Contains rest flat → to ≡ steps_written w.forest.now.written w.forest.now.flat [] flat → length flat + 2 ≤ 7 * length to → (aim : ℕ) → aim ≡ length to →
    IsLedTo w (aim ∷ aim ∷ []) to
led_first w rest flat to begun h held to_is few aim aim_is =
    let F : Forest = w.forest.now in
    let done = h.is.done.counted.all in
    let nothing : steps_on h.trail ≡ [] = none_of (steps_on h.trail) (sym (ap (λ (l : List _). length l) begun.counts) ∙ done) in
    let silent : written (done_of F h.trail) ≡ [] = steps_are F h.trail ∙ nothing in
    let walks = (walked w h.trail h.lists h.is h.all).walks in
    let last : to_come F h.lists (done_of F h.trail) ≡ [] = none_to_come F h.lists walks w.goals.items h.trail (subst (λ l. AreChoices F w.goals.items l h.trail) begun.choices h.is.choices) in
    let root : h.left ≡ root_goals F F.root = stack_one w.goals.items w.left h.left (root_goals F F.root) h.left_is begun.left in
    let all : rest ≡ map (λ l. written (done_of F h.trail) ++ l) (steps_from F h.lists (root_goals F F.root)) =
    h.rest_is ∙ ap (stands F h.lists (done_of F h.trail)) root ∙ ap (λ l. map (λ x. written (done_of F h.trail) ++ x) (steps_from F h.lists (root_goals F F.root)) ++ l) last ∙ append-nil (map (λ x. written (done_of F h.trail) ++ x) (steps_from F h.lists (root_goals F F.root))) in
    let (own, m, e) = among_map_from (λ l. written (done_of F h.trail) ++ l) flat (steps_from F h.lists (root_goals F F.root)) (subst (Among flat) all (among_from rest flat held)) in
    let own_is : own ≡ flat = sym (ap (λ l. l ++ own) silent) ∙ e in
    let size : aim ≡ size_of F.flat own = aim_is ∙ ap (λ (l : List Step). length l) to_is ∙ sized F.written F.flat [] flat ∙ sym (ap (size_of F.flat) own_is) in
    let none_written : length w.steps.items ≡ 0 = ap (λ (l : List _). length l) begun.steps in
    record {
      lists = h.lists;
      trail = h.trail;
      left = h.left;
      on = on_before w rest h;
      steps = own;
      aimed = subst (λ k. AreAimed F h.lists k h.left (aim ∷ aim ∷ []) own) (sym none_written)
          (subst (λ l. AreAimed F h.lists 0 l (aim ∷ aim ∷ []) own) (sym root) (root_aimed F h.lists h.is.forest F.root h.is.forest.root own m aim size));
      few = subst (λ (l : List Step). length l + 2 ≤ 7 * length to) (sym own_is ∙ sym (ap (λ l. l ++ own) nothing)) few;
      to_is = to_is ∙ ap (steps_written F.written F.flat []) (sym own_is) ∙ sym (ap (λ l. steps_written F.written F.flat [] (l ++ own)) nothing);
    }

root_units : (f : Forest) (root : Option ℕ) → units (root_goals f root) ≡ 1
root_units f None = refl
root_units f (Some n) = refl

-- it has one step to begin with
begun_steps : (w : Walk) → IsBegun w → HasSteps w 1
begun_steps w begun =
    let none : length w.counts.items ≡ 0 = ap (λ (l : List _). length l) begun.counts in
    let one = root_units w.forest.now w.forest.now.root in
    record { left = root_goals w.forest.now w.forest.now.root; left_is = begun.left; count = omega arith }

-- a guide that begins leads the walk to each of them
pub leads_first : (w : Walk) (guide : Guide) (to : List TreeStep) (rows : List LeadRow) (rest : List (List Step)) (flat : List Step) → guide.to.now ≡ to → guide.rows.items ≡ rows → AreRows rows (map step_of to) →
    guide.looks ≡ 7 * length to → guide.aims.items ≡ length to ∷ length to ∷ [] → IsBegun w → StandsBefore w rest → Contains rest flat →
    length flat + 2 ≤ 7 * length (map step_of to) → steps_written w.forest.now.written w.forest.now.flat [] flat ≡ map step_of to → Leads guide w
leads_first w guide to rows rest flat to_is rows_are are looks aims begun h held few is =
    let count = length-map to step_of in
    let has : HasLooks w guide.looks (map step_of to) = record { n = 1; steps = begun_steps w begun; looks_are = omega (arith, looks, count) } in
    let led : IsLedTo w guide.aims.items (map step_of to) = subst (λ a. IsLedTo w a (map step_of to)) (sym aims) (led_first w rest flat (map step_of to) begun h held (sym is) few (length to) (sym count)) in
    record {
      rows = subst (λ t. AreRows guide.rows.items (map step_of t)) (sym to_is) (subst (λ r. AreRows r (map step_of to)) (sym rows_are) are);
      looks = subst (λ t. HasLooks w guide.looks (map step_of t)) (sym to_is) has;
      led = subst (λ t. IsLedTo w guide.aims.items (map step_of t)) (sym to_is) led;
    }

-- with no goal left all of them are written
pub led_last : (w : Walk) (aims : List ℕ) (to : List Step) → w.left ≡ 0 → IsLedTo w aims to → map step_of w.steps.items ≡ to
led_last w aims to none h =
    let F : Forest = w.forest.now in
    let empty : h.left ≡ [] = linked_none (λ (r : GoalRow). goal_of r.goal) (λ r. r.below) w.goals.items h.left (subst (λ t. IsStack w.goals.items t h.left) none h.on.left_is) in
    let nothing : h.steps ≡ [] = subst (λ l. AreAimed F h.lists (length w.steps.items) l aims h.steps) empty h.aimed in
    h.on.is.done.written ∙ sym (h.to_is ∙ ap (λ l. steps_written F.written F.flat [] (steps_on h.trail ++ l)) nothing ∙ ap (steps_written F.written F.flat []) (append-nil (steps_on h.trail)))

pub neither : (b : Bool) → IsTrue b → IsFalse b → ⊥
neither b t n = cc

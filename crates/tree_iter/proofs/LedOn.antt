-- A walk that is led stays so when an option that leads on is chosen.
use Rattle.std.proofs.Common.{◌≡◌, ◌⊎◌, inl, inr, ℕ, suc, ◌+◌, ◌-◌, ◌<◌, ◌==◌, true, false, cond, List, [], ◌∷◌, ◌++◌, Option, Some, None, refl, sym, ap, ◌∙◌, subst, append_assoc, arith}
use Rattle.std.specs.Prelude.{slice_get, slice_index_or, Contains}
use Rattle.std.proofs.lemmas.Bool.{eq-eqb, ne_eqb}
use Rattle.finite_sets.proofs.Members.{contains_from, among_from, among_map_from, among_flat_map_from}
use Rattle.finite_sets.proofs.Lists.{get_among}
use Rattle.grammar_model.specs.Trees.{Tree, Children, Leaf, Nulled, Node, NoChild, Child, from_of}
use Rattle.grammar_model.specs.Steps.{Step, TokenStep, NulledStep, steps_of, steps_of_all}
use Rattle.recognizer_model.specs.Flat.{FlatGrammar, rhs_of, part_of}
use Rattle.recognizer_model.specs.FlatDerives.{Spans}
use Rattle.forest_model.specs.Forest.{Cause, AnEdge, Nothing, Wholes, Forest, Alternative, ForestNode, IsForest, AreAlternatives, IsAlternative, IsCause, IsPredecessor, edges_of}
use Rattle.forest_laws.specs.Lists.{Lists, cause_symbol, rule_of, whole_by, prefixes_by, causes_by}
use Rattle.forest_laws.specs.Laws.{AreAllLists}
use Rattle.forest_laws.specs.Goals.{Goal, Parts, OneOf, Write, predecessor_goals, cause_goals, alternative_goals}
use Rattle.forest_laws.specs.Guide.{IsRowAt}
use Rattle.forest_laws.specs.Leads.{IsLed}
use Rattle.forest_laws.specs.Written.{steps_written}
use Rattle.forest_laws.proofs.Leads.{nodes_lead}
use Rattle.forest_laws.proofs.Written.{AreWritten, children_are}
use Rattle.tree_iter.specs.Leads.{size_of, sought, upper_of, over, StandsFor, AreAimed}
use Rattle.flat_steps.proofs.Linked.{index_is}
use Rattle.tree_iter.proofs.Sizes.{size_both, row_leads}
use Rattle.tree_iter.proofs.LedParts.{last_no_list}

only : {X : Type 0} (x t : X) → (x ≡ t) ⊎ ⊥ → x ≡ t
only x t (inl e) = e
only x t (inr b) = absurd b

only_prefix : (f : Forest) (lists : Lists) (prefix : Children) → Contains (prefixes_by lists None) prefix → NoChild ≡ prefix
only_prefix f lists prefix held = only NoChild prefix (among_from (NoChild ∷ []) prefix held)

-- the goal of a cause, which is one
cause_goal : (symbol start end : ℕ) → Cause → Goal
cause_goal symbol start end AnEdge = Write (TokenStep symbol start end)
cause_goal symbol start end Nothing = Write (NulledStep symbol start)
cause_goal symbol start end (Wholes nodes) = OneOf start end nodes

cause_one : (symbol start end : ℕ) (cause : Cause) → cause_goals symbol start end cause ≡ cause_goal symbol start end cause ∷ []
unfolding cause_goal
cause_one symbol start end AnEdge = refl
cause_one symbol start end Nothing = refl
cause_one symbol start end (Wholes nodes) = refl

-- it stands for the steps of each of its trees
cause_stands : (f : Forest) (lists : Lists) (rule dot symbol start end : ℕ) (cause : Cause) → part_of f.flat rule dot ≡ Some symbol → IsCause f symbol start end cause → (last : Tree) →
    Contains (causes_by f lists symbol start end cause) last → StandsFor f lists (cause_goal symbol start end cause) (steps_of last)
unfolding cause_goal
cause_stands f lists rule dot symbol start end AnEdge part is last held = sym (ap steps_of (only (Leaf symbol start end) last (among_from (Leaf symbol start end ∷ []) last held)))
cause_stands f lists rule dot symbol start end Nothing part is last held = sym (ap steps_of (only (Nulled symbol start) last (among_from (Nulled symbol start ∷ []) last held)))
cause_stands f lists rule dot symbol start end (Wholes nodes) part is last held =
    let (n, in_nodes, own) = among_flat_map_from (whole_by f lists start end) last nodes (among_from (causes_by f lists symbol start end (Wholes nodes)) last held) in
    let (cs, in_lists, same) = among_map_from (λ children. Node (rule_of (slice_get f.nodes n)) children start end) last (lists n) own in
    record {
      rule = rule;
      dot = dot;
      symbol = symbol;
      part = part;
      wholes = is;
      node = n;
      among = contains_from nodes n in_nodes;
      children = cs;
      held = contains_from (lists n) cs in_lists;
      steps_are = sym (ap steps_of same);
    }

-- ---- goals that are aimed

pub aimed_one : (f : Forest) (lists : Lists) (done aim : ℕ) (goal : Goal) (others : List Goal) (under : List ℕ) (own behind : List Step) → StandsFor f lists goal own → aim ≡ done + size_of f.flat own →
    AreAimed f lists aim others under behind → AreAimed f lists done (goal ∷ others) (under ++ aim ∷ []) (own ++ behind)
aimed_one f lists done aim goal others under own behind stands is rest =
    (record { under = under; aim = aim; aims_are = refl; own = own; behind = behind; steps_are = refl; stands = stands; aim_is = is }, rest)

pub aimed_two : (f : Forest) (lists : Lists) (done upper aim : ℕ) (goal cause : Goal) (others : List Goal) (under : List ℕ) (first own behind : List Step) → StandsFor f lists goal first → upper ≡ done + size_of f.flat first →
    StandsFor f lists cause own → aim ≡ done + size_of f.flat (first ++ own) → AreAimed f lists aim others under behind →
    AreAimed f lists done (goal ∷ cause ∷ others) ((under ++ aim ∷ []) ++ upper ∷ []) ((first ++ own) ++ behind)
aimed_two f lists done upper aim goal cause others under first own behind stands is stands' is' rest =
    let both = size_both f.flat first own in
    let aim_is : aim ≡ upper + size_of f.flat own = omega arith in (
      record { under = under ++ aim ∷ []; aim = upper; aims_are = refl; own = first; behind = own ++ behind; steps_are = append_assoc first own behind; stands = stands; aim_is = is },
      aimed_one f lists upper aim cause others under own behind stands' aim_is rest,
    )

module _ (f : Forest) (is : IsForest f) (lists : Lists) (all : AreAllLists f lists) where
  abbrev g : FlatGrammar
  g = f.flat

  alternatives_of : (n : ℕ) (node : ForestNode) → slice_get f.nodes n ≡ Some node → AreAlternatives f node.key node.alternatives
  alternatives_of n node there = is.alternatives node (contains_from f.nodes node (get_among f.nodes n node there))

  spans_of : (n : ℕ) (node : ForestNode) (cs : Children) → slice_get f.nodes n ≡ Some node → Contains (lists n) cs → Spans g (edges_of f) node.key.rule node.key.dot node.key.origin node.key.end cs
  spans_of n node cs there held = (((all.nodes n node there).exact cs).0 held).0

  symbol_is : (node : ForestNode) (a : AreAlternatives f node.key node.alternatives) → cause_symbol f node.key ≡ a.symbol
  symbol_is node a =
      let some = a.dot_is in
      let place : node.key.dot - 1 ≡ a.dot = omega arith in
      ap (λ k. slice_index_or (rhs_of f.flat node.key.rule) k 0) place ∙ index_is (rhs_of f.flat node.key.rule) a.dot a.symbol 0 a.part

  -- the alternative that is found, and the goals of its option, aimed
  pub record IsPartLed (n : ℕ) (node : ForestNode) (cs : Children) (others : List Goal) (under : List ℕ) (behind : List Step) (done aim from below : ℕ) : Type 0 where
    pub alternative : Alternative
    pub among : Contains node.alternatives alternative
    pub start : alternative.start ≡ sought node.key from
    pub aimed : AreAimed f lists done (alternative_goals f node alternative ++ others) (over under aim (upper_of node.key below)) (steps_of_all cs ++ behind)

  module _ (n : ℕ) (node : ForestNode) (there : slice_get f.nodes n ≡ Some node) (cs : Children) (held : Contains (lists n) cs) (others : List Goal) (under : List ℕ) (done behind to : List Step)
      (place from below : ℕ) (to_is : to ≡ steps_written f.written f.flat [] (done ++ (steps_of_all cs ++ behind))) (at : suc place ≡ size_of f.flat done + size_of f.flat (steps_of_all cs)) (row : IsRowAt to place from below)
      (rest : AreAimed f lists (suc place) others under behind) where
    led : IsLed f lists node cs
    led = nodes_lead f lists all.equal n node cs there held

    are : AreAlternatives f node.key node.alternatives
    are = alternatives_of n node there

    alternative_is : IsAlternative f node.key.rule are.dot node.key.origin are.symbol node.key.end led.alternative
    alternative_is = are.each led.alternative led.among

    spans : Spans g (edges_of f) node.key.rule node.key.dot node.key.origin node.key.end (Child led.prefix led.last)
    spans = subst (Spans g (edges_of f) node.key.rule node.key.dot node.key.origin node.key.end) led.is (spans_of n node cs there held)

    written : AreWritten f.written f.flat (Child led.prefix led.last)
    written = children_are f is.derived spans

    -- the row tells the last child, where there are others before it
    leads : 1 < node.key.dot → (from ≡ from_of led.last) × (below ≡ size_of f.flat done + size_of f.flat (steps_of_all led.prefix))
    leads long = row_leads f.written f.flat done behind led.prefix led.last to place from below written (last_no_list f is.derived spans long)
        (to_is ∙ ap (λ c. steps_written f.written f.flat [] (done ++ (steps_of_all c ++ behind))) led.is) (at ∙ ap (λ c. size_of f.flat done + size_of f.flat (steps_of_all c)) led.is) row

    stands : StandsFor f lists (cause_goal (cause_symbol f node.key) led.alternative.start node.key.end led.alternative.cause) (steps_of led.last)
    stands = cause_stands f lists node.key.rule are.dot (cause_symbol f node.key) led.alternative.start node.key.end led.alternative.cause (are.part ∙ ap Some (sym (symbol_is node are)))
        (subst (λ x. IsCause f x led.alternative.start node.key.end led.alternative.cause) (sym (symbol_is node are)) alternative_is.cause) led.last led.cause

    whole : size_of f.flat done + size_of f.flat (steps_of_all (Child led.prefix led.last)) ≡ suc place
    whole = ap (λ c. size_of f.flat done + size_of f.flat (steps_of_all c)) (sym led.is) ∙ sym at

    go : (p : Option ℕ) → led.alternative.predecessor ≡ p → (dot : ℕ) → node.key.dot ≡ suc dot → IsPredecessor f node.key.rule dot node.key.origin led.alternative.start p → Contains (prefixes_by lists p) led.prefix →
        IsPartLed n node cs others under behind (size_of f.flat done) (suc place) from below
    go None e dot dot_is (none, origin) before =
        let one : (node.key.dot == 1) ≡ true = eq-eqb node.key.dot 1 (omega (arith, dot_is, none)) in
        let empty : NoChild ≡ led.prefix = only_prefix f lists led.prefix before in
        let own : steps_of_all cs ≡ steps_of led.last = ap steps_of_all led.is ∙ ap (λ c. steps_of_all c ++ steps_of led.last) (sym empty) in
        let sized : suc place ≡ size_of f.flat done + size_of f.flat (steps_of led.last) = at ∙ ap (λ l. size_of f.flat done + size_of f.flat l) own in
        let goals : alternative_goals f node led.alternative ≡ cause_goal (cause_symbol f node.key) led.alternative.start node.key.end led.alternative.cause ∷ [] =
        ap (λ x. predecessor_goals x ++ cause_goals (cause_symbol f node.key) led.alternative.start node.key.end led.alternative.cause) e ∙ cause_one (cause_symbol f node.key) led.alternative.start node.key.end led.alternative.cause in
        let aimed = aimed_one f lists (size_of f.flat done) (suc place) (cause_goal (cause_symbol f node.key) led.alternative.start node.key.end led.alternative.cause) others under (steps_of led.last) behind stands sized rest in
        record {
          alternative = led.alternative;
          among = led.among;
          start = origin ∙ sym (ap (λ b. cond b node.key.origin from) one);
          aimed = subst (λ l. AreAimed f lists (size_of f.flat done) (l ++ others) (over under (suc place) (upper_of node.key below)) (steps_of_all cs ++ behind)) (sym goals)
              (subst (λ u. AreAimed f lists (size_of f.flat done) (cause_goal (cause_symbol f node.key) led.alternative.start node.key.end led.alternative.cause ∷ others) (over under (suc place) u) (steps_of_all cs ++ behind))
              (sym (ap (λ b. cond b None (Some below)) one))
              (subst (λ l. AreAimed f lists (size_of f.flat done) (cause_goal (cause_symbol f node.key) led.alternative.start node.key.end led.alternative.cause ∷ others) (under ++ suc place ∷ []) (l ++ behind)) (sym own) aimed));
        }
    go (Some m) e dot dot_is (some, node_is) before =
        let long : 1 < node.key.dot = omega (arith, dot_is, some) in
        let more : (node.key.dot == 1) ≡ false = ne_eqb node.key.dot 1 (λ one. omega (arith, one, long)) in
        let lead = leads long in
        let goals : alternative_goals f node led.alternative ≡ Parts m ∷ cause_goal (cause_symbol f node.key) led.alternative.start node.key.end led.alternative.cause ∷ [] =
        ap (λ x. predecessor_goals x ++ cause_goals (cause_symbol f node.key) led.alternative.start node.key.end led.alternative.cause) e
        ∙ ap (λ l. Parts m ∷ l) (cause_one (cause_symbol f node.key) led.alternative.start node.key.end led.alternative.cause) in
        let aimed = aimed_two f lists (size_of f.flat done) below (suc place) (Parts m) (cause_goal (cause_symbol f node.key) led.alternative.start node.key.end led.alternative.cause) others under (steps_of_all led.prefix) (steps_of led.last) behind
        (led.prefix, before, refl) lead.1 stands (sym whole) rest in
        record {
          alternative = led.alternative;
          among = led.among;
          start = led.start ∙ sym lead.0 ∙ sym (ap (λ b. cond b node.key.origin from) more);
          aimed = subst (λ l. AreAimed f lists (size_of f.flat done) (l ++ others) (over under (suc place) (upper_of node.key below)) (steps_of_all cs ++ behind)) (sym goals)
              (subst (λ u. AreAimed f lists (size_of f.flat done) (Parts m ∷ cause_goal (cause_symbol f node.key) led.alternative.start node.key.end led.alternative.cause ∷ others) (over under (suc place) u) (steps_of_all cs ++ behind))
              (sym (ap (λ b. cond b None (Some below)) more))
              (subst (λ c. AreAimed f lists (size_of f.flat done) (Parts m ∷ cause_goal (cause_symbol f node.key) led.alternative.start node.key.end led.alternative.cause ∷ others) ((under ++ suc place ∷ []) ++ below ∷ []) (steps_of_all c ++ behind)) (sym led.is) aimed));
        }

    -- the option at the place that is found
    pub parts_led : IsPartLed n node cs others under behind (size_of f.flat done) (suc place) from below
    parts_led = go led.alternative.predecessor refl are.dot are.dot_is alternative_is.predecessor led.before

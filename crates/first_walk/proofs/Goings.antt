-- A walk goes on from a node by its first alternative, in each forest of the reading.
use Rattle.std.proofs.Common.{◌≡◌, ◌⊎◌, inl, inr, ℕ, suc, ◌-◌, ◌<◌, ◌≤◌, Bool, true, false, true≢false, length, if◌then◌else◌, eq-eqb, List, [], ◌∷◌, ◌++◌, map, Option, Some, None, Contains, slice_get, refl, sym, ◌∙◌, ap, subst, arith}
use Rattle.std.specs.Prelude.{◌&&◌, ◌==◌}
use Rattle.std.proofs.lemmas.Bool.{ne_eqb}
use Rattle.std.proofs.lemmas.List.{append_assoc, append-nil, map-append}
use Rattle.std.proofs.lemmas.List.Elements.{Contains-append_left, Contains-append_right, Contains-append_cases}
use Rattle.finite_sets.proofs.Lists.{Contains-none, get_some, get_among}
use Rattle.finite_sets.proofs.Members.{Among, among_from, contains_from, among_map, pairs_once}
use Rattle.grammar_model.specs.declared.Ranking.{Ranking}
use Rattle.grammar_model.specs.Grammar.{Grammar}
use Rattle.grammar_model.specs.Steps.{Step, TokenStep, NulledStep, RuleStep}
use Rattle.grammar_model.specs.Trees.{Tree}
use Rattle.recognizer_model.specs.declared.NodeKey.{NodeKey}
use Rattle.recognizer_model.specs.Flat.{FlatGrammar, lhs_of, rhs_of, IsNullable}
use Rattle.recognizer_model.specs.FlatDerives.{Derives, Token, Null, Rule}
use Rattle.earley_sets.specs.Recognizer.{Recognizer, HasTree, earleme_of, set_at, edges_of, top_of}
use Rattle.earley_sets.proofs.Membership.{Contains-first, Contains-rest, Contains-cons_cases}
use Rattle.forest_model.specs.Forest.{Forest, ForestNode, Alternative, IsNode, IsPredecessor, IsSplit, IsCause, AreWholes, Wholes, IsRoot, IsDerived, IsForest, AreAlternatives, whole_key}
use Rattle.forest_laws.specs.Goals.{Goal, Parts, OneOf, Write, options, node_options, alternative_goals, predecessor_goals, cause_goals, whole_goals, root_goals, count_of}
use Rattle.forest_laws.specs.Lists.{cause_symbol, rule_of}
use Rattle.forest_laws.specs.Written.{steps_written}
use Rattle.forest_laws.proofs.Existing.{forests_exist}
use Rattle.forest_parts.specs.declared.parts.Part.{Part}
use Rattle.forest_parts.specs.declared.parts.RuleKey.{RuleKey}
use Rattle.forest_parts.proofs.Sets.{at_top}
use Rattle.bocage.specs.Walk.{IsRead, IsUsedIn, top_key}
use Rattle.bocage.proofs.Splits.{IsKeyWithin, spans_forward, used_within, waits_in}
use Rattle.bocage.proofs.Whole.{has_top}
use Rattle.first_walk.specs.declared.place.Chosen.{Chosen}
use Rattle.first_walk.specs.Walk.{is_none, IsWalk, Done, Wrote, Chose, IsFirst, IsFirstDerivation}
use Rattle.flat_steps.specs.Writing.{IsStepOf}
use Rattle.first_walk.specs.Place.{reading_of, IsUnder, IsPartOf, IsCauseBy, IsFirstChoice, IsChosen}
use Rattle.first_walk.specs.Going.{number_of, goals_of, parts_before, nothing_step, whole_key_of, whole_step, step_by, keys_by, start_of, chosen_step, chosen_keys, IsOn, AreApart, IsUnderWay, IsAhead, AreAhead}
use Rattle.first_walk.proofs.Choices.{symbol_in}
use Rattle.first_walk.proofs.Firsts.{walks_are_first}
use Rattle.first_walk.proofs.Numbers.{numbered, only_number}
use Rattle.first_walk.proofs.Rules.{F}
use Rattle.first_walk.proofs.Under.{before_under, whole_under}

-- ---- whether a walk is alone

and_true : (a : Bool) → (a && true) ≡ a
and_true true = refl
and_true false = refl

-- of a later choice, of this one, and of what was before
and_moved : (only one last before : Bool) → (((only && one) && last) && before) ≡ (only && (before && (one && last)))
and_moved true true true true = refl
and_moved true true true false = refl
and_moved true true false true = refl
and_moved true true false false = refl
and_moved true false last true = refl
and_moved true false last false = refl
and_moved false one last before = refl

none_mapped : {X Y : Type 0} (f : X → Y) (xs : List X) → is_none (map f xs) ≡ is_none xs
none_mapped f [] = refl
none_mapped f (x ∷ xs) = refl

-- ---- nodes apart

apart_front : (xs ys : List NodeKey) → AreApart (xs ++ ys) → AreApart xs
apart_front [] ys h = tt
apart_front (x ∷ xs) ys h = (λ z i. h.0 z (Contains-append_left xs ys z i), apart_front xs ys h.1)

apart_last : (xs : List NodeKey) (y : NodeKey) → AreApart (xs ++ y ∷ []) → (x : NodeKey) → Contains xs x → x.end ≤ y.origin
apart_last [] y h x i = absurd (Contains-none x i)
apart_last (z ∷ xs) y h x i = elim (Contains-cons_cases z xs x i) [
  | inl e ↦ subst (λ (v : NodeKey). v.end ≤ y.origin) e (h.0 y (Contains-append_right xs (y ∷ []) y (Contains-first y [])))
  | inr j ↦ apart_last xs y h.1 x j
]

apart_both : (xs ys : List NodeKey) → AreApart xs → AreApart ys → ((x y : NodeKey) → Contains xs x → Contains ys y → x.end ≤ y.origin) → AreApart (xs ++ ys)
apart_both [] ys a b h = b
apart_both (x ∷ xs) ys a b h = (
  λ z i. elim (Contains-append_cases xs ys z i) [ inl j ↦ a.0 z j | inr j ↦ h x z (Contains-first x xs) j ],
  apart_both xs ys a.1 b (λ v z i j. h v z (Contains-rest x xs v i) j),
)

one_apart : (x : NodeKey) → AreApart (x ∷ [])
one_apart x = (λ z i. absurd (Contains-none z i), tt)

one_is : (P : NodeKey → Type 0) (x : NodeKey) → P x → (z : NodeKey) → Contains (x ∷ []) z → P z
one_is P x h z i = elim (Contains-cons_cases x [] z i) [ inl e ↦ subst P e h | inr j ↦ absurd (Contains-none z j) ]

and_false : (a b : Bool) → (a && b) ≡ false → (a ≡ false) ⊎ (b ≡ false)
and_false true b e = inr e
and_false false b e = inl refl

-- what derives nothing may span nothing
nothing_of : (r : Recognizer) {w : Grammar} → IsRead w r → {x p q : ℕ} {t : Tree} → Derives r.flat (edges_of r) x p q t → q ≤ p → IsNullable r.flat x
nothing_of r read (Token {p = p} {q = q} (t, e, h)) le = let lt = read.is.forward (record { symbol = t; from = p; to = q }) h in absurd (omega arith)
nothing_of r read (Null n) le = n
nothing_of r read (Rule is left lt s) le = absurd (omega arith)

-- ---- one forest

module _ (w : Grammar) (ranking : Ranking) (r : Recognizer) (nodes : List ForestNode) (root : Option ℕ) (is : IsForest (F w ranking r nodes root)) where
  abbrev f : Forest
  f = F w ranking r nodes root

  node_by : (key : NodeKey) → IsUsedIn w ranking r key → IsNode f (number_of nodes key) key
  node_by key used = numbered nodes key (among_from _ key ((is.used.exact key).1 used))

  used_by : (n : ℕ) (key : NodeKey) → IsNode f n key → IsUsedIn w ranking r key
  used_by n key (node, at, e) =
      (is.used.exact key).0 (subst (λ z. Contains (map (λ (n : ForestNode). n.key) nodes) z) e (contains_from _ node.key (among_map (λ (z : ForestNode). z.key) node nodes (get_among nodes n node at))))

  number_is : (n : ℕ) (key : NodeKey) → IsNode f n key → n ≡ number_of nodes key
  number_is n key (node, at, e) = only_number nodes (pairs_once _ is.used.once) n node key at e

  -- the parts before the last one
  before_goals : (key : NodeKey) (d start : ℕ) → key.dot ≡ suc d → (o : Option ℕ) → IsPredecessor f key.rule d key.origin start o → goals_of f (parts_before key start) ≡ predecessor_goals o
  before_goals key d start e None (none, begins) =
      let one : (key.dot == 1) ≡ true = eq-eqb key.dot 1 (omega arith) in
      ap (λ b. goals_of f (if b then [] else record { rule = key.rule; dot = key.dot - 1; origin = key.origin; end = start } ∷ [])) one
  before_goals key d start e (Some n) (some, node) =
      let more : (key.dot == 1) ≡ false = ne_eqb key.dot 1 (λ q. let q' : key.dot ≡ 1 = q in omega arith) in
      let dot : key.dot - 1 ≡ d = omega arith in
      ap (λ b. goals_of f (if b then [] else record { rule = key.rule; dot = key.dot - 1; origin = key.origin; end = start } ∷ [])) more
      ∙ ap (λ z. Parts (number_of nodes (record { rule = key.rule; dot = z; origin = key.origin; end = start })) ∷ []) dot
      ∙ ap (λ z. Parts z ∷ []) (sym (number_is n (record { rule = key.rule; dot = d; origin = key.origin; end = start }) node))

  before_used : (key : NodeKey) (d start : ℕ) → key.dot ≡ suc d → (o : Option ℕ) → IsPredecessor f key.rule d key.origin start o → (z : NodeKey) → Contains (parts_before key start) z →
      IsUsedIn w ranking r z × (z.origin ≡ key.origin) × (z.end ≡ start)
  before_used key d start e None (none, begins) z h =
      let one : (key.dot == 1) ≡ true = eq-eqb key.dot 1 (omega arith) in
      absurd (Contains-none z (subst (λ b. Contains (if b then [] else record { rule = key.rule; dot = key.dot - 1; origin = key.origin; end = start } ∷ []) z) one h))
  before_used key d start e (Some n) (some, node) z h =
      let more : (key.dot == 1) ≡ false = ne_eqb key.dot 1 (λ q. let q' : key.dot ≡ 1 = q in omega arith) in
      let dot : d ≡ key.dot - 1 = omega arith in
      one_is (λ (z : NodeKey). IsUsedIn w ranking r z × (z.origin ≡ key.origin) × (z.end ≡ start)) (record { rule = key.rule; dot = key.dot - 1; origin = key.origin; end = start })
      (subst (λ n. IsUsedIn w ranking r (record { rule = key.rule; dot = n; origin = key.origin; end = start })) dot (used_by n (record { rule = key.rule; dot = d; origin = key.origin; end = start }) node), refl, refl)
      z (subst (λ b. Contains (if b then [] else record { rule = key.rule; dot = key.dot - 1; origin = key.origin; end = start } ∷ []) z) more h)

  -- WHAT A WHOLE RULE'S NODE WRITES
  whole_goals_are : (n rule start end : ℕ) → IsNode f n (whole_key f rule start end) → whole_goals f start end n ≡ Parts n ∷ Write (whole_step r.flat rule start end) ∷ []
  whole_goals_are n rule start end (node, at, e) =
      ap (λ o. Parts n ∷ Write (RuleStep (rule_of o) (count_of o) start end) ∷ []) at
      ∙ ap (λ (k : NodeKey). Parts n ∷ Write (RuleStep k.rule k.dot start end) ∷ []) e

  write_whole : (left : List Goal) (n rule start end : ℕ) → IsNode f n (whole_key f rule start end) → (first : List Step) (only : Bool) → IsWalk f (left ++ goals_of f (whole_key_of r.flat rule start end ∷ [])) first only →
      IsWalk f (left ++ whole_goals f start end n) (first ++ whole_step r.flat rule start end ∷ []) only
  write_whole left n rule start end node first only walk =
      let number = number_is n (whole_key f rule start end) node in
      let here = subst (λ z. IsWalk f (left ++ Parts z ∷ []) first only) (sym number) walk in
      subst (λ l. IsWalk f (left ++ l) (first ++ whole_step r.flat rule start end ∷ []) only) (sym (whole_goals_are n rule start end node))
      (subst (λ l. IsWalk f l (first ++ whole_step r.flat rule start end ∷ []) only) (append_assoc left (Parts n ∷ []) (Write (whole_step r.flat rule start end) ∷ []))
      (Wrote (left ++ Parts n ∷ []) first only (whole_step r.flat rule start end) here))

  -- the goals of a cause
  cause_goes : (left : List Goal) (key : NodeKey) (d symbol : ℕ) → cause_symbol f key ≡ symbol → (p : Option Part) (a : Alternative) (one : Bool) → IsPartOf f key p a one → (first : List Step) (only : Bool) →
      IsWalk f (left ++ goals_of f (chosen_keys r.flat key p)) first only → IsWalk f (left ++ cause_goals (cause_symbol f key) a.start key.end a.cause) (first ++ chosen_step r.flat key p ∷ []) (only && one)
  cause_goes left key d symbol same None a one (start, cause, alone) first only walk =
      subst (λ b. IsWalk f (left ++ cause_goals (cause_symbol f key) a.start key.end a.cause) (first ++ chosen_step r.flat key None ∷ []) b) (sym (and_true only) ∙ ap (λ b. only && b) (sym alone))
      (subst (λ c. IsWalk f (left ++ cause_goals (cause_symbol f key) a.start key.end c) (first ++ chosen_step r.flat key None ∷ []) only) (sym cause)
      (subst (λ s. IsWalk f (left ++ Write (NulledStep (cause_symbol f key) s) ∷ []) (first ++ chosen_step r.flat key None ∷ []) only) (sym start)
      (Wrote left first only (nothing_step r.flat key) (subst (λ l. IsWalk f l first only) (append-nil left) walk))))
  cause_goes left key d symbol same (Some p) a one (sum, symbol_is, by) first only walk = go p.whole by walk
    where
      start_is : key.end - p.length ≡ a.start
      start_is = omega arith

      go : (o : Option RuleKey) → IsCauseBy f key o a one → IsWalk f (left ++ goals_of f (keys_by r.flat o (key.end - p.length) key.end)) first only →
          IsWalk f (left ++ cause_goals (cause_symbol f key) a.start key.end a.cause) (first ++ step_by r.flat o p.symbol (key.end - p.length) key.end ∷ []) (only && one)
      go None (cause, alone) walk =
          subst (λ b. IsWalk f (left ++ cause_goals (cause_symbol f key) a.start key.end a.cause) (first ++ TokenStep p.symbol (key.end - p.length) key.end ∷ []) b) (sym (and_true only) ∙ ap (λ b. only && b) (sym alone))
          (subst (λ c. IsWalk f (left ++ cause_goals (cause_symbol f key) a.start key.end c) (first ++ TokenStep p.symbol (key.end - p.length) key.end ∷ []) only) (sym cause)
          (subst (λ s. IsWalk f (left ++ Write (TokenStep (cause_symbol f key) s key.end) ∷ []) (first ++ TokenStep p.symbol (key.end - p.length) key.end ∷ []) only) start_is
          (subst (λ x. IsWalk f (left ++ Write (TokenStep x (key.end - p.length) key.end) ∷ []) (first ++ TokenStep p.symbol (key.end - p.length) key.end ∷ []) only) symbol_is
          (Wrote left first only (TokenStep p.symbol (key.end - p.length) key.end) (subst (λ l. IsWalk f l first only) (append-nil left) walk)))))
      go (Some rule) (n, more, cause, node, alone) walk =
          let node' : IsNode f n (whole_key f rule.rule (key.end - p.length) key.end) = subst (λ s. IsNode f n (whole_key f rule.rule s key.end)) (sym start_is) node in
          let wrote = write_whole left n rule.rule (key.end - p.length) key.end node' first only walk in
          let wrote' = subst (λ s. IsWalk f (left ++ whole_goals f s key.end n) (first ++ whole_step r.flat rule.rule (key.end - p.length) key.end ∷ []) only) start_is wrote in
          let chose = Chose left (first ++ whole_step r.flat rule.rule (key.end - p.length) key.end ∷ []) only (OneOf a.start key.end (n ∷ more)) (whole_goals f a.start key.end n) (map (whole_goals f a.start key.end) more) refl wrote' in
          subst (λ c. IsWalk f (left ++ cause_goals (cause_symbol f key) a.start key.end c) (first ++ whole_step r.flat rule.rule (key.end - p.length) key.end ∷ []) (only && one)) (sym cause)
          (subst (λ b. IsWalk f (left ++ OneOf a.start key.end (n ∷ more) ∷ []) (first ++ whole_step r.flat rule.rule (key.end - p.length) key.end ∷ []) (only && b)) (none_mapped (whole_goals f a.start key.end) more ∙ sym alone) chose)

  -- where the last part begins
  start_at : (key : NodeKey) (p : Option Part) (a : Alternative) (one : Bool) → IsPartOf f key p a one → start_of key p ≡ a.start
  start_at key None a one (start, cause, alone) = sym start
  start_at key (Some p) a one (sum, symbol, by) = omega arith

  module _ (key : NodeKey) (used : IsUsedIn w ranking r key) (chosen : Chosen) (n : ℕ) (node : ForestNode) (at : slice_get nodes n ≡ Some node) (key_is : node.key ≡ key)
      (are : AreAlternatives f key node.alternatives) (choice : IsFirstChoice f key node.alternatives chosen) where
    dot_is : key.dot ≡ suc are.dot
    dot_is = are.dot_is

    among : Contains node.alternatives choice.first
    among = contains_from node.alternatives choice.first (subst (Among choice.first) (sym choice.is) (inl refl))

    predecessor : IsPredecessor f key.rule are.dot key.origin (start_of key chosen.part) choice.first.predecessor
    predecessor =
        subst (λ s. IsPredecessor f key.rule are.dot key.origin s choice.first.predecessor) (sym (start_at key chosen.part choice.first choice.one choice.part)) (are.each choice.first among).predecessor

    split : IsSplit f key.rule are.dot key.origin are.symbol choice.first.start key.end
    split = (are.exact choice.first.start).0 (contains_from _ choice.first.start (among_map (λ (z : Alternative). z.start) choice.first node.alternatives (among_from node.alternatives choice.first among)))

    -- it begins no earlier than the node
    within : IsRead w r → key.origin ≤ start_of key chosen.part
    within read =
        let le = spans_forward r read.is split.predecessor in
        let e = start_at key chosen.part choice.first choice.one choice.part in
        omega arith

    keys_used : (z : NodeKey) → Contains (chosen_keys r.flat key chosen.part) z → IsUsedIn w ranking r z × (z.origin ≡ start_of key chosen.part) × (z.end ≡ key.end)
    keys_used = go chosen.part choice.part
      where
        go : (p : Option Part) → IsPartOf f key p choice.first choice.one → (z : NodeKey) → Contains (chosen_keys r.flat key p) z → IsUsedIn w ranking r z × (z.origin ≡ start_of key p) × (z.end ≡ key.end)
        go None is' z h = absurd (Contains-none z h)
        go (Some p) (sum, symbol, by) z h = by_whole p.whole by h
          where
            by_whole : (o : Option RuleKey) → IsCauseBy f key o choice.first choice.one → Contains (keys_by r.flat o (key.end - p.length) key.end) z → IsUsedIn w ranking r z × (z.origin ≡ key.end - p.length) × (z.end ≡ key.end)
            by_whole None by h = absurd (Contains-none z h)
            by_whole (Some rule) (m, more, cause, node', alone) h =
                let start : choice.first.start ≡ key.end - p.length = omega arith in
                one_is (λ (z : NodeKey). IsUsedIn w ranking r z × (z.origin ≡ key.end - p.length) × (z.end ≡ key.end)) (whole_key_of r.flat rule.rule (key.end - p.length) key.end)
                (subst (λ s. IsUsedIn w ranking r (whole_key_of r.flat rule.rule s key.end)) start (used_by m (whole_key f rule.rule choice.first.start key.end) node'), refl, refl) z h

    parts_used : (z : NodeKey) → Contains (parts_before key (start_of key chosen.part)) z → IsUsedIn w ranking r z × (z.origin ≡ key.origin) × (z.end ≡ start_of key chosen.part)
    parts_used z h = before_used key are.dot (start_of key chosen.part) dot_is choice.first.predecessor predecessor z h

    module _ (read : IsRead w r) where
      key_within : IsKeyWithin r key
      key_within = used_within w ranking r read key used

      -- the step of its last part is one of the grammar
      symbol_fits : cause_symbol f key < length r.flat.symbols
      symbol_fits = symbol_in w ranking r read key used (rhs_of r.flat key.rule) refl

      step_fits : IsStepOf r.flat (chosen_step r.flat key chosen.part)
      step_fits = go chosen.part choice.part
        where
          go : (p : Option Part) → IsPartOf f key p choice.first choice.one → IsStepOf r.flat (chosen_step r.flat key p)
          go None is' = symbol_fits
          go (Some p) (sum, symbol, by) = by_whole p.whole by
            where
              by_whole : (o : Option RuleKey) → IsCauseBy f key o choice.first choice.one → IsStepOf r.flat (step_by r.flat o p.symbol (key.end - p.length) key.end)
              by_whole None by = subst (λ x. x < length r.flat.symbols) (sym symbol) symbol_fits
              by_whole (Some rule) (m, more, cause, node', alone) = (used_within w ranking r read (whole_key f rule.rule choice.first.start key.end) (used_by m (whole_key f rule.rule choice.first.start key.end) node')).is_rule

      -- the node of the parts before waits for one more
      parts_wait : (z : NodeKey) → Contains (parts_before key (start_of key chosen.part)) z → z.dot < length (rhs_of r.flat z.rule)
      parts_wait = go (key.dot == 1)
        where
          go : (b : Bool) (z : NodeKey) → Contains (if b then [] else record { rule = key.rule; dot = key.dot - 1; origin = key.origin; end = start_of key chosen.part } ∷ []) z → z.dot < length (rhs_of r.flat z.rule)
          go true z h = absurd (Contains-none z h)
          go false z h = one_is (λ (z : NodeKey). z.dot < length (rhs_of r.flat z.rule)) (record { rule = key.rule; dot = key.dot - 1; origin = key.origin; end = start_of key chosen.part })
              (let i = key_within in let s = i.some in let l = i.parts in omega arith) z h

      -- WHAT IS ASKED FOR BY ONE THAT ASKS FOR THE NODE
      module _ (first : NodeKey) (under : IsUnder w ranking r first key) where
        same_key : key ≡ record { rule = key.rule; dot = suc are.dot; origin = key.origin; end = key.end }
        same_key = λ i. record { rule = key.rule; dot = dot_is i; origin = key.origin; end = key.end }

        under' : IsUnder w ranking r first (record { rule = key.rule; dot = suc are.dot; origin = key.origin; end = key.end })
        under' = subst (λ z. IsUnder w ranking r first z) same_key under

        -- the node of the parts before, if it ends there, too
        parts_under : (z : NodeKey) → Contains (parts_before key (start_of key chosen.part)) z → z.end ≡ key.end → IsUnder w ranking r first z
        parts_under = go (key.dot == 1)
          where
            here : start_of key chosen.part ≡ key.end → IsUnder w ranking r first (record { rule = key.rule; dot = key.dot - 1; origin = key.origin; end = start_of key chosen.part })
            here e =
                let at = start_at key chosen.part choice.first choice.one choice.part in
                let null = nothing_of r read split.cause (omega arith) in
                let dot : are.dot ≡ key.dot - 1 = (let d = dot_is in omega arith) in
                let end : key.end ≡ start_of key chosen.part = sym e in
                subst (λ z. IsUnder w ranking r first z) (λ i. record { rule = key.rule; dot = dot i; origin = key.origin; end = end i })
                (before_under w ranking r read first key.rule are.dot key.origin key.end are.symbol are.part key_within.inside under' null)

            go : (b : Bool) (z : NodeKey) → Contains (if b then [] else record { rule = key.rule; dot = key.dot - 1; origin = key.origin; end = start_of key chosen.part } ∷ []) z → z.end ≡ key.end → IsUnder w ranking r first z
            go true z h = absurd (Contains-none z h)
            go false z h = one_is (λ (z : NodeKey). z.end ≡ key.end → IsUnder w ranking r first z) (record { rule = key.rule; dot = key.dot - 1; origin = key.origin; end = start_of key chosen.part }) here z h

        -- the node of the whole rule
        wholes_under : (z : NodeKey) → Contains (chosen_keys r.flat key chosen.part) z → IsUnder w ranking r first z
        wholes_under = go chosen.part choice.part
          where
            kept : choice.first.start ≤ key.end → Contains (set_at r choice.first.start) (record { rule = key.rule; dot = are.dot; origin = key.origin })
            kept le =
                let i = key_within in
                let inside = i.inside in
                (waits_in r read.is choice.first.start (record { rule = key.rule; dot = are.dot; origin = key.origin }) are.symbol (omega arith) are.part).1
                (record { is_rule = i.is_rule; may_stand = i.stands; children = split.children; spans = split.predecessor })

            whole_at : (m : ℕ) (more : List ℕ) (rule : ℕ) → choice.first.cause ≡ Wholes (m ∷ more) → IsNode f m (whole_key f rule choice.first.start key.end) → IsUnder w ranking r first (whole_key_of r.flat rule choice.first.start key.end)
            whole_at m more rule cause (node', at', is') =
                let h : AreWholes f are.symbol choice.first.start key.end (m ∷ more) = subst (λ c. IsCause f are.symbol choice.first.start key.end c) cause (are.each choice.first among).cause in
                let all = h.all in
                let some = h.some in
                let lt = h.spans in
                let (rule0, at0) = get_some h.rules 0 (omega arith) in
                let (node0, at0', is0) = h.each 0 m rule0 refl at0 in
                let one : Some node0 ≡ Some node' = sym at0' ∙ at' in
                let same : node0 ≡ node' = cc in
                let rules : rule0 ≡ rule = ap (λ (z : NodeKey). z.rule) (sym is0 ∙ ap (λ (z : ForestNode). z.key) same ∙ is') in
                let over = ((h.exact rule0).0 (contains_from h.rules rule0 (get_among h.rules 0 rule0 at0))).0 in
                let left : lhs_of r.flat rule ≡ are.symbol = ap (lhs_of r.flat) (sym rules) ∙ over.left in
                whole_under w ranking r read first key.rule are.dot key.origin key.end are.symbol are.part key_within.inside under' choice.first.start rule left lt (kept (omega arith))
                (used_by m (whole_key f rule choice.first.start key.end) (node', at', is'))

            go : (p : Option Part) → IsPartOf f key p choice.first choice.one → (z : NodeKey) → Contains (chosen_keys r.flat key p) z → IsUnder w ranking r first z
            go None is' z h = absurd (Contains-none z h)
            go (Some p) (sum, symbol, by) z h = by_whole p.whole by h
              where
                by_whole : (o : Option RuleKey) → IsCauseBy f key o choice.first choice.one → Contains (keys_by r.flat o (key.end - p.length) key.end) z → IsUnder w ranking r first z
                by_whole None by h = absurd (Contains-none z h)
                by_whole (Some rule) (m, more, cause, node', alone) h =
                    let start : choice.first.start ≡ key.end - p.length = omega arith in
                    one_is (λ (z : NodeKey). IsUnder w ranking r first z) (whole_key_of r.flat rule.rule (key.end - p.length) key.end)
                    (subst (λ s. IsUnder w ranking r first (whole_key_of r.flat rule.rule s key.end)) start (whole_at m more rule.rule cause node')) z h

    options_are : options f (Parts (number_of nodes key)) ≡ alternative_goals f node choice.first ∷ map (alternative_goals f node) choice.later
    options_are =
        ap (λ z. node_options f (slice_get nodes z)) (sym (only_number nodes (pairs_once _ is.used.once) n node key at key_is))
        ∙ ap (node_options f) at ∙ ap (map (alternative_goals f node)) choice.is

    abbrev new_keys : List NodeKey
    new_keys = parts_before key (start_of key chosen.part) ++ chosen_keys r.flat key chosen.part

    goes : (keys : List NodeKey) (behind : List Step) (alone : Bool) → IsOn f (keys ++ key ∷ []) behind alone → IsOn f (keys ++ new_keys) (chosen_step r.flat key chosen.part ∷ behind) (alone && chosen.alone)
    goes keys behind alone on first only walk =
        let left : List Goal = goals_of f keys in
        let before : List Goal = predecessor_goals choice.first.predecessor in
        let ends : List Goal = cause_goals (cause_symbol f key) choice.first.start key.end choice.first.cause in
        let apart : goals_of f (keys ++ new_keys) ≡ (goals_of f keys ++ predecessor_goals choice.first.predecessor) ++ goals_of f (chosen_keys r.flat key chosen.part) =
        map-append (λ k. Parts (number_of nodes k)) keys new_keys
        ∙ ap (λ l. goals_of f keys ++ l) (map-append (λ k. Parts (number_of nodes k)) (parts_before key (start_of key chosen.part)) (chosen_keys r.flat key chosen.part)
        ∙ ap (λ l. l ++ goals_of f (chosen_keys r.flat key chosen.part)) (before_goals key are.dot (start_of key chosen.part) dot_is choice.first.predecessor predecessor))
        ∙ sym (append_assoc (goals_of f keys) (predecessor_goals choice.first.predecessor) (goals_of f (chosen_keys r.flat key chosen.part))) in
        let caused = cause_goes (left ++ before) key are.dot (cause_symbol f key) refl chosen.part choice.first choice.one choice.part first only (subst (λ l. IsWalk f l first only) apart walk) in
        let taken = subst (λ l. IsWalk f l (first ++ chosen_step r.flat key chosen.part ∷ []) (only && choice.one)) (append_assoc left before ends) caused in
        let taken' = subst (λ (k : NodeKey). IsWalk f (left ++ (predecessor_goals choice.first.predecessor ++ cause_goals (cause_symbol f k) choice.first.start k.end choice.first.cause)) (first ++ chosen_step r.flat key chosen.part ∷ []) (only && choice.one)) (sym key_is) taken in
        let chose = Chose left (first ++ chosen_step r.flat key chosen.part ∷ []) (only && choice.one) (Parts (number_of nodes key)) (alternative_goals f node choice.first) (map (alternative_goals f node) choice.later) options_are taken' in
        let whole = on (first ++ chosen_step r.flat key chosen.part ∷ []) ((only && choice.one) && is_none (map (alternative_goals f node) choice.later))
        (subst (λ l. IsWalk f l (first ++ chosen_step r.flat key chosen.part ∷ []) ((only && choice.one) && is_none (map (alternative_goals f node) choice.later))) (sym (map-append (λ k. Parts (number_of nodes k)) keys (key ∷ []))) chose) in
        subst (λ l. IsWalk f (root_goals f f.root) l (only && (alone && chosen.alone))) (append_assoc first (chosen_step r.flat key chosen.part ∷ []) behind)
        (subst (λ b. IsWalk f (root_goals f f.root) ((first ++ chosen_step r.flat key chosen.part ∷ []) ++ behind) b)
        (ap (λ b. ((only && choice.one) && b) && alone) (none_mapped (alternative_goals f node) choice.later) ∙ and_moved only choice.one (is_none choice.later) alone ∙ ap (λ b. only && (alone && b)) (sym choice.alone)) whole)

-- ---- all forests of the reading

module _ (w : Grammar) (ranking : Ranking) (r : Recognizer) (read : IsRead w r) (tree : HasTree r) where
  derived : IsDerived (reading_of w ranking r)
  derived = let (t, d) = has_top w r read tree in record {
    checked = read.checked;
    flat = read.is.flat;
    flat_of = read.flat_of;
    start = read.is.start;
    forward = read.is.forward;
    tree = t;
    derives = d;
  }

  -- the reading has a forest
  pub some_forest : (nodes : List ForestNode) × (root : Option ℕ) × IsForest (F w ranking r nodes root)
  some_forest = forests_exist (reading_of w ranking r) derived

  first_of : (steps : List Step) (alone : Bool) → IsUnderWay w ranking r [] steps alone → IsFirst (reading_of w ranking r) steps alone
  first_of steps alone way =
      let (nodes, root, is) = some_forest in
      let h = walks_are_first (F w ranking r nodes root) steps alone is (way.on nodes root is [] true Done) in
      record { tree = h.tree; others = h.others; listing = h.listing; steps = h.steps; few = h.few; only = h.only }

  -- and so of the written steps, where none is left
  pub first_told : (steps : List Step) (alone : Bool) → IsUnderWay w ranking r [] steps alone → (g : FlatGrammar) → g ≡ r.flat → (told : List Step) → told ≡ steps_written w g [] steps → IsFirstDerivation (reading_of w ranking r) told alone
  first_told steps alone way g e told is =
      let h = first_of steps alone way in
      record { tree = h.tree; others = h.others; listing = h.listing; is = is ∙ ap (λ g. steps_written w g [] steps) e ∙ h.steps; only = h.only }

  module _ (keys : List NodeKey) (key : NodeKey) (behind : List Step) (alone : Bool) (way : IsUnderWay w ranking r (keys ++ key ∷ []) behind alone) (chosen : Chosen) (choice : IsChosen w ranking r key chosen) where
    pub last_used : IsUsedIn w ranking r key
    last_used = way.used key (Contains-append_right keys (key ∷ []) key (Contains-first key []))

    abbrev pub next_keys : List NodeKey
    next_keys = parts_before key (start_of key chosen.part) ++ chosen_keys r.flat key chosen.part

    record IsNext : Type 0 where
      late : key.origin ≤ start_of key chosen.part
      fits : IsStepOf r.flat (chosen_step r.flat key chosen.part)
      wait : (z : NodeKey) → Contains (parts_before key (start_of key chosen.part)) z → z.dot < length (rhs_of r.flat z.rule)
      parts_under : (first : NodeKey) → IsUnder w ranking r first key → (z : NodeKey) → Contains (parts_before key (start_of key chosen.part)) z → z.end ≡ key.end → IsUnder w ranking r first z
      wholes_under : (first : NodeKey) → IsUnder w ranking r first key → (z : NodeKey) → Contains (chosen_keys r.flat key chosen.part) z → IsUnder w ranking r first z
      parts : (z : NodeKey) → Contains (parts_before key (start_of key chosen.part)) z → IsUsedIn w ranking r z × (z.origin ≡ key.origin) × (z.end ≡ start_of key chosen.part)
      wholes : (z : NodeKey) → Contains (chosen_keys r.flat key chosen.part) z → IsUsedIn w ranking r z × (z.origin ≡ start_of key chosen.part) × (z.end ≡ key.end)

    next : IsNext
    next =
        let (nodes, root, is) = some_forest in
        let (node, at, key_is) = node_by w ranking r nodes root is key last_used in
        let n : ℕ = number_of nodes key in
        let are = subst (λ (k : NodeKey). AreAlternatives (F w ranking r nodes root) k node.alternatives) key_is (is.alternatives node (contains_from nodes node (get_among nodes (number_of nodes key) node at))) in
        let first = choice nodes root node.alternatives are in
        record {
          late = within w ranking r nodes root is key last_used chosen n node at key_is are first read;
          fits = step_fits w ranking r nodes root is key last_used chosen n node at key_is are first read;
          wait = parts_wait w ranking r nodes root is key last_used chosen n node at key_is are first read;
          parts_under = parts_under w ranking r nodes root is key last_used chosen n node at key_is are first read;
          wholes_under = wholes_under w ranking r nodes root is key last_used chosen n node at key_is are first read;
          parts = parts_used w ranking r nodes root is key last_used chosen n node at key_is are first;
          wholes = keys_used w ranking r nodes root is key last_used chosen n node at key_is are first;
        }

    new_used : (z : NodeKey) → Contains next_keys z → IsUsedIn w ranking r z × (key.origin ≤ z.origin)
    new_used z h = elim (Contains-append_cases (parts_before key (start_of key chosen.part)) (chosen_keys r.flat key chosen.part) z h) [
      | inl a ↦ let (u, o, e) = next.parts z a in (u, omega arith)
      | inr b ↦ let (u, o, e) = next.wholes z b in let l = next.late in (u, omega arith)
    ]

    parts_apart : AreApart (parts_before key (start_of key chosen.part))
    parts_apart = go (key.dot == 1)
      where
        go : (b : Bool) → AreApart (if b then [] else record { rule = key.rule; dot = key.dot - 1; origin = key.origin; end = start_of key chosen.part } ∷ [])
        go true = tt
        go false = one_apart (record { rule = key.rule; dot = key.dot - 1; origin = key.origin; end = start_of key chosen.part })

    wholes_apart : (p : Option Part) → AreApart (chosen_keys r.flat key p)
    wholes_apart None = tt
    wholes_apart (Some p) = go p.whole
      where
        go : (o : Option RuleKey) → AreApart (keys_by r.flat o (key.end - p.length) key.end)
        go None = tt
        go (Some rule) = one_apart (whole_key_of r.flat rule.rule (key.end - p.length) key.end)

    new_apart : AreApart next_keys
    new_apart = apart_both (parts_before key (start_of key chosen.part)) (chosen_keys r.flat key chosen.part) parts_apart (wholes_apart chosen.part)
        (λ x y i j. (let (u, o, e) = next.parts x i in let (u', o', e') = next.wholes y j in omega arith))

    pub goes_on : IsUnderWay w ranking r (keys ++ next_keys) (chosen_step r.flat key chosen.part ∷ behind) (alone && chosen.alone)
    goes_on = record {
      used = λ z h. elim (Contains-append_cases keys next_keys z h) [ inl a ↦ way.used z (Contains-append_left keys (key ∷ []) z a) | inr b ↦ (new_used z b).0 ];
      apart = apart_both keys next_keys (apart_front keys (key ∷ []) way.apart) new_apart
          (λ x y i j. (let a = apart_last keys key way.apart x i in let b = (new_used y j).1 in omega arith));
      steps = λ s h. elim (Contains-cons_cases (chosen_step r.flat key chosen.part) behind s h) [ inl e ↦ subst (λ z. IsStepOf r.flat z) e next.fits | inr i ↦ way.steps s i ];
      other = λ e. elim (and_false alone chosen.alone e) [ inl a ↦ way.other a | inr b ↦ (key, chosen, last_used, choice, b) ];
      on = λ nodes root is. (
          let (node, at, key_is) = node_by w ranking r nodes root is key last_used in
          let are = subst (λ (k : NodeKey). AreAlternatives (F w ranking r nodes root) k node.alternatives) key_is (is.alternatives node (contains_from nodes node (get_among nodes (number_of nodes key) node at))) in
          goes w ranking r nodes root is key last_used chosen (number_of nodes key) node at key_is are (choice nodes root node.alternatives are) keys behind alone (way.on nodes root is)
          );
    }

    -- where the node is asked for by the first one of its place, so is what it leads to there
    ahead_on : (before : Option NodeKey) → AreAhead w ranking r before (keys ++ key ∷ []) → (first : NodeKey) → IsUnder w ranking r first key → key.origin < key.end → AreAhead w ranking r (Some first) (keys ++ next_keys)
    ahead_on before ahead first under spans z h = elim (Contains-append_cases keys next_keys z h) [
      | inl a ↦
          let l = apart_last keys key way.apart z a in
          let e = under.end in (
            omega arith,
            λ same spans'. absurd (omega arith),
            λ lt. wait_before before z (ahead z (Contains-append_left keys (key ∷ []) z a)) (ahead key (Contains-append_right keys (key ∷ []) key (Contains-first key []))) l,
          )
      | inr b ↦ elim (Contains-append_cases (parts_before key (start_of key chosen.part)) (chosen_keys r.flat key chosen.part) z b) [
        | inl c ↦
            let (u, o, e) = next.parts z c in
            let le = early chosen.part in
            let same = under.end in (
              omega arith,
              λ here spans'. next.parts_under first under z c (here ∙ sym under.end),
              λ lt. next.wait z c,
            )
        | inr c ↦
            let (u, o, e) = next.wholes z c in
            let same = under.end in
            (omega arith, λ here spans'. next.wholes_under first under z c, λ lt. absurd (omega arith))
      ]
    ]
      where
        early : (p : Option Part) → start_of key p ≤ key.end
        early None = omega arith
        early (Some p) = omega arith

        -- those that end before it did wait
        wait_before : (o : Option NodeKey) (z : NodeKey) → IsAhead w ranking r o z → IsAhead w ranking r o key → z.end ≤ key.origin → z.dot < length (rhs_of r.flat z.rule)
        wait_before None z (some, e) (some', e') l = let a = ap (λ (y : NodeKey). y.end) e in let b = ap (λ (y : NodeKey). y.end) e' in absurd (omega arith)
        wait_before (Some f) z (le, ends, wait) (le', ends', wait') l = wait (omega arith)

    -- as the code has it
    pub walks_on : (g : FlatGrammar) → g ≡ r.flat → (keys' : List NodeKey) (behind' : List Step) (alone' : Bool) →
        keys' ≡ keys ++ (parts_before key (start_of key chosen.part) ++ chosen_keys g key chosen.part) → behind' ≡ chosen_step g key chosen.part ∷ behind → alone' ≡ (alone && chosen.alone) →
        IsUnderWay w ranking r keys' behind' alone'
    walks_on g e keys' behind' alone' a b c =
        subst (λ l. IsUnderWay w ranking r l behind' alone') (sym (a ∙ ap (λ g. keys ++ (parts_before key (start_of key chosen.part) ++ chosen_keys g key chosen.part)) e))
        (subst (λ l. IsUnderWay w ranking r (keys ++ next_keys) l alone') (sym (b ∙ ap (λ g. chosen_step g key chosen.part ∷ behind) e))
        (subst (λ z. IsUnderWay w ranking r (keys ++ next_keys) (chosen_step r.flat key chosen.part ∷ behind) z) (sym c) goes_on))

    pub placed_on : (g : FlatGrammar) → g ≡ r.flat → (keys' : List NodeKey) → keys' ≡ keys ++ (parts_before key (start_of key chosen.part) ++ chosen_keys g key chosen.part) →
        (before : Option NodeKey) → AreAhead w ranking r before (keys ++ key ∷ []) → (now : Option NodeKey) (first : NodeKey) → now ≡ Some first → IsUnder w ranking r first key → key.origin < key.end → AreAhead w ranking r now keys'
    placed_on g e keys' a before ahead now first same under spans =
        subst (λ o. AreAhead w ranking r o keys') (sym same)
        (subst (λ l. AreAhead w ranking r (Some first) l) (sym (a ∙ ap (λ g. keys ++ (parts_before key (start_of key chosen.part) ++ chosen_keys g key chosen.part)) e)) (ahead_on before ahead first under spans))

  -- after one that spans nothing
  pub ahead_empty : (keys : List NodeKey) (key : NodeKey) → IsUsedIn w ranking r key → key.origin ≡ key.end → (first : Option NodeKey) → AreAhead w ranking r first (keys ++ key ∷ []) → AreAhead w ranking r first (keys ++ (parts_before key key.end ++ []))
  ahead_empty keys key used empty first h z i = elim (Contains-append_cases keys (parts_before key key.end ++ []) z i) [
    | inl a ↦ h z (Contains-append_left keys (key ∷ []) z a)
    | inr b ↦ elim (Contains-append_cases (parts_before key key.end) [] z b) [
      | inl c ↦ go (key.dot == 1) c
      | inr c ↦ absurd (Contains-none z c)
    ]
  ]
    where
      before : NodeKey
      before = record { rule = key.rule; dot = key.dot - 1; origin = key.origin; end = key.end }

      waits : key.dot - 1 < length (rhs_of r.flat key.rule)
      waits = let i = used_within w ranking r read key used in let s = i.some in let l = i.parts in omega arith

      here : (o : Option NodeKey) → IsAhead w ranking r o key → IsAhead w ranking r o before
      here None (lt, e) = let a = ap (λ (z : NodeKey). z.origin) e in let b = ap (λ (z : NodeKey). z.end) e in absurd (omega arith)
      here (Some f) (le, ends, wait) = (le, λ same spans. absurd (omega arith), λ lt. waits)

      go : (b : Bool) → Contains (if b then [] else record { rule = key.rule; dot = key.dot - 1; origin = key.origin; end = key.end } ∷ []) z → IsAhead w ranking r first z
      go true c = absurd (Contains-none z c)
      go false c = one_is (λ (z : NodeKey). IsAhead w ranking r first z) before (here first (h key (Contains-append_right keys (key ∷ []) key (Contains-first key [])))) z c

  -- ---- the whole

  pub begun_empty : earleme_of r ≡ 0 → IsUnderWay w ranking r [] (NulledStep (lhs_of r.flat (top_of r)) 0 ∷ []) true
  begun_empty none = record {
    used = λ key h. absurd (Contains-none key h);
    apart = tt;
    steps = λ s h. elim (Contains-cons_cases (NulledStep (lhs_of r.flat (top_of r)) 0) [] s h) [
      | inl e ↦ subst (λ z. IsStepOf r.flat z) e (read.is.flat.in_range.left (top_of r) (at_top r read.is).is_rule)
      | inr i ↦ absurd (Contains-none s i)
    ];
    other = λ e. absurd (true≢false e);
    on = λ nodes root is. go nodes root is root refl is.root;
  }
    where
      go : (nodes : List ForestNode) (root : Option ℕ) (is : IsForest (F w ranking r nodes root)) (o : Option ℕ) → root ≡ o → IsRoot (F w ranking r nodes root) o →
          IsOn (F w ranking r nodes root) [] (NulledStep (lhs_of r.flat (top_of r)) 0 ∷ []) true
      go nodes root is None e h first only walk =
          subst (λ o. IsWalk (F w ranking r nodes root) (root_goals (F w ranking r nodes root) o) (first ++ NulledStep (lhs_of r.flat (top_of r)) 0 ∷ []) (only && true)) (sym e)
          (subst (λ b. IsWalk (F w ranking r nodes root) (Write (NulledStep (lhs_of r.flat (top_of r)) 0) ∷ []) (first ++ NulledStep (lhs_of r.flat (top_of r)) 0 ∷ []) b) (sym (and_true only))
          (Wrote [] first only (NulledStep (lhs_of r.flat (top_of r)) 0) walk))
      go nodes root is (Some n) e (lt, node) first only walk = absurd (omega arith)

  abbrev the_top : NodeKey
  the_top = whole_key_of r.flat (top_of r) 0 (earleme_of r)

  pub begun_whole : 0 < earleme_of r → IsUnderWay w ranking r (whole_key_of r.flat (top_of r) 0 (earleme_of r) ∷ []) (whole_step r.flat (top_of r) 0 (earleme_of r) ∷ []) true
  begun_whole some = record {
    used = one_is (IsUsedIn w ranking r) the_top (let (nodes, root, is) = some_forest in by_root nodes root is root is.root);
    apart = one_apart the_top;
    steps = λ s h. elim (Contains-cons_cases (whole_step r.flat (top_of r) 0 (earleme_of r)) [] s h) [
      | inl e ↦ subst (λ z. IsStepOf r.flat z) e (at_top r read.is).is_rule
      | inr i ↦ absurd (Contains-none s i)
    ];
    other = λ e. absurd (true≢false e);
    on = λ nodes root is. go nodes root is root refl is.root;
  }
    where
      by_root : (nodes : List ForestNode) (root : Option ℕ) (is : IsForest (F w ranking r nodes root)) (o : Option ℕ) → IsRoot (F w ranking r nodes root) o → IsUsedIn w ranking r the_top
      by_root nodes root is None h = absurd (omega arith)
      by_root nodes root is (Some n) (lt, node) = used_by w ranking r nodes root is n the_top node

      go : (nodes : List ForestNode) (root : Option ℕ) (is : IsForest (F w ranking r nodes root)) (o : Option ℕ) → root ≡ o → IsRoot (F w ranking r nodes root) o →
          IsOn (F w ranking r nodes root) (the_top ∷ []) (whole_step r.flat (top_of r) 0 (earleme_of r) ∷ []) true
      go nodes root is None e h first only walk = absurd (omega arith)
      go nodes root is (Some n) e (lt, node) first only walk =
          subst (λ o. IsWalk (F w ranking r nodes root) (root_goals (F w ranking r nodes root) o) (first ++ whole_step r.flat (top_of r) 0 (earleme_of r) ∷ []) (only && true)) (sym e)
          (subst (λ b. IsWalk (F w ranking r nodes root) (whole_goals (F w ranking r nodes root) 0 (earleme_of r) n) (first ++ whole_step r.flat (top_of r) 0 (earleme_of r) ∷ []) b) (sym (and_true only))
          (write_whole w ranking r nodes root is [] n (top_of r) 0 (earleme_of r) node first only walk))

  -- as the code has it
  pub empty_begun : earleme_of r ≡ 0 → (symbol : ℕ) → symbol ≡ lhs_of r.flat (top_of r) → (keys : List NodeKey) (behind : List Step) (alone : Bool) → keys ≡ [] → behind ≡ NulledStep symbol 0 ∷ [] → alone ≡ true →
      IsUnderWay w ranking r keys behind alone
  empty_begun none symbol is keys behind alone a b c =
      subst (λ l. IsUnderWay w ranking r l behind alone) (sym a)
      (subst (λ l. IsUnderWay w ranking r [] l alone) (sym (b ∙ ap (λ x. NulledStep x 0 ∷ []) is))
      (subst (λ z. IsUnderWay w ranking r [] (NulledStep (lhs_of r.flat (top_of r)) 0 ∷ []) z) (sym c) (begun_empty none)))

  pub whole_begun : 0 < earleme_of r → (keys : List NodeKey) (behind : List Step) (alone : Bool) → keys ≡ whole_key_of r.flat (top_of r) 0 (earleme_of r) ∷ [] → behind ≡ whole_step r.flat (top_of r) 0 (earleme_of r) ∷ [] → alone ≡ true →
      IsUnderWay w ranking r keys behind alone
  whole_begun some keys behind alone a b c =
      subst (λ l. IsUnderWay w ranking r l behind alone) (sym a)
      (subst (λ l. IsUnderWay w ranking r (the_top ∷ []) l alone) (sym b)
      (subst (λ z. IsUnderWay w ranking r (the_top ∷ []) (whole_step r.flat (top_of r) 0 (earleme_of r) ∷ []) z) (sym c) (begun_whole some)))

  pub empty_ahead : (keys : List NodeKey) → keys ≡ [] → AreAhead w ranking r None keys
  empty_ahead keys e key h = absurd (Contains-none key (subst (λ l. Contains l key) e h))

  pub whole_ahead : 0 < earleme_of r → (keys : List NodeKey) → keys ≡ whole_key_of r.flat (top_of r) 0 (earleme_of r) ∷ [] → AreAhead w ranking r None keys
  whole_ahead some keys e key h = one_is (λ (z : NodeKey). (0 < earleme_of r) × (z ≡ top_key r)) the_top (some, refl) key (subst (λ l. Contains l key) e h)

-- The first alternative of a used node: where its last part begins, and what that is.
use Rattle.std.proofs.Common.{◌≡◌, ◌⊎◌, inl, inr, ◌↔◌, ℕ, suc, ◌+◌, ◌-◌, ◌<◌, ◌≤◌, Bool, true, false, if◌then◌else◌, eq-eqb, List, [], ◌∷◌, map, Option, Some, None, length, Contains, slice_get, refl, sym, ◌∙◌, ap, subst, arith}
use Rattle.std.specs.Prelude.{IsTrue, ◌&&◌, slice_index_or}
use Rattle.std.proofs.lemmas.Bool.{cases_lt, false≢true}
use Rattle.std.proofs.lemmas.Cmp.{nat_cmp_total}
use Rattle.std.specs.declared.cmp.Ordering.TheVariants.{Less, Equal, Greater}
use Rattle.std.specs.Ordering.{ordering_then, ordering_reverse, nat_cmp}
use Rattle.std.specs.Option.{option_cmp}
use Rattle.finite_sets.proofs.Clauses.{then_at_most, less_differs}
use Rattle.finite_sets.proofs.Lists.{got_at, get_some, get_among}
use Rattle.finite_sets.proofs.Members.{Among, among_from, contains_from}
use Rattle.grammar_model.specs.declared.Ranking.{Ranking}
use Rattle.grammar_model.specs.Grammar.{Grammar}
use Rattle.grammar_model.specs.Trees.{Children}
use Rattle.recognizer_model.specs.declared.NodeKey.{NodeKey}
use Rattle.recognizer_model.specs.declared.flat.FlatSymbol.TheVariants.{Terminal}
use Rattle.recognizer_model.specs.Flat.{rhs_of, part_of, IsNullable}
use Rattle.recognizer_model.specs.FlatDerives.{Derives, Spans, More}
use Rattle.recognizer_model.specs.Nodes.{IsMet, Whole, Before, Last}
use Rattle.earley_sets.specs.Recognizer.{Recognizer, earleme_of, set_at, edges_of, top_of}
use Rattle.forest_model.specs.Forest.{ForestNode, Alternative, Cause, AnEdge, Nothing, Wholes, IsCause, IsNode, IsSplit, AreAlternatives, whole_key, starts_cmp, start_place}
use Rattle.forest_laws.specs.Lists.{cause_symbol}
use Rattle.forest_parts.specs.declared.parts.Part.{Part}
use Rattle.forest_parts.specs.Parts.{key_cmp, part_at, rule_key_of, IsPart}
use Rattle.forest_parts.proofs.InOrder.{then_rest}
use Rattle.forest_parts.proofs.Sets.{in_full}
use Rattle.bocage.specs.Walk.{IsRead, IsUsedIn}
use Rattle.bocage.proofs.Joining.{starts_less}
use Rattle.bocage.proofs.Splits.{used_met, derives_forward}
use Rattle.first_walk.specs.declared.place.Chosen.{Chosen}
use Rattle.first_walk.specs.Walk.{is_none}
use Rattle.first_walk.specs.Place.{reading_of, HaveLast, IsFirstMatch, HasNoMatch, HasOtherStart, HasOtherWhole, IsFirstOf, IsCauseBy, IsPartOf, IsFirstChoice, null_high}
use Rattle.first_walk.proofs.Heads.{same_bool, first_is}
use Rattle.first_walk.proofs.Rules.{F}
use Rattle.first_walk.proofs.Parts

and_true : (a b : Bool) → IsTrue (a && b) ↔ (IsTrue a × IsTrue b)
and_true true b = (λ t. (refl, t), λ h. h.1)
and_true false b = (λ t. absurd (false≢true t), λ h. absurd (false≢true h.0))

place_inside : (high : Bool) (m end : ℕ) → m < end → start_place high m end ≡ 1
place_inside high m end lt = ap (λ b. if b then (if high then 0 else 2) else 1) (less_differs m end lt)

place_at : (high : Bool) (end : ℕ) → start_place high end end ≡ (if high then 0 else 2)
place_at high end = ap (λ b. if b then (if high then 0 else 2) else 1) (eq-eqb end end refl)

nothing_before : (end n : ℕ) → n < end → starts_cmp true end end n ≡ Less
nothing_before end n lt = λ i. ordering_then (nat_cmp (place_at true end i) (place_inside true n end lt i)) (nat_cmp n end)

nothing_behind : (end m : ℕ) → m < end → starts_cmp false end m end ≡ Less
nothing_behind end m lt = λ i. ordering_then (nat_cmp (place_inside false m end lt i) (place_at false end i)) (nat_cmp end m)

never_both : (high : Bool) (end m n : ℕ) → starts_cmp high end m n ≡ Less → starts_cmp high end n m ≡ Less → ⊥
never_both high end m n a b =
    let p = then_at_most (start_place high m end) (start_place high n end) (nat_cmp n m) a in
    let q = then_at_most (start_place high n end) (start_place high m end) (nat_cmp m n) b in
    let c = then_rest (start_place high m end) (start_place high n end) (nat_cmp n m) a (omega arith) in
    let d = then_rest (start_place high n end) (start_place high m end) (nat_cmp m n) b (omega arith) in
    let f : Less ≡ Greater = sym c ∙ nat_cmp_total.antisymm n m ∙ ap ordering_reverse d in
    cc

-- a list that is mapped to one with a first element has one
record MapsTo {X Y : Type 0} (f : X → Y) (xs : List X) (y : Y) (ys : List Y) : Type 0 where
  first : X
  later : List X
  is : xs ≡ first ∷ later
  first_is : f first ≡ y
  none : is_none later ≡ is_none ys

maps_to : {X Y : Type 0} (f : X → Y) (xs : List X) (y : Y) (ys : List Y) → map f xs ≡ y ∷ ys → MapsTo f xs y ys
maps_to f [] y ys e = absurd (cc)
maps_to f (x ∷ xs) y ys e =
    let a : f x ≡ y = cc in
    let b : map f xs ≡ ys = cc in
    record { first = x; later = xs; is = refl; first_is = a; none = sym (none_mapped f xs) ∙ ap is_none b }
  where
    none_mapped : {X Y : Type 0} (f : X → Y) (xs : List X) → is_none (map f xs) ≡ is_none xs
    none_mapped f [] = refl
    none_mapped f (x ∷ xs) = refl

module _ (w : Grammar) (ranking : Ranking) (r : Recognizer) (read : IsRead w r) (key : NodeKey) (used : IsUsedIn w ranking r key)
    (d symbol : ℕ) (dot_is : key.dot ≡ suc d) (part : part_of r.flat key.rule d ≡ Some symbol) where
  abbrev Split : ℕ → Type 0
  Split m = IsSplit (reading_of w ranking r) key.rule d key.origin symbol m key.end

  -- some last part there is
  pub some_split : (m : ℕ) × Split m
  some_split =
      let met = ((used_met w ranking r read key).0 used).1 in
      let (cs, s) = met_spans met in
      by_last (subst (λ n. Spans r.flat (edges_of r) key.rule n key.origin key.end cs) dot_is s)
    where
      met_spans : {allowed : _} {rule n p q : ℕ} → IsMet r.flat (edges_of r) allowed (top_of r) (earleme_of r) rule n p q → (cs : Children) × Spans r.flat (edges_of r) rule n p q cs
      met_spans (Whole {cs = cs} lt s) = (cs, s)
      met_spans (Before {cs = cs} m s e d) = (cs, s)
      met_spans (Last {cs' = cs} m s e rule lt s' a) = (cs, s')

      by_last : {cs : Children} → Spans r.flat (edges_of r) key.rule (suc d) key.origin key.end cs → (m : ℕ) × Split m
      by_last (More {m = m} {x = x} {cs = cs} {t = t} s e t') =
          let same : x ≡ symbol = (let both = sym e ∙ part in cc) in
          (m, record { children = cs; predecessor = s; tree = t; cause = subst (λ z. Derives r.flat (edges_of r) z m key.end t) same t' })

  pub early : (m : ℕ) → Split m → m ≤ key.end
  early m s = derives_forward r read.is s.cause

  module _ (nodes : List ForestNode) (root : Option ℕ) (alternatives : List Alternative) (are : AreAlternatives (F w ranking r nodes root) key alternatives) where
    dot_same : are.dot ≡ d
    dot_same = let e = are.dot_is in omega arith

    symbol_same : are.symbol ≡ symbol
    symbol_same = let both : Some are.symbol ≡ Some symbol = sym are.part ∙ ap (part_of r.flat key.rule) dot_same ∙ part in cc

    symbol_is : cause_symbol (F w ranking r nodes root) key ≡ symbol
    symbol_is =
        let e : key.dot - 1 ≡ d = omega arith in
        ap (λ n. slice_index_or (rhs_of r.flat key.rule) n 0) e ∙ (got_at (rhs_of r.flat key.rule) d symbol 0 (sym part)).1

    abbrev starts : List ℕ
    starts = map (λ (a : Alternative). a.start) alternatives

    to_split : (m : ℕ) → Contains starts m → Split m
    to_split m h =
        let s = (are.exact m).0 h in
        record {
          children = s.children;
          predecessor = subst (λ n. Spans r.flat (edges_of r) key.rule n key.origin m s.children) dot_same s.predecessor;
          tree = s.tree;
          cause = subst (λ x. Derives r.flat (edges_of r) x m key.end s.tree) symbol_same s.cause;
        }

    split_to : (m : ℕ) → Split m → Contains starts m
    split_to m s = (are.exact m).1 (record {
      children = s.children;
      predecessor = subst (λ n. Spans r.flat (edges_of r) key.rule n key.origin m s.children) (sym dot_same) s.predecessor;
      tree = s.tree;
      cause = subst (λ x. Derives r.flat (edges_of r) x m key.end s.tree) (sym symbol_same) s.cause;
    })

    record IsFirstStart (m : ℕ) : Type 0 where
      first : Alternative
      later : List Alternative
      is : alternatives ≡ first ∷ later
      start : first.start ≡ m
      cause : IsCause (F w ranking r nodes root) symbol m key.end first.cause
      none : IsTrue (is_none later) ↔ ((n : ℕ) → Split n → n ≡ m)

    abbrev high : Bool
    high = null_high w ranking r key.rule

    first_start : (m : ℕ) → Split m → ((n : ℕ) → Split n → (n ≡ m) ⊎ (starts_cmp (null_high w ranking r key.rule) key.end m n ≡ Less)) → IsFirstStart m
    first_start m s least =
        let head = first_is (starts_cmp high key.end) (never_both high key.end) starts are.sorted m (among_from starts m (split_to m s)) (λ n i. least n (to_split n (contains_from starts n i))) in
        let maps = maps_to (λ (a : Alternative). a.start) alternatives m head.rest head.is in
        record {
          first = maps.first;
          later = maps.later;
          is = maps.is;
          start = maps.first_is;
          cause = subst (λ z. IsCause (F w ranking r nodes root) symbol z key.end maps.first.cause) maps.first_is
              (subst (λ z. IsCause (F w ranking r nodes root) z maps.first.start key.end maps.first.cause) symbol_same
              (are.each maps.first (contains_from alternatives maps.first (subst (Among maps.first) (sym maps.is) (inl refl)))).cause);
          none = (
            λ t n s'. head.none.0 (subst IsTrue maps.none t) n (among_from starts n (split_to n s')),
            λ all. subst IsTrue (sym maps.none) (head.none.1 (λ n i. all n (to_split n (contains_from starts n i)))),
          );
        }

    cause_nothing : (m : ℕ) → m ≡ key.end → (c : Cause) → IsCause (F w ranking r nodes root) symbol m key.end c → c ≡ Nothing
    cause_nothing m e AnEdge (t, is, h) = let lt = read.is.forward (record { symbol = t; from = m; to = key.end }) h in absurd (omega arith)
    cause_nothing m e Nothing h = refl
    cause_nothing m e (Wholes ns) h = let lt = h.spans in absurd (omega arith)

    true_is : (b : Bool) → IsTrue b → true ≡ (true && b)
    true_is b t = sym t

    -- NOTHING

    -- the last part may begin at the end alone
    pub nothing_alone : ((n : ℕ) → Split n → n ≡ key.end) → IsFirstChoice (F w ranking r nodes root) key alternatives (record { part = None; alone = true })
    nothing_alone all =
        let (m, s) = some_split in
        let here : Split key.end = subst Split (all m s) s in
        let f = first_start key.end here (λ n s'. inl (all n s')) in
        record {
          first = f.first;
          later = f.later;
          is = f.is;
          one = true;
          part = (f.start, cause_nothing key.end refl f.first.cause f.cause, refl);
          alone = true_is (is_none f.later) (f.none.1 all);
        }

    false_is : (b : Bool) → (IsTrue b → ⊥) → false ≡ (true && b)
    false_is true h = absurd (h refl)
    false_is false h = refl

    -- it may be nothing, which stands first, and something
    nothing_first : high ≡ true → Split key.end → (m : ℕ) → Split m → m < key.end → IsFirstChoice (F w ranking r nodes root) key alternatives (record { part = None; alone = false })
    nothing_first is_high here m s lt =
        let f = first_start key.end here (λ n s'. elim (cases_lt n key.end) [
          | inl before ↦ inr (subst (λ b. starts_cmp b key.end key.end n ≡ Less) (sym is_high) (nothing_before key.end n before))
          | inr ge ↦ let le = early n s' in inl (omega arith)
        ]) in
        record {
          first = f.first;
          later = f.later;
          is = f.is;
          one = true;
          part = (f.start, cause_nothing key.end refl f.first.cause f.cause, refl);
          alone = false_is (is_none f.later) (λ t. (let e = f.none.0 t m s in absurd (omega arith)));
        }

    module _ (parts : List Part) (listed : HaveLast w ranking r key parts) where
      -- without a match it is nothing
      pub none_chosen : HasNoMatch r parts symbol (record { rule = key.rule; dot = d; origin = key.origin }) → IsFirstChoice (F w ranking r nodes root) key alternatives (record { part = None; alone = true })
      none_chosen none = nothing_alone (Parts.none_nothing w ranking r read key used d symbol dot_is part parts listed none)

      module _ (k : ℕ) (match : IsFirstMatch r parts symbol (record { rule = key.rule; dot = d; origin = key.origin }) k) where
        abbrev start : ℕ
        start = key.end - (part_at parts k).length

        sum : start + (part_at parts k).length ≡ key.end
        sum = Parts.start_sum w ranking r read key used d symbol dot_is part parts listed k match

        begins : Split start × (start < key.end)
        begins = Parts.start_split w ranking r read key used d symbol dot_is part parts listed k match

        before_it : (n : ℕ) → Split n → n < key.end → (n ≡ start) ⊎ (starts_cmp high key.end start n ≡ Less)
        before_it n s lt = elim (Parts.starts_before w ranking r read key used d symbol dot_is part parts listed k match n s lt) [
          | inl e ↦ inl e
          | inr less ↦ inr (starts_less high key.end start n less begins.1)
        ]

        -- what the part is
        record IsCaused (c : Cause) : Type 0 where
          one : Bool
          by : (a : Alternative) → a.start ≡ start → a.cause ≡ c → IsCauseBy (F w ranking r nodes root) key (part_at parts k).whole a one
          none : IsTrue one ↔ (HasOtherWhole ranking parts k → ⊥)

        terminal_edge : (t : ℕ) → slice_get r.flat.symbols symbol ≡ Some (Terminal t) → (c : Cause) → IsCause (F w ranking r nodes root) symbol start key.end c → c ≡ AnEdge
        terminal_edge t is AnEdge h = refl
        terminal_edge t is Nothing h = let lt = begins.1 in absurd (omega (arith, h.0))
        terminal_edge t is (Wholes ns) h =
            let a = h.some in
            let b = h.all in
            let (rule, at) = get_some h.rules 0 (omega arith) in
            let over = ((h.exact rule).0 (contains_from h.rules rule (get_among h.rules 0 rule at))).0 in
            absurd (read.is.flat.no_rules rule over.is_rule (t, ap (slice_get r.flat.symbols) over.left ∙ is))

        edge_caused : (t : ℕ) → slice_get r.flat.symbols symbol ≡ Some (Terminal t) → (part_at parts k).whole ≡ None → (c : Cause) → IsCause (F w ranking r nodes root) symbol start key.end c → IsCaused c
        edge_caused t is none c h = record {
          one = true;
          by = λ a e e'. subst (λ o. IsCauseBy (F w ranking r nodes root) key o a true) (sym none) (e' ∙ terminal_edge t is c h, refl);
          none = (λ _ other. alone other, λ _. refl);
        }
          where
            alone : HasOtherWhole ranking parts k → ⊥
            alone (below, (x, l), kept) =
                let (part', end, bound) = listed.are (part_at parts (suc k)) (Parts.there w ranking r read key used d symbol dot_is part parts listed (suc k) below) in
                go part'
              where
                less : option_cmp key_cmp (part_at parts k).whole (part_at parts (suc k)).whole ≡ Less
                less = then_rest _ _ _ (Parts.in_order w ranking r read key used d symbol dot_is part parts listed k (suc k) (omega arith) below (sym x)) (sym l)

                go : IsPart w ranking r (part_at parts (suc k)) → ⊥
                go (inl (e, i, edge)) = let f : Equal ≡ Less = (λ n. option_cmp key_cmp (sym none n) (sym edge.whole n)) ∙ less in cc
                go (inr (earleme, item', le, i, over)) =
                    read.is.flat.no_rules item'.rule ((in_full r read.is earleme item').0 i).is_rule (t, ap (slice_get r.flat.symbols) (sym over.symbol ∙ x ∙ match.is.0) ∙ is)

        rule_caused : (s : ℕ) → Parts.IsOver w ranking r read key used d symbol dot_is part parts listed k match s → (part_at parts k).whole ≡ Some (rule_key_of w ranking r.flat s) →
            (c : Cause) → IsCause (F w ranking r nodes root) symbol start key.end c → IsCaused c
        rule_caused s mine whole AnEdge (t, is, h) = absurd (read.is.flat.no_rules s mine.is_rule (t, ap (slice_get r.flat.symbols) mine.left ∙ is))
        rule_caused s mine whole Nothing h = let lt = begins.1 in absurd (omega (arith, h.0))
        rule_caused s mine whole (Wholes ns) h =
            let f = Parts.first_whole w ranking r read key used d symbol dot_is part parts listed k match s mine whole nodes root ns h in
            record {
              one = is_none f.more;
              by = λ a e e'. subst (λ o. IsCauseBy (F w ranking r nodes root) key o a (is_none f.more)) (sym whole) (
                f.number,
                f.more,
                e' ∙ ap Wholes f.is,
                subst (λ z. IsNode (F w ranking r nodes root) f.number (whole_key (F w ranking r nodes root) s z key.end)) (sym e) f.node,
                refl,
              );
              none = f.none;
            }

        caused : (c : Cause) → IsCause (F w ranking r nodes root) symbol start key.end c → IsCaused c
        caused c h =
            let below = match.below in
            let (is, end, bound) = listed.are (part_at parts k) (Parts.there w ranking r read key used d symbol dot_is part parts listed k below) in
            go is end
          where
            go : IsPart w ranking r (part_at parts k) → (part_at parts k).end ≡ key.end → IsCaused c
            go (inl (e, i, edge)) end = edge_caused e.symbol (ap (slice_get r.flat.symbols) (sym match.is.0) ∙ edge.symbol) edge.whole c h
            go (inr (earleme, item', le, i, over)) end =
                let f = (in_full r read.is earleme item').0 i in
                let a = over.start in
                let b = over.end in
                let s = sum in
                let origin : item'.origin ≡ start = omega arith in
                let here : earleme ≡ key.end = sym over.end ∙ end in
                let spans = subst (λ q. Spans r.flat (edges_of r) item'.rule (length (rhs_of r.flat item'.rule)) start q f.children) here
                (subst (λ p'. Spans r.flat (edges_of r) item'.rule (length (rhs_of r.flat item'.rule)) p' earleme f.children) origin
                (subst (λ n. Spans r.flat (edges_of r) item'.rule n item'.origin earleme f.children) over.dot f.spans)) in
                rule_caused item'.rule (record { is_rule = f.is_rule; left = sym over.symbol ∙ match.is.0; children = f.children; spans = spans }) over.whole c h

        -- the part is the first, and nothing comes before it
        part_chosen : (nothing : Bool) → (IsTrue nothing ↔ (IsNullable r.flat symbol × Contains (set_at r key.end) (record { rule = key.rule; dot = d; origin = key.origin }))) →
            (IsTrue nothing → high ≡ false) → (chosen : Chosen) → chosen.part ≡ Some (part_at parts k) →
            (IsTrue chosen.alone ↔ ((nothing ≡ false) × (HasOtherWhole ranking parts k → ⊥) × (HasOtherStart r parts (record { rule = key.rule; dot = d; origin = key.origin }) k → ⊥))) →
            IsFirstChoice (F w ranking r nodes root) key alternatives chosen
        part_chosen nothing nothing_is is_low chosen part_is alone_is = record {
          first = f.first;
          later = f.later;
          is = f.is;
          one = c.one;
          part = subst (λ o. IsPartOf (F w ranking r nodes root) key o f.first c.one) (sym part_is)
              (ap (λ n. n + (part_at parts k).length) f.start ∙ sum, match.is.0 ∙ sym symbol_is, c.by f.first f.start refl);
          alone = same_bool chosen.alone (c.one && is_none f.later) (IsTrue chosen.alone) (λ t. t, λ t. t) (
            λ t. (let (a, b) = (and_true c.one (is_none f.later)).0 t in alone_is.1 (not_nothing b, c.none.0 a, not_start b)),
            λ t. (let (a, b, e) = alone_is.0 t in (and_true c.one (is_none f.later)).1 (c.none.1 b, f.none.1 (λ n s. only a e n s))),
          );
        }
          where
            f : IsFirstStart start
            f = first_start start begins.0 (λ n s. elim (cases_lt n key.end) [
              | inl lt ↦ before_it n s lt
              | inr ge ↦
                  let le = early n s in
                  let e : n ≡ key.end = omega arith in
                  let t = nothing_is.1 (Parts.split_nothing w ranking r read key used d symbol dot_is part n s e) in
                  inr (subst (λ z. starts_cmp high key.end start z ≡ Less) (sym e) (subst (λ b. starts_cmp b key.end start key.end ≡ Less) (sym (is_low t)) (nothing_behind key.end start begins.1)))
            ])

            c : IsCaused f.first.cause
            c = caused f.first.cause f.cause

            not_nothing : IsTrue (is_none f.later) → nothing ≡ false
            not_nothing b = go nothing refl
              where
                go : (n : Bool) → nothing ≡ n → n ≡ false
                go false e = refl
                go true e =
                    let (null, h) = nothing_is.0 e in
                    let here = Parts.nothing_split w ranking r read key used d symbol dot_is part null h in
                    let same = f.none.0 b key.end here in
                    let lt = begins.1 in
                    absurd (omega arith)

            not_start : IsTrue (is_none f.later) → HasOtherStart r parts (record { rule = key.rule; dot = d; origin = key.origin }) k → ⊥
            not_start b other =
                let (m, s, lt, differs) = Parts.other_start w ranking r read key used d symbol dot_is part parts listed k match other in
                differs (f.none.0 b m s)

            only : nothing ≡ false → (HasOtherStart r parts (record { rule = key.rule; dot = d; origin = key.origin }) k → ⊥) → (n : ℕ) → Split n → n ≡ start
            only a e n s = elim (cases_lt n key.end) [
              | inl lt ↦ elim (before_it n s lt) [
                | inl same ↦ same
                | inr less ↦ elim (cases_lt n start) [
                  | inl below ↦ absurd (e (Parts.start_other w ranking r read key used d symbol dot_is part parts listed k match n s lt (λ q. let q' : n ≡ start = q in absurd (omega arith))))
                  | inr ge ↦ elim (cases_lt start n) [
                    | inl above ↦ absurd (e (Parts.start_other w ranking r read key used d symbol dot_is part parts listed k match n s lt (λ q. let q' : n ≡ start = q in absurd (omega arith))))
                    | inr le ↦ omega arith
                  ]
                ]
              ]
              | inr ge ↦
                  let le = early n s in
                  let t = nothing_is.1 (Parts.split_nothing w ranking r read key used d symbol dot_is part n s (omega arith)) in
                  absurd (false≢true (sym a ∙ t))
            ]

        -- what is chosen of both
        pub some_chosen : (high' nothing : Bool) → high ≡ high' → (IsTrue nothing ↔ (IsNullable r.flat symbol × Contains (set_at r key.end) (record { rule = key.rule; dot = d; origin = key.origin }))) → (chosen : Chosen) →
            IsFirstOf r high' ranking parts (record { rule = key.rule; dot = d; origin = key.origin }) k nothing chosen → IsFirstChoice (F w ranking r nodes root) key alternatives chosen
        some_chosen true true e is chosen (none, alone) =
            let (null, h) = is.0 refl in
            let here = Parts.nothing_split w ranking r read key used d symbol dot_is part null h in
            let (s, lt) = begins in
            subst (IsFirstChoice (F w ranking r nodes root) key alternatives) (λ i. record { part = sym none i; alone = sym alone i }) (nothing_first e here start s lt)
        some_chosen true false e is chosen (some, alone) = part_chosen false is (λ t. absurd (false≢true t)) chosen some alone
        some_chosen false true e is chosen (some, alone) = part_chosen true is (λ t. e) chosen some alone
        some_chosen false false e is chosen (some, alone) = part_chosen false is (λ t. e) chosen some alone

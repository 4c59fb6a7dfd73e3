-- Parts over one span: an edge, or the whole rules of a symbol.
use Rattle.std.proofs.Common.{◌≡◌, ℕ, zero, suc, ◌<◌, ◌≤◌, ◌+◌, ◌-◌, ◌++◌, inl, inr, Contains, List, [], ◌∷◌, Option, Some, None, length, map, take, drop, slice_get, refl, sym, ◌∙◌, ap, subst, arith, ◌≤ℤ◌}
use Rattle.std.specs.declared.cmp.Ordering.{Ordering}
use Rattle.std.specs.declared.cmp.Ordering.TheVariants.{Less, Equal, Greater}
use Rattle.std.specs.Ordering.{ordering_then, nat_cmp, int_cmp, bool_cmp}
use Rattle.std.specs.Option.{option_cmp}
use Rattle.std.specs.Cmp.{nat_cmp_is}
use Rattle.std.specs.List.{AllByRecursion}
use Rattle.std.specs.List.Sorted.{IsStrictlySortedBy}
use Rattle.std.proofs.lemmas.List.Elements.{at_from_Contains, Contains-append_right, Contains-get_or}
use Rattle.std.proofs.Math.Seq.{take-length, drop-append_seam}
use Rattle.std.proofs.lemmas.List.{length-map, length-append}
use Rattle.finite_sets.proofs.Deciding.{most_twice}
use Rattle.finite_sets.proofs.Lists.{Contains-none, get_left}
use Rattle.grammar_model.specs.declared.Edge.{Edge as HeldEdge}
use Rattle.grammar_model.specs.Trees.{Tree, Children, Leaf, Node}
use Rattle.recognizer_model.specs.declared.Item.{Item}
use Rattle.recognizer_model.specs.declared.NodeKey.{NodeKey}
use Rattle.recognizer_model.specs.declared.flat.FlatSymbol.TheVariants.{Terminal}
use Rattle.recognizer_model.specs.Flat.{FlatGrammar, IsRule, lhs_of, rhs_of}
use Rattle.recognizer_model.specs.FlatDerives.{Derives, Token, Rule, Spans}
use Rattle.recognizer_model.specs.Contexts.{IsFound, Next}
use Rattle.earley_sets.specs.Recognizer.{set_at, edges_of, top_of}
use Rattle.recognizer_model.specs.Items.{InSet}
use Rattle.earley_sets.proofs.Membership.{Contains-first, Contains-rest, Contains-cons_cases}
use Rattle.forest_model.specs.Forest.{AreWholes, IsWholeOver, IsCause, whole_key, rules_cmp}
use Rattle.forest_parts.specs.declared.parts.RuleKey.{RuleKey}
use Rattle.forest_parts.specs.declared.parts.Part.{Part}
use Rattle.forest_parts.specs.Lists.{between}
use Rattle.forest_parts.specs.Parts.{part_cmp, key_cmp, part_at, no_part, rule_key_of, IsPart, IsPartAt, IsWholeOf}
use Rattle.bocage.specs.declared.rows.CauseRow.{CauseRow}
use Rattle.bocage.specs.declared.rows.CauseRow.TheVariants as row
use Rattle.bocage.specs.declared.walk.Known.{Known}
use Rattle.bocage.specs.Rows.{cause_of, IsCauseWithin}
use Rattle.recognizer_model.specs.Chosen.{flat_rank, allowed_by}
use Rattle.forest_parts.specs.Groups.{rank_in, IsSpan}
use Rattle.forest_parts.proofs.Ranks.{kept_allowed, allowed_kept}
use Rattle.forest_parts.proofs.InOrder.{then_rest}
use Rattle.forest_parts.proofs.Sets.{in_full}
use Rattle.bocage.proofs.Needing.{is_needed}
use Rattle.bocage.specs.Walk.{seen_by, IsUsedIn, node_of_item, node_after, whole_keys, whole_keys_by, AreNumbers, IsCauseHeld, AreNoted, IsNew, IsNext, Knows, Lists, GrowsBy, IsPredecessorFound, FitsPart, HasRule}
use Rattle.bocage.specs.declared.walk.Found.{Found}
use Rattle.bocage.proofs.Putting.{found_predecessor, whole_used, prefix_new, put_one}
use Rattle.bocage.proofs.Growing.{node_seen, grows_then, grows_weaker}
use Rattle.bocage.proofs.Splits.{used_met, met_stands, read_of}

-- the rules of parts
abbrev pub rules_by : Option RuleKey → List ℕ
rules_by None = []
rules_by (Some key) = key.rule ∷ []

abbrev pub rules_of : List Part → List ℕ
rules_of [] = []
rules_of (p ∷ ps) = rules_by p.whole ++ rules_of ps

then_assoc : (a b c : Ordering) → ordering_then (ordering_then a b) c ≡ ordering_then a (ordering_then b c)
then_assoc Less b c = refl
then_assoc Equal b c = refl
then_assoc Greater b c = refl

-- keys compare as the rules of one left side
keys_compare : (k : Known) (keys : List NodeKey) (r s : ℕ) → lhs_of k.recce.now.flat r ≡ lhs_of k.recce.now.flat s →
    key_cmp (rule_key_of k.written.now k.ranking k.recce.now.flat r) (rule_key_of k.written.now k.ranking k.recce.now.flat s) ≡ rules_cmp (seen_by k keys) r s
keys_compare k keys r s same =
    let a : RuleKey = rule_key_of k.written.now k.ranking k.recce.now.flat r in
    let b : RuleKey = rule_key_of k.written.now k.ranking k.recce.now.flat s in
    let e = nat_cmp_is (lhs_of k.recce.now.flat r) (lhs_of k.recce.now.flat s) Equal same in
    ap (ordering_then (nat_cmp (b.length).0 (a.length).0))
    (ap (ordering_then (int_cmp (b.rank).0 (a.rank).0)) (sym (then_assoc (nat_cmp a.source b.source) (bool_cmp a.trailing b.trailing) (nat_cmp r s)))
    ∙ sym (then_assoc (int_cmp (b.rank).0 (a.rank).0) (ordering_then (nat_cmp a.source b.source) (bool_cmp a.trailing b.trailing)) (nat_cmp r s)))
    ∙ ap (λ o. ordering_then o (ordering_then (nat_cmp (b.length).0 (a.length).0) (ordering_then (ordering_then (int_cmp (b.rank).0 (a.rank).0) (ordering_then (nat_cmp a.source b.source) (bool_cmp a.trailing b.trailing))) (nat_cmp r s)))) e

-- a part over the span that is a rule of the symbol, whole at the end
pub record IsTidy (k : Known) (symbol m end length' : ℕ) (p : Part) : Type 0 where
  pub rule : ℕ
  pub is_rule : IsRule k.recce.now.flat rule
  pub left : lhs_of k.recce.now.flat rule ≡ symbol
  pub whole : p.whole ≡ Some (rule_key_of k.written.now k.ranking k.recce.now.flat rule)
  pub in_place : InSet k.recce.now.flat (edges_of k.recce.now) (top_of k.recce.now) end (record { rule = rule; dot = length (rhs_of k.recce.now.flat rule); origin = m })
  pub end_is : p.end ≡ end
  pub symbol_is : p.symbol ≡ symbol
  pub length_is : p.length ≡ length'

module _ (k : Known) (symbol m end n : ℕ) (sum : m + n ≡ end) (keys : List NodeKey) where
  all_rules : (p : Part) (ps : List Part) → IsTidy k symbol m end n p → ((q : Part) → Contains ps q → IsTidy k symbol m end n q) → AllByRecursion (λ q. part_cmp p q ≡ Less) ps →
      (t : IsTidy k symbol m end n p) → AllByRecursion (λ s. rules_cmp (seen_by k keys) t.rule s ≡ Less) (rules_of ps)
  all_rules p [] t0 tidy less t = tt
  all_rules p (q ∷ ps) t0 tidy less t =
      let u = tidy q (Contains-first q ps) in
      let a = then_rest p.end q.end _ less.0 (t.end_is ∙ sym u.end_is) in
      let b = then_rest p.symbol q.symbol _ a (t.symbol_is ∙ sym u.symbol_is) in
      let c = then_rest p.length q.length _ b (t.length_is ∙ sym u.length_is) in
      let d : option_cmp key_cmp (Some (rule_key_of k.written.now k.ranking k.recce.now.flat t.rule)) (Some (rule_key_of k.written.now k.ranking k.recce.now.flat u.rule)) ≡ Less =
      subst (λ o. option_cmp key_cmp o (Some (rule_key_of k.written.now k.ranking k.recce.now.flat u.rule)) ≡ Less) t.whole (subst (λ o. option_cmp key_cmp p.whole o ≡ Less) u.whole c) in
      let e = sym (keys_compare k keys t.rule u.rule (t.left ∙ sym u.left)) ∙ d in
      subst (λ o. AllByRecursion (λ s. rules_cmp (seen_by k keys) t.rule s ≡ Less) (rules_by o ++ rules_of ps)) (sym u.whole)
      (e, all_rules p ps t0 (λ z i. tidy z (Contains-rest q ps z i)) less.1 t)

  rules_sorted : (ps : List Part) → ((q : Part) → Contains ps q → IsTidy k symbol m end n q) → IsStrictlySortedBy part_cmp ps → IsStrictlySortedBy (rules_cmp (seen_by k keys)) (rules_of ps)
  unfolding IsStrictlySortedBy
  rules_sorted [] tidy h = tt
  rules_sorted (p ∷ ps) tidy h =
      let t = tidy p (Contains-first p ps) in
      subst (λ o. IsStrictlySortedBy (rules_cmp (seen_by k keys)) (rules_by o ++ rules_of ps)) (sym t.whole)
      (all_rules p ps t (λ z i. tidy z (Contains-rest p ps z i)) h.0 t, rules_sorted ps (λ z i. tidy z (Contains-rest p ps z i)) h.1)

  keys_are : (ps : List Part) → ((q : Part) → Contains ps q → IsTidy k symbol m end n q) → whole_keys k.recce.now.flat ps ≡ map (λ r. whole_key (seen_by k keys) r m end) (rules_of ps)
  keys_are [] tidy = refl
  keys_are (p ∷ ps) tidy =
      let t = tidy p (Contains-first p ps) in
      let rest = keys_are ps (λ z i. tidy z (Contains-rest p ps z i)) in
      let start : p.end - p.length ≡ m = (let a = t.end_is in let b = t.length_is in omega arith) in
      ap (λ o. whole_keys_by k.recce.now.flat p o ++ whole_keys k.recce.now.flat ps) t.whole
      ∙ (λ i. record { rule = t.rule; dot = length (rhs_of k.recce.now.flat t.rule); origin = start i; end = t.end_is i } ∷ rest i)
      ∙ ap (λ o. map (λ r. whole_key (seen_by k keys) r m end) (rules_by o ++ rules_of ps)) (sym t.whole)

  from_rules : (ps : List Part) → ((q : Part) → Contains ps q → IsTidy k symbol m end n q) → (r : ℕ) → Contains (rules_of ps) r → (p : Part) × Contains ps p × ((t : IsTidy k symbol m end n p) × (t.rule ≡ r))
  from_rules [] tidy r h = absurd (Contains-none r h)
  from_rules (p ∷ ps) tidy r h =
      let t = tidy p (Contains-first p ps) in
      let h' : Contains (t.rule ∷ rules_of ps) r = subst (λ o. Contains (rules_by o ++ rules_of ps) r) t.whole h in
      elim (Contains-cons_cases t.rule (rules_of ps) r h') [
        | inl e ↦ (p, Contains-first p ps, (t, e))
        | inr i ↦ let (q, j, u) = from_rules ps (λ z i. tidy z (Contains-rest p ps z i)) r i in (q, Contains-rest p ps q j, u)
      ]

  to_rules : (ps : List Part) (p : Part) (key : RuleKey) → Contains ps p → p.whole ≡ Some key → Contains (rules_of ps) key.rule
  to_rules [] p key h e = absurd (Contains-none p h)
  to_rules (q ∷ ps) p key h e = elim (Contains-cons_cases q ps p h) [
    | inl s ↦ subst (λ o. Contains (rules_by o ++ rules_of ps) key.rule) (sym (ap (λ (z : Part). z.whole) s ∙ e)) (Contains-first key.rule (rules_of ps))
    | inr i ↦ Contains-append_right (rules_by q.whole) (rules_of ps) key.rule (to_rules ps p key i e)
  ]

-- a node of a whole rule is that of a part
from_keys : (g : FlatGrammar) (ps : List Part) (n : NodeKey) → Contains (whole_keys g ps) n →
    (p : Part) × Contains ps p × ((key : RuleKey) × (p.whole ≡ Some key) × (n ≡ record { rule = key.rule; dot = length (rhs_of g key.rule); origin = p.end - p.length; end = p.end }))
from_keys g [] n h = absurd (Contains-none n h)
from_keys g (p ∷ ps) n h = go p.whole refl h (λ i. from_keys g ps n i)
  where
    go : (o : Option RuleKey) → p.whole ≡ o → Contains (whole_keys_by g p o ++ whole_keys g ps) n →
        (Contains (whole_keys g ps) n → (p : Part) × Contains ps p × ((key : RuleKey) × (p.whole ≡ Some key) × (n ≡ record { rule = key.rule; dot = length (rhs_of g key.rule); origin = p.end - p.length; end = p.end }))) →
        (q : Part) × Contains (p ∷ ps) q × ((key : RuleKey) × (q.whole ≡ Some key) × (n ≡ record { rule = key.rule; dot = length (rhs_of g key.rule); origin = q.end - q.length; end = q.end }))
    go None e i rest = let (q, j, r) = rest i in (q, Contains-rest p ps q j, r)
    go (Some key) e i rest = elim (Contains-cons_cases (record { rule = key.rule; dot = length (rhs_of g key.rule); origin = p.end - p.length; end = p.end }) (whole_keys g ps) n i) [
      | inl s ↦ (p, Contains-first p ps, (key, e, sym s))
      | inr j ↦ let (q, l, r) = rest j in (q, Contains-rest p ps q l, r)
    ]

-- what was found of the predecessor stays so
predecessor_stays : (keys keys' more : List NodeKey) → keys' ≡ keys ++ more → (predecessor : Item) (m : ℕ) (o : Option ℕ) → IsPredecessorFound keys predecessor m o → IsPredecessorFound keys' predecessor m o
predecessor_stays keys keys' more e predecessor m None h = h
predecessor_stays keys keys' more e predecessor m (Some n) (lt, h) = (lt, subst (λ l. slice_get l n ≡ Some (node_of_item predecessor m)) (sym e) (get_left keys more n (node_of_item predecessor m) h))

-- a part lies where it can
pub fits_part : (k : Known) → Knows k → (p : Part) → Contains k.parts.now p → FitsPart k.recce.now.flat p
fits_part k knows p h = go (knows.gathered.are p h).0
  where
    go : IsPart k.written.now k.ranking k.recce.now p → FitsPart k.recce.now.flat p
    go (inl (e, i, is)) = let s = is.start in (omega arith, subst (λ o. HasRule k.recce.now.flat o) (sym is.whole) tt)
    go (inr (earleme, item, le, i, is)) =
        let s = is.start in
        let e = is.end in
        (omega arith, subst (λ o. HasRule k.recce.now.flat o) (sym is.whole) ((in_full k.recce.now knows.is earleme item).0 i).is_rule)

-- a number at a place is that of the key there
number_at : (keys : List NodeKey) (ns : List ℕ) (f : ℕ → NodeKey) (rs : List ℕ) → AreNumbers keys ns (map f rs) → (i n r : ℕ) → slice_get ns i ≡ Some n → slice_get rs i ≡ Some r → slice_get keys n ≡ Some (f r)
number_at keys [] f rs h i n r a b = absurd (cc)
number_at keys (m ∷ ns) f [] h i n r a b = absurd (cc)
number_at keys (m ∷ ns) f (s ∷ rs) h zero n r a b =
    let e : m ≡ n = cc in
    let q : s ≡ r = cc in
    let x : slice_get keys m ≡ Some (f s) = cc in
    ap (slice_get keys) (sym e) ∙ x ∙ ap (λ z. Some (f z)) q
number_at keys (m ∷ ns) f (s ∷ rs) h (suc i) n r a b =
    let x : map (slice_get keys) ns ≡ map Some (map f rs) = cc in
    number_at keys ns f rs x i n r a b

pub between_all : {X : Type 0} (xs ys : List X) → between (length xs) (length (xs ++ ys)) (xs ++ ys) ≡ ys
between_all xs ys =
    let l = length-append xs ys in
    let e : length (xs ++ ys) - length xs ≡ length ys = omega arith in
    ap (λ n. take n (drop (length xs) (xs ++ ys))) e ∙ ap (take (length ys)) (drop-append_seam xs ys) ∙ take-length ys

module _ (k : Known) (knows : Knows k) (predecessor : Item) (parts : List Part) (span : IsSpan k.ranking k.parts.now parts) (m : ℕ) (sum : m + (part_at parts 0).length ≡ k.end)
    (next : IsNext k predecessor (part_at parts 0).symbol) where
  first_there : Contains parts (part_at parts 0)
  first_there = Contains-get_or parts 0 no_part span.some

  part_is : (p : Part) → Contains parts p → IsPartAt k.written.now k.ranking k.recce.now k.end k.least p
  part_is p h = knows.gathered.are p ((span.exact p).0 h).0

  -- an edge
  pub edge_over : (part_at parts 0).whole ≡ None → edges_of k.recce.now (part_at parts 0).symbol m k.end
  edge_over none = let (part, end, bound) = part_is (part_at parts 0) first_there in go end part
    where
      go : (part_at parts 0).end ≡ k.end → IsPart k.written.now k.ranking k.recce.now (part_at parts 0) → edges_of k.recce.now (part_at parts 0).symbol m k.end
      go end (inl (e, h, is)) =
          let s = is.start in
          let from : e.from ≡ m = omega arith in
          (e.symbol, is.symbol, subst (λ (z : HeldEdge). Contains k.recce.now.edges z) (λ i. record { symbol = e.symbol; from = from i; to = (sym is.end ∙ end) i }) h)
      go end (inr (earleme, item, le, h, is)) = let w = is.whole in absurd (cc)

  tidy_part : (p : Part) → p.end ≡ k.end → p.symbol ≡ (part_at parts 0).symbol → p.length ≡ (part_at parts 0).length →
      (earleme : ℕ) (item : Item) → InSet k.recce.now.flat (edges_of k.recce.now) (top_of k.recce.now) earleme item → IsWholeOf k.written.now k.ranking k.recce.now.flat earleme item p →
      IsTidy k (part_at parts 0).symbol m k.end (part_at parts 0).length p
  tidy_part p e s l earleme item h is =
      let f = (in_full k.recce.now knows.is earleme item).0 h in
      let a = is.start in
      let b = is.end in
      let origin : item.origin ≡ m = omega arith in
      let same : earleme ≡ k.end = sym is.end ∙ e in
      record {
        rule = item.rule;
        is_rule = f.is_rule;
        left = sym is.symbol ∙ s;
        whole = is.whole;
        in_place = subst (λ z. InSet k.recce.now.flat (edges_of k.recce.now) (top_of k.recce.now) z (record { rule = item.rule; dot = length (rhs_of k.recce.now.flat item.rule); origin = m })) same
            (subst (λ (z : Item). InSet k.recce.now.flat (edges_of k.recce.now) (top_of k.recce.now) earleme z) (λ i. record { rule = item.rule; dot = is.dot i; origin = origin i }) h);
        end_is = e;
        symbol_is = s;
        length_is = l;
      }

  -- the part of a rule that derives the span
  abbrev part_by : ℕ → Part
  part_by r = record { end = k.end; symbol = (part_at parts 0).symbol; length = (part_at parts 0).length; whole = Some (rule_key_of k.written.now k.ranking k.recce.now.flat r) }

  rule_there : Contains (set_at k.recce.now m) predecessor → m < k.end → (r : ℕ) (cs : Children) → IsRule k.recce.now.flat r → lhs_of k.recce.now.flat r ≡ (part_at parts 0).symbol →
      Spans k.recce.now.flat (edges_of k.recce.now) r (length (rhs_of k.recce.now.flat r)) m k.end cs → Contains k.parts.now (part_by r)
  rule_there at lt r cs is_rule left spans =
      let met = ((used_met k.written.now k.ranking k.recce.now (read_of k knows) (node_after predecessor k.end)).0 next.used).1 in
      let (is, stands) = met_stands k.recce.now knows.is met in
      let f = found_predecessor k knows predecessor (part_at parts 0).symbol m (omega arith) at next in
      let found : IsFound k.recce.now.flat (edges_of k.recce.now) (top_of k.recce.now) k.end (record { rule = r; dot = length (rhs_of k.recce.now.flat r); origin = m }) =
      record { is_rule = is_rule; may_stand = Next stands is refl f.spans (next.part ∙ ap Some (sym left)); children = cs; spans = spans } in
      let there' = (in_full k.recce.now knows.is k.end (record { rule = r; dot = length (rhs_of k.recce.now.flat r); origin = m })).1 found in
      let (first, end, bound) = part_is (part_at parts 0) first_there in
      knows.gathered.all (part_by r) (
        inr (
          k.end,
          record { rule = r; dot = length (rhs_of k.recce.now.flat r); origin = m },
          knows.end,
          there',
          record { dot = refl; end = refl; spans = lt; start = sum; symbol = sym left; whole = refl },
        ),
        refl,
        bound,
      ) (is_needed k knows predecessor (part_at parts 0).symbol next m lt at (part_by r) refl sum)

  -- the rule of a part is allowed
  allowed : Contains (set_at k.recce.now m) predecessor → m < k.end → (p : Part) → Contains parts p → (r : ℕ) → lhs_of k.recce.now.flat r ≡ (part_at parts 0).symbol → p.whole ≡ Some (rule_key_of k.written.now k.ranking k.recce.now.flat r) →
      allowed_by k.written.now k.ranking k.recce.now.flat (edges_of k.recce.now) r m k.end
  allowed at lt p h r left whole =
      kept_allowed k.written.now k.recce.now.flat (edges_of k.recce.now) r m k.end p (part_at parts 0) k.ranking ((span.exact p).0 h).3
      (λ same other cs is left' spans. (
      let all = rule_there at lt other cs is (left' ∙ left) spans in
      subst (λ z. flat_rank k.written.now k.ranking k.recce.now.flat other ≤ℤ z) (sym same ∙ ap rank_in whole) (span.best (part_by other) all refl refl)
      ))

  module _ (key : RuleKey) (whole : (part_at parts 0).whole ≡ Some key) where
    first_tidy : IsTidy k (part_at parts 0).symbol m k.end (part_at parts 0).length (part_at parts 0)
    first_tidy = let (part, end, bound) = part_is (part_at parts 0) first_there in go end part
      where
        go : (part_at parts 0).end ≡ k.end → IsPart k.written.now k.ranking k.recce.now (part_at parts 0) → IsTidy k (part_at parts 0).symbol m k.end (part_at parts 0).length (part_at parts 0)
        go end (inl (e, h, is)) = let w = is.whole in absurd (cc)
        go end (inr (earleme, item, le, h, is)) = tidy_part (part_at parts 0) end refl refl earleme item h is

    no_edge : (t : ℕ) → slice_get k.recce.now.flat.symbols (part_at parts 0).symbol ≡ Some (Terminal t) → ⊥
    no_edge t e = knows.is.flat.no_rules first_tidy.rule first_tidy.is_rule (t, ap (slice_get k.recce.now.flat.symbols) first_tidy.left ∙ e)

    tidy : (p : Part) → Contains parts p → IsTidy k (part_at parts 0).symbol m k.end (part_at parts 0).length p
    tidy p h = let (part, end, bound) = part_is p h in go end part
      where
        go : p.end ≡ k.end → IsPart k.written.now k.ranking k.recce.now p → IsTidy k (part_at parts 0).symbol m k.end (part_at parts 0).length p
        go end (inl (e, i, is)) = absurd (no_edge e.symbol (ap (slice_get k.recce.now.flat.symbols) (sym ((span.exact p).0 h).1) ∙ is.symbol))
        go end (inr (earleme, item, le, i, is)) = let g = (span.exact p).0 h in tidy_part p end g.1 g.2 earleme item i is

    pub tidy_spans : (p : Part) (t : IsTidy k (part_at parts 0).symbol m k.end (part_at parts 0).length p) →
        (cs : Children) × Spans k.recce.now.flat (edges_of k.recce.now) t.rule (length (rhs_of k.recce.now.flat t.rule)) m k.end cs
    tidy_spans p t = let f = (in_full k.recce.now knows.is k.end _).0 t.in_place in (f.children, f.spans)

    pub goes_on : m < k.end
    goes_on = let (part, end, bound) = part_is (part_at parts 0) first_there in go end part
      where
        go : (part_at parts 0).end ≡ k.end → IsPart k.written.now k.ranking k.recce.now (part_at parts 0) → m < k.end
        go end (inl (e, h, is)) = let w = is.whole in absurd (cc)
        go end (inr (earleme, item, le, h, is)) = let a = is.start in let b = is.end in let c = is.spans in omega arith

    module _ (keys : List NodeKey) where
      rule_over : Contains (set_at k.recce.now m) predecessor → (r : ℕ) → Contains (rules_of parts) r → IsWholeOver (seen_by k keys) (part_at parts 0).symbol m k.end r × allowed_by k.written.now k.ranking k.recce.now.flat (edges_of k.recce.now) r m k.end
      rule_over at r h =
          let (p, i, (t, e)) = from_rules k (part_at parts 0).symbol m k.end (part_at parts 0).length sum keys parts tidy r h in
          let (cs, spans) = tidy_spans p t in
          subst (λ z. IsWholeOver (seen_by k keys) (part_at parts 0).symbol m k.end z × allowed_by k.written.now k.ranking k.recce.now.flat (edges_of k.recce.now) z m k.end) e
          (record { is_rule = t.is_rule; left = t.left; children = cs; spans = spans }, allowed at goes_on p i t.rule t.left t.whole)

      over_rule : Contains (set_at k.recce.now m) predecessor → (r : ℕ) → IsWholeOver (seen_by k keys) (part_at parts 0).symbol m k.end r × allowed_by k.written.now k.ranking k.recce.now.flat (edges_of k.recce.now) r m k.end → Contains (rules_of parts) r
      over_rule at r (h, best) =
          let all = rule_there at goes_on r h.children h.is_rule h.left h.spans in
          let (cs, spans) = tidy_spans (part_at parts 0) first_tidy in
          let own = ap rank_in first_tidy.whole in
          let high = span.best (part_by r) all refl refl in
          let kept = allowed_kept k.written.now k.recce.now.flat (edges_of k.recce.now) r m k.end (part_by r) (part_at parts 0) k.ranking best
          (λ is. (let low = is first_tidy.rule cs first_tidy.is_rule (first_tidy.left ∙ sym h.left) spans in most_twice (flat_rank k.written.now k.ranking k.recce.now.flat r) (rank_in (part_at parts 0).whole) high (subst (λ z. z ≤ℤ flat_rank k.written.now k.ranking k.recce.now.flat r) (sym own) low))) in
          to_rules k (part_at parts 0).symbol m k.end (part_at parts 0).length sum keys parts (part_by r) (rule_key_of k.written.now k.ranking k.recce.now.flat r) ((span.exact (part_by r)).1 (all, refl, refl, kept)) refl

      pub are_wholes : Contains (set_at k.recce.now m) predecessor → (ns : List ℕ) → AreNumbers keys ns (whole_keys k.recce.now.flat parts) → AreWholes (seen_by k keys) (part_at parts 0).symbol m k.end ns
      are_wholes at ns h =
          let is = keys_are k (part_at parts 0).symbol m k.end (part_at parts 0).length sum keys parts tidy in
          let h' = subst (λ ks. AreNumbers keys ns ks) is h in
          let l1 = length-map ns (slice_get keys) in
          let l2 = length-map (map (λ r. whole_key (seen_by k keys) r m k.end) (rules_of parts)) (λ (z : NodeKey). Some z) in
          let l3 = length-map (rules_of parts) (λ r. whole_key (seen_by k keys) r m k.end) in
          let l4 = ap (λ (z : List (Option NodeKey)). length z) h' in
          let (cs, derives) = tidy_spans (part_at parts 0) first_tidy in
          let one = over_rule at first_tidy.rule (record { is_rule = first_tidy.is_rule; left = first_tidy.left; children = cs; spans = derives }, allowed at goes_on (part_at parts 0) first_there first_tidy.rule first_tidy.left first_tidy.whole) in
          let (j, lt, _) = at_from_Contains (rules_of parts) first_tidy.rule one in
          record {
            spans = goes_on;
            some = omega arith;
            rules = rules_of parts;
            sorted = rules_sorted k (part_at parts 0).symbol m k.end (part_at parts 0).length sum keys parts tidy span.sorted;
            exact = λ r. (rule_over at r, over_rule at r);
            all = omega arith;
            each = λ i n r a b. node_seen k.written.now k.ranking k.recce.now keys n (whole_key (seen_by k keys) r m k.end)
                (number_at keys ns (λ z. whole_key (seen_by k keys) z m k.end) (rules_of parts) h' i n r a b);
          }

  -- the cause
  pub last_is : Contains (set_at k.recce.now m) predecessor → (keys : List NodeKey) (wholes : List ℕ) (cause : CauseRow) → IsCauseHeld k.recce.now.flat parts keys wholes cause →
      IsCause (seen_by k keys) (part_at parts 0).symbol m k.end (cause_of wholes cause) × IsCauseWithin wholes cause
  last_is at keys wholes row.Edge none = (edge_over none, tt)
  last_is at keys wholes row.Nothing h = absurd h
  last_is at keys wholes (row.Wholes first' end') (key, whole, a, b, h) = (are_wholes key whole keys at (between first' end' wholes) h, (a, b))

  -- a tree over the span
  pub has_tree : (tree : Tree) × Derives k.recce.now.flat (edges_of k.recce.now) (part_at parts 0).symbol m k.end tree
  has_tree = go (part_at parts 0).whole refl
    where
      go : (o : Option RuleKey) → (part_at parts 0).whole ≡ o → (tree : Tree) × Derives k.recce.now.flat (edges_of k.recce.now) (part_at parts 0).symbol m k.end tree
      go None e = (Leaf (part_at parts 0).symbol m k.end, Token (edge_over e))
      go (Some key) e = let t = first_tidy key e in let (cs, s) = tidy_spans key e (part_at parts 0) t in (Node t.rule cs m k.end, Rule t.is_rule t.left (goes_on key e) s)

  -- the nodes of whole rules may be met
  pub wholes_new : Contains (set_at k.recce.now m) predecessor → (n : NodeKey) → Contains (whole_keys k.recce.now.flat parts) n → IsNew k n
  wholes_new at n h =
      let (p, i, (key, e, q)) = from_keys k.recce.now.flat parts n h in
      let (part, end, bound) = part_is p i in
      go p i key e q end bound part
    where
      go : (p : Part) → Contains parts p → (key : RuleKey) → p.whole ≡ Some key → n ≡ record { rule = key.rule; dot = length (rhs_of k.recce.now.flat key.rule); origin = p.end - p.length; end = p.end } →
          p.end ≡ k.end → p.length + k.least ≤ k.end → IsPart k.written.now k.ranking k.recce.now p → IsNew k n
      go p i key e q end bound (inl (f, h, is)) = let w = is.whole in absurd (cc)
      go p i key e q end bound (inr (earleme, item, le', h, is)) =
          let g = (span.exact p).0 i in
          let t = tidy_part p end g.1 g.2 earleme item h is in
          let s = (in_full k.recce.now knows.is k.end _).0 t.in_place in
          let (tree, derives) = has_tree in
          let one : Some (rule_key_of k.written.now k.ranking k.recce.now.flat t.rule) ≡ Some key = sym t.whole ∙ e in
          let rule : t.rule ≡ key.rule = ap (λ (z : RuleKey). z.rule) (let x : rule_key_of k.written.now k.ranking k.recce.now.flat t.rule ≡ key = cc in x) in
          let a = is.start in
          let b = is.end in
          let c = is.spans in
          let f = g.2 in
          let from : m ≡ p.end - p.length = omega arith in
          let lt : m < k.end = omega arith in
          let used = whole_used k knows predecessor (part_at parts 0).symbol m (omega arith) at next tree derives t.rule s.children t.is_rule (sym t.left) lt s.spans (allowed at lt p i t.rule t.left t.whole) in
          let here : n.end ≡ k.end = ap (λ (z : NodeKey). z.end) q ∙ end in
          let origin : n.origin ≡ p.end - p.length = ap (λ (z : NodeKey). z.origin) q in
          record {
            used = subst (λ z. IsUsedIn k.written.now k.ranking k.recce.now z) ((λ j. record { rule = rule j; dot = length (rhs_of k.recce.now.flat (rule j)); origin = from j; end = sym end j }) ∙ sym q) used;
            before = omega arith;
            least = λ _. omega arith;
            waits = λ below. absurd (omega arith);
          }

  -- the alternative of the parts
  pub put_group : Contains (set_at k.recce.now m) predecessor → (old new : Found) (mid : List NodeKey) (o : Option ℕ) (cause : CauseRow) (more : List ℕ) →
      new.alternatives.items ≡ old.alternatives.items ++ record { start = m; predecessor = o; cause = cause } ∷ [] → new.wholes.items ≡ old.wholes.items ++ more → IsPredecessorFound mid predecessor m o →
      GrowsBy (λ z. (0 < predecessor.dot) × (z ≡ node_of_item predecessor m)) old.keys.keys mid → GrowsBy (λ z. Contains (whole_keys k.recce.now.flat parts) z) mid new.keys.keys →
      IsCauseHeld k.recce.now.flat parts new.keys.keys new.wholes.items cause → AreNoted k new →
      Lists k predecessor (part_at parts 0).symbol (λ n. n ≡ m) old new
  put_group at old new mid o cause more is e found one two held noted =
      let (tree, derives) = has_tree in
      let (a, b) = last_is at new.keys.keys new.wholes.items cause held in
      put_one k knows predecessor (part_at parts 0).symbol m (omega arith) at next tree derives (λ n. n ≡ m) old new o cause more refl (λ n d. d) is e
      (grows_then (IsNew k) old.keys.keys mid new.keys.keys
      (grows_weaker (IsNew k) (λ z. (0 < predecessor.dot) × (z ≡ node_of_item predecessor m)) old.keys.keys mid (λ z (lt, q). subst (λ y. IsNew k y) (sym q) (prefix_new k knows predecessor (part_at parts 0).symbol m (omega arith) at next tree derives lt)) one)
      (grows_weaker (IsNew k) (λ z. Contains (whole_keys k.recce.now.flat parts) z) mid new.keys.keys (wholes_new at) two))
      (predecessor_stays mid new.keys.keys (two).0 (two).1 predecessor m o found) a b noted

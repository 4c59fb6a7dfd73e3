-- What is met on the way back from the whole has its node, as far back as nodes have their alternatives.
use Rattle.std.proofs.Common.{◌≡◌, ◌⊎◌, inl, inr, ℕ, suc, ◌<◌, ◌≤◌, Contains, List, Option, Some, None, length, get_or, slice_get, refl, sym, ◌∙◌, ap, subst, arith}
use Rattle.std.proofs.lemmas.Bool.{cases_lt}
use Rattle.grammar_model.specs.Trees.{Tree, Children, Node}
use Rattle.grammar_model.specs.Grammar.{Grammar}
use Rattle.grammar_model.specs.declared.Ranking.{Ranking}
use Rattle.recognizer_model.specs.declared.NodeKey.{NodeKey}
use Rattle.recognizer_model.specs.Flat.{IsRule, lhs_of, rhs_of, part_of}
use Rattle.recognizer_model.specs.FlatDerives.{Derives, Rule, Spans}
use Rattle.recognizer_model.specs.Chosen.{Allowed, allowed_by}
use Rattle.recognizer_model.specs.Nodes.{IsMet, Whole, Before, Last}
use Rattle.earley_sets.specs.Recognizer.{Recognizer, IsRecognizer, earleme_of, edges_of, top_of}
use Rattle.earley_sets.proofs.Membership.{Contains-map_from, found_at}
use Rattle.forest_model.specs.Forest as model
use Rattle.forest_model.specs.Forest.{Alternative, IsNode, IsPredecessor, IsCause, AnEdge, Nothing, Wholes, IsSplit, AreAlternatives}
use Rattle.bocage.specs.declared.rows.AlternativeRow.{AlternativeRow}
use Rattle.bocage.specs.Rows.{alternative_of}
use Rattle.bocage.specs.Walk.{seen, IsRead, top_key}
use Rattle.bocage.specs.Ends.{HasRow}
use Rattle.bocage.proofs.Splits.{spans_forward, derives_forward}
use Rattle.bocage.proofs.Growing.{seen_node}
use Rattle.std.proofs.Common.{map}
use Rattle.std.proofs.lemmas.Option.{slice_get-get_or}
use Rattle.finite_sets.proofs.Lists.{got_item, got_at}

module _ (w : Grammar) (ranking : Ranking) (r : Recognizer) (read : IsRead w r) (end : ℕ) (keys : List NodeKey) (wholes : List ℕ) (table : List (List AlternativeRow))
    (visited : (n : ℕ) (key : NodeKey) → slice_get keys n ≡ Some key → end ≤ key.end → HasRow w ranking r keys wholes table n key)
    (begun : (key : NodeKey) → 0 < earleme_of r → key ≡ top_key r → Contains keys key) where
  -- the alternatives of a key
  of_key : (key : NodeKey) → Contains keys key → end ≤ key.end → (xs : List Alternative) × AreAlternatives (seen w ranking r keys) key xs
  of_key key h le = let (n, at) = found_at keys key h in let row = visited n key at le in (map (alternative_of wholes) row.rows, row.are)

  there_by : (n : ℕ) (key : NodeKey) → IsNode (seen w ranking r keys) n key → Contains keys key
  there_by n key h = got_item keys n key (sym (seen_node w ranking r keys n key h))

  prefix_there : (rule dot origin m : ℕ) (o : Option ℕ) → 0 < dot → IsPredecessor (seen w ranking r keys) rule dot origin m o → Contains keys (record { rule = rule; dot = dot; origin = origin; end = m })
  prefix_there rule dot origin m None lt h = let z = h.0 in absurd (omega arith)
  prefix_there rule dot origin m (Some n) lt h = there_by n (record { rule = rule; dot = dot; origin = origin; end = m }) h.1

  last_there : (symbol m q rule : ℕ) (cs : Children) (l : model.Cause) → IsCause (seen w ranking r keys) symbol m q l → IsRule r.flat rule → lhs_of r.flat rule ≡ symbol → m < q →
      Spans r.flat (edges_of r) rule (length (rhs_of r.flat rule)) m q cs → allowed_by w ranking r.flat (edges_of r) rule m q → Contains keys (record { rule = rule; dot = length (rhs_of r.flat rule); origin = m; end = q })
  last_there symbol m q rule cs AnEdge (t, e, h) is left lt s best = absurd (read.is.flat.no_rules rule is (t, ap (slice_get r.flat.symbols) left ∙ e))
  last_there symbol m q rule cs Nothing (same, null) is left lt s best = absurd (omega arith)
  last_there symbol m q rule cs (Wholes ns) h is left lt s best =
      let held = (h.exact rule).1 (record { is_rule = is; left = left; children = cs; spans = s }, best) in
      let (i, at) = found_at h.rules rule held in
      let (below, e) = got_at h.rules i rule 0 (sym at) in
      let a = h.all in
      let n = slice_get-get_or ns i 0 (omega arith) in
      there_by (get_or ns i 0) (record { rule = rule; dot = length (rhs_of r.flat rule); origin = m; end = q }) (h.each i (get_or ns i 0) rule n at)

  -- the predecessor of a node
  before : {rule d p m q x : ℕ} {cs : Children} {t : Tree} → Contains keys (record { rule = rule; dot = suc d; origin = p; end = q }) → end ≤ q →
      Spans r.flat (edges_of r) rule d p m cs → part_of r.flat rule d ≡ Some x → Derives r.flat (edges_of r) x m q t → 0 < d → Contains keys (record { rule = rule; dot = d; origin = p; end = m })
  before {rule = rule} {d = d} {p = p} {m = m} {q = q} {x = x} {cs = cs} {t = t} held le s e tr some =
      let (xs, a) = of_key (record { rule = rule; dot = suc d; origin = p; end = q }) held le in
      let dot : a.dot ≡ d = (let z = a.dot_is in omega arith) in
      let one : Some a.symbol ≡ Some x = sym a.part ∙ ap (part_of r.flat rule) dot ∙ e in
      let symbol : a.symbol ≡ x = cc in
      let split : IsSplit (seen w ranking r keys) rule a.dot p a.symbol m q = record {
        children = cs;
        predecessor = subst (λ z. Spans r.flat (edges_of r) rule z p m cs) (sym dot) s;
        tree = t;
        cause = subst (λ z. Derives r.flat (edges_of r) z m q t) (sym symbol) tr;
      } in
      let (alt, i, is) = Contains-map_from (λ (z : Alternative). z.start) xs m ((a.exact m).1 split) in
      let h = (a.each alt i).predecessor in
      subst (λ z. Contains keys (record { rule = rule; dot = z; origin = p; end = m })) dot
      (subst (λ z. Contains keys (record { rule = rule; dot = a.dot; origin = p; end = z })) (sym is)
      (prefix_there rule a.dot p alt.start alt.predecessor (omega arith) h))

  -- what is met has its node
  pub closed : {rule d p q : ℕ} → IsMet r.flat (edges_of r) (allowed_by w ranking r.flat (edges_of r)) (top_of r) (earleme_of r) rule d p q → 0 < d → end ≤ q → Contains keys (record { rule = rule; dot = d; origin = p; end = q })
  closed (Whole lt s) some le = begun (top_key r) lt refl
  closed (Before met s e tr) some le = let f = derives_forward r read.is tr in before (closed met (omega arith) (omega arith)) (omega arith) s e tr some
  closed (Last {r = rule} {r' = rule'} {d = d} {p = p} {m = m} {q = q} {cs = cs} {cs' = cs'} met s e is lt s' best) some le =
      let (xs, a) = of_key (record { rule = rule; dot = suc d; origin = p; end = q }) (closed met (omega arith) le) le in
      let dot : a.dot ≡ d = (let z = a.dot_is in omega arith) in
      let one : Some a.symbol ≡ Some (lhs_of r.flat rule') = sym a.part ∙ ap (part_of r.flat rule) dot ∙ e in
      let symbol : a.symbol ≡ lhs_of r.flat rule' = cc in
      let split : IsSplit (seen w ranking r keys) rule a.dot p a.symbol m q = record {
        children = cs;
        predecessor = subst (λ z. Spans r.flat (edges_of r) rule z p m cs) (sym dot) s;
        tree = Node rule' cs' m q;
        cause = Rule is (sym symbol) lt s';
      } in
      let (alt, i, same) = Contains-map_from (λ (z : Alternative). z.start) xs m ((a.exact m).1 split) in
      let h = (a.each alt i).cause in
      last_there a.symbol m q rule' cs' alt.cause (subst (λ z. IsCause (seen w ranking r keys) a.symbol z q alt.cause) (sym same) h) is (sym symbol) lt s' best

  -- and so have the parts that a node asks for, wherever they end
  pub asked : {rule d p m q x : ℕ} {cs : Children} {t : Tree} → IsMet r.flat (edges_of r) (allowed_by w ranking r.flat (edges_of r)) (top_of r) (earleme_of r) rule (suc d) p q → end ≤ q →
      Spans r.flat (edges_of r) rule d p m cs → part_of r.flat rule d ≡ Some x → Derives r.flat (edges_of r) x m q t → 0 < d → Contains keys (record { rule = rule; dot = d; origin = p; end = m })
  asked met le s e tr some = before (closed met (omega arith) le) le s e tr some

-- a node that ends at a place and begins no later than another, with one that ends after it and asks for it
pub record IsAsked (allowed : Allowed) (r : Recognizer) (from end : ℕ) : Type 0 where
  pub rule : ℕ
  pub dot : ℕ
  pub origin : ℕ
  pub later : ℕ
  pub symbol : ℕ
  pub children : Children
  pub tree : Tree
  pub some : 0 < dot
  pub low : origin ≤ from
  pub behind : end < later
  pub met : IsMet r.flat (edges_of r) allowed (top_of r) (earleme_of r) rule (suc dot) origin later
  pub predecessor : Spans r.flat (edges_of r) rule dot origin end children
  pub part : part_of r.flat rule dot ≡ Some symbol
  pub cause : Derives r.flat (edges_of r) symbol end later tree

-- of the nodes that end before the last place, one with the least origin was asked for by one that ends after it
pub least_asked : (allowed : Allowed) (r : Recognizer) → IsRecognizer r → {rule d p q : ℕ} → IsMet r.flat (edges_of r) allowed (top_of r) (earleme_of r) rule d p q → 0 < d → (q ≡ earleme_of r) ⊎ IsAsked allowed r p q
least_asked allowed r is (Whole lt s) some = inl refl
least_asked allowed r is (Before {r = rule} {d = d} {p = p} {m = m} {q = q} {x = x} {cs = cs} {t = t} met s e tr) some = elim (cases_lt m q) [
  | inl lt ↦ inr (record { rule = rule; dot = d; origin = p; later = q; symbol = x; children = cs; tree = t; some = some; low = omega arith; behind = lt; met = met; predecessor = s; part = e; cause = tr })
  | inr ge ↦
      let f = derives_forward r is tr in
      let same : q ≡ m = omega arith in
      elim (least_asked allowed r is met (omega arith)) [ inl a ↦ inl (sym same ∙ a) | inr a ↦ inr (subst (λ z. IsAsked allowed r p z) same a) ]
]
least_asked allowed r is (Last {p = p} {m = m} {q = q} met s e rule lt s' best) some = elim (least_asked allowed r is met (omega arith)) [
  | inl a ↦ inl a
  | inr a ↦
      let f = spans_forward r is s in
      let l = a.low in
      inr (record { rule = a.rule; dot = a.dot; origin = a.origin; later = a.later; symbol = a.symbol; children = a.children; tree = a.tree; some = a.some; low = omega arith; behind = a.behind; met = a.met; predecessor = a.predecessor; part = a.part; cause = a.cause })
]

-- What a walk found is the forest.
use Rattle.std.proofs.Common.{◌≡◌, ℕ, suc, ◌<◌, ◌≤◌, ◌+◌, ◌-◌, inl, inr, Contains, List, Some, None, length, map, ◌↔◌, get_or, slice_get, refl, sym, ◌∙◌, ap, subst, arith}
use Rattle.std.specs.List.Sorted.{IsStrictlySortedBy}
use Rattle.std.proofs.lemmas.Simd.{map-map}
use Rattle.std.proofs.lemmas.Option.{slice_get-get_or}
use Rattle.grammar_model.specs.declared.Edge.{Edge as HeldEdge}
use Rattle.grammar_model.specs.Trees.{Tree, Leaf, Nulled, Node}
use Rattle.recognizer_model.specs.declared.NodeKey.{NodeKey}
use Rattle.recognizer_model.specs.Flat.{rhs_of}
use Rattle.recognizer_model.specs.FlatDerives.{Derives, Token, Null, Rule, Spans}
use Rattle.recognizer_model.specs.Contexts.{IsFound, Next}
use Rattle.earley_sets.specs.Recognizer.{set_at, edges_of, top_of}
use Rattle.earley_sets.proofs.Membership.{Contains-map_from}
use Rattle.forest_model.specs.Forest.{Alternative, IsSplit, IsAlternative, AreAlternatives, starts_cmp, ranks_high}
use Rattle.forest_parts.specs.Parts.{IsPart, rule_key_of}
use Rattle.forest_parts.proofs.Sets.{in_full}
use Rattle.bocage.specs.declared.rows.AlternativeRow.{AlternativeRow}
use Rattle.bocage.specs.declared.walk.Known.{Known}
use Rattle.bocage.specs.Rows.{alternative_of}
use Rattle.bocage.specs.Walk.{seen_by, IsUsedIn, predecessor_of_key, IsNext, MayBegin, AreListed, Knows}
use Rattle.bocage.proofs.Splits.{waits_in, used_within, derives_forward, spans_forward, read_of}
use Rattle.bocage.proofs.Needing.{is_needed}

pub next_of_key : (k : Known) → Knows k → (key : NodeKey) → IsUsedIn k.written.now k.ranking k.recce.now key → key.end ≡ k.end → k.least ≤ key.origin → (symbol : ℕ) → symbol ≡ get_or (rhs_of k.recce.now.flat key.rule) (key.dot - 1) 0 → IsNext k (predecessor_of_key key) symbol
next_of_key k knows key used end least symbol e =
    let w = used_within k.written.now k.ranking k.recce.now (read_of k knows) key used in
    let some = w.some in
    let parts = w.parts in
    let d : suc (key.dot - 1) ≡ key.dot = omega arith in
    record {
      used = subst (λ z. IsUsedIn k.written.now k.ranking k.recce.now z) (λ i. record { rule = key.rule; dot = sym d i; origin = key.origin; end = end i }) used;
      part = slice_get-get_or (rhs_of k.recce.now.flat key.rule) (key.dot - 1) 0 (omega arith) ∙ ap Some (sym e);
      least = least;
    }

module _ (k : Known) (knows : Knows k) (key : NodeKey) (used : IsUsedIn k.written.now k.ranking k.recce.now key) (here : key.end ≡ k.end) (symbol : ℕ) (next : IsNext k (predecessor_of_key key) symbol) where
  predecessor_found : (m : ℕ) → m ≤ k.end → Contains (set_at k.recce.now m) (predecessor_of_key key) ↔ IsFound k.recce.now.flat (edges_of k.recce.now) (top_of k.recce.now) m (predecessor_of_key key)
  predecessor_found m le = let e = knows.end in waits_in k.recce.now knows.is m (predecessor_of_key key) symbol (omega arith) next.part

  -- a cause that may begin derives, after a predecessor
  splits : (F : List NodeKey) (m : ℕ) → MayBegin k symbol m × Contains (set_at k.recce.now m) (predecessor_of_key key) → IsSplit (seen_by k F) key.rule (key.dot - 1) key.origin symbol m k.end
  splits F m (inl (e, null), at) =
      let f = (predecessor_found m (omega arith)).0 at in
      record { children = f.children; predecessor = f.spans; tree = Nulled symbol m; cause = subst (λ z. Derives k.recce.now.flat (edges_of k.recce.now) symbol m z (Nulled symbol m)) e (Null null) }
  splits F m (inr (p, all, s, sum), at) = let (part, end, bound) = knows.gathered.are p all in go end part
    where
      go : p.end ≡ k.end → IsPart k.written.now k.ranking k.recce.now p → IsSplit (seen_by k F) key.rule (key.dot - 1) key.origin symbol m k.end
      go end (inl (edge, h, is)) =
          let a = is.start in
          let b = is.end in
          let from : edge.from ≡ m = omega arith in
          let f = (predecessor_found m (omega arith)).0 at in
          record {
            children = f.children;
            predecessor = f.spans;
            tree = Leaf symbol m k.end;
            cause = Token (edge.symbol, ap (slice_get k.recce.now.flat.symbols) (sym s) ∙ is.symbol, subst (λ (y : HeldEdge). Contains k.recce.now.edges y) (λ j. record { symbol = edge.symbol; from = from j; to = (sym is.end ∙ end) j }) h);
          }
      go end (inr (earleme, item, le, h, is)) =
          let a = is.start in
          let b = is.end in
          let c = is.spans in
          let origin : item.origin ≡ m = omega arith in
          let same : earleme ≡ k.end = sym is.end ∙ end in
          let f = (predecessor_found m (omega arith)).0 at in
          let g = (in_full k.recce.now knows.is earleme item).0 h in
          record {
            children = f.children;
            predecessor = f.spans;
            tree = Node item.rule g.children m k.end;
            cause = Rule g.is_rule (sym is.symbol ∙ s) (omega arith)
                (subst (λ d. Spans k.recce.now.flat (edges_of k.recce.now) item.rule d m k.end g.children) is.dot
                (subst (λ q. Spans k.recce.now.flat (edges_of k.recce.now) item.rule item.dot m q g.children) same
                (subst (λ q. Spans k.recce.now.flat (edges_of k.recce.now) item.rule item.dot q earleme g.children) origin g.spans)));
          }

  split_predecessor : (F : List NodeKey) (m : ℕ) → IsSplit (seen_by k F) key.rule (key.dot - 1) key.origin symbol m k.end → Contains (set_at k.recce.now m) (predecessor_of_key key)
  split_predecessor F m h =
      let w = used_within k.written.now k.ranking k.recce.now (read_of k knows) key used in
      let d = derives_forward k.recce.now knows.is h.cause in
      (predecessor_found m d).1 (record { is_rule = w.is_rule; may_stand = w.stands; children = h.children; spans = h.predecessor })

  may : (F : List NodeKey) (m : ℕ) → (h : IsSplit (seen_by k F) key.rule (key.dot - 1) key.origin symbol m k.end) → MayBegin k symbol m
  may F m h = go refl h.cause
    where
      late : k.least ≤ m
      late = let f = spans_forward k.recce.now knows.is h.predecessor in let l = next.least in omega arith

      go : {q : ℕ} {t : Tree} → q ≡ k.end → Derives k.recce.now.flat (edges_of k.recce.now) symbol m q t → MayBegin k symbol m
      go {q = q} same (Token (t, e, i)) =
          let f = knows.is.forward (record { symbol = t; from = m; to = q }) i in
          let l = late in
          let sum : m + (q - m) ≡ k.end = omega arith in
          let all = knows.gathered.all (record { end = q; symbol = symbol; length = q - m; whole = None }) (inl (record { symbol = t; from = m; to = q }, i, record { symbol = e; end = refl; start = omega arith; whole = refl }), same, omega arith) (m, sum, inl refl) in
          inr (record { end = q; symbol = symbol; length = q - m; whole = None }, all, refl, omega arith)
      go same (Null null) = inl (same, null)
      go {q = q} same (Rule {r = rule} {cs = cs} is l lt s) =
          let w = used_within k.written.now k.ranking k.recce.now (read_of k knows) key used in
          let f = (predecessor_found m (omega arith)).0 (split_predecessor F m h) in
          let found : IsFound k.recce.now.flat (edges_of k.recce.now) (top_of k.recce.now) q (record { rule = rule; dot = length (rhs_of k.recce.now.flat rule); origin = m }) =
          record { is_rule = is; may_stand = Next w.stands w.is_rule refl h.predecessor (next.part ∙ ap Some (sym l)); children = cs; spans = s } in
          let held = (in_full k.recce.now knows.is q (record { rule = rule; dot = length (rhs_of k.recce.now.flat rule); origin = m })).1 found in
          let e = knows.end in
          let late' = late in
          let sum : m + (q - m) ≡ k.end = omega arith in
          let all = knows.gathered.all (record { end = q; symbol = symbol; length = q - m; whole = Some (rule_key_of k.written.now k.ranking k.recce.now.flat rule) }) (
            inr (
              q,
              record { rule = rule; dot = length (rhs_of k.recce.now.flat rule); origin = m },
              omega arith,
              held,
              record { dot = refl; end = refl; spans = lt; start = omega arith; symbol = sym l; whole = refl },
            ),
            same,
            omega arith,
          ) (is_needed k knows (predecessor_of_key key) symbol next m (omega arith) (split_predecessor F m h) (record { end = q; symbol = symbol; length = q - m; whole = Some (rule_key_of k.written.now k.ranking k.recce.now.flat rule) }) refl sum) in
          inr (record { end = q; symbol = symbol; length = q - m; whole = Some (rule_key_of k.written.now k.ranking k.recce.now.flat rule) }, all, refl, omega arith)

  -- what was listed for a node are its alternatives
  pub key_law : (F : List NodeKey) (wholes : List ℕ) (rows : List AlternativeRow) → 0 < key.dot →
      AreListed (seen_by k F) k.recce.now (ranks_high (seen_by k F) key.rule) (predecessor_of_key key) symbol k.end (MayBegin k symbol) wholes rows →
      AreAlternatives (seen_by k F) key (map (alternative_of wholes) rows)
  key_law F wholes rows some h = subst (λ q. AreAlternatives (seen_by k F) (record { rule = key.rule; dot = key.dot; origin = key.origin; end = q }) (map (alternative_of wholes) rows)) (sym here) law
    where
      starts : map (λ (a : Alternative). a.start) (map (alternative_of wholes) rows) ≡ map (λ (a : AlternativeRow). a.start) rows
      starts = map-map (λ (a : Alternative). a.start) (alternative_of wholes) rows

      law : AreAlternatives (seen_by k F) (record { rule = key.rule; dot = key.dot; origin = key.origin; end = k.end }) (map (alternative_of wholes) rows)
      law = record {
        dot = key.dot - 1;
        dot_is = omega arith;
        symbol = symbol;
        part = next.part;
        sorted = subst (λ l. IsStrictlySortedBy (starts_cmp (ranks_high (seen_by k F) key.rule) k.end) l) (sym starts) h.sorted;
        exact = λ m. (
          λ i. splits F m ((h.exact m).0 (subst (λ l. Contains l m) starts i)),
          λ s. subst (λ l. Contains l m) (sym starts) ((h.exact m).1 (may F m s, split_predecessor F m s)),
        );
        each = λ a i. (let (row, j, e) = Contains-map_from (alternative_of wholes) rows a i in subst (λ z. IsAlternative (seen_by k F) key.rule (key.dot - 1) key.origin symbol k.end z) (sym e) (h.each row j).0);
      }

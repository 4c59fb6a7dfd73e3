-- The forest of a walk.
use Rattle.std.proofs.Common.{◌≡◌, ◌≢◌, ℕ, zero, suc, [], ◌∷◌, ◌<◌, ◌≤◌, inl, inr, Contains, List, Option, Some, None, length, map, get_or, slice_get, refl, sym, ◌∙◌, ap, subst, arith}
use Rattle.std.specs.Prelude.{AllPairs}
use Rattle.std.proofs.lemmas.Bool.{cases_lt}
use Rattle.std.proofs.lemmas.Option.{slice_get-get_or}
use Rattle.finite_sets.proofs.Lists.{Contains-none, got_item, got_at}
use Rattle.grammar_model.specs.Trees.{Tree, Children, Nulled, Node, NoChild, Child}
use Rattle.grammar_model.specs.Grammar.{Grammar, slot_of}
use Rattle.recognizer_model.specs.declared.NodeKey.{NodeKey}
use Rattle.recognizer_model.specs.Flat.{FlatGrammar, lhs_of, rhs_of, part_of, IsNullable}
use Rattle.recognizer_model.specs.FlatDerives.{Derives, Token, Null, Rule, Spans, More}
use Rattle.recognizer_model.specs.FlatDerives as Flat
use Rattle.recognizer_model.specs.Chosen.{allowed_by}
use Rattle.recognizer_model.specs.Nodes.{IsMet, Whole}
use Rattle.recognizer_model.specs.Counts.{IsListOf}
use Rattle.recognizer_model.proofs.Views.{symbol_back}
use Rattle.earley_sets.specs.Recognizer.{Recognizer, HasTree, earleme_of, edges_of, top_of, start_symbol}
use Rattle.earley_sets.proofs.Recognizing.{only}
use Rattle.earley_sets.proofs.Membership.{found_at}
use Rattle.forest_model.specs.Forest.{Forest, ForestNode, IsNode, AreAlternatives, IsForest, IsRoot}
use Rattle.bocage.specs.declared.rows.AlternativeRow.{AlternativeRow}
use Rattle.grammar_model.specs.declared.Ranking.{Ranking}
use Rattle.forest_parts.proofs.Sets.{at_top}
use Rattle.bocage.specs.declared.walk.Found.{Found}
use Rattle.bocage.specs.Rows.{alternative_of, nodes_of, IsTable, AreWithin}
use Rattle.bocage.specs.Walk.{bare, IsRead, IsUsedIn, GrowsBy, IsBegun, top_key}
use Rattle.bocage.specs.Ends.{HasRow, AreVisited}
use Rattle.bocage.proofs.Splits.{used_met}
use Rattle.bocage.proofs.Growing.{seen_node}
use Rattle.bocage.proofs.Moving.{alternatives_moved}
use Rattle.bocage.proofs.Visiting.{still_at}
use Rattle.bocage.proofs.Asking.{closed}
use Rattle.bocage.proofs.Telling.{get_node, got_node, keys_of_nodes}

-- a tree of the start is one of its top
pub has_top : (w : Grammar) (r : Recognizer) → IsRead w r → HasTree r → (tree : Tree) × Derives r.flat (edges_of r) (lhs_of r.flat (top_of r)) 0 (earleme_of r) tree
has_top w r read (t, d) = elim (cases_lt 0 (earleme_of r)) [
  | inl lt ↦ (Node (top_of r) (Child NoChild t) 0 (earleme_of r), Rule (at_top r read.is).is_rule refl lt (subst (λ n. Spans r.flat (edges_of r) (top_of r) n 0 (earleme_of r) (Child NoChild t)) (sym one) (More Flat.Nothing part over)))
  | inr le ↦ (Nulled (lhs_of r.flat (top_of r)) 0, (let e : 0 ≡ earleme_of r = omega arith in subst (λ q. Derives r.flat (edges_of r) (lhs_of r.flat (top_of r)) 0 q (Nulled (lhs_of r.flat (top_of r)) 0)) e (Null (marked le))))
]
  where
    over : Derives r.flat (edges_of r) (start_symbol r) 0 (earleme_of r) t
    over = symbol_back r.flat read.is.flat.marks (edges_of r) (only r.flat r.edges read.is.flat read.is.forward) read.is.flat.no_rules read.is.flat.terminals_span t (slot_of (start_symbol r)) 0 (earleme_of r) d

    at_start : slice_get r.flat.tops r.start ≡ Some (top_of r)
    at_start = slice_get-get_or r.flat.tops r.start 0 read.is.start

    one : length (rhs_of r.flat (top_of r)) ≡ 1
    one = (read.is.flat.tops r.start (top_of r) at_start).one

    part : part_of r.flat (top_of r) 0 ≡ Some (start_symbol r)
    part = slice_get-get_or (rhs_of r.flat (top_of r)) 0 0 (let o = one in omega arith)

    nothing : {x p q : ℕ} {u : Tree} → Derives r.flat (edges_of r) x p q u → q ≤ p → IsNullable r.flat x
    nothing (Token {x = x} {p = p} {q = q} (s, e, i)) le = let f = read.is.forward (record { symbol = s; from = p; to = q }) i in absurd (omega arith)
    nothing (Null n) le = n
    nothing (Rule is l lt s) le = absurd (omega arith)

    marked : earleme_of r ≤ 0 → IsNullable r.flat (lhs_of r.flat (top_of r))
    marked le = read.is.flat.marks (top_of r) (at_top r read.is).is_rule (λ position x e. (
        let (lt, same) = got_at (rhs_of r.flat (top_of r)) position x 0 (sym e) in
        let o = one in
        let first : position ≡ 0 = omega arith in
        let both : Some x ≡ Some (start_symbol r) = sym e ∙ ap (part_of r.flat (top_of r)) first ∙ part in
        let is : x ≡ start_symbol r = cc in
        subst (IsNullable r.flat) (sym is) (nothing over le)
        ))

-- what derives the top is its rule, if it spans something
spans_top : (w : Grammar) (r : Recognizer) → IsRead w r → (tree : Tree) → Derives r.flat (edges_of r) (lhs_of r.flat (top_of r)) 0 (earleme_of r) tree → 0 < earleme_of r →
    (cs : Children) × Spans r.flat (edges_of r) (top_of r) (length (rhs_of r.flat (top_of r))) 0 (earleme_of r) cs
spans_top w r read tree d lt = go refl d refl refl
  where
    go : {x p q : ℕ} {t : Tree} → x ≡ lhs_of r.flat (top_of r) → Derives r.flat (edges_of r) x p q t → p ≡ 0 → q ≡ earleme_of r →
        (cs : Children) × Spans r.flat (edges_of r) (top_of r) (length (rhs_of r.flat (top_of r))) 0 (earleme_of r) cs
    go e (Token (t, is, h)) o w' = absurd (read.is.flat.no_rules (top_of r) (at_top r read.is).is_rule (t, ap (slice_get r.flat.symbols) (sym e) ∙ is))
    go e (Null n) o w' = absurd (omega arith)
    go e (Rule {p = p} {q = q} {r = rule} {cs = cs} is l lt' s) o w' =
        let same : rule ≡ top_of r = (at_top r read.is).alone rule is (l ∙ e) in (
          cs,
          subst (λ z. Spans r.flat (edges_of r) z (length (rhs_of r.flat z)) 0 (earleme_of r) cs) same
              (subst (λ z. Spans r.flat (edges_of r) rule (length (rhs_of r.flat rule)) z (earleme_of r) cs) o
              (subst (λ z. Spans r.flat (edges_of r) rule (length (rhs_of r.flat rule)) p z cs) w' s)),
        )

-- a list that has an element at each of some first places is as long
as_long : {X : Type 0} (n : ℕ) (xs : List X) → ((i : ℕ) → i < n → (x : X) × (slice_get xs i ≡ Some x)) → n ≤ length xs
as_long zero xs h = omega arith
as_long (suc n) [] h = let (x, e) = h 0 (omega arith) in absurd (cc)
as_long (suc n) (y ∷ ys) h = let l = as_long n ys (λ i lt. h (suc i) (omega arith)) in omega arith

module _ (w : Grammar) (ranking : Ranking) (r : Recognizer) (read : IsRead w r) (f : Found) (table : List (List AlternativeRow)) (visited : AreVisited w ranking r 0 f table) (root : Option ℕ)
    (begun : (key : NodeKey) → 0 < earleme_of r → key ≡ top_key r → Contains f.keys.keys key) where
  abbrev pub forest : Forest
  forest = record { written = w; flat = r.flat; start = r.start; edges = r.edges; place = earleme_of r; ranking = ranking; nodes = nodes_of f.wholes.items f.keys.keys table; root = root }

  has_row : (n : ℕ) (key : NodeKey) → slice_get f.keys.keys n ≡ Some key → HasRow w ranking r f.keys.keys f.wholes.items table n key
  has_row n key at = visited.visited n key at (omega arith)

  long : length f.keys.keys ≤ length table
  long = as_long (length f.keys.keys) table (λ i lt. (
      let d : NodeKey = record { rule = 0; dot = 0; origin = 0; end = 0 } in
      let at = slice_get-get_or f.keys.keys i (record { rule = 0; dot = 0; origin = 0; end = 0 }) lt in
      let h = has_row i _ at in
      (h.rows, h.at)
      ))

  pub table_is : IsTable f.keys.keys table f.wholes.items
  table_is = record {
    long = long;
    within = λ n rows lt at. (
        let at' = slice_get-get_or f.keys.keys n (record { rule = 0; dot = 0; origin = 0; end = 0 }) lt in
        let h = has_row n _ at' in
        let one : Some h.rows ≡ Some rows = sym h.at ∙ at in
        let e : h.rows ≡ rows = cc in
        subst (λ z. AreWithin z f.wholes.items) e h.within
        );
  }

  keys_are : map (λ (n : ForestNode). n.key) (nodes_of f.wholes.items f.keys.keys table) ≡ f.keys.keys
  keys_are = keys_of_nodes f.wholes.items f.keys.keys table long

  pub node_in : (n : ℕ) (key : NodeKey) → slice_get f.keys.keys n ≡ Some key → IsNode forest n key
  node_in n key e =
      let h = has_row n key e in
      (record { key = key; alternatives = map (alternative_of f.wholes.items) h.rows }, get_node f.wholes.items f.keys.keys table n key h.rows e h.at, refl)

  pub forest_is : HasTree r → AllPairs (λ x y. x ≢ y) f.keys.keys → IsRoot forest root → IsForest forest
  forest_is has once is_root = record {
    derived = (let (tree, d) = has_top w r read has in record {
      checked = read.checked;
      flat = read.is.flat;
      flat_of = read.flat_of;
      start = read.is.start;
      forward = read.is.forward;
      tree = tree;
      derives = d;
    });
    used = subst (λ l. IsListOf (IsUsedIn w ranking r) l) (sym keys_are) (record {
      once = once;
      exact = λ key. (visited.used key, λ u. (let (lt, m) = (used_met w ranking r read key).0 u in closed w ranking r read 0 f.keys.keys f.wholes.items table visited.visited begun m lt (omega arith)));
    });
    alternatives = λ node h. (
        let (n, at) = found_at (nodes_of f.wholes.items f.keys.keys table) node h in
        let (rows, key_at, row_at, e) = got_node f.wholes.items f.keys.keys table n node at in
        let row = has_row n node.key key_at in
        let one : Some row.rows ≡ Some rows = sym row.at ∙ row_at in
        let q : row.rows ≡ rows = cc in
        subst (λ z. AreAlternatives forest node.key z) (ap (map (alternative_of f.wholes.items)) q ∙ sym e)
        (alternatives_moved w ranking r (map bare f.keys.keys) (nodes_of f.wholes.items f.keys.keys table) None root
        (λ x y g. node_in x y (seen_node w ranking r f.keys.keys x y g)) node.key (map (alternative_of f.wholes.items) row.rows) row.are)
        );
    root = is_root;
  }

-- the start's top
pub top_is : (r : Recognizer) (g : FlatGrammar) (s top : ℕ) → g ≡ r.flat → s ≡ r.start → slice_get g.tops s ≡ Some top → top ≡ top_of r
top_is r g s top e f at = sym (got_at g.tops s top 0 (sym at)).1 ∙ (λ i. get_or (e i).tops (f i) 0)

module _ (w : Grammar) (ranking : Ranking) (r : Recognizer) (read : IsRead w r) (f : Found) (table : List (List AlternativeRow)) (visited : AreVisited w ranking r 0 f table) (first : List NodeKey) (grown : GrowsBy (IsUsedIn w ranking r) first f.keys.keys) where
  begun_by : (root : Option ℕ) → IsBegun r first root → (key : NodeKey) → 0 < earleme_of r → key ≡ top_key r → Contains f.keys.keys key
  begun_by None (e, none) key lt is = absurd (omega arith)
  begun_by (Some n) (lt', at, one) key lt is = got_item f.keys.keys n key (sym (still_at (IsUsedIn w ranking r) first f.keys.keys grown n key (at ∙ ap Some (sym is))))

  root_by : (root : Option ℕ) (begun : IsBegun r first root) → IsRoot (forest w ranking r read f table visited root (begun_by root begun)) root
  root_by None (e, none) = e
  root_by (Some n) (lt, at, one) = (lt, node_in w ranking r read f table visited (Some n) (begun_by (Some n) (lt, at, one)) n (top_key r) (still_at (IsUsedIn w ranking r) first f.keys.keys grown n (top_key r) at))

  -- with the keys in a list of their own
  pub forest_by : (keys : List NodeKey) → keys ≡ f.keys.keys → (wholes : List ℕ) → wholes ≡ f.wholes.items → (root : Option ℕ) → IsBegun r first root → HasTree r → AllPairs (λ x y. x ≢ y) f.keys.keys →
      IsForest (record { written = w; flat = r.flat; start = r.start; edges = r.edges; place = earleme_of r; ranking = ranking; nodes = nodes_of wholes keys table; root = root }) × IsTable keys table wholes
  forest_by keys is wholes same root begun has once =
      subst (λ (l : List ℕ). IsForest (record { written = w; flat = r.flat; start = r.start; edges = r.edges; place = earleme_of r; ranking = ranking; nodes = nodes_of l keys table; root = root }) × IsTable keys table l) (sym same)
      (subst (λ (l : List NodeKey). IsForest (record { written = w; flat = r.flat; start = r.start; edges = r.edges; place = earleme_of r; ranking = ranking; nodes = nodes_of f.wholes.items l table; root = root }) × IsTable l table f.wholes.items) (sym is)
      (forest_is w ranking r read f table visited root (begun_by root begun) has once (root_by root begun), table_is w ranking r read f table visited root (begun_by root begun)))

-- the node of the whole has a number, if there is one
pub begun_top : (r : Recognizer) (keys : List NodeKey) (root : Option ℕ) → IsBegun r keys root → 0 < earleme_of r → Contains keys (top_key r)
begun_top r keys None (e, none) lt = absurd (omega arith)
begun_top r keys (Some n) (lt', at, one) lt = got_item keys n (top_key r) (sym at)

-- the node of the whole is used, and ends at the last place
pub top_used : (w : Grammar) (ranking : Ranking) (r : Recognizer) → IsRead w r → HasTree r → (keys : List NodeKey) (root : Option ℕ) → IsBegun r keys root → (key : NodeKey) → Contains keys key → IsUsedIn w ranking r key × (key.end ≡ earleme_of r)
top_used w ranking r read has keys None (e, none) key h = absurd (Contains-none key (subst (λ l. Contains l key) none h))
top_used w ranking r read has keys (Some n) (lt, at, one) key h =
    let top = at_top r read.is in
    let some = read.is.flat.some (top_of r) top.is_rule in
    (subst (λ z. IsUsedIn w ranking r z) (sym (one key h)) ((used_met w ranking r read (top_key r)).1 (some, whole)), ap (λ (z : NodeKey). z.end) (one key h))
  where
    whole : IsMet r.flat (edges_of r) (allowed_by w ranking r.flat (edges_of r)) (top_of r) (earleme_of r) (top_of r) (length (rhs_of r.flat (top_of r))) 0 (earleme_of r)
    whole = let (tree, d) = has_top w r read has in let (cs, s) = spans_top w r read tree d lt in Whole lt s

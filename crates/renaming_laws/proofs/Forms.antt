-- Two flat forms of one grammar are the same under other names: their symbols stand for the same, and their rules are the same by these.
use Rattle.std.proofs.Common.{◌≡◌, ◌∙◌, inl, inr, ℕ, zero, suc, ◌<◌, List, [], ◌∷◌, length, map, slice_get, slice_index_or, Some, true, Contains, ap, sym, refl, subst, arith}
use Rattle.std.proofs.lemmas.Option.{same_Some, none-some, slice_get-get_or, slice_get_within}
use Rattle.finite_sets.specs.Decided.{IsDecided}
use Rattle.finite_sets.proofs.Deciding.{less}
use Rattle.finite_sets.proofs.Lists.{get_index, get_item, get_map, get_mapped, get_among}
use Rattle.finite_sets.proofs.Members.{Among, Once, pairs_once}
use Rattle.grammar_model.specs.Grammar.{Grammar}
use Rattle.grammar_model.specs.Derives.{Edges}
use Rattle.recognizer_model.specs.declared.flat.FlatSymbol.{FlatSymbol}
use Rattle.recognizer_model.specs.declared.flat.FlatSymbol.TheVariants.{Terminal, Top}
use Rattle.recognizer_model.specs.Flat.{FlatGrammar, FlatRule, no_rule, IsRule, lhs_of, rhs_of, IsNullable}
use Rattle.recognizer_model.specs.FlatForm.{IsFlatOf, NamedRule, symbol_at, named, FlatEdges}
use Rattle.recognizer_model.specs.Invariant.{IsFlat}
use Rattle.renaming_laws.proofs.Renamed.{Names, Renamed}

-- ---- lists

-- in a list of different values each stands at one place
place_of : {X : Type 0} (xs : List X) → Once xs → (i j : ℕ) (x : X) → slice_get xs i ≡ Some x → slice_get xs j ≡ Some x → i ≡ j
place_of [] once i j x e e' = absurd (none-some _ e)
place_of (y ∷ ys) once zero zero x e e' = refl
place_of (y ∷ ys) (fresh, once) zero (suc j) x e e' = absurd (fresh (subst (λ z. Among z ys) (sym (same_Some _ _ e)) (get_among ys j x e')))
place_of (y ∷ ys) (fresh, once) (suc i) zero x e e' = absurd (fresh (subst (λ z. Among z ys) (sym (same_Some _ _ e')) (get_among ys i x e)))
place_of (y ∷ ys) (fresh, once) (suc i) (suc j) x e e' = ap suc (place_of ys once i j x e e')

-- lists that stand for the same, place by place
same_parts : {X : Type 0} (at there : ℕ → X) (name : ℕ → ℕ) (ys xs : List ℕ) →
    ((k y x : ℕ) → slice_get ys k ≡ Some y → slice_get xs k ≡ Some x → there y ≡ at x → y ≡ name x) → map there ys ≡ map at xs → ys ≡ map name xs
same_parts at there name [] [] one e = refl
same_parts at there name [] (x ∷ xs) one e = absurd (let n : zero ≡ suc (length (map at xs)) = ap length e in omega (arith, n))
same_parts at there name (y ∷ ys) [] one e = absurd (let n : suc (length (map there ys)) ≡ zero = ap length e in omega (arith, n))
same_parts at there name (y ∷ ys) (x ∷ xs) one e =
    let first = same_Some _ _ (ap (λ l. slice_get l 0) e) in
    let rest = ap (λ l. tail l) e in
    ap (λ z. z ∷ ys) (one 0 y x refl refl first) ∙ ap (λ zs. name x ∷ zs) (same_parts at there name ys xs (λ k. one (suc k)) rest)
  where
    tail : {Y : Type 0} → List Y → List Y
    tail [] = []
    tail (z ∷ zs) = zs

abbrev flat_rule : FlatGrammar → ℕ → FlatRule
flat_rule f r = slice_index_or f.rules r no_rule

module _ (f g : FlatGrammar) (w : Grammar) (flat : IsFlat f) (other : IsFlat g) (of : IsFlatOf f w) (form : IsFlatOf g w) where
  -- ---- symbols

  symbol_place : (x : ℕ) → x < length f.symbols → Contains g.symbols (symbol_at f x)
  symbol_place x lt = (form.symbols.exact (symbol_at f x)).1 ((of.symbols.exact (symbol_at f x)).0 (get_item f.symbols x (symbol_at f x) (slice_get-get_or f.symbols x (Top 0) lt)))

  symbol_by : (x : ℕ) → IsDecided (x < length f.symbols) → ℕ
  symbol_by x (inl lt) = (symbol_place x lt).0
  symbol_by x (inr none) = 0

  symbol_is_by : (x : ℕ) (d : IsDecided (x < length f.symbols)) → x < length f.symbols → slice_get g.symbols (symbol_by x d) ≡ Some (symbol_at f x)
  unfolding symbol_by
  symbol_is_by x (inl lt) within =
      let (k, below, e) = symbol_place x lt in
      slice_get-get_or g.symbols k (symbol_at f x) below ∙ ap (λ (s : FlatSymbol). Some s) e
  symbol_is_by x (inr none) within = absurd (none within)

  pub symbol : ℕ → ℕ
  symbol x = symbol_by x (less x (length f.symbols))

  pub symbol_is : (x : ℕ) → x < length f.symbols → slice_get g.symbols (symbol x) ≡ Some (symbol_at f x)
  unfolding symbol
  symbol_is x lt = symbol_is_by x (less x (length f.symbols)) lt

  -- a symbol that stands for the same
  pub symbol_one : (x y : ℕ) → x < length f.symbols → y < length g.symbols → symbol_at g y ≡ symbol_at f x → y ≡ symbol x
  symbol_one x y within below e =
      other.differ y (symbol x) (symbol_at f x) (slice_get-get_or g.symbols y (Top 0) below ∙ ap (λ (s : FlatSymbol). Some s) e) (symbol_is x within)

  -- ---- rules

  rule_place : (r : ℕ) → IsRule f r → Contains (map (named g) g.rules) (named f (flat_rule f r))
  rule_place r is =
      (form.rules.exact (named f (flat_rule f r))).1 ((of.rules.exact (named f (flat_rule f r))).0
      (get_item (map (named f) f.rules) r (named f (flat_rule f r)) (get_map (named f) f.rules r (flat_rule f r) (slice_get-get_or f.rules r no_rule is))))

  rule_by : (r : ℕ) → IsDecided (IsRule f r) → ℕ
  rule_by r (inl is) = (rule_place r is).0
  rule_by r (inr none) = 0

  rule_is_by : (r : ℕ) (d : IsDecided (IsRule f r)) → IsRule f r → IsRule g (rule_by r d) × (named g (flat_rule g (rule_by r d)) ≡ named f (flat_rule f r))
  unfolding rule_by
  rule_is_by r (inl is) within =
      let (k, below, e) = rule_place r is in
      let (u, got, same) = get_mapped (named g) g.rules k (named f (flat_rule f r)) (slice_get-get_or (map (named g) g.rules) k (named f (flat_rule f r)) below ∙ ap (λ (s : NamedRule). Some s) e) in
      let (lt, at) = get_index g.rules k no_rule u got in
      (lt, ap (named g) at ∙ same)
  rule_is_by r (inr none) within = absurd (none within)

  pub rule : ℕ → ℕ
  rule r = rule_by r (less r (length f.rules))

  pub rule_is : (r : ℕ) → IsRule f r → IsRule g (rule r) × (named g (flat_rule g (rule r)) ≡ named f (flat_rule f r))
  unfolding rule
  rule_is r is = rule_is_by r (less r (length f.rules)) is

  -- a rule that is the same by what its symbols stand for
  pub rule_one : (r s : ℕ) → IsRule f r → IsRule g s → named g (flat_rule g s) ≡ named f (flat_rule f r) → s ≡ rule r
  rule_one r s is there e =
      let (lt, same) = rule_is r is in
      place_of (map (named g) g.rules) (pairs_once (map (named g) g.rules) form.rules.once) s (rule r) (named f (flat_rule f r))
      (get_map (named g) g.rules s (flat_rule g s) (slice_get-get_or g.rules s no_rule there) ∙ ap (λ (n : NamedRule). Some n) e)
      (get_map (named g) g.rules (rule r) (flat_rule g (rule r)) (slice_get-get_or g.rules (rule r) no_rule lt) ∙ ap (λ (n : NamedRule). Some n) same)

  left_is : (r : ℕ) → IsRule f r → lhs_of g (rule r) ≡ symbol (lhs_of f r)
  left_is r is =
      let (lt, same) = rule_is r is in
      symbol_one (lhs_of f r) (lhs_of g (rule r)) (flat.in_range.left r is) (other.in_range.left (rule r) lt) (ap (λ (n : NamedRule). n.left) same)

  right_is : (r : ℕ) → IsRule f r → rhs_of g (rule r) ≡ map symbol (rhs_of f r)
  right_is r is =
      let (lt, same) = rule_is r is in
      same_parts (symbol_at f) (symbol_at g) symbol (rhs_of g (rule r)) (rhs_of f r)
      (λ k y x e e' s. symbol_one x y (flat.in_range.parts r k x is e') (other.in_range.parts (rule r) k y lt e) s)
      (ap (λ (n : NamedRule). n.right) same)

  marked_is : (x : ℕ) → IsNullable f x → IsNullable g (symbol x)
  marked_is x n =
      let marks = flat.in_range.marks in
      let below = slice_get_within f.nullable x true n in
      let within : x < length f.symbols = omega (arith, marks, below) in
      let spans = (of.marks x (symbol_at f x) (slice_get-get_or f.symbols x (Top 0) within)).0 n in
      (form.marks (symbol x) (symbol_at f x) (symbol_is x within)).1 spans

  pub names : (edge : Edges) → Names f g (FlatEdges f edge) (FlatEdges g edge) symbol rule
  names edge = record {
    stands = λ x lt. slice_get_within g.symbols (symbol x) (symbol_at f x) (symbol_is x lt);
    marked = marked_is;
    is_rule = λ r is. (rule_is r is).0;
    left = left_is;
    right = right_is;
    source = λ r is. ap (λ (n : NamedRule). n.source) (rule_is r is).1;
    edge = λ x p q (t, e, held). (
      t,
      (let (lt, at) = get_index f.symbols x (Top 0) (Terminal t) e in symbol_is x lt ∙ ap (λ (s : FlatSymbol). Some s) at),
      held,
    );
  }

  -- the top of one start
  pub top_is : (k top under : ℕ) → slice_get f.tops k ≡ Some top → slice_get g.tops k ≡ Some under → rule top ≡ under
  top_is k top under e e' =
      let mine = flat.tops k top e in
      let theirs = other.tops k under e' in
      let (lt, same) = rule_is top mine.is_top.is_rule in
      let (below, at) = get_index f.symbols (lhs_of f top) (Top 0) (Top k) mine.symbol in
      theirs.is_top.alone (rule top) lt
      (left_is top mine.is_top.is_rule ∙ other.differ (symbol (lhs_of f top)) (lhs_of g under) (Top k) (symbol_is (lhs_of f top) below ∙ ap (λ (s : FlatSymbol). Some s) at) theirs.symbol)

module _ (f g : FlatGrammar) (w : Grammar) (flat : IsFlat f) (other : IsFlat g) (of : IsFlatOf f w) (form : IsFlatOf g w) where
  pub same_symbol : (x : ℕ) → x < length f.symbols → symbol g f w other flat form of (symbol f g w flat other of form x) ≡ x
  same_symbol x lt =
      let at = symbol_is f g w flat other of form x lt in
      let (below, e) = get_index g.symbols (symbol f g w flat other of form x) (Top 0) (symbol_at f x) at in
      sym (symbol_one g f w other flat form of (symbol f g w flat other of form x) x below lt (sym e))

  pub same_rule : (r : ℕ) → IsRule f r → rule g f w other flat form of (rule f g w flat other of form r) ≡ r
  same_rule r is =
      let (lt, same) = rule_is f g w flat other of form r is in
      sym (rule_one g f w other flat form of (rule f g w flat other of form r) r lt is (sym same))

abbrev pub forms_are_renamed : (f g : FlatGrammar) (w : Grammar) → IsFlat f → IsFlat g → IsFlatOf f w → IsFlatOf g w → (edge : Edges) → Renamed f g (FlatEdges f edge) (FlatEdges g edge)
forms_are_renamed f g w flat other of form edge = record {
  flat = flat;
  flat_back = other;
  symbol = symbol f g w flat other of form;
  rule = rule f g w flat other of form;
  symbol_back = symbol g f w other flat form of;
  rule_back = rule g f w other flat form of;
  there = names f g w flat other of form edge;
  back = names g f w other flat form of edge;
  same_symbol = same_symbol f g w flat other of form;
  same_rule = same_rule f g w flat other of form;
  symbol_again = same_symbol g f w other flat form of;
  rule_again = same_rule g f w other flat form of;
}

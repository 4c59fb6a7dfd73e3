-- Recognizers: what is known of the next place, and what one more set keeps.
use Rattle.std.proofs.Common.{◌≡◌, ◌≢◌, ℕ, ◌+◌, ◌-◌, ◌<◌, ◌≤◌, ◌++◌, ◌↔◌, ◌⊎◌, inl, inr, List, [], ◌∷◌, length, get_or, Some, Contains, slice_get, refl, sym, ◌∙◌, ap, subst, arith, length-append, Result, Ok, Err, OnOk, OnErr}
use Rattle.std.specs.Prelude.{slice_index, AllPairs}
use Rattle.std.proofs.lemmas.Bool.{cases_lt}
use Rattle.std.proofs.lemmas.List.{get_or_append_left, get_or-append-add, get_or_default, get_or_past}
use Rattle.std.proofs.lemmas.List.Quantifiers.{all_pairs_push}
use Rattle.std.proofs.lemmas.Map.Entries.{length-keys_of}
use Rattle.grammar_model.specs.declared.Edge.{Edge as HeldEdge}
use Rattle.grammar_model.specs.Derives.{Held}
use Rattle.recognizer_model.specs.declared.Item.{Item}
use Rattle.recognizer_model.specs.declared.flat.FlatSymbol.TheVariants.{Terminal}
use Rattle.std.proofs.lemmas.List.Elements.{Contains-append_left, Contains-push_cases}
use Rattle.std.proofs.lemmas.Option.{slice_get-get_or}
use Rattle.finite_sets.proofs.Lists.{Contains-none}
use Rattle.grammar_core.specs.declared.edges.EdgeRefusal.{EdgeRefusal}
use Rattle.grammar_core.specs.declared.edges.EdgeRefusal.TheVariants.{Duplicate, BadLength}
use Rattle.grammar_model.specs.Grammar.{slot_of}
use Rattle.grammar_model.specs.Trees.{Tree, Children, NoChild, Child}
use Rattle.grammar_model.specs.Derives as View
use Rattle.grammar_model.specs.Acceptable.{IsAcceptable}
use Rattle.grammar_model.specs.declared.limits.TheConstants.{LAST_PLACE, LONGEST_EDGE}
use Rattle.recognizer_model.specs.Flat.{FlatGrammar, lhs_of, rhs_of, part_of}
use Rattle.recognizer_model.specs.FlatDerives.{Derives, Spans, Nothing, More}
use Rattle.recognizer_model.specs.View.{grammar_view}
use Rattle.recognizer_model.specs.Leo.{IsLeo, InReduced, GoesForward, LeoIsKnown}
use Rattle.recognizer_model.specs.Acceptable.{OnlyTerminals, AcceptableAreAwaited}
use Rattle.recognizer_model.proofs.Paths.{acceptable_are_awaited}
use Rattle.recognizer_model.proofs.Earley.{items_are_found}
use Rattle.recognizer_model.proofs.Views.{symbol_viewed, symbol_back}
use Rattle.recognizer_model.specs.FlatForm.{FlatEdges}
use Rattle.recognizer_model.specs.Items.{InSet, after}
use Rattle.recognizer_model.specs.Contexts.{IsTop, IsFound, AtStart}
use Rattle.recognizer_model.specs.Counts.{IsListOf}
use Rattle.recognizer_model.specs.Links.{Link, IsLink}
use Rattle.recognizer_model.specs.Invariant.{IsFlat}
use Rattle.item_rows.specs.Rows.{ItemRows, row_at}
use Rattle.earley_sets.specs.Kept.{AreRows, IsRowOf, IsAwaited}
use Rattle.expected_terminals.specs.Marks.{IsAwaitedTerminal}
use Rattle.recognizer_model.proofs.Leo.{reduced_inside, keeps_waiting}
use Rattle.recognizer_model.proofs.Over.{AgreeTo, agree_back, same_leo, same_reduced, top_kept}
use Rattle.recognizer_model.specs.declared.Pair.{Pair}
use Rattle.leo_items.specs.Memo.{Note, pairs_of}
use Rattle.leo_items.specs.ByRows.{IsMemo}
use Rattle.leo_items.proofs.Chains.{memo_stays, memo_none, memo_pairs}
use Rattle.earley_sets.proofs.ByRows.{known, to_leo}
use Rattle.earley_sets.specs.Scanning.{GoForward, AreReduced}
use Rattle.earley_sets.specs.Recognizer.{Recognizer, IsKept, earleme_of, edges_of, top_of, made, start_symbol, IsExpected, HasTree}
use Rattle.begun_lists.specs.Tried.{RisesWithin}
use Rattle.begun_lists.proofs.Following.{nothing_there, no_rows}

abbrev pub recognizer : FlatGrammar → ℕ → List HeldEdge → List (List Item) → List Note → Recognizer
recognizer g start edges rows notes = record { flat = g; start = start; edges = edges; sets = rows; noted = pairs_of notes }

-- the rows of the places so far, and one more
pub row_before : (rows : List (List Item)) (row : List Item) (i : ℕ) → i < length rows → row_at (rows ++ row ∷ []) i ≡ row_at rows i
row_before rows row i lt = get_or_append_left rows (row ∷ []) [] i lt

pub row_last : (rows : List (List Item)) (row : List Item) (i : ℕ) → i ≡ length rows → row_at (rows ++ row ∷ []) i ≡ row
row_last rows row i here = let there : i ≡ length rows + 0 = omega arith in ap (row_at (rows ++ row ∷ [])) there ∙ get_or-append-add rows (row ∷ []) 0 []

pub rows_more : (g : FlatGrammar) (rows : List (List Item)) (row : List Item) → AreRows g rows → IsRowOf g (length rows) row → AreRows g (rows ++ row ∷ [])
rows_more g rows row are is i = elim (cases_lt i (length rows)) [
  | inl lt ↦ subst (IsRowOf g i) (sym (row_before rows row i lt)) (are i)
  | inr ge ↦ elim (cases_lt (length rows) i) [
    | inl gt ↦ subst (IsRowOf g i) (sym (get_or_past (rows ++ row ∷ []) i [] (let l = length-append rows (row ∷ []) in omega arith))) (nothing_there g i)
    | inr le ↦ let here : i ≡ length rows = omega arith in subst (IsRowOf g i) (sym (row_last rows row i here)) (subst (λ k. IsRowOf g k row) (sym here) is)
  ]
]

pub top_is_top : (g : FlatGrammar) (start top : ℕ) → IsFlat g → start < length g.tops → top ≡ slice_index g.tops start → IsTop g top
top_is_top g start top flat lt e = subst (IsTop g) (sym e) (flat.tops start (slice_index g.tops start) (slice_get-get_or g.tops start 0 lt)).is_top

module _ (g : FlatGrammar) (start : ℕ) (edges : List HeldEdge) (rows : List (List Item)) (top : ℕ) (notes : List Note) (k : IsKept (recognizer g start edges rows notes) top notes) where
  pub kept_top : IsTop g top
  kept_top = top_is_top g start top k.is.flat k.is.start k.top_is

  pub kept_sets : AreReduced g edges top rows (length rows)
  kept_sets i lt item = subst (λ t. Contains (row_at rows i) item ↔ InReduced g (FlatEdges g (Held edges)) t i item) (sym k.top_is) ((k.is.exact i lt).exact item)

  pub kept_begun : (e : HeldEdge) → Contains edges e → e.from < length rows
  kept_begun e h = let b = k.is.begun e h in let s = k.is.some in omega arith

  -- the pairs that were noted have Leo items
  leo_noted : (more : List Note) → IsMemo g rows more → (pair : Pair) → Contains (pairs_of more) pair →
      (pair.set < length rows) × ((item : Item) × IsLeo g (FlatEdges g (Held edges)) (slice_index g.tops start) pair.set pair.symbol item)
  leo_noted more memo pair c =
      let (lt, (item, leo)) = memo_pairs g rows more memo pair c in
      (lt, (item, subst (λ t. IsLeo g (FlatEdges g (Held edges)) t pair.set pair.symbol item) k.top_is (to_leo g edges top kept_top k.is.forward rows (length rows) kept_sets pair.set pair.symbol item lt leo)))

  pub one_more : (row : List Item) (more : List Note) → IsMemo g rows more → length rows ≤ LAST_PLACE → IsRowOf g (length rows) row → IsListOf (InReduced g (FlatEdges g (Held edges)) top (length rows)) row →
      IsKept (recognizer g start edges (rows ++ row ∷ []) more) top more
  one_more row more memo small is_row exact = record {
    is = record {
      flat = k.is.flat;
      start = k.is.start;
      some = let a = length-append rows (row ∷ []) in omega arith;
      in_range = let a = length-append rows (row ∷ []) in omega arith;
      once = k.is.once;
      forward = k.is.forward;
      begun = λ e h. (let b = kept_begun e h in let a = length-append rows (row ∷ []) in omega arith);
      known = k.is.known;
      exact = λ j lt. there j (let a = length-append rows (row ∷ []) in omega arith);
      noted_once = memo.once;
      noted_leo = λ pair c. (let (lt, leo) = leo_noted more memo pair c in let a = length-append rows (row ∷ []) in (omega arith, leo));
    };
    rows = rows_more g rows row k.rows is_row;
    memo = memo_stays g rows row k.rows more memo;
    top_is = k.top_is;
  }
    where
      there : (j : ℕ) → j ≤ length rows → IsListOf (InReduced g (FlatEdges g (Held edges)) (slice_index g.tops start) j) (row_at (rows ++ row ∷ []) j)
      there j le = elim (cases_lt j (length rows)) [
        | inl lt ↦ subst (IsListOf (InReduced g (FlatEdges g (Held edges)) (slice_index g.tops start) j)) (sym (row_before rows row j lt)) (k.is.exact j lt)
        | inr ge ↦
            let here : j ≡ length rows = omega arith in
            subst (IsListOf (InReduced g (FlatEdges g (Held edges)) (slice_index g.tops start) j)) (sym (row_last rows row j here))
            (subst (λ n. IsListOf (InReduced g (FlatEdges g (Held edges)) (slice_index g.tops start) n) row) (sym here)
            (subst (λ t. IsListOf (InReduced g (FlatEdges g (Held edges)) t (length rows)) row) k.top_is exact))
      ]

pub first_kept : (g : FlatGrammar) (start : ℕ) (edges : List HeldEdge) (rows : List (List Item)) (top : ℕ) (row : List Item) (notes : List Note) → edges ≡ [] → rows ≡ row ∷ [] → IsFlat g → start < length g.tops → top ≡ slice_index g.tops start →
    IsRowOf g 0 row → IsListOf (InReduced g (FlatEdges g (Held edges)) top 0) row → notes ≡ [] → IsKept (recognizer g start edges rows notes) top notes
first_kept g start edges rows top row notes none one flat lt e is_row exact empty =
    subst (λ r. IsKept (recognizer g start edges r notes) top notes) (sym one) (record {
      is = record {
        flat = flat;
        start = lt;
        some = omega arith;
        in_range = omega arith;
        once = subst (AllPairs (λ d e. d ≢ e)) (sym none) (λ i j d low below same. omega arith);
        forward = λ d h. absurd (Contains-none d (subst (λ l. Contains l d) none h));
        begun = λ d h. absurd (Contains-none d (subst (λ l. Contains l d) none h));
        known = λ d h. absurd (Contains-none d (subst (λ l. Contains l d) none h));
        exact = λ j below. (let here : 0 ≡ j = omega arith in subst (λ z. IsListOf (InReduced g (FlatEdges g (Held edges)) (slice_index g.tops start) z) (get_or (row ∷ []) z [])) here
            (subst (λ t. IsListOf (InReduced g (FlatEdges g (Held edges)) t 0) row) e exact));
        noted_once = subst (λ l. AllPairs (λ p q. p ≢ q) (pairs_of l)) (sym empty) (λ i j d low below same. omega arith);
        noted_leo = λ pair c. absurd (Contains-none pair (subst (λ l. Contains (pairs_of l) pair) empty c));
      };
      rows = rows_more g [] row (no_rows g) is_row;
      memo = memo_none g (row ∷ []) notes empty;
      top_is = e;
    })

module _ (g : FlatGrammar) (start : ℕ) (edges : List HeldEdge) (old new : ItemRows) (top : ℕ) (notes : List Note) (k : IsKept (recognizer g start edges old.sets notes) top notes) where
  abbrev pub Added : Type 0
  Added = (row : List Item) × (new.sets ≡ old.sets ++ row ∷ []) × IsRowOf g (length old.sets) row × IsListOf (InReduced g (FlatEdges g (Held edges)) top (length old.sets)) row

  pub add_kept : {T E : Type 0} (r : Result T E) (more : List Note) → IsMemo g old.sets more → length old.sets ≤ LAST_PLACE → OnOk r Added → OnErr r ((new.sets ≡ old.sets) × (more ≡ notes)) → IsKept (recognizer g start edges new.sets more) top more
  add_kept (Ok x) more memo small (row, e, is_row, exact) err = subst (λ z. IsKept (recognizer g start edges z more) top more) (sym e) (one_more g start edges old.sets top notes k row more memo small is_row exact)
  add_kept (Err x) more memo small ok (same, before) = subst (λ z. IsKept (recognizer g start edges z more) top more) (sym same) (subst (λ z. IsKept (recognizer g start edges old.sets z) top z) (sym before) k)

  pub added_set : Added → (set : List Item) × (new.sets ≡ old.sets ++ set ∷ []) ×
      IsListOf (InReduced g (edges_of (recognizer g start edges old.sets notes)) (top_of (recognizer g start edges old.sets notes)) (length old.sets)) set
  added_set (row, e, is_row, exact) = (row, e, subst (λ t. IsListOf (InReduced g (FlatEdges g (Held edges)) t (length old.sets)) row) k.top_is exact)

  -- what was tried is links of the set of the next place
  pub tried_links : (more : List Note) (a b : ℕ) → (0 < length old.sets → RisesWithin (IsLink g (FlatEdges g (Held edges)) top (length old.sets)) (a + length more) (b + length notes)) →
      (tried : List Link) × AllPairs (λ x y. x ≢ y) tried ×
      ((l : Link) → Contains tried l → IsLink g (edges_of (recognizer g start edges old.sets notes)) (top_of (recognizer g start edges old.sets notes)) (length old.sets) l) ×
      (b + made (recognizer g start edges old.sets notes) ≡ a + length tried + length (pairs_of more))
  tried_links more a b rises =
      let r = rises k.is.some in
      let count = r.count in
      let before = length-keys_of notes in
      let now = length-keys_of more in
      (r.values, r.once, (λ l c. subst (λ t. IsLink g (FlatEdges g (Held edges)) t (length old.sets) l) k.top_is (r.are l c)), omega (arith, count, before, now))

-- the edges of flat symbols
module _ (g : FlatGrammar) (edges : List HeldEdge) (flat : IsFlat g) (forward : GoForward edges) where
  pub only : OnlyTerminals g (FlatEdges g (Held edges))
  only x p q (t, is, h) = (t, is)

  pub goes : GoesForward (FlatEdges g (Held edges))
  goes x p q (t, is, h) = forward (record { symbol = t; from = p; to = q }) h

  pub awaited : (top : ℕ) → IsTop g top → AcceptableAreAwaited g (FlatEdges g (Held edges)) top
  awaited top is_top = acceptable_are_awaited g (FlatEdges g (Held edges)) top is_top goes only flat.no_rules flat.marks (λ r position x rule part. flat.productive x (flat.in_range.parts r position x rule part)) flat.terminals_span

module _ (g : FlatGrammar) (start : ℕ) (edges : List HeldEdge) (rows : List (List Item)) (top : ℕ) (notes : List Note) (k : IsKept (recognizer g start edges rows notes) top notes) where
  last : ℕ
  last = length rows - 1

  pub place_is : earleme_of (recognizer g start edges rows notes) ≡ length rows - 1
  place_is = refl

  is_top : IsTop g top
  is_top = kept_top g start edges rows top notes k

  reduced : AreReduced g edges top rows (length rows)
  reduced = kept_sets g start edges rows top notes k

  -- it is known which pairs are Leo
  pub pairs_known : LeoIsKnown g (FlatEdges g (Held edges)) top (length rows)
  pairs_known = known g edges top is_top k.is.forward rows (length rows) reduced

  -- the items of a set that wait are those of the full set
  pub waits_in_set : (j x : ℕ) (item : Item) → j < length rows → after g item ≡ Some x → Contains (row_at rows j) item ↔ InSet g (FlatEdges g (Held edges)) top j item
  waits_in_set j x item lt e =
      let kept = keeps_waiting g (FlatEdges g (Held edges)) top is_top (goes g edges k.is.flat k.is.forward) j (λ i y l. pairs_known i y (omega arith)) item x e in
      let there = reduced j lt item in
      ((λ c. kept.0 (there.0 c)), (λ i. there.1 (kept.1 i)))

  -- and so are the items of the top's rule
  pub top_in_set : (j : ℕ) (item : Item) → j < length rows → item.rule ≡ top → Contains (row_at rows j) item ↔ InSet g (FlatEdges g (Held edges)) top j item
  top_in_set j item lt e =
      let there = reduced j lt item in (
        λ c. reduced_inside g (FlatEdges g (Held edges)) top is_top (goes g edges k.is.flat k.is.forward) (there.0 c),
        λ i. there.1 (top_kept g (FlatEdges g (Held edges)) top is_top (goes g edges k.is.flat k.is.forward) j (λ p y l. pairs_known p y (omega arith)) item e i),
      )

  last_below : length rows - 1 < length rows
  last_below = let s = k.is.some in omega arith

  pub awaited_expected : (x t : ℕ) → slice_get g.symbols x ≡ Some (Terminal t) → IsAwaited g (row_at rows (length rows - 1)) x ↔ IsExpected (recognizer g start edges rows notes) t
  awaited_expected x t is = (there, back)
    where
      law : IsAcceptable (grammar_view g) (FlatEdges g (Held edges)) (lhs_of g top) x (length rows - 1) ↔ ((item : Item) × InSet g (FlatEdges g (Held edges)) top (length rows - 1) item × (after g item ≡ Some x))
      law = awaited g edges k.is.flat k.is.forward top (kept_top g start edges rows top notes k) (length rows - 1) x (t, is)

      same : IsAcceptable (grammar_view g) (FlatEdges g (Held edges)) (lhs_of g top) x (length rows - 1) ≡ IsAcceptable (grammar_view g) (FlatEdges g (Held edges)) (lhs_of g (slice_index g.tops start)) x (length rows - 1)
      same = ap (λ z. IsAcceptable (grammar_view g) (FlatEdges g (Held edges)) (lhs_of g z) x (length rows - 1)) k.top_is

      there : IsAwaited g (row_at rows (length rows - 1)) x → IsExpected (recognizer g start edges rows notes) t
      there (item, c, e) = (x, is, subst (λ T. T) same (law.1 (item, (waits_in_set (length rows - 1) x item last_below e).0 c, e)))

      back : IsExpected (recognizer g start edges rows notes) t → IsAwaited g (row_at rows (length rows - 1)) x
      back (y, is', acc) =
          let e : y ≡ x = k.is.flat.differ y x (Terminal t) is' is in
          let (item, i, a) = law.0 (subst (λ T. T) (sym same) (subst (λ z. IsAcceptable (grammar_view g) (FlatEdges g (Held edges)) (lhs_of g (slice_index g.tops start)) z (length rows - 1)) e acc)) in
          (item, (waits_in_set (length rows - 1) x item last_below a).1 i, a)

  pub listed_expected : (t : ℕ) → IsAwaitedTerminal g (row_at rows (length rows - 1)) t ↔ IsExpected (recognizer g start edges rows notes) t
  listed_expected t = (
    λ (item, h, (x, w, is)). (awaited_expected x t is).0 (item, h, w),
    λ (x, is, acc). (let (item, h, w) = (awaited_expected x t is).1 (x, is, acc) in (item, h, (x, w, is))),
  )

  whole : Item
  whole = record { rule = top; dot = 1; origin = 0 }

  one_part : (x p q : ℕ) (cs : Children) → Spans g (FlatEdges g (Held edges)) top 1 p q cs → part_of g top 0 ≡ Some x → (t : Tree) × Derives g (FlatEdges g (Held edges)) x p q t
  one_part x p q cs (More {x = y} {t = t} Nothing e d) is = let s : y ≡ x = cc in (t, subst (λ z. Derives g (FlatEdges g (Held edges)) z p q t) s d)

  pub whole_is_tree : Contains (row_at rows (length rows - 1)) (record { rule = top; dot = 1; origin = 0 }) ↔ HasTree (recognizer g start edges rows notes)
  whole_is_tree = (there, back)
    where
      one : length (rhs_of g top) ≡ 1
      one = subst (λ z. length (rhs_of g z) ≡ 1) (sym k.top_is) (k.is.flat.tops start (slice_index g.tops start) (slice_get-get_or g.tops start 0 k.is.start)).one

      part : part_of g top 0 ≡ Some (slice_index (rhs_of g top) 0)
      part = slice_get-get_or (rhs_of g top) 0 0 (let o = one in omega arith)

      found : Contains (row_at rows (length rows - 1)) (record { rule = top; dot = 1; origin = 0 }) ↔ IsFound g (FlatEdges g (Held edges)) top (length rows - 1) (record { rule = top; dot = 1; origin = 0 })
      found =
          let law = items_are_found g (FlatEdges g (Held edges)) top is_top (length rows - 1) (record { rule = top; dot = 1; origin = 0 }) in
          let l = top_in_set (length rows - 1) (record { rule = top; dot = 1; origin = 0 }) last_below refl in
          ((λ h. law.0 (l.0 h)), (λ h. l.1 (law.1 h)))

      view : (q : ℕ) (x : ℕ) → q ≡ earleme_of (recognizer g start edges rows notes) → x ≡ start_symbol (recognizer g start edges rows notes) → (t : Tree) → View.Derives (grammar_view g) (FlatEdges g (Held edges)) (slot_of x) 0 q t → HasTree (recognizer g start edges rows notes)
      view q x e s t d = (t, subst (λ z. View.Derives (grammar_view g) (FlatEdges g (Held edges)) (slot_of z) 0 (earleme_of (recognizer g start edges rows notes)) t) s (subst (λ z. View.Derives (grammar_view g) (FlatEdges g (Held edges)) (slot_of x) 0 z t) e d))

      symbol : slice_index (rhs_of g top) 0 ≡ start_symbol (recognizer g start edges rows notes)
      symbol = ap (λ z. slice_index (rhs_of g z) 0) k.top_is

      there : Contains (row_at rows (length rows - 1)) (record { rule = top; dot = 1; origin = 0 }) → HasTree (recognizer g start edges rows notes)
      there h =
          let f = found.0 h in
          let (t, d) = one_part (slice_index (rhs_of g top) 0) 0 (length rows - 1) f.children f.spans part in
          view (length rows - 1) (slice_index (rhs_of g top) 0) (sym place_is) symbol t
          (symbol_viewed g k.is.flat.marks (FlatEdges g (Held edges)) (only g edges k.is.flat k.is.forward) k.is.flat.no_rules k.is.flat.terminals_span d)

      back : HasTree (recognizer g start edges rows notes) → Contains (row_at rows (length rows - 1)) (record { rule = top; dot = 1; origin = 0 })
      back (t, d) =
          let d' = subst (λ z. View.Derives (grammar_view g) (FlatEdges g (Held edges)) (slot_of z) 0 (length rows - 1) t) (sym symbol)
          (subst (λ z. View.Derives (grammar_view g) (FlatEdges g (Held edges)) (slot_of (start_symbol (recognizer g start edges rows notes))) 0 z t) place_is d) in
          let flat = symbol_back g k.is.flat.marks (FlatEdges g (Held edges)) (only g edges k.is.flat k.is.forward) k.is.flat.no_rules k.is.flat.terminals_span t (slot_of (slice_index (rhs_of g top) 0)) 0 (length rows - 1) d' in
          found.1 (record { is_rule = is_top.is_rule; may_stand = AtStart refl; children = Child NoChild t; spans = More Nothing part flat })

  module _ (t earleme n : ℕ) (here : earleme ≡ earleme_of (recognizer g start edges rows notes)) (there : IsExpected (recognizer g start edges rows notes) t) where
    edge : HeldEdge
    edge = record { symbol = t; from = earleme; to = earleme + n }

    more_forward : 0 < n → GoForward (edges ++ record { symbol = t; from = earleme; to = earleme + n } ∷ [])
    more_forward some e h = elim (Contains-push_cases edges (record { symbol = t; from = earleme; to = earleme + n }) e h) [
      | inl o ↦ k.is.forward e o
      | inr s ↦ subst (λ (z : HeldEdge). z.from < z.to) s (omega arith)
    ]

    one_more_edge : 0 < n → ¬ Contains edges (record { symbol = t; from = earleme; to = earleme + n }) → IsKept (recognizer g start (edges ++ record { symbol = t; from = earleme; to = earleme + n } ∷ []) rows notes) top notes
    one_more_edge some fresh = record {
      is = record {
        flat = k.is.flat;
        start = k.is.start;
        some = k.is.some;
        in_range = k.is.in_range;
        once = all_pairs_push (λ d e. d ≢ e) edges (record { symbol = t; from = earleme; to = earleme + n }) k.is.once
            (λ i d lt same. fresh (i, lt, get_or_default edges i (record { symbol = t; from = earleme; to = earleme + n }) d lt ∙ same));
        forward = more_forward some;
        begun = λ e h. elim (Contains-push_cases edges (record { symbol = t; from = earleme; to = earleme + n }) e h) [
          | inl o ↦ k.is.begun e o
          | inr s ↦ subst (λ (z : HeldEdge). z.from ≤ earleme_of (recognizer g start edges rows notes)) s (omega arith)
        ];
        known = λ e h. elim (Contains-push_cases edges (record { symbol = t; from = earleme; to = earleme + n }) e h) [
          | inl o ↦ k.is.known e o
          | inr s ↦ let (x, is, a) = there in subst (λ (z : HeldEdge). (x : ℕ) × (slice_get g.symbols x ≡ Some (Terminal z.symbol))) s (x, is)
        ];
        exact = λ j lt. (let old = k.is.exact j lt in record { once = old.once; exact = λ item. ((λ h. to_more j lt ((old.exact item).0 h)), (λ h. (old.exact item).1 (from_more j lt h))) });
        noted_once = k.is.noted_once;
        noted_leo = λ pair c. (
            let (le, (item, leo)) = k.is.noted_leo pair c in
            let s = k.is.some in
            (le, (item, same_leo g (slice_index g.tops start) top_is (FlatEdges g (Held edges)) (FlatEdges g (Held (edges ++ record { symbol = t; from = earleme; to = earleme + n } ∷ []))) (goes g edges k.is.flat k.is.forward) goes_more (agree pair.set (omega (arith, le, s))) leo)));
      };
      rows = k.rows;
      memo = k.memo;
      top_is = k.top_is;
    }
      where
        goes_more : GoesForward (FlatEdges g (Held (edges ++ record { symbol = t; from = earleme; to = earleme + n } ∷ [])))
        goes_more = goes g (edges ++ record { symbol = t; from = earleme; to = earleme + n } ∷ []) k.is.flat (more_forward some)

        top_is : IsTop g (slice_index g.tops start)
        top_is = subst (IsTop g) k.top_is is_top

        agree : (j : ℕ) → j < length rows → AgreeTo j (FlatEdges g (Held edges)) (FlatEdges g (Held (edges ++ record { symbol = t; from = earleme; to = earleme + n } ∷ [])))
        agree j lt y a b le = (
          λ (s, is, h). (s, is, Contains-append_left edges (record { symbol = t; from = earleme; to = earleme + n } ∷ []) (record { symbol = s; from = a; to = b }) h),
          λ (s, is, h). elim (Contains-push_cases edges (record { symbol = t; from = earleme; to = earleme + n }) (record { symbol = s; from = a; to = b }) h) [
            | inl o ↦ (s, is, o)
            | inr e ↦ let end : earleme + n ≡ b = ap (λ (z : HeldEdge). z.to) e in let w = k.is.some in absurd (omega arith)
          ],
        )

        to_more : (j : ℕ) {item : Item} → j < length rows → InReduced g (FlatEdges g (Held edges)) (slice_index g.tops start) j item → InReduced g (FlatEdges g (Held (edges ++ record { symbol = t; from = earleme; to = earleme + n } ∷ []))) (slice_index g.tops start) j item
        to_more j lt i = same_reduced g (slice_index g.tops start) top_is (FlatEdges g (Held edges)) (FlatEdges g (Held (edges ++ record { symbol = t; from = earleme; to = earleme + n } ∷ []))) (goes g edges k.is.flat k.is.forward) goes_more (agree j lt) i

        from_more : (j : ℕ) {item : Item} → j < length rows → InReduced g (FlatEdges g (Held (edges ++ record { symbol = t; from = earleme; to = earleme + n } ∷ []))) (slice_index g.tops start) j item → InReduced g (FlatEdges g (Held edges)) (slice_index g.tops start) j item
        from_more j lt i = same_reduced g (slice_index g.tops start) top_is (FlatEdges g (Held (edges ++ record { symbol = t; from = earleme; to = earleme + n } ∷ []))) (FlatEdges g (Held edges)) goes_more (goes g edges k.is.flat k.is.forward) (agree_back (agree j lt)) i

    -- after a try to hold the edge
    pub edge_kept : (r : Result (Unit {0}) EdgeRefusal) (edges' : List HeldEdge) → OnOk r (edges' ≡ edges ++ record { symbol = t; from = earleme; to = earleme + n } ∷ []) → OnErr r (edges' ≡ edges) →
        ((r ≡ Err Duplicate) ↔ Contains edges (record { symbol = t; from = earleme; to = earleme + n })) →
        ((r ≡ Err BadLength) ↔ ((¬ Contains edges (record { symbol = t; from = earleme; to = earleme + n })) × ((n ≡ 0) ⊎ (LONGEST_EDGE < n)))) →
        IsKept (recognizer g start edges' rows notes) top notes
    edge_kept (Ok x) edges' ok err dup bad = subst (λ z. IsKept (recognizer g start z rows notes) top notes) (sym ok) (one_more_edge some fresh)
      where
        fresh : ¬ Contains edges (record { symbol = t; from = earleme; to = earleme + n })
        fresh c = let e = dup.1 c in cc

        some : 0 < n
        some = elim (cases_lt 0 n) [ inl lt ↦ lt | inr le ↦ let e = bad.1 (fresh, inl (omega arith)) in absurd (cc) ]
    edge_kept (Err x) edges' ok err dup bad = subst (λ z. IsKept (recognizer g start z rows notes) top notes) (sym err) k

-- the first set alone, with no edges
module _ (g : FlatGrammar) (start : ℕ) (edges : List HeldEdge) (rows : List (List Item)) (top : ℕ) (notes : List Note) (k : IsKept (recognizer g start edges rows notes) top notes) where
  pub first_there : 0 < length rows
  first_there = let s = k.is.some in omega arith

  first_set : (edges' : List HeldEdge) → edges' ≡ [] → IsListOf (InReduced g (FlatEdges g (Held edges')) top 0) (row_at rows 0)
  first_set edges' none = record {
    once = (k.is.exact 0 k.is.some).once;
    exact = λ item. (let there = kept_sets g start edges rows top notes k 0 first_there item in ((λ h. without (there.0 h)), (λ i. there.1 (with_edges i))));
  }
    where
      empty : GoForward edges'
      empty e h = absurd (Contains-none e (subst (λ l. Contains l e) none h))

      first_top : IsTop g top
      first_top = kept_top g start edges rows top notes k

      agree : AgreeTo 0 (FlatEdges g (Held edges)) (FlatEdges g (Held edges'))
      agree y a b le = (
        λ (s, is, h). (let f = k.is.forward (record { symbol = s; from = a; to = b }) h in absurd (omega arith)),
        λ (s, is, h). (let f = empty (record { symbol = s; from = a; to = b }) h in absurd (omega arith)),
      )

      without : {item : Item} → InReduced g (FlatEdges g (Held edges)) top 0 item → InReduced g (FlatEdges g (Held edges')) top 0 item
      without i = same_reduced g top first_top (FlatEdges g (Held edges)) (FlatEdges g (Held edges')) (goes g edges k.is.flat k.is.forward) (goes g edges' k.is.flat empty) agree i

      with_edges : {item : Item} → InReduced g (FlatEdges g (Held edges')) top 0 item → InReduced g (FlatEdges g (Held edges)) top 0 item
      with_edges i = same_reduced g top first_top (FlatEdges g (Held edges')) (FlatEdges g (Held edges)) (goes g edges' k.is.flat empty) (goes g edges k.is.flat k.is.forward) (agree_back agree) i

  pub restarted : (edges' : List HeldEdge) (rows' : List (List Item)) (fewer : List Note) → edges' ≡ [] → rows' ≡ row_at rows 0 ∷ [] → fewer ≡ [] → IsKept (recognizer g start edges' rows' fewer) top fewer
  restarted edges' rows' fewer none one cleared = first_kept g start edges' rows' top (row_at rows 0) fewer none one k.is.flat k.is.start k.top_is (k.rows 0) (first_set edges' none) cleared

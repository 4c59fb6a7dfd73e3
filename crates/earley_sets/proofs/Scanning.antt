use Rattle.std.proofs.Common.{◌≡◌, ℕ, ◌<◌, ◌≤◌, ◌+◌, ◌↔◌, ◌⊎◌, inl, inr, List, [], ◌∷◌, length, take, Some, Contains, slice_get, refl, sym, ◌∙◌, ap, subst, arith, append-nil}
use Rattle.std.proofs.lemmas.List.Elements.{Contains-append_left, Contains-push, Contains-push_cases}
use Rattle.std.proofs.lemmas.List.{take_all}
use Rattle.std.proofs.lemmas.Option.{slice_get_within}
use Rattle.finite_sets.proofs.Lists.{Contains-none}
use Rattle.grammar_model.specs.declared.Edge.{Edge as HeldEdge}
use Rattle.grammar_model.specs.Derives.{Held}
use Rattle.recognizer_model.specs.declared.Item.{Item}
use Rattle.recognizer_model.specs.declared.flat.FlatSymbol.{FlatSymbol}
use Rattle.recognizer_model.specs.declared.flat.FlatSymbol.TheVariants.{Terminal}
use Rattle.recognizer_model.specs.Flat.{FlatGrammar, lhs_of, rhs_of}
use Rattle.recognizer_model.specs.FlatForm.{FlatEdges}
use Rattle.recognizer_model.specs.Items.{first_item, advanced, InSet}
use Rattle.recognizer_model.specs.Contexts.{IsTop}
use Rattle.item_rows.specs.Rows.{row_at}
use Rattle.earley_sets.specs.Kept.{IsItem, AreItems}
use Rattle.begun_lists.specs.Closing.{IsAdvancedOver, Follows, GoesOn, Predicts, Skips, Completes, Leaps, IsReached, Seed, Step}
use Rattle.earley_sets.specs.Scanning.{IsScannedBy, IsScanned, IsSeed, GoForward, AreReduced}
use Rattle.recognizer_model.specs.Leo.{InReduced}
use Rattle.recognizer_model.proofs.Leo.{reduced_inside}
use Rattle.earley_sets.proofs.ByRows.{goes_forward, to_none, from_none, to_leads, from_leads}
use Rattle.begun_lists.proofs.Cutting.{take_next}

-- no two symbols stand for the same thing
abbrev pub Differ : FlatGrammar → Type 0
Differ g = (x y : ℕ) (s : FlatSymbol) → slice_get g.symbols x ≡ Some s → slice_get g.symbols y ≡ Some s → x ≡ y

module _ (g : FlatGrammar) (rows : List (List Item)) where
  pub has_scanned : (edge : HeldEdge) (x : ℕ) → slice_get g.symbols x ≡ Some (Terminal edge.symbol) → Differ g → (old new : List Item) →
      ((other : Item) → Contains new other ↔ (Contains old other ⊎ IsAdvancedOver g (row_at rows edge.from) x other)) →
      (other : Item) → Contains new other ↔ (Contains old other ⊎ IsScannedBy g rows edge other)
  has_scanned edge x is differ old new h other = (
    λ n. elim ((h other).0 n) [ inl o ↦ inl o | inr (w, i, e, s) ↦ inr (record { symbol = x; is_symbol = is; waiting = w; there = i; waits = e; same = s }) ],
    λ n. (h other).1 (elim n [ inl o ↦ inl o | inr s ↦ inr (s.waiting, s.there, s.waits ∙ ap Some (differ s.symbol x (Terminal edge.symbol) s.is_symbol is), s.same) ]),
  )

  module _ (earleme : ℕ) (edges : List HeldEdge) where
    abbrev pub ListedTo : List Item → List Item → ℕ → Type 0
    ListedTo old new k = (other : Item) → Contains new other ↔ (Contains old other ⊎ IsScanned g rows earleme (take k edges) other)

    pub scanned_none : (old : List Item) → ListedTo old old 0
    scanned_none old other = (λ o. inl o, λ n. elim n [ inl o ↦ o | inr (e, c, to, s) ↦ absurd (Contains-none e c) ])

    pub scanned_more : (old mid new : List Item) (k : ℕ) (edge : HeldEdge) → slice_get edges k ≡ Some edge → edge.to ≡ earleme → ListedTo old mid k →
        ((other : Item) → Contains new other ↔ (Contains mid other ⊎ IsScannedBy g rows edge other)) → ListedTo old new (k + 1)
    scanned_more old mid new k edge at ends h more other = subst (λ l. Contains new other ↔ (Contains old other ⊎ IsScanned g rows earleme l other)) (sym (ap (take (k + 1)) (sym (append-nil edges)) ∙ take_next edges [] k edge (sym at))) (
      λ n. elim ((more other).0 n) [
        | inl m ↦ elim ((h other).0 m) [ inl o ↦ inl o | inr (e, c, to, s) ↦ inr (e, Contains-append_left (take k edges) (edge ∷ []) e c, to, s) ]
        | inr s ↦ inr (edge, Contains-push (take k edges) edge, ends, s)
      ],
      λ n. (more other).1 (elim n [
        | inl o ↦ inl ((h other).1 (inl o))
        | inr (e, c, to, s) ↦ elim (Contains-push_cases (take k edges) edge e c) [
          | inl o ↦ inl ((h other).1 (inr (e, o, to, s)))
          | inr same ↦ inr (subst (λ (z : HeldEdge). IsScannedBy g rows z other) (sym same) s)
        ]
      ]),
    )

    pub scanned_all : (old new : List Item) (k : ℕ) → length edges ≤ k → ListedTo old new k → (other : Item) → Contains new other ↔ (Contains old other ⊎ IsScanned g rows earleme edges other)
    scanned_all old new k le h other = subst (λ l. Contains new other ↔ (Contains old other ⊎ IsScanned g rows earleme l other)) (take_all k edges le) (h other)

  -- what those advance that end at the place, of all edges
  pub has_ending : (earleme : ℕ) (edges ending : List HeldEdge) (old new : List Item) → ((e : HeldEdge) → Contains ending e ↔ (Contains edges e × (e.to ≡ earleme))) →
      ((other : Item) → Contains new other ↔ (Contains old other ⊎ IsScanned g rows earleme ending other)) → (other : Item) → Contains new other ↔ (Contains old other ⊎ IsScanned g rows earleme edges other)
  has_ending earleme edges ending old new are h other = (
    λ n. elim ((h other).0 n) [ inl o ↦ inl o | inr (e, c, to, s) ↦ inr (e, ((are e).0 c).0, to, s) ],
    λ n. (h other).1 (elim n [ inl o ↦ inl o | inr (e, c, to, s) ↦ inr (e, (are e).1 (c, to), to, s) ]),
  )

-- what the seeds of a place lead to is its reduced set
module _ (g : FlatGrammar) (edges : List HeldEdge) (top : ℕ) (is_top : IsTop g top) (forward : GoForward edges) (rows : List (List Item)) (earleme : ℕ) (are : AreReduced g edges top rows earleme)
    (seeds : List Item) (is_seed : (item : Item) → Contains seeds item ↔ IsSeed g rows top earleme edges item) where
  step_inside : (item other : Item) → InReduced g (FlatEdges g (Held edges)) top earleme item → Follows g rows earleme item other → InReduced g (FlatEdges g (Held edges)) top earleme other
  step_inside item other i (Predicts e rule l) = InReduced.Predict i e rule l
  step_inside item other i (Skips e n) = InReduced.Skip i e n
  step_inside item other i (Completes {waiting = w} whole lt none there e) =
      InReduced.Complete i whole lt (to_none g edges top is_top forward rows earleme are item.origin (lhs_of g item.rule) lt none) ((are item.origin lt w).0 there) e
  step_inside item other i (Leaps whole lt leads) = InReduced.Leap i whole lt (to_leads g edges top is_top forward rows earleme are lt leads)

  reached_inside : (item : Item) → IsReached (Follows g rows earleme) seeds item → InReduced g (FlatEdges g (Held edges)) top earleme item
  reached_inside item (Seed h) = elim ((is_seed item).0 h) [
    | inl (p, e) ↦ subst (InReduced g (FlatEdges g (Held edges)) top earleme) (sym e) (subst (λ k. InReduced g (FlatEdges g (Held edges)) top k (first_item top 0)) (sym p) InReduced.Start)
    | inr (edge, held, ends, s) ↦
        let lt = forward edge held in
        let e : FlatEdges g (Held edges) s.symbol edge.from earleme = (edge.symbol, s.is_symbol, subst (λ k. Held edges edge.symbol edge.from k) ends held) in
        subst (InReduced g (FlatEdges g (Held edges)) top earleme) (sym s.same) (InReduced.Scan ((are edge.from (omega arith) s.waiting).0 s.there) s.waits e)
  ]
  reached_inside item (Step {item = before} r f) = step_inside before item (reached_inside before r) f

  inside_reached : {j : ℕ} {item : Item} → InReduced g (FlatEdges g (Held edges)) top j item → j ≡ earleme → IsReached (Follows g rows earleme) seeds item
  inside_reached InReduced.Start o = Seed ((is_seed (first_item top 0)).1 (inl (sym o, refl)))
  inside_reached (InReduced.Predict {j = j} {r = r} {item = before} i e rule l) o =
      Step (inside_reached i o) (subst (λ k. Follows g rows earleme before (first_item r k)) (sym o) (Predicts e rule l))
  inside_reached (InReduced.Skip i e n) o = Step (inside_reached i o) (Skips e n)
  inside_reached (InReduced.Scan {i = p} {j = j} {x = x} {item = w} i e (t, is, s)) o =
      let lt = forward (record { symbol = t; from = p; to = j }) s in
      Seed ((is_seed (advanced w)).1 (inr (record { symbol = t; from = p; to = j }, s, o, record { symbol = x; is_symbol = is; waiting = w; there = (are p (omega arith) w).1 i; waits = e; same = refl })))
  inside_reached (InReduced.Complete {whole = whole} {item = w} c at_end lt none i e) o =
      let below : whole.origin < earleme = omega arith in
      Step (inside_reached c o) (Completes at_end below (from_none g edges top is_top forward rows earleme are whole.origin (lhs_of g whole.rule) below none) ((are whole.origin below w).1 i) e)
  inside_reached (InReduced.Leap {whole = whole} c at_end lt leads) o =
      let below : whole.origin < earleme = omega arith in Step (inside_reached c o) (Leaps at_end below (from_leads g edges top is_top forward rows earleme are below leads))

  -- a kernel is inside
  kernel_reached : (item : Item) → IsReached (GoesOn g rows earleme) seeds item → InReduced g (FlatEdges g (Held edges)) top earleme item
  kernel_reached item (Seed h) = reached_inside item (Seed h)
  kernel_reached item (Step {item = before} r (f, behind)) = step_inside before item (kernel_reached before r) f

  pub kernel_inside : (keys : List Item) → ((item : Item) → Contains keys item ↔ IsReached (GoesOn g rows earleme) seeds item) → (item : Item) → Contains keys item → InReduced g (FlatEdges g (Held edges)) top earleme item
  kernel_inside keys h item k = kernel_reached item ((h item).0 k)

  pub reached_is_reduced : (item : Item) → IsReached (Follows g rows earleme) seeds item ↔ InReduced g (FlatEdges g (Held edges)) top earleme item
  reached_is_reduced item = (reached_inside item, λ i. inside_reached i refl)

  -- the items of a set are such
  set_items : {j : ℕ} {item : Item} → InSet g (FlatEdges g (Held edges)) top j item → IsItem g item
  set_items InSet.Start = record { is_rule = is_top.is_rule; within = omega arith }
  set_items (InSet.Predict i e rule l) = record { is_rule = rule; within = omega arith }
  set_items (InSet.Skip {x = x} {item = w} i e n) = let k = set_items i in record { is_rule = k.is_rule; within = slice_get_within (rhs_of g w.rule) w.dot x e }
  set_items (InSet.Scan {x = x} {item = w} i e s) = let k = set_items i in record { is_rule = k.is_rule; within = slice_get_within (rhs_of g w.rule) w.dot x e }
  set_items (InSet.Complete {whole = whole} {item = w} c at_end lt i e) = let k = set_items i in record { is_rule = k.is_rule; within = slice_get_within (rhs_of g w.rule) w.dot (lhs_of g whole.rule) e }

  pub reduced_items : {item : Item} → InReduced g (FlatEdges g (Held edges)) top earleme item → IsItem g item
  reduced_items i = set_items (reduced_inside g (FlatEdges g (Held edges)) top is_top (goes_forward g edges top is_top forward) i)

  pub seeds_are_items : AreItems g seeds
  seeds_are_items item h = reduced_items (reached_inside item (Seed h))

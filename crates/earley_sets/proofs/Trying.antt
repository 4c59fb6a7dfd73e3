-- The links that an item makes, and those that the edges to a place make.
use Rattle.std.proofs.Common.{◌≡◌, ◌≢◌, inl, inr, ℕ, ◌+◌, ◌<◌, ◌≤◌, ◌++◌, List, [], ◌∷◌, length, map, take, slice_get, Some, None, Contains, ◌↔◌, refl, sym, ◌∙◌, ap, subst, arith, length-append, append-nil}
use Rattle.std.specs.Prelude.{AllPairs}
use Rattle.std.proofs.lemmas.List.{length-map, take_all}
use Rattle.std.proofs.lemmas.List.Elements.{Contains-append_left, Contains-push}
use Rattle.std.proofs.lemmas.Option.{same_Some}
use Rattle.finite_sets.proofs.Lists.{get_end}
use Rattle.grammar_model.specs.declared.Edge.{Edge as HeldEdge}
use Rattle.grammar_model.specs.Derives.{Held}
use Rattle.recognizer_model.specs.declared.Item.{Item}
use Rattle.recognizer_model.specs.declared.flat.FlatSymbol.TheVariants.{Terminal}
use Rattle.recognizer_model.specs.Flat.{FlatGrammar, lhs_of, rhs_of}
use Rattle.recognizer_model.specs.FlatForm.{FlatEdges}
use Rattle.recognizer_model.specs.Items.{after, IsWhole}
use Rattle.recognizer_model.specs.Contexts.{IsTop}
use Rattle.recognizer_model.specs.Counts.{IsListOf}
use Rattle.recognizer_model.specs.Leo.{InReduced}
use Rattle.recognizer_model.specs.Links.{Link, Predicts, Skips, Scans, Completes, Leaps, IsLink}
use Rattle.recognizer_model.specs.declared.Pair.{Pair}
use Rattle.leo_items.specs.ByRows.{pair_of}
use Rattle.earley_sets.specs.Kept.{IsItem}
use Rattle.earley_sets.specs.Scanning.{GoForward, AreReduced}
use Rattle.begun_lists.specs.Tried.{RisesWithin, MakesSkip}
use Rattle.earley_sets.specs.Tried.{AwaitsEdge, MakesScan, RisesWithinDone, MakesLink, MakesOne, MakesKernel}
use Rattle.earley_sets.proofs.ByRows.{to_none, to_leads}
use Rattle.begun_lists.proofs.Cutting.{not_before, take_next}
use Rattle.begun_lists.proofs.Rising.{rises_none, rises_one, rises_as, rises_over, rises_on}

terminal_same : {s t : ℕ} → Some (Terminal s) ≡ Some (Terminal t) → s ≡ t
terminal_same e = cc

-- the items of a list, each with another put in its place
pub rises_listed : (P : Item → Type 0) (xs : List Item) → IsListOf P xs → (f : Item → Item) (old new : List Item) → new ≡ old ++ map f xs → RisesWithin P (length old) (length new)
rises_listed P xs lists f old new is = record {
  values = xs;
  once = lists.once;
  are = λ x c. (lists.exact x).0 c;
  count = ap length is ∙ (length-append old (map f xs) ∙ ap (λ n. length old + n) (length-map xs f));
}

module _ (g : FlatGrammar) (rows : List (List Item)) (earleme : ℕ) (item : Item) where
  pub links_skipped : (x a b : ℕ) → after g item ≡ Some x → RisesWithin (MakesSkip g item x) a b → RisesWithin (MakesLink g rows earleme item) a b
  links_skipped x a b e r = rises_as (MakesLink g rows earleme item) (λ l (n, s). subst (MakesLink g rows earleme item) (sym s) (refl, (x, e, n))) r

  module _ (none : after g item ≡ None) (is : IsItem g item) (lt : item.origin < earleme) where
    whole : IsWhole g item
    whole = get_end (rhs_of g item.rule) item.dot is.within none

    done : (a b : ℕ) → RisesWithinDone g rows item.origin (lhs_of g item.rule) a b → RisesWithin (MakesLink g rows earleme item) a b
    done a b (inl (never, r)) = rises_over (MakesLink g rows earleme item) (Completes item) (λ w h. (refl, whole, lt, never, h)) (λ v w h i e. cc) r
    done a b (inr ((topmost, leads), e)) = rises_one (MakesLink g rows earleme item) (Leaps item) a b (refl, whole, lt, (topmost, leads)) e

    pub links_done : (pair : Pair) → pair ≡ pair_of g item → (a b : ℕ) → RisesWithinDone g rows pair.set pair.symbol a b → RisesWithin (MakesLink g rows earleme item) a b
    links_done pair same a b r = done a b (subst (λ (p : Pair). RisesWithinDone g rows p.set p.symbol a b) same r)

  -- a link names the item that makes it
  pub same_maker : (link : Link) (other : Item) → MakesLink g rows earleme item link → MakesLink g rows earleme other link → item ≡ other
  same_maker (Predicts before r) other m n = absurd m
  same_maker (Skips before) other m n = sym m.0 ∙ n.0
  same_maker (Scans before from) other m n = absurd m
  same_maker (Completes done waiting) other m n = sym m.0 ∙ n.0
  same_maker (Leaps done) other m n = sym m.0 ∙ n.0

  never_scans : (link : Link) (before : Item) (from : ℕ) → link ≡ Scans before from → MakesLink g rows earleme item link → ⊥
  never_scans link before from e m = subst (MakesLink g rows earleme item) e m

module _ (g : FlatGrammar) (rows : List (List Item)) (earleme : ℕ) where
  -- the links of no edge
  pub scans_none : (edges : List HeldEdge) (a : ℕ) → RisesWithin (MakesScan g rows earleme (take 0 edges)) a a
  scans_none edges a = rises_none (MakesScan g rows earleme (take 0 edges)) a a refl

  -- the links of one edge more
  pub scans_more : (edges : List HeldEdge) (k : ℕ) (edge : HeldEdge) (a b c : ℕ) → AllPairs (λ x y. x ≢ y) edges → slice_get edges k ≡ Some edge → edge.to ≡ earleme →
      RisesWithin (MakesScan g rows earleme (take k edges)) a b → RisesWithin (AwaitsEdge g rows edge) b c → RisesWithin (MakesScan g rows earleme (take (k + 1) edges)) a c
  scans_more edges k edge a b c once at ends before now =
      subst (λ l. RisesWithin (MakesScan g rows earleme l) a c) (sym (ap (take (k + 1)) (sym (append-nil edges)) ∙ take_next edges [] k edge (sym at)))
      (rises_on (MakesScan g rows earleme (take k edges ++ edge ∷ []))
      (λ link (other, there, ends, m). (other, Contains-append_left (take k edges) (edge ∷ []) other there, ends, m))
      (λ link (item, m, e). (edge, Contains-push (take k edges) edge, ends, (item, m, e)))
      (λ link (other, there, ends', (item', m', e')) (item, m, e).
      not_before edges k edge once (sym at) (subst (Contains (take k edges)) (same_edge other item' item ends' m' m (sym e' ∙ e)) there))
      before (rises_over (λ l. (item : Item) × AwaitsEdge g rows edge item × (l ≡ Scans item edge.from)) (λ item. Scans item edge.from) (λ item m. (item, m, refl)) (λ v w h i e. cc) now))
    where
      same_edge : (other : HeldEdge) (item' item : Item) → other.to ≡ earleme → AwaitsEdge g rows other item' → AwaitsEdge g rows edge item → Scans item' other.from ≡ Scans item edge.from → other ≡ edge
      same_edge other item' item ends' (x', is', (there', waits')) (x, is, (there, waits)) e =
          let items : item' ≡ item = cc in
          let froms : other.from ≡ edge.from = cc in
          let symbols : x' ≡ x = same_Some _ _ (sym waits' ∙ (ap (after g) items ∙ waits)) in
          let terminals : other.symbol ≡ edge.symbol = terminal_same (sym is' ∙ (ap (slice_get g.symbols) symbols ∙ is)) in
          let tos : other.to ≡ edge.to = ends' ∙ sym ends in
          λ i. record { symbol = terminals i; from = froms i; to = tos i }

  pub scans_all : (edges : List HeldEdge) (k a b : ℕ) → length edges ≤ k → RisesWithin (MakesScan g rows earleme (take k edges)) a b → RisesWithin (MakesScan g rows earleme edges) a b
  scans_all edges k a b le r = subst (λ l. RisesWithin (MakesScan g rows earleme l) a b) (take_all k edges le) r

  -- the links of those that end at the place, of all edges
  pub scans_ending : (edges ending : List HeldEdge) (a b : ℕ) → ((e : HeldEdge) → Contains ending e ↔ (Contains edges e × (e.to ≡ earleme))) → RisesWithin (MakesScan g rows earleme ending) a b → RisesWithin (MakesScan g rows earleme edges) a b
  scans_ending edges ending a b are r = rises_as (MakesScan g rows earleme edges) (λ link (edge, there, ends, m). (edge, ((are edge).0 there).0, ends, m)) r

-- what was tried while a set was made are links of the set
module _ (g : FlatGrammar) (edges : List HeldEdge) (top : ℕ) (is_top : IsTop g top) (forward : GoForward edges) (rows : List (List Item)) (earleme : ℕ) (are : AreReduced g edges top rows earleme) where
  scan_link : (link : Link) → MakesScan g rows earleme edges link → IsLink g (FlatEdges g (Held edges)) top earleme link
  scan_link link (edge, held, ends, (item, (x, is, (there, waits)), e)) =
      let lt = forward edge held in
      subst (IsLink g (FlatEdges g (Held edges)) top earleme) (sym e)
      (x, (are edge.from (omega (arith, lt, ends)) item).0 there, waits, (edge.symbol, is, subst (λ k. Held edges edge.symbol edge.from k) ends held))

  item_link : (item : Item) → InReduced g (FlatEdges g (Held edges)) top earleme item → (link : Link) → MakesLink g rows earleme item link → IsLink g (FlatEdges g (Held edges)) top earleme link
  item_link item i (Predicts before r) m = absurd m
  item_link item i (Skips before) (s, (x, e, n)) = subst (λ b. IsLink g (FlatEdges g (Held edges)) top earleme (Skips b)) (sym s) (x, i, e, n)
  item_link item i (Scans before from) m = absurd m
  item_link item i (Completes done waiting) (s, whole, lt, none, (there, waits)) =
      subst (λ b. IsLink g (FlatEdges g (Held edges)) top earleme (Completes b waiting)) (sym s)
      ((i, whole, lt), to_none g edges top is_top forward rows earleme are item.origin (lhs_of g item.rule) lt none, (are item.origin lt waiting).0 there, waits)
  item_link item i (Leaps done) (s, whole, lt, (topmost, leads)) =
      subst (λ b. IsLink g (FlatEdges g (Held edges)) top earleme (Leaps b)) (sym s) ((i, whole, lt), (topmost, to_leads g edges top is_top forward rows earleme are lt leads))

  pub kernel_link : (keys : List Item) → ((item : Item) → Contains keys item → InReduced g (FlatEdges g (Held edges)) top earleme item) → (link : Link) → MakesKernel g rows earleme edges keys link → IsLink g (FlatEdges g (Held edges)) top earleme link
  kernel_link keys inside link (inl scan) = scan_link link scan
  kernel_link keys inside link (inr (item, there, m)) = item_link item (inside item there) link m

-- the edges' links and then those of all items
pub all_links : (g : FlatGrammar) (edges : List HeldEdge) (rows : List (List Item)) (earleme : ℕ) (keys : List Item) (a b c : ℕ) → RisesWithin (MakesScan g rows earleme edges) a b → RisesWithin (MakesOne g rows earleme keys) b c → RisesWithin (MakesKernel g rows earleme edges keys) a c
all_links g edges rows earleme keys a b c scans made =
    rises_on (MakesKernel g rows earleme edges keys) (λ link m. inl m) (λ link m. inr m) (λ link (edge, held, ends, (from, w, e)) (item, there, m). never_scans g rows earleme item link from edge.from e m) scans made

-- Steps of a recognizer as its sets are made, one after another.
use Rattle.std.proofs.Common.{◌≡◌, ◌≢◌, inl, inr, ℕ, ◌+◌, ◌<◌, ◌++◌, List, [], ◌∷◌, length, Contains, refl, sym, ◌∙◌, ap, subst, arith, length-append}
use Rattle.std.specs.Prelude.{AllPairs}
use Rattle.std.proofs.lemmas.List.Elements.{Contains-append_left, Contains-append_cases}
use Rattle.grammar_model.specs.declared.Edge.{Edge as HeldEdge}
use Rattle.grammar_model.specs.Derives.{Edges}
use Rattle.recognizer_model.specs.declared.Item.{Item}
use Rattle.recognizer_model.specs.Flat.{FlatGrammar}
use Rattle.recognizer_model.specs.Contexts.{IsTop}
use Rattle.recognizer_model.specs.Leo.{GoesForward}
use Rattle.recognizer_model.specs.Links.{Link, Predicts, Skips, Scans, Completes, Leaps, IsLink}
use Rattle.recognizer_model.proofs.Over.{AgreeTo, agree_below, same_reduced, same_none, same_leads}
use Rattle.earley_sets.specs.Scanning.{GoForward}
use Rattle.earley_sets.specs.Recognizer.{Recognizer, IsRecognizer, earleme_of, edges_of, top_of, made, IsLeoPair}
use Rattle.recognizer_model.specs.Links.{PlacedLink}
use Rattle.earley_sets.specs.Counted.{IsLinkOf, CountsFrom, TakesAtMost}
use Rattle.earley_sets.proofs.ByRows.{goes_forward}
use Rattle.earley_sets.proofs.Recognizing.{top_is_top}
use Rattle.begun_lists.proofs.Rising.{rises_none, rises_as, rises_over, rises_on, rises_moved, different_are_few}

-- links over edges that are the same up to the place
same_link : (g : FlatGrammar) (top : ℕ) (is_top : IsTop g top) (E F : Edges) → GoesForward E → GoesForward F → (earleme : ℕ) (link : Link) → AgreeTo earleme E F → IsLink g E top earleme link → IsLink g F top earleme link
same_link g top is_top E F fe ff earleme (Predicts item r) a (x, i, waits, rule, l) = (x, same_reduced g top is_top E F fe ff a i, waits, rule, l)
same_link g top is_top E F fe ff earleme (Skips item) a (x, i, waits, n) = (x, same_reduced g top is_top E F fe ff a i, waits, n)
same_link g top is_top E F fe ff earleme (Scans item from) a (x, i, waits, e) =
    let lt = fe x from earleme e in
    (x, same_reduced g top is_top E F fe ff (agree_below (omega (arith, lt)) a) i, waits, (a x from earleme (omega arith)).0 e)
same_link g top is_top E F fe ff earleme (Completes whole item) a ((i, w, lt), none, there, waits) =
    ((same_reduced g top is_top E F fe ff a i, w, lt), same_none g top is_top E F fe ff (agree_below (omega (arith, lt)) a) none, same_reduced g top is_top E F fe ff (agree_below (omega (arith, lt)) a) there, waits)
same_link g top is_top E F fe ff earleme (Leaps whole) a ((i, w, lt), (topmost, leads)) =
    ((same_reduced g top is_top E F fe ff a i, w, lt), (topmost, same_leads g top is_top E F fe ff (agree_below (omega (arith, lt)) a) leads))

pub counts_first : (r : Recognizer) (before : ℕ) → r.noted ≡ [] → CountsFrom r before before
counts_first r before none = rises_none (IsLinkOf r) (before + made r) before (let e = ap length none in omega (arith, e))

-- more edges that end after the place leave the links as they are
module _ (old new : Recognizer) (is : IsRecognizer new) (flat : new.flat ≡ old.flat) (start : new.start ≡ old.start) (sets : new.sets ≡ old.sets) (noted : new.noted ≡ old.noted)
    (more : List HeldEdge) (edges : new.edges ≡ old.edges ++ more) (behind : (e : HeldEdge) → Contains more e → earleme_of old < e.to) where
  over : Recognizer
  over = record { flat = new.flat; start = new.start; edges = old.edges; sets = new.sets; noted = new.noted }

  is_old : Path Recognizer over old
  unfolding over
  is_old = λ i. record { flat = flat i; start = start i; edges = old.edges; sets = sets i; noted = noted i }

  is_top : IsTop new.flat (top_of new)
  is_top = top_is_top new.flat new.start (top_of new) is.flat is.start refl

  in_new : (e : HeldEdge) → Contains old.edges e → Contains new.edges e
  in_new e c = subst (λ l. Contains l e) (sym edges) (Contains-append_left old.edges more e c)

  old_forward : GoForward old.edges
  old_forward e c = is.forward e (in_new e c)

  same_place : earleme_of new ≡ earleme_of old
  same_place = let e = ap (λ (l : List (List Item)). length l) sets in omega (arith, e)

  agree : AgreeTo (earleme_of new) (edges_of over) (edges_of new)
  unfolding over
  agree y a b le = (
    λ (s, x, h). (s, x, in_new (record { symbol = s; from = a; to = b }) h),
    λ (s, x, h). elim (Contains-append_cases old.edges more (record { symbol = s; from = a; to = b }) (subst (λ l. Contains l (record { symbol = s; from = a; to = b })) edges h)) [
      | inl o ↦ (s, x, o)
      | inr m ↦ (let lt = behind (record { symbol = s; from = a; to = b }) m in let p = same_place in absurd (omega (arith, lt, le, p)))
    ],
  )

  same_links : (p : PlacedLink) → IsLinkOf over p → IsLinkOf new p
  unfolding over
  same_links p (some, le, link) = (
    some,
    le,
    same_link new.flat (top_of new) is_top (edges_of over) (edges_of new) (goes_forward new.flat old.edges (top_of new) is_top old_forward) (goes_forward new.flat new.edges (top_of new) is_top is.forward) p.place p.link
        (agree_below le agree) link,
  )

  pub counts_more : (before after : ℕ) → CountsFrom old before after → CountsFrom new before after
  unfolding over
  counts_more before after counts = rises_as (IsLinkOf new) same_links (subst (λ r. CountsFrom r before after) (sym is_old) counts)

-- one set more
module _ (old new : Recognizer) (flat : new.flat ≡ old.flat) (start : new.start ≡ old.start) (edges : new.edges ≡ old.edges) (some : 0 < length old.sets) (set : List Item) (sets : new.sets ≡ old.sets ++ set ∷ []) where
  under : Recognizer
  under = record { flat = old.flat; start = old.start; edges = old.edges; sets = new.sets; noted = new.noted }

  is_new : Path Recognizer under new
  unfolding under
  is_new = λ i. record { flat = (sym flat) i; start = (sym start) i; edges = (sym edges) i; sets = new.sets; noted = new.noted }

  longer : length new.sets ≡ length old.sets + 1
  longer = ap (λ (l : List (List Item)). length l) sets ∙ length-append old.sets (set ∷ [])

  -- a link of the new set
  abbrev IsLast : PlacedLink → Type 0
  IsLast p = (p.place ≡ length old.sets) × IsLink old.flat (edges_of old) (top_of old) p.place p.link

  pub counts_set : (before middle after : ℕ) (tried : List Link) → AllPairs (λ a b. a ≢ b) tried → ((l : Link) → Contains tried l → IsLink old.flat (edges_of old) (top_of old) (length old.sets) l) →
      after + made old ≡ middle + length tried + made new → CountsFrom old before middle → CountsFrom new before after
  unfolding under
  counts_set before middle after tried once are count counts =
      subst (λ r. CountsFrom r before after) is_new
      (rises_on (IsLinkOf under) earlier last apart
      (rises_moved (before + made new) (before + made new + length counts.values) (let c = counts.count in omega (arith, c)) counts)
      (rises_over IsLast (λ l. record { place = length old.sets; link = l }) (λ l c. (refl, c)) (λ l m c d e. ap (λ (p : PlacedLink). p.link) e)
      (record { values = tried; once = once; are = are; count = (let c = counts.count in omega (arith, c, count)) })))
    where
      earlier : (p : PlacedLink) → IsLinkOf old p → IsLinkOf under p
      earlier p (more, le, link) = (more, (let n = longer in omega (arith, le, n)), link)

      last : (p : PlacedLink) → IsLast p → IsLinkOf under p
      last p (e, link) = (omega (arith, some, e), (let n = longer in omega (arith, e, n)), link)

      apart : (p : PlacedLink) → IsLinkOf old p → IsLast p → ⊥
      apart p (more, le, link) (e, here) = omega (arith, le, e, some)

-- what was counted is at most as much as there is
pub counts_are_few : (r : Recognizer) → IsRecognizer r → (before after : ℕ) → CountsFrom r before after → TakesAtMost r before after
counts_are_few r is before after counts links pairs are_links are_pairs =
    let l = different_are_few (IsLinkOf r) counts.values links counts.once counts.are are_links in
    let p = different_are_few (IsLeoPair r) r.noted pairs is.noted_once is.noted_leo are_pairs in
    let c = counts.count in
    omega (arith, l, p, c)

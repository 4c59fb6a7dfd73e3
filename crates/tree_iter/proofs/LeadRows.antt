-- The rows of steps, when one more is read.
use Rattle.std.proofs.Common.{◌≡◌, ◌⊎◌, inl, inr, ℕ, zero, suc, ◌+◌, ◌-◌, ◌<◌, ◌≤◌, List, [], ◌∷◌, ◌++◌, length, map, take, drop, Some, refl, sym, ap, ◌∙◌, subst, length-append, append_assoc, arith}
use Rattle.std.specs.Prelude.{slice_get, slice_index_or}
use Rattle.std.proofs.lemmas.Option.{slice_get_within}
use Rattle.std.proofs.lemmas.List.{map-append}
use Rattle.finite_sets.proofs.Lists.{get_left, get_last}
use Rattle.grammar_model.specs.Steps.{Step, TokenStep, NulledStep, RuleStep}
use Rattle.forest_laws.specs.Guide.{ends_after, all_ends, step_from, top_of, IsRowAt}
use Rattle.tree_iter.specs.declared.leads.LeadRow.{LeadRow}
use Rattle.tree_iter.specs.Leads.{AreEnds, AreRows}

-- ---- stacks of ends

ends_more : (rows more : List LeadRow) (ends : List ℕ) → AreEnds rows ends → AreEnds (rows ++ more) ends
ends_more rows more [] h = tt
ends_more rows more (end ∷ ends) (place, row, is, at, below, h) = (place, row, is, get_left rows more place row at, below, ends_more rows more ends h)

pub ends_dropped : (rows : List LeadRow) (n : ℕ) (ends : List ℕ) → AreEnds rows ends → AreEnds rows (drop n ends)
ends_dropped rows zero ends h = h
ends_dropped rows (suc n) [] h = tt
ends_dropped rows (suc n) (end ∷ ends) (place, row, is, at, below, h) = ends_dropped rows n ends h

pub record IsTopRow (rows : List LeadRow) (ends : List ℕ) (place : ℕ) : Type 0 where
  pub row : LeadRow
  pub at : slice_get rows place ≡ Some row
  pub below : row.below ≡ top_of (drop 1 ends)

-- the topmost end is that of a row
pub top_row : (rows : List LeadRow) (ends : List ℕ) (place : ℕ) → AreEnds rows ends → top_of ends ≡ suc place → IsTopRow rows ends place
top_row rows [] place h e = absurd (omega arith)
top_row rows (end ∷ ends) place (at, row, is, there, below, h) e =
    let same : at ≡ place = omega arith in
    record { row = row; at = subst (λ k. slice_get rows k ≡ Some row) same there; below = below }

top_none : (rows : List LeadRow) (ends : List ℕ) → AreEnds rows ends → top_of ends ≡ 0 → ends ≡ []
top_none rows [] h e = refl
top_none rows (end ∷ ends) (at, row, is, there, below, h) e = absurd (omega arith)

drop_next : {X : Type 0} (n : ℕ) (xs : List X) → drop 1 (drop n xs) ≡ drop (suc n) xs
drop_next zero xs = refl
drop_next (suc n) [] = refl
drop_next (suc n) (x ∷ xs) = drop_next n xs

drop_empty : {X : Type 0} (n : ℕ) (xs : List X) → xs ≡ [] → drop n xs ≡ []
drop_empty zero xs e = e
drop_empty (suc n) [] e = refl
drop_empty (suc n) (x ∷ xs) e = absurd (cc e)

drop_none : {X : Type 0} (k n : ℕ) (xs : List X) → drop k xs ≡ [] → k ≤ n → drop n xs ≡ []
drop_none zero n xs e le = drop_empty n xs e
drop_none (suc k) zero xs e le = absurd (omega arith)
drop_none (suc k) (suc n) [] e le = refl
drop_none (suc k) (suc n) (x ∷ xs) e le = drop_none k n xs e (omega arith)

-- one tree more is taken off
pub newest_next : (rows : List LeadRow) (ends : List ℕ) (n top place : ℕ) (row : LeadRow) → AreEnds rows ends → top ≡ top_of (drop n ends) → top ≡ suc place → slice_get rows place ≡ Some row → row.below ≡ top_of (drop (suc n) ends)
newest_next rows ends n top place row h is at there =
    let r = top_row rows (drop n ends) place (ends_dropped rows n ends h) (sym is ∙ at) in
    let here : Some r.row ≡ Some row = sym r.at ∙ there in
    let same : r.row ≡ row = cc in
    ap (λ (x : LeadRow). x.below) (sym same) ∙ r.below ∙ ap top_of (drop_next n ends)

-- there is none to take off
pub newest_none : (rows : List LeadRow) (ends : List ℕ) (k n top : ℕ) → AreEnds rows ends → top ≡ top_of (drop k ends) → top ≡ 0 → k ≤ n → 0 ≡ top_of (drop n ends)
newest_none rows ends k n top h is none le =
    let empty = top_none rows (drop k ends) (ends_dropped rows k ends h) (sym is ∙ none) in
    sym (ap top_of (drop_none k n ends empty le))

-- the topmost end is a row's, which is there
pub newest_within : (rows : List LeadRow) (ends : List ℕ) (n top : ℕ) → AreEnds rows ends → top ≡ top_of (drop n ends) → 0 < top → top - 1 < length rows
newest_within rows ends n top h is some =
    let place : top ≡ suc (top - 1) = omega arith in
    let r = top_row rows (drop n ends) (top - 1) (ends_dropped rows n ends h) (sym is ∙ place) in
    slice_get_within rows (top - 1) r.row r.at

-- ---- one step more

pub ends_last : (ends : List ℕ) (place : ℕ) (steps : List Step) (step : Step) → all_ends ends place (steps ++ step ∷ []) ≡ ends_after (all_ends ends place steps) (length steps + place) step
ends_last ends place [] step = let at : place ≡ 0 + place = omega arith in ap (λ n. ends_after ends n step) at
ends_last ends place (x ∷ xs) step =
    let at : length xs + suc place ≡ suc (length xs) + place = omega arith in
    ends_last (ends_after ends place x) (suc place) xs step ∙ ap (λ n. ends_after (all_ends (ends_after ends place x) (suc place) xs) n step) at

top_last : (ends : List ℕ) (place : ℕ) (step : Step) → top_of (ends_after ends place step) ≡ suc place
top_last ends place (TokenStep s a b) = refl
top_last ends place (NulledStep s a) = refl
top_last ends place (RuleStep r n a b) = refl

ends_on : (rows : List LeadRow) (row : LeadRow) (ends : List ℕ) (place : ℕ) (step : Step) → AreEnds rows ends → place ≡ length rows → row.below ≡ top_of (drop 1 (ends_after ends place step)) →
    AreEnds (rows ++ row ∷ []) (ends_after ends place step)
ends_on rows row ends place (TokenStep s a b) h at below = (length rows, row, ap suc at, get_last rows row, below, ends_more rows (row ∷ []) ends h)
ends_on rows row ends place (NulledStep s a) h at below = (length rows, row, ap suc at, get_last rows row, below, ends_more rows (row ∷ []) ends h)
ends_on rows row ends place (RuleStep r n a b) h at below = (length rows, row, ap suc at, get_last rows row, below, ends_more rows (row ∷ []) (drop n ends) (ends_dropped rows n ends h))

-- after steps, the topmost tree ends with the last of them
top_at : (ends : List ℕ) (place : ℕ) (step : Step) (steps : List Step) → top_of (all_ends ends place (step ∷ steps)) ≡ suc place + length steps
top_at ends place step [] = top_last ends place step ∙ omega arith
top_at ends place step (next ∷ steps) = top_at (ends_after ends place step) (suc place) next steps ∙ omega arith

pub top_after : (steps : List Step) → top_of (all_ends [] 0 steps) ≡ length steps
top_after [] = refl
top_after (step ∷ steps) = top_at [] 0 step steps ∙ omega arith

get_more : {X : Type 0} (xs : List X) (x : X) (k : ℕ) (y : X) → slice_get (xs ++ x ∷ []) k ≡ Some y → (slice_get xs k ≡ Some y) ⊎ ((k ≡ length xs) × (x ≡ y))
get_more [] x zero y e = inr (refl, cc)
get_more [] x (suc k) y e = absurd (cc e)
get_more (z ∷ xs) x zero y e = inl e
get_more (z ∷ xs) x (suc k) y e = elim (get_more xs x k y e) as (λ _. (slice_get xs k ≡ Some y) ⊎ ((suc k ≡ suc (length xs)) × (x ≡ y))) [ inl h ↦ inl h | inr h ↦ inr (ap suc h.0, h.1) ]

row_more : (steps : List Step) (step : Step) (place from below : ℕ) → IsRowAt steps place from below → IsRowAt (steps ++ step ∷ []) place from below
row_more steps step place from below h = record {
  before = h.before;
  step = h.step;
  behind = h.behind ++ step ∷ [];
  split = ap (λ l. l ++ step ∷ []) h.split ∙ append_assoc h.before (h.step ∷ h.behind) (step ∷ []);
  place_is = h.place_is;
  from_is = h.from_is;
  below_is = h.below_is;
}

pub rows_none : (rows : List LeadRow) → rows ≡ [] → AreRows rows []
rows_none rows e = record {
  all = ap (λ (l : List LeadRow). length l) e;
  each = λ place row there. absurd (no_row rows e place row there);
  ends = tt;
}
  where
    no_row : (rows : List LeadRow) → rows ≡ [] → (place : ℕ) (row : LeadRow) → slice_get rows place ≡ Some row → ⊥
    no_row [] e place row there = cc
    no_row (r ∷ rows) e place row there = cc

pub rows_more : (rows : List LeadRow) (row : LeadRow) (steps : List Step) (step : Step) → AreRows rows steps → row.from ≡ step_from step →
    row.below ≡ top_of (drop 1 (ends_after (all_ends [] 0 steps) (length steps) step)) → AreRows (rows ++ row ∷ []) (steps ++ step ∷ [])
rows_more rows row steps step h from below =
    let at : length steps + 0 ≡ length steps = omega arith in
    let ends : all_ends [] 0 (steps ++ step ∷ []) ≡ ends_after (all_ends [] 0 steps) (length steps) step = ends_last [] 0 steps step ∙ ap (λ n. ends_after (all_ends [] 0 steps) n step) at in
    record {
      all = (let a = length-append rows (row ∷ []) in let b = length-append steps (step ∷ []) in let c = h.all in omega arith);
      each = λ place r there. elim (get_more rows row place r there) as (λ _. IsRowAt (steps ++ step ∷ []) place r.from r.below) [
        | inl old ↦ row_more steps step place r.from r.below (h.each place r old)
        | inr new ↦ record {
          before = steps;
          step = step;
          behind = [];
          split = refl;
          place_is = new.0 ∙ h.all;
          from_is = ap (λ (x : LeadRow). x.from) (sym new.1) ∙ from;
          below_is = ap (λ (x : LeadRow). x.below) (sym new.1) ∙ below ∙ sym (ap (λ l. top_of (drop 1 l)) ends);
        }
      ];
      ends = subst (AreEnds (rows ++ row ∷ [])) (sym ends) (ends_on rows row (all_ends [] 0 steps) (length steps) step h.ends (sym h.all) below);
    }

pub taken_next : {X : Type 0} (xs : List X) (k : ℕ) (d : X) → k < length xs → take (suc k) xs ≡ take k xs ++ slice_index_or xs k d ∷ []
taken_next [] k d lt = absurd (omega arith)
taken_next (x ∷ xs) zero d lt = refl
taken_next (x ∷ xs) (suc k) d lt = ap (λ l. x ∷ l) (taken_next xs k d (omega arith))

-- the next of the steps is read
pub rows_read : {X : Type 0} (of : X → Step) (to : List X) (k : ℕ) (d : X) (rows : List LeadRow) (row : LeadRow) → k < length to → AreRows rows (map of (take k to)) → row.from ≡ step_from (of (slice_index_or to k d)) →
    row.below ≡ top_of (drop 1 (ends_after (all_ends [] 0 (map of (take k to))) (length (map of (take k to))) (of (slice_index_or to k d)))) → AreRows (rows ++ row ∷ []) (map of (take (suc k) to))
rows_read of to k d rows row lt h from below =
    subst (AreRows (rows ++ row ∷ [])) (sym (ap (map of) (taken_next to k d lt) ∙ map-append of (take k to) (slice_index_or to k d ∷ [])))
    (rows_more rows row (map of (take k to)) (of (slice_index_or to k d)) h from below)

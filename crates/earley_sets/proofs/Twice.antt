-- Where two single steps lead on, as it is told while a set is made, and as it is noted.
use Rattle.std.proofs.Common.{◌≡◌, ◌≢◌, ◌↔◌, ◌⊎◌, inl, inr, ℕ, ◌+◌, ◌-◌, ◌<◌, ◌≤◌, ◌++◌, Bool, false, List, [], ◌∷◌, take, length, Some, Contains, slice_get, IsTrue, refl, sym, ◌∙◌, ap, subst, arith, length-append, Result, Ok, Err}
use Rattle.std.specs.Result.{IfOk}
use Rattle.std.proofs.lemmas.Bool.{cases_lt}
use Rattle.std.proofs.lemmas.List.{take_all}
use Rattle.std.proofs.lemmas.List.Elements.{Contains-append_left, Contains-push, Contains-push_cases}
use Rattle.std.proofs.lemmas.Option.{slice_get_within, same_Some}
use Rattle.finite_sets.proofs.Lists.{Contains-none, none_at_end}
use Rattle.recognizer_model.specs.declared.Item.{Item}
use Rattle.recognizer_model.specs.declared.Pair.{Pair}
use Rattle.recognizer_model.specs.Flat.{FlatGrammar, lhs_of, rhs_of}
use Rattle.recognizer_model.specs.Items.{after, IsWhole, advanced}
use Rattle.recognizer_model.specs.Counts.{IsListOf}
use Rattle.item_rows.specs.Rows.{row_at, IsBegunAt}
use Rattle.item_rows.specs.Kept.{AreRows}
use Rattle.leo_items.specs.ByRows.{IsLeoIn, IsNotLeoIn, LeadsIn, IsStepIn, pair_of}
use Rattle.leo_items.specs.Hidden.{StepsTwice, SomeStepsTwiceIn}
use Rattle.leo_items.proofs.Chains.{has_leo, leo_inside}
use Rattle.begun_lists.proofs.Cutting.{take_next}
use Rattle.earley_sets.specs.Hiding.{GoesTwice, WholeStepsTwice, OneStepsTwice, NotesTwice}
use Rattle.earley_sets.proofs.Recognizing.{row_before, row_last}

-- of what is told, something else follows
pub told : {E : Type 0} {P Q : Bool → Type 0} (r : Result Bool E) → ((b : Bool) → P b → Q b) → IfOk r P → IfOk r Q
told (Ok b) to h = to b h
told (Err e) to h = tt

module _ (g : FlatGrammar) (rows : List (List Item)) where
  top_none : {i x : ℕ} {t : Item} → LeadsIn g rows i x t → IsNotLeoIn g rows t.origin (lhs_of g t.rule)
  top_none (LeadsIn.Last leo none) = none
  top_none (LeadsIn.On leo more) = top_none more

  further : {i x : ℕ} {t : Item} → (item : Item) → IsLeoIn g rows i x item → LeadsIn g rows i x t → advanced item ≢ t → GoesTwice g rows i x
  further item leo (LeadsIn.Last {item = a} l none) differ = absurd (differ (ap advanced (l.only item leo.there leo.waits)))
  further item leo (LeadsIn.On {item = a} l more) differ = let (c, up) = has_leo g rows more in (a, l, (c, up))

  -- two steps lead on where the topmost item is not the first step
  pub twice_by_top : (i x : ℕ) (step top : Item) → IsStepIn g rows i x (Some step) → LeadsIn g rows i x top → (b : Bool) → IsTrue b ↔ (step ≢ top) → IsTrue b ↔ GoesTwice g rows i x
  twice_by_top i x step top (item, leo, same) leads b is = (λ t. further item leo leads (λ e. is.0 t (same ∙ e)), λ twice. is.1 (back twice))
    where
      back : GoesTwice g rows i x → step ≢ top
      back (a, l, (n, up)) e =
          let at : advanced a ≡ top = ap advanced (leo.only a l.there l.waits) ∙ (sym same ∙ e) in
          top_none leads n (subst (λ (t : Item). IsLeoIn g rows t.origin (lhs_of g t.rule) n) at up)

  pub never_twice : (i x : ℕ) → IsNotLeoIn g rows i x → IsTrue false ↔ GoesTwice g rows i x
  never_twice i x none = (λ t. absurd (cc), λ (a, l, more). absurd (none a l))

  module _ (earleme : ℕ) (item : Item) where
    -- from a whole item as from its pair
    module _ (are : AreRows g rows) (whole : IsWhole g item) (lt : item.origin < earleme) where
      to_item : GoesTwice g rows item.origin (lhs_of g item.rule) → WholeStepsTwice g rows earleme item
      to_item (leo, l, (next, n)) =
          let le = (leo_inside g rows are l).1 in
          (whole, (advanced leo, (lt, (leo, l, refl), omega arith), (advanced next, (omega (arith, le, lt), (next, n, refl), omega arith))))

      to_pair : WholeStepsTwice g rows earleme item → GoesTwice g rows item.origin (lhs_of g item.rule)
      to_pair (w, (step, (lt', (leo, l, same), le), (next, (lt'', (leo', l', same'), le')))) =
          (leo, l, (leo', subst (λ (s : Item). IsLeoIn g rows s.origin (lhs_of g s.rule) leo') same l'))

      pub twice_by_pair : (pair : Pair) → pair ≡ pair_of g item → (b : Bool) → IsTrue b ↔ GoesTwice g rows pair.set pair.symbol → IsTrue b ↔ WholeStepsTwice g rows earleme item
      twice_by_pair pair same b is =
          let here = subst (λ (p : Pair). IsTrue b ↔ GoesTwice g rows p.set p.symbol) same is in
          (λ t. to_item (here.0 t), λ w. here.1 (to_pair w))

    pub waiting_never : (x : ℕ) → after g item ≡ Some x → IsTrue false ↔ WholeStepsTwice g rows earleme item
    waiting_never x e = (λ t. absurd (cc), λ (w, s). absurd (let n = none_at_end (rhs_of g item.rule) item.dot w in cc))

    pub late_never : earleme ≤ item.origin → IsTrue false ↔ WholeStepsTwice g rows earleme item
    late_never le = (λ t. absurd (cc), λ (w, (step, (lt, up, low), next)). absurd (omega (arith, lt, le)))

  -- from one of the first items
  module _ (earleme : ℕ) where
    pub one_none : (keys : List Item) → IsTrue false ↔ OneStepsTwice g rows earleme (take 0 keys)
    one_none keys = (λ t. absurd (cc), λ (item, there, w). absurd (Contains-none item there))

    pub one_more : (keys new more : List Item) (k : ℕ) (item : Item) → Some item ≡ slice_get keys k → new ≡ keys ++ more → (a b c : Bool) →
        IsTrue a ↔ OneStepsTwice g rows earleme (take k keys) → IsTrue b ↔ WholeStepsTwice g rows earleme item → IsTrue c ↔ (IsTrue a ⊎ IsTrue b) → IsTrue c ↔ OneStepsTwice g rows earleme (take (k + 1) new)
    one_more keys new more k item at now a b c before here ors =
        subst (λ l. IsTrue c ↔ OneStepsTwice g rows earleme l) (sym (ap (take (k + 1)) now ∙ take_next keys more k item at)) (there, back)
      where
        there : IsTrue c → OneStepsTwice g rows earleme (take k keys ++ item ∷ [])
        there t = elim (ors.0 t) [
          | inl h ↦ let (o, i, w) = before.0 h in (o, Contains-append_left (take k keys) (item ∷ []) o i, w)
          | inr h ↦ (item, Contains-push (take k keys) item, here.0 h)
        ]

        back : OneStepsTwice g rows earleme (take k keys ++ item ∷ []) → IsTrue c
        back (o, i, w) = ors.1 (elim (Contains-push_cases (take k keys) item o i) [
          | inl m ↦ inl (before.1 (o, m, w))
          | inr s ↦ inr (here.1 (subst (WholeStepsTwice g rows earleme) (sym s) w))
        ])

    pub one_all : (keys : List Item) (k : ℕ) → length keys ≤ k → (b : Bool) → IsTrue b ↔ OneStepsTwice g rows earleme (take k keys) → IsTrue b ↔ OneStepsTwice g rows earleme keys
    one_all keys k le b is = subst (λ l. IsTrue b ↔ OneStepsTwice g rows earleme l) (take_all k keys le) is

-- steps are told by the rows of earlier places
module _ (g : FlatGrammar) (a b : List (List Item)) where
  leo_same : (i x : ℕ) (item : Item) → row_at a i ≡ row_at b i → IsLeoIn g a i x item → IsLeoIn g b i x item
  leo_same i x item same leo = record {
    there = subst (λ l. Contains l item) same leo.there;
    waits = leo.waits;
    last = leo.last;
    only = λ o c e. leo.only o (subst (λ l. Contains l o) (sym same) c) e;
  }

  steps_same : (j : ℕ) → ((i : ℕ) → i < j → row_at a i ≡ row_at b i) → (item : Item) → StepsTwice g a j 0 item → StepsTwice g b j 0 item
  steps_same j same item (step, (lt, (leo, l, e), le), (next, (lt', (leo', l', e'), le'))) = (
    step,
    (lt, (leo, leo_same item.origin (lhs_of g item.rule) leo (same item.origin lt) l, e), le),
    (next, (lt', (leo', leo_same step.origin (lhs_of g step.rule) leo' (same step.origin lt') l', e'), le')),
  )

-- one row more
module _ (g : FlatGrammar) (rows : List (List Item)) (row : List Item) where
  pub row_twice : (kernel list : List Item) → IsListOf (λ item. Contains kernel item ⊎ IsBegunAt list (length rows) item) row → (b : Bool) → IsTrue b ↔ OneStepsTwice g rows (length rows) kernel →
      IsTrue b ↔ SomeStepsTwiceIn g (rows ++ row ∷ []) (length rows) 0
  row_twice kernel list lists b is = (there, back)
    where
      last : row_at (rows ++ row ∷ []) (length rows) ≡ row
      last = row_last rows row (length rows) refl

      there : IsTrue b → SomeStepsTwiceIn g (rows ++ row ∷ []) (length rows) 0
      there t =
          let (item, k, (w, s)) = is.0 t in
          (item, (subst (λ l. Contains l item) (sym last) ((lists.exact item).1 (inl k)), w), steps_same g rows (rows ++ row ∷ []) (length rows) (λ i lt. sym (row_before rows row i lt)) item s)

      back : SomeStepsTwiceIn g (rows ++ row ∷ []) (length rows) 0 → IsTrue b
      back (item, (c, w), (step, (lt, up, low), next)) = elim ((lists.exact item).0 (subst (λ l. Contains l item) last c)) [
        | inl k ↦ is.1 (item, k, (w, steps_same g (rows ++ row ∷ []) rows (length rows) (row_before rows row) item (step, (lt, up, low), next)))
        | inr (here, begun) ↦ absurd (omega (arith, lt, here))
      ]

  pub twice_more : (j : ℕ) → j < length rows → SomeStepsTwiceIn g rows j 0 ↔ SomeStepsTwiceIn g (rows ++ row ∷ []) j 0
  twice_more j lt = (
    λ (item, (c, w), s). (item, (subst (λ l. Contains l item) (sym (row_before rows row j lt)) c, w), steps_same g rows (rows ++ row ∷ []) j (λ i below. sym (row_before rows row i (omega (arith, below, lt)))) item s),
    λ (item, (c, w), s). (item, (subst (λ l. Contains l item) (row_before rows row j lt) c, w), steps_same g (rows ++ row ∷ []) rows j (λ i below. row_before rows row i (omega (arith, below, lt))) item s),
  )

module _ (g : FlatGrammar) (rows : List (List Item)) (notes new : List Bool) (are : NotesTwice g rows notes) where
  -- there is a note of each place
  pub notes_long : 0 < length rows → length rows ≤ length notes
  notes_long some =
      let (note, at, is) = are (length rows - 1) (omega (arith, some)) in
      let lt = slice_get_within notes (length rows - 1) note at in
      omega (arith, some, lt)

  module _ (same : (j : ℕ) → j < length rows → slice_get new j ≡ slice_get notes j) where
    pub notes_stay : NotesTwice g rows new
    notes_stay j lt = let (note, at, is) = are j lt in (note, same j lt ∙ at, is)

    pub notes_next : (rows' : List (List Item)) (row : List Item) → rows' ≡ rows ++ row ∷ [] → (b : Bool) → slice_get new (length rows) ≡ Some b → IsTrue b ↔ SomeStepsTwiceIn g rows' (length rows) 0 → NotesTwice g rows' new
    notes_next rows' row longer b at here = subst (λ l. NotesTwice g l new) (sym longer) all
      where
        all : NotesTwice g (rows ++ row ∷ []) new
        all j lt = elim (cases_lt j (length rows)) [
          | inl before ↦
              let (note, at', is) = are j before in
              let more = twice_more g rows row j before in
              (note, same j before ∙ at', (λ t. more.0 (is.0 t), λ s. is.1 (more.1 s)))
          | inr ge ↦
              let l = length-append rows (row ∷ []) in
              let e : length rows ≡ j = omega (arith, l, lt, ge) in
              subst (λ k. (note : Bool) × (slice_get new k ≡ Some note) × (IsTrue note ↔ SomeStepsTwiceIn g (rows ++ row ∷ []) k 0)) e
              (b, at, subst (λ z. IsTrue b ↔ SomeStepsTwiceIn g z (length rows) 0) longer here)
        ]

-- nothing begins before the first place
pub first_notes : (g : FlatGrammar) (rows : List (List Item)) (row : List Item) (notes : List Bool) → rows ≡ row ∷ [] → (note : Bool) → slice_get notes 0 ≡ Some note → (¬ IsTrue note) → NotesTwice g rows notes
first_notes g rows row notes one note at none j lt =
    let l = ap (λ (z : List (List Item)). length z) one in
    let e : 0 ≡ j = omega (arith, l, lt) in
    subst (λ k. (note : Bool) × (slice_get notes k ≡ Some note) × (IsTrue note ↔ SomeStepsTwiceIn g rows k 0)) e
    (note, at, (λ t. absurd (none t), λ (item, is, (step, (below, up, low), next)). absurd (omega (arith, below))))

-- the note of the first place
pub first_never : (g : FlatGrammar) (rows : List (List Item)) (note : Bool) → IsTrue note ↔ SomeStepsTwiceIn g rows 0 0 → ¬ IsTrue note
first_never g rows note is t = let (item, there, (step, (below, up, low), next)) = is.0 t in omega (arith, below)

-- what is noted of a place is so
pub notes_told : (g : FlatGrammar) (rows : List (List Item)) (notes : List Bool) → NotesTwice g rows notes → (j : ℕ) → j < length rows → (j < length notes) × ((b : Bool) → slice_get notes j ≡ Some b → IsTrue b ↔ SomeStepsTwiceIn g rows j 0)
notes_told g rows notes are j lt =
    let (note, at, is) = are j lt in
    (slice_get_within notes j note at, λ b e. subst (λ n. IsTrue n ↔ SomeStepsTwiceIn g rows j 0) (same_Some note b (sym at ∙ e)) is)

-- the note of the first place alone
pub first_again : (g : FlatGrammar) (rows : List (List Item)) (notes : List Bool) → NotesTwice g rows notes → 0 < length rows → (rows' : List (List Item)) (row : List Item) → rows' ≡ row ∷ [] → (new : List Bool) → new ≡ take 1 notes → NotesTwice g rows' new
first_again g rows notes are some rows' row one new e =
    let (note, at, is) = are 0 some in
    first_notes g rows' row new one note (ap (λ (l : List Bool). slice_get l 0) e ∙ (first_kept notes ∙ at)) (first_never g rows note is)
  where
    first_kept : (xs : List Bool) → slice_get (take 1 xs) 0 ≡ slice_get xs 0
    first_kept [] = refl
    first_kept (x ∷ xs) = refl

-- where they lead on from a place on, they do from the first place on
pub twice_from : (g : FlatGrammar) (rows : List (List Item)) (j from : ℕ) → SomeStepsTwiceIn g rows j from → SomeStepsTwiceIn g rows j 0
twice_from g rows j from (item, is, (step, (lt, up, le), next)) = (item, is, (step, (lt, up, omega arith), next))

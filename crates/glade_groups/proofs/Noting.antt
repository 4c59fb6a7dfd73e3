-- What is noted of glades, as one more is met.
use Rattle.std.proofs.Common.{◌≡◌, ◌⊎◌, inl, inr, ℕ, zero, suc, ◌+◌, ◌-◌, ◌<◌, ◌≤◌, List, [], ◌∷◌, ◌++◌, Bool, true, false, ◌&&◌, ◌==◌, Option, Some, None, length, slice_get, take, get_or, refl, sym, ap, ◌∙◌, subst, arith}
use Rattle.std.specs.Prelude.{filter}
use Rattle.std.proofs.lemmas.Bool.{cases_lt}
use Rattle.std.proofs.lemmas.Option.{slice_get_within, slice_get_read}
use Rattle.std.proofs.lemmas.List.{take_more, length-take-le}
use Rattle.std.proofs.Common.{length-append}
use Rattle.std.proofs.lemmas.List.Elements.{filter-append}
use Rattle.finite_sets.proofs.Lists.{get_left, get_last, get_pushed}
use Rattle.glade_model.specs.Glades.{Glade}
use Rattle.glade_groups.specs.declared.kinds.Kind.{Kind}
use Rattle.glade_groups.specs.declared.notes.Note.{Note}
use Rattle.glade_groups.specs.Groups.{kind_of, same_kind, is_of, token_count, count_of, IsSmallest, IsMark}
use Rattle.glade_groups.specs.Notes.{IsNote}

pub clash : {A : Type 0} → false ≡ true → A
clash e = cc

-- KINDS

same_parts : (a b c d e f g h : ℕ) → a ≡ e → b ≡ f → c ≡ g → d ≡ h →
    (let k : Kind = record { symbol = a; level = b; first = c; second = d } in k) ≡ record { symbol = e; level = f; first = g; second = h }
same_parts a b c d e f g h p q r s = cc

pub same_is : (x y : Kind) → same_kind x y ≡ true → x ≡ y
same_is x y same =
    let a : x.symbol ≡ y.symbol = grind (arith, same) in
    let b : x.level ≡ y.level = grind (arith, same) in
    let c : x.first ≡ y.first = grind (arith, same) in
    let d : x.second ≡ y.second = grind (arith, same) in
    same_parts x.symbol x.level x.first x.second y.symbol y.level y.first y.second a b c d

all_four : (a b c d : Bool) → a ≡ true → b ≡ true → c ≡ true → d ≡ true → (a && (b && (c && d))) ≡ true
all_four a b c d p q r s = rw (p, q, r, s) refl

self_equal : (n : ℕ) → (n == n) ≡ true
self_equal n = grind arith

pub same_self : (x : Kind) → same_kind x x ≡ true
same_self x = all_four (x.symbol == x.symbol) (x.level == x.level) (x.first == x.first) (x.second == x.second) (self_equal x.symbol) (self_equal x.level) (self_equal x.first) (self_equal x.second)

-- COUNTS

one_of : {X : Type 0} (p : X → Bool) (x : X) → p x ≡ true → length (filter p (x ∷ [])) ≡ 1
one_of p x e = rw e refl

none_of : {X : Type 0} (p : X → Bool) (x : X) → p x ≡ false → length (filter p (x ∷ [])) ≡ 0
none_of p x e = rw e refl

module _ (glades : List Glade) (g : Glade) where
  abbrev more : List Glade
  more = glades ++ g ∷ []

  count_pushed : (x : Kind) → count_of more x ≡ count_of glades x + length (filter (is_of x) (g ∷ []))
  count_pushed x = ap length (filter-append (is_of x) glades (g ∷ [])) ∙ length-append (filter (is_of x) glades) (filter (is_of x) (g ∷ []))

  count_same : (x : Kind) → is_of x g ≡ false → count_of more x ≡ count_of glades x
  count_same x e = let a = count_pushed x in let b = none_of (is_of x) g e in omega (arith, a, b)

  count_more : (x : Kind) → is_of x g ≡ true → count_of more x ≡ count_of glades x + 1
  count_more x e = let a = count_pushed x in let b = one_of (is_of x) g e in omega (arith, a, b)

  -- the place of one of the kind, or of the last
  smallest_kept : (x : Kind) (at : ℕ) → is_of x g ≡ false → IsSmallest glades x at → IsSmallest more x at
  smallest_kept x at other_kind s = record {
    glade = s.glade;
    stands = get_left glades (g ∷ []) at s.glade s.stands;
    is = s.is;
    least = λ k other got is. elim (get_pushed glades g k other got) [
      | inl before ↦ s.least k other before is
      | inr last ↦ clash (sym other_kind ∙ (ap (is_of x) last.1 ∙ is))
    ];
  }

  -- a glade of another kind changes nothing
  pub kept : (x : Kind) (before : Option Note) → is_of x g ≡ false → IsNote glades x before → IsNote more x before
  unfolding smallest_kept
  kept x None other_kind note = λ k other got is. elim (get_pushed glades g k other got) [
    | inl before ↦ note k other before is
    | inr last ↦ clash (sym other_kind ∙ (ap (is_of x) last.1 ∙ is))
  ]
  kept x (Some n) other_kind note = (smallest_kept x n.at other_kind note.0, note.1, note.2 ∙ sym (count_same x other_kind))

  -- the first of its kind
  pub first_noted : (x : Kind) → is_of x g ≡ true → (n : Note) → n.at ≡ length glades → n.tokens ≡ token_count g → n.count ≡ 1 → IsNote glades x None → IsNote more x (Some n)
  first_noted x its_kind n at tokens one none =
      let stands : slice_get more n.at ≡ Some g = subst (λ i. slice_get more i ≡ Some g) (sym at) (get_last glades g) in
      let empty : count_of glades x ≡ 0 = no_count glades x none in
      let grown = count_more x its_kind in (
        record {
          glade = g;
          stands = stands;
          is = its_kind;
          least = λ k other got is. elim (get_pushed glades g k other got) [
            | inl before ↦ absurd (none k other before is)
            | inr last ↦ inr (ap token_count last.1, omega (arith, at, last.0))
          ];
        },
        tokens,
        omega (arith, one, empty, grown),
      )
    where
      no_count : (xs : List Glade) (x : Kind) → ((k : ℕ) (other : Glade) → slice_get xs k ≡ Some other → is_of x other ≡ true → ⊥) → count_of xs x ≡ 0
      no_count [] x none = refl
      no_count (y ∷ ys) x none = elim (is_of x y) as (λ b. is_of x y ≡ b → count_of (y ∷ ys) x ≡ 0) [
        | true ↦ λ e. absurd (none 0 y refl e)
        | false ↦ λ e. rw e (no_count ys x (λ k other got is. none (suc k) other got is))
      ] refl

  -- a smaller one than those before
  pub smaller_noted : (x : Kind) → is_of x g ≡ true → (b n : Note) → n.at ≡ length glades → n.tokens ≡ token_count g → n.tokens < b.tokens → n.count ≡ b.count + 1 →
      IsNote glades x (Some b) → IsNote more x (Some n)
  smaller_noted x its_kind b n at tokens less count note =
      let stands : slice_get more n.at ≡ Some g = subst (λ i. slice_get more i ≡ Some g) (sym at) (get_last glades g) in
      let grown = count_more x its_kind in
      let least = note.0.least in (
        record {
          glade = g;
          stands = stands;
          is = its_kind;
          least = λ k other got is. elim (get_pushed glades g k other got) [
            | inl before ↦ inl (elim (note.0.least k other before is) [
              | inl lt ↦ omega (arith, less, tokens, note.1, lt)
              | inr same ↦ omega (arith, less, tokens, note.1, same.0)
            ])
            | inr last ↦ inr (ap token_count last.1, omega (arith, at, last.0))
          ];
        },
        tokens,
        omega (arith, count, grown, note.2),
      )

  -- one that is not smaller
  pub greater_noted : (x : Kind) → is_of x g ≡ true → (b n : Note) → n.at ≡ b.at → n.tokens ≡ b.tokens → b.tokens ≤ token_count g → n.count ≡ b.count + 1 →
      IsNote glades x (Some b) → IsNote more x (Some n)
  greater_noted x its_kind b n at tokens not_less count note =
      let grown = count_more x its_kind in
      let s = note.0 in
      let within = slice_get_within glades b.at s.glade s.stands in (
        record {
          glade = s.glade;
          stands = subst (λ i. slice_get more i ≡ Some s.glade) (sym at) (get_left glades (g ∷ []) b.at s.glade s.stands);
          is = s.is;
          least = λ k other got is. elim (get_pushed glades g k other got) [
            | inl before ↦ elim (s.least k other before is) [
              | inl lt ↦ inl lt
              | inr same ↦ inr (same.0, omega (arith, at, same.1))
            ]
            | inr last ↦ let e = ap token_count last.1 in behind (token_count s.glade) (token_count other) n.at k (omega (arith, note.1, not_less, e)) (omega (arith, at, last.0, within))
          ];
        },
        tokens ∙ note.1,
        omega (arith, count, grown, note.2),
      )
    where
      behind : (a b i k : ℕ) → a ≤ b → i ≤ k → (a < b) ⊎ ((a ≡ b) × (i ≤ k))
      behind a b i k le lt = elim (cases_lt a b) [ inl l ↦ inl l | inr ge ↦ inr (omega (arith, le, ge), lt) ]

-- there are no more of a kind than glades
pub few : (glades : List Glade) (x : Kind) → count_of glades x ≤ length glades
few glades x = at_most (is_of x) glades
  where
    at_most : {X : Type 0} (p : X → Bool) (xs : List X) → length (filter p xs) ≤ length xs
    at_most p [] = omega arith
    at_most p (y ∷ ys) = elim (p y) as (λ b. p y ≡ b → length (filter p (y ∷ ys)) ≤ length (y ∷ ys)) [
      | true ↦ λ e. rw e (let h = at_most p ys in omega (arith, h))
      | false ↦ λ e. rw e (let h = at_most p ys in omega (arith, h))
    ] refl

pub some_same : {X : Type 0} {x y : X} → Some x ≡ Some y → x ≡ y
some_same e = cc

counted_some : (glades : List Glade) (x : Kind) (at : ℕ) (g : Glade) → slice_get glades at ≡ Some g → is_of x g ≡ true → 0 < count_of glades x
counted_some [] x at g got is = absurd (cc)
counted_some (y ∷ ys) x zero g got is = let e : is_of x y ≡ true = ap (is_of x) (some_same got) ∙ is in rw e (omega arith)
counted_some (y ∷ ys) x (suc k) g got is = elim (is_of x y) as (λ b. is_of x y ≡ b → 0 < count_of (y ∷ ys) x) [
  | true ↦ λ e. rw e (omega arith)
  | false ↦ λ e. rw e (counted_some ys x k g got is)
] refl

-- the mark of a glade whose kind is noted
pub told_for : (glades : List Glade) (g : Glade) (at more : ℕ) (n : Note) → n.at ≡ at → more ≡ n.count - 1 →
    slice_get glades at ≡ Some g → IsNote glades (kind_of g) (Some n) → IsMark glades at g (Some more)
told_for glades g at more n here is got note =
    let some : 0 < count_of glades (kind_of g) = counted_some glades (kind_of g) at g got (same_self (kind_of g)) in
    (subst (IsSmallest glades (kind_of g)) here note.0, omega (arith, some, note.2, is))

-- where another is noted, the glade is not the smallest
pub not_told : (glades : List Glade) (g : Glade) (at : ℕ) (n : Note) → (n.at ≡ at → ⊥) → IsNote glades (kind_of g) (Some n) → IsSmallest glades (kind_of g) at → ⊥
not_told glades g at n apart note s =
    elim (note.0.least at s.glade s.stands s.is) [
      | inl lt ↦ elim (s.least n.at note.0.glade note.0.stands note.0.is) [ inl gt ↦ omega (arith, lt, gt) | inr same ↦ omega (arith, lt, same.0) ]
      | inr same ↦ elim (s.least n.at note.0.glade note.0.stands note.0.is) [ inl gt ↦ omega (arith, same.0, gt) | inr other ↦ apart (omega (arith, same.1, other.1)) ]
    ]

pub none_told : (glades : List Glade) (g : Glade) (at : ℕ) → slice_get glades at ≡ Some g → IsNote glades (kind_of g) None → IsSmallest glades (kind_of g) at → ⊥
none_told glades g at got note s = note at g got (same_self (kind_of g))

-- STEPS OF LOOPS

same_turned : (x y : Kind) → same_kind x y ≡ false → same_kind y x ≡ false
same_turned x y apart = elim (same_kind y x) as (λ b. same_kind y x ≡ b → b ≡ false) [
  | true ↦ λ e. let is = same_is y x e in clash (sym apart ∙ (ap (same_kind x) is ∙ same_self x))
  | false ↦ λ e. refl
] refl

-- one more glade is met
pub notes_step : (glades : List Glade) (k : ℕ) (g : Glade) (old new : Kind → Option Note) (n : Note) → k < length glades → g ≡ get_or glades k g →
    ((x : Kind) → IsNote (take k glades) x (old x)) → ((before : List Glade) → k ≡ length before → IsNote before (kind_of g) (old (kind_of g)) → IsNote (before ++ g ∷ []) (kind_of g) (Some n)) →
    new (kind_of g) ≡ Some n → ((x : Kind) → same_kind (kind_of g) x ≡ false → new x ≡ old x) → (x : Kind) → IsNote (take (k + 1) glades) x (new x)
notes_step glades k g old new n lt is notes renewed here others x =
    let before = take k glades in
    let more : take (k + 1) glades ≡ before ++ g ∷ [] = take_more glades k g lt ∙ ap (λ (y : Glade). before ++ y ∷ []) (sym is) in
    subst (λ (l : List Glade). IsNote l x (new x)) (sym more) (
    elim (same_kind (kind_of g) x) as (λ b. same_kind (kind_of g) x ≡ b → IsNote (before ++ g ∷ []) x (new x)) [
      | true ↦ λ same.
          let y = same_is (kind_of g) x same in
          subst (λ (z : Kind). IsNote (before ++ g ∷ []) z (new z)) y
          (subst (IsNote (before ++ g ∷ []) (kind_of g)) (sym here) (renewed before (sym (length-take-le k glades (omega (arith, lt)))) (notes (kind_of g))))
      | false ↦ λ apart. subst (IsNote (before ++ g ∷ []) x) (sym (others x apart)) (kept before g x (old x) (same_turned (kind_of g) x apart) (notes x))
    ] refl)

abbrev pub EachMark : List Glade → List (Option ℕ) → Type 0
EachMark glades marks = (k : ℕ) (glade : Glade) (mark : Option ℕ) → slice_get glades k ≡ Some glade → slice_get marks k ≡ Some mark → IsMark glades k glade mark

-- one more mark is made
pub marks_step : (glades : List Glade) (k : ℕ) (g : Glade) (marks new : List (Option ℕ)) (m : Option ℕ) → k < length glades → g ≡ get_or glades k g → length marks ≡ k →
    (slice_get glades k ≡ Some g → IsMark glades k g m) → new ≡ marks ++ m ∷ [] → EachMark glades marks → (length new ≡ k + 1) × EachMark glades new
marks_step glades k g marks new m lt is long made grown each =
    let got = slice_get_read glades (length glades) k g refl lt is in
    let more = ap length grown ∙ length-append marks (m ∷ []) in (
      omega (arith, more, long),
      λ i glade mark at marked.
          elim (get_pushed marks m i mark (subst (λ (l : List (Option ℕ)). slice_get l i ≡ Some mark) grown marked)) [
            | inl before ↦ each i glade mark at before
            | inr last ↦
                let place : i ≡ k = last.0 ∙ long in
                let same : g ≡ glade = some_same (sym got ∙ (sym (ap (slice_get glades) place) ∙ at)) in
                subst (λ j. IsMark glades j glade mark) (sym place) (subst (λ (x : Glade). IsMark glades k x mark) same (subst (IsMark glades k g) last.1 (made got)))
          ],
    )

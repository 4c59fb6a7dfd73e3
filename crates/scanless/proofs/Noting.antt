-- Notes of what is looked for: they are right, and stay so while sets are added.
use Rattle.std.proofs.Common.{arith, ◌≡◌, ◌≢◌, ◌↔◌, ◌⊎◌, inl, inr, ℕ, zero, suc, ◌+◌, ◌<◌, ◌≤◌, IsFalse, List, [], ◌∷◌, ◌++◌, length, get_or, slice_set, All, Contains, Result, Ok, Err, OnOk, OnErr, refl, sym, ◌∙◌, ap, subst, length-append}
use Rattle.std.proofs.lemmas.List.{get_or_append_left, get_or-append-add}
use Rattle.std.proofs.lemmas.List.Elements.{All-contains, Contains-append_left, Contains-append_right, Contains-append_cases}
use Rattle.finite_sets.proofs.Lists.{Contains-none, Contains-map}
use Rattle.jagged.specs.Rows.{row_at}
use Rattle.recognizer_model.specs.declared.Item.{Item}
use Rattle.recognizer_model.specs.Flat.{FlatGrammar}
use Rattle.language_model.specs.Building.{Built, LexemeRow}
use Rattle.reading_model.specs.Reading.{Piece, IsNext, IsCandidate, ADiscard, ALexeme}
use Rattle.earley_sets.specs.Recognizer.{Recognizer, set_at, WaitsAt, IsExpected}
use Rattle.earley_sets.proofs.Membership.{Contains-cons_cases, Contains-map_from}
use Rattle.prepared_grammars.specs.Gathered.{Gathers}
use Rattle.scanless.specs.Pieces.{AreCandidates}
use Rattle.scanless.specs.Noted.{told, Noted, none_noted, hint_at, SetsHint, AreWithin, IsSought, AreSought, AreNoted, Grows}
use Rattle.scanless.specs.Taking.{Keeps}
use Rattle.scanless.specs.declared.notes.Note.{Note}

-- ---- one note more

pub contains_set : {A : Type 0} (xs : List A) (k : ℕ) (x y : A) → Contains (slice_set xs k x) y → Contains xs y ⊎ (y ≡ x)
contains_set [] k x y c = inl c
contains_set (z ∷ zs) zero x y c = elim (Contains-cons_cases x zs y c) [ inl same ↦ inr (sym same) | inr o ↦ inl (Contains-append_right (z ∷ []) zs y o) ]
contains_set (z ∷ zs) (suc k) x y c = elim (Contains-cons_cases z (slice_set zs k x) y c) [
  | inl same ↦ inl (subst (Contains (z ∷ zs)) same (0, omega arith, refl))
  | inr o ↦ elim (contains_set zs k x y o) [ inl p ↦ inl (Contains-append_right (z ∷ []) zs y p) | inr same ↦ inr same ]
]

module _ (lists later : List (List ℕ)) (starts : List ℕ) (e : later ≡ lists ++ starts ∷ []) (notes : List Note) (within : AreWithin lists notes) where
  longer : length later ≡ length lists + 1
  longer = ap length e ∙ length-append lists (starts ∷ [])

  same_row : (k : ℕ) → k < length lists → row_at later k ≡ row_at lists k
  same_row k lt = ap (λ l. get_or l k []) e ∙ get_or_append_left lists (starts ∷ []) [] k lt

  last_row : (k : ℕ) → k ≡ length lists → row_at later k ≡ starts
  last_row k is =
      let at : row_at later (length lists + 0) ≡ starts = ap (λ l. get_or l (length lists + 0) []) e ∙ get_or-append-add lists (starts ∷ []) 0 [] in
      let same : length lists + 0 ≡ k = omega (arith, is) in
      subst (λ j. row_at later j ≡ starts) same at

  -- the list is kept, and no note of it
  pub told_listed : (place : ℕ) (list : List ℕ) → Contains (told later notes) (place, list) → Contains (told lists notes) (place, list)
  told_listed place list c =
      let (n, there, same) = Contains-map_from (λ (n : Note). (n.place, row_at later n.list)) notes (place, list) c in
      subst (Contains (told lists notes)) (sym (same ∙ ap (λ r. (n.place, r)) (same_row n.list (within n there)))) (Contains-map (λ (n : Note). (n.place, row_at lists n.list)) notes n there)

  pub within_listed : AreWithin later notes
  within_listed n c = let lt = within n c in let long = longer in omega (arith, lt, long)

  module _ (new : List Note) (note : Note) (list_is : note.list ≡ length lists) (adds : (n : Note) → Contains new n → Contains notes n ⊎ (n ≡ note)) where
    pub within_more : AreWithin later new
    within_more n c = elim (adds n c) [
      | inl o ↦ within_listed n o
      | inr same ↦ (let long = longer in subst (λ (m : Note). m.list < length later) (sym same) (let lt : note.list < length later = omega (arith, list_is, long) in lt))
    ]

    pub told_more : (place : ℕ) (list : List ℕ) → Contains (told later new) (place, list) → Contains (told lists notes) (place, list) ⊎ ((place ≡ note.place) × (list ≡ starts))
    told_more place list c =
        let (n, there, same) = Contains-map_from (λ (n : Note). (n.place, row_at later n.list)) new (place, list) c in
        elim (adds n there) [
          | inl o ↦ inl (subst (Contains (told lists notes)) (sym (same ∙ ap (λ r. (n.place, r)) (same_row n.list (within n o)))) (Contains-map (λ (n : Note). (n.place, row_at lists n.list)) notes n o))
          | inr is ↦ inr (ap (λ (p : ℕ × List ℕ). p.0) same ∙ ap (λ (m : Note). m.place) is, ap (λ (p : ℕ × List ℕ). p.1) same ∙ (ap (λ (m : Note). row_at later m.list) is ∙ last_row note.list list_is))
        ]

-- ---- hints

pub hint_pushed : (hints : List ℕ) (k : ℕ) → hint_at (hints ++ 0 ∷ []) k ≡ hint_at hints k
hint_pushed [] zero = refl
hint_pushed [] (suc k) = refl
hint_pushed (x ∷ xs) zero = refl
hint_pushed (x ∷ xs) (suc k) = hint_pushed xs k

hint_there : (hints : List ℕ) (kind hint : ℕ) → kind < length hints → hint_at (slice_set hints kind hint) kind ≡ hint
hint_there [] kind hint lt = absurd (omega arith)
hint_there (x ∷ xs) zero hint lt = refl
hint_there (x ∷ xs) (suc kind) hint lt = hint_there xs kind hint (omega arith)

hint_elsewhere : (hints : List ℕ) (kind hint k : ℕ) → k ≢ kind → hint_at (slice_set hints kind hint) k ≡ hint_at hints k
hint_elsewhere [] kind hint k other = refl
hint_elsewhere (x ∷ xs) zero hint zero other = absurd (other refl)
hint_elsewhere (x ∷ xs) zero hint (suc k) other = refl
hint_elsewhere (x ∷ xs) (suc kind) hint zero other = refl
hint_elsewhere (x ∷ xs) (suc kind) hint (suc k) other = hint_elsewhere xs kind hint k (λ e. other (ap suc e))

pub hint_set : (old hints : List ℕ) (kind hint : ℕ) → kind < length hints → ((k : ℕ) → hint_at hints k ≡ hint_at old k) → SetsHint old (slice_set hints kind hint) kind hint
hint_set old hints kind hint lt same = record { set = hint_there hints kind hint lt; others = λ k other. hint_elsewhere hints kind hint k other ∙ same k }

-- ---- the starts that are looked for

module _ (b : Built) (W : ℕ → Type 0) (xs list : List ℕ) (g : Gathers (λ (l : LexemeRow). IsFalse l.latm ⊎ W l.symbol) (λ (l : LexemeRow). l.start) b.lexemes xs) (e : list ≡ xs ++ b.discards) where
  pub gathered_sought : AreSought b W list
  gathered_sought start = (there, back)
    where
      there : Contains list start → IsSought b W start
      there c = elim (Contains-append_cases xs b.discards start (subst (λ l. Contains l start) e c)) [ inr d ↦ inl d | inl o ↦ inr ((g start).0 o) ]

      back : IsSought b W start → Contains list start
      back (inl d) = subst (λ l. Contains l start) (sym e) (Contains-append_right xs b.discards start d)
      back (inr h) = subst (λ l. Contains l start) (sym e) (Contains-append_left xs b.discards start ((g start).1 h))

module _ (b : Built) (W : ℕ → Type 0) (list : List ℕ) (are : AreSought b W list) where
  pub sought_known : All (λ (l : LexemeRow). l.start < length b.l0.starts) b.lexemes → All (λ k. k < length b.l0.starts) b.discards → (k : ℕ) → Contains list k → k < length b.l0.starts
  sought_known starts within k c = elim ((are k).0 c) [
    | inl d ↦ All-contains (λ i. i < length b.l0.starts) b.discards k within d
    | inr (l, m, p, is) ↦ subst (λ z. z < length b.l0.starts) is (All-contains (λ (l : LexemeRow). l.start < length b.l0.starts) b.lexemes l starts m)
  ]

  pub sought_candidates : (pieces : List Piece) → ((t : ℕ) → W t ↔ IsNext b pieces t) → AreCandidates b pieces list
  sought_candidates pieces means start = (there, back)
    where
      there : Contains list start → IsCandidate b pieces start
      there c = elim ((are start).0 c) [
        | inl d ↦ ADiscard d
        | inr (l, m, q, is) ↦ ALexeme l m is (elim q [ inl never ↦ inl never | inr h ↦ inr ((means l.symbol).0 h) ])
      ]

      back : IsCandidate b pieces start → Contains list start
      back (ADiscard d) = (are start).1 (inl d)
      back (ALexeme l c is h) = (are start).1 (inr (l, c, elim h [ inl never ↦ inl never | inr n ↦ inr ((means l.symbol).1 n) ], is))

  pub sought_as : (V : ℕ → Type 0) → ((t : ℕ) → W t ↔ V t) → AreSought b V list
  sought_as V means start = (
    λ c. elim ((are start).0 c) [ inl d ↦ inl d | inr (l, m, q, is) ↦ inr (l, m, elim q [ inl never ↦ inl never | inr h ↦ inr ((means l.symbol).0 h) ], is) ],
    λ s. (are start).1 (elim s [ inl d ↦ inl d | inr (l, m, q, is) ↦ inr (l, m, elim q [ inl never ↦ inl never | inr h ↦ inr ((means l.symbol).1 h) ], is) ]),
  )

-- ---- sets are added

abbrev Waits : FlatGrammar → List Item → ℕ → Type 0
Waits g set t = WaitsAt (record { flat = g; start = 0; edges = []; sets = set ∷ []; noted = [] }) 0 t

waits_as : (g h : FlatGrammar) (set row : List Item) (t : ℕ) → h ≡ g → row ≡ set → Waits g set t ↔ Waits h row t
waits_as g h set row t same is = (
  λ w. subst (λ k. Waits k row t) (sym same) (subst (λ s. Waits g s t) (sym is) w),
  λ w. subst (λ s. Waits g s t) is (subst (λ k. Waits k row t) same w),
)

pub noted_none : (b : Built) (recce : Recognizer) → AreNoted b recce none_noted
noted_none b recce = record { there = λ place starts c. absurd (Contains-none (place, starts) c); are = λ place starts c. absurd (Contains-none (place, starts) c) }

-- the same lists, whatever the hints
pub noted_same : (b : Built) (recce : Recognizer) (old new : Noted) → new.lists ≡ old.lists → AreNoted b recce old → AreNoted b recce new
noted_same b recce old new same are = record {
  there = λ place starts c. are.there place starts (subst (λ l. Contains l (place, starts)) same c);
  are = λ place starts c. are.are place starts (subst (λ l. Contains l (place, starts)) same c);
}

pub noted_later : (b : Built) (old new : Recognizer) (notes : Noted) → Grows old new → AreNoted b old notes → AreNoted b new notes
noted_later b old new notes grows noted = record {
  there = λ place starts c. (let lt = noted.there place starts c in let le = grows.there in omega (arith, lt, le));
  are = λ place starts c. sought_as b (WaitsAt old place) starts (noted.are place starts c) (WaitsAt new place) (λ t. waits_as old.flat new.flat (set_at old place) (set_at new place) t grows.flat (grows.same place (noted.there place starts c)));
}

-- notes of one place more
pub noted_more : (b : Built) (recce : Recognizer) (old new : Noted) (place : ℕ) (starts : List ℕ) → AreNoted b recce old → place < length recce.sets → ((t : ℕ) → WaitsAt recce place t ↔ IsExpected recce t) → AreSought b (IsExpected recce) starts →
    ((at : ℕ) (list : List ℕ) → Contains new.lists (at, list) → Contains old.lists (at, list) ⊎ ((at ≡ place) × (list ≡ starts))) → AreNoted b recce new
noted_more b recce old new place starts noted lt alike are adds = record {
  there = λ at list c. elim (adds at list c) [ inl o ↦ noted.there at list o | inr (is, same) ↦ subst (λ p. p < length recce.sets) (sym is) lt ];
  are = λ at list c. elim (adds at list c) [
    | inl o ↦ noted.are at list o
    | inr (is, same) ↦
        subst (λ p. AreSought b (WaitsAt recce p) list) (sym is)
        (subst (AreSought b (WaitsAt recce place)) (sym same) (sought_as b (IsExpected recce) starts are (WaitsAt recce place) (λ t. ((alike t).1, (alike t).0))))
  ];
}

pub grows_kept : (old new : Recognizer) → Keeps old new → Grows old new
grows_kept old new keeps = record {
  flat = keeps.flat;
  there = subst (λ (l : List (List Item)). length old.sets ≤ length l) (sym keeps.sets) (omega arith);
  same = λ j lt. ap (λ (l : List (List Item)). get_or l j []) keeps.sets;
}

pub grows_added : (old mid new : Recognizer) (set : List Item) → Keeps old mid → new.flat ≡ mid.flat → new.sets ≡ mid.sets ++ set ∷ [] → Grows old new
grows_added old mid new set keeps flat sets =
    let all : new.sets ≡ old.sets ++ set ∷ [] = sets ∙ ap (λ (l : List (List Item)). l ++ set ∷ []) keeps.sets in
    record {
      flat = flat ∙ keeps.flat;
      there = (let long = ap length all ∙ length-append old.sets (set ∷ []) in omega (arith, long));
      same = λ j lt. ap (λ (l : List (List Item)). get_or l j []) all ∙ get_or_append_left old.sets (set ∷ []) [] j lt;
    }

pub grows_done : {T E : Type 0} (r : Result T E) (old mid new : Recognizer) (P : List Item → Type 0) → Keeps old mid → new.flat ≡ mid.flat → OnOk r ((set : List Item) × (new.sets ≡ mid.sets ++ set ∷ []) × P set) → OnErr r (new ≡ mid) → Grows old new
grows_done (Ok x) old mid new P keeps flat (set, sets, p) err = grows_added old mid new set keeps flat sets
grows_done (Err x) old mid new P keeps flat ok same = subst (Grows old) (sym same) (grows_kept old mid keeps)

-- A grammar that is checked has no refusal, and no grammar has two.
use Rattle.std.proofs.Common.{arith, ◌≡◌, ◌⊎◌, inl, inr, ℕ, ◌<◌, List, [], ◌∷◌, length, take, slice_get, refl, sym, ◌∙◌, ap}
use Rattle.std.specs.declared.cmp.Ordering.{Ordering}
use Rattle.std.specs.declared.cmp.Ordering.TheVariants.{Less, Equal, Greater}
use Rattle.std.specs.Ordering.{ordering_then, nat_cmp}
use Rattle.std.specs.Cmp.Lexicographic.{slice_cmp}
use Rattle.std.proofs.lemmas.Option.{same_Some}
use Rattle.grammar_model.specs.Grammar.{Grammar, Slot}
use Rattle.grammar_model.specs.Cycles.{IsLeastCycle, slot_cmp, cycle_cmp}
use Rattle.grammar_model.specs.Checked.{IsLeastWith, IsFirstStart, Refusal, NoRules, NoStart, StartNotLhs, SequenceLhs, Duplicate, CountedNullable, UnproductiveStart, Cyclic, IsFault, kind_of}
use Rattle.grammar_check.specs.Laws.{CheckedIsNotRefused, RefusalIsOne}
use Rattle.grammar_check.proofs.Clearing.{clear}
use Rattle.grammar_check.proofs.SlotCycles.{nat_cases}

abbrev Three : Ordering → Ordering → Type 0 → Type 0
Three o p E = ((o ≡ Less) × (p ≡ Greater)) ⊎ (((o ≡ Equal) × (p ≡ Equal) × E) ⊎ ((o ≡ Greater) × (p ≡ Less)))

then_three : (o p o' p' : Ordering) (E E' : Type 0) → Three o p E → Three o' p' E' → Three (ordering_then o o') (ordering_then p p') (E × E')
then_three o p o' p' E E' (inl (a, b)) t = inl (ap (λ x. ordering_then x o') a, ap (λ x. ordering_then x p') b)
then_three o p o' p' E E' (inr (inr (a, b))) t = inr (inr (ap (λ x. ordering_then x o') a, ap (λ x. ordering_then x p') b))
then_three o p o' p' E E' (inr (inl (a, b, e))) (inl (c, d)) = inl (ap (λ x. ordering_then x o') a ∙ c, ap (λ x. ordering_then x p') b ∙ d)
then_three o p o' p' E E' (inr (inl (a, b, e))) (inr (inl (c, d, e'))) = inr (inl (ap (λ x. ordering_then x o') a ∙ c, ap (λ x. ordering_then x p') b ∙ d, (e, e')))
then_three o p o' p' E E' (inr (inl (a, b, e))) (inr (inr (c, d))) = inr (inr (ap (λ x. ordering_then x o') a ∙ c, ap (λ x. ordering_then x p') b ∙ d))

three_map : (o p : Ordering) (E E' : Type 0) → (E → E') → Three o p E → Three o p E'
three_map o p E E' f (inl x) = inl x
three_map o p E E' f (inr (inl (a, b, e))) = inr (inl (a, b, f e))
three_map o p E E' f (inr (inr x)) = inr (inr x)

nat_three : (a b : ℕ) → Three (nat_cmp a b) (nat_cmp b a) (a ≡ b)
nat_three a b = elim (nat_cases a b) [
  | inl (e, lt) ↦ inl (e, elim (nat_cases b a) [ inl (f, gt) ↦ absurd (omega (arith, lt, gt)) | inr (inl (f, is)) ↦ absurd (omega (arith, lt, is)) | inr (inr (f, gt)) ↦ f ])
  | inr (inl (e, is)) ↦ inr (inl (e, (elim (nat_cases b a) [ inl (f, gt) ↦ absurd (omega (arith, is, gt)) | inr (inl (f, si)) ↦ f | inr (inr (f, gt)) ↦ absurd (omega (arith, is, gt)) ]), is))
  | inr (inr (e, gt)) ↦ inr (inr (e, elim (nat_cases b a) [ inl (f, lt) ↦ f | inr (inl (f, is)) ↦ absurd (omega (arith, gt, is)) | inr (inr (f, lt)) ↦ absurd (omega (arith, lt, gt)) ]))
]

slot_three : (s t : Slot) → Three (slot_cmp s t) (slot_cmp t s) (s ≡ t)
slot_three s t = three_map (slot_cmp s t) (slot_cmp t s) ((s.symbol ≡ t.symbol) × (s.level ≡ t.level)) (s ≡ t) (λ (a, b) i. record { symbol = a i; level = b i })
    (then_three (nat_cmp s.symbol t.symbol) (nat_cmp t.symbol s.symbol) (nat_cmp s.level t.level) (nat_cmp t.level s.level) (s.symbol ≡ t.symbol) (s.level ≡ t.level) (nat_three s.symbol t.symbol) (nat_three s.level t.level))

list_three : (xs ys : List Slot) → Three (slice_cmp slot_cmp xs ys) (slice_cmp slot_cmp ys xs) (xs ≡ ys)
list_three [] [] = inr (inl (refl, refl, refl))
list_three [] (y ∷ ys) = inl (refl, refl)
list_three (x ∷ xs) [] = inr (inr (refl, refl))
list_three (x ∷ xs) (y ∷ ys) =
    three_map (slice_cmp slot_cmp (x ∷ xs) (y ∷ ys)) (slice_cmp slot_cmp (y ∷ ys) (x ∷ xs)) ((x ≡ y) × (xs ≡ ys)) (x ∷ xs ≡ y ∷ ys) (λ (a, b) i. a i ∷ b i)
    (then_three (slot_cmp x y) (slot_cmp y x) (slice_cmp slot_cmp xs ys) (slice_cmp slot_cmp ys xs) (x ≡ y) (xs ≡ ys) (slot_three x y) (list_three xs ys))

cycle_three : (xs ys : List Slot) → Three (cycle_cmp xs ys) (cycle_cmp ys xs) (xs ≡ ys)
cycle_three xs ys =
    let first = list_three (take 1 xs) (take 1 ys) in
    let long = nat_three (length xs) (length ys) in
    three_map (cycle_cmp xs ys) (cycle_cmp ys xs) ((take 1 xs ≡ take 1 ys) × ((length xs ≡ length ys) × (xs ≡ ys))) (xs ≡ ys) (λ (a, (b, e)). e)
    (then_three (slice_cmp slot_cmp (take 1 xs) (take 1 ys)) (slice_cmp slot_cmp (take 1 ys) (take 1 xs))
    (ordering_then (nat_cmp (length xs) (length ys)) (slice_cmp slot_cmp xs ys)) (ordering_then (nat_cmp (length ys) (length xs)) (slice_cmp slot_cmp ys xs))
    (take 1 xs ≡ take 1 ys) ((length xs ≡ length ys) × (xs ≡ ys)) first
    (then_three (nat_cmp (length xs) (length ys)) (nat_cmp (length ys) (length xs)) (slice_cmp slot_cmp xs ys) (slice_cmp slot_cmp ys xs) (length xs ≡ length ys) (xs ≡ ys) long (list_three xs ys)))

one_cycle : (g : Grammar) (xs ys : List Slot) → IsLeastCycle g xs → IsLeastCycle g ys → xs ≡ ys
one_cycle g xs ys a b = elim (cycle_three xs ys) [
  | inl (less, greater) ↦ absurd (b.least xs a.cycle greater)
  | inr (inl (e, f, is)) ↦ is
  | inr (inr (greater, less)) ↦ absurd (a.least ys b.cycle greater)
]

side : (a b : ℕ) → (a < b) ⊎ ((b < a) ⊎ (a ≡ b))
side a b = grind arith

one_least : (P : ℕ → Type 0) (a b : ℕ) → IsLeastWith P a → IsLeastWith P b → a ≡ b
one_least P a b (pa, la) (pb, lb) = elim (side a b) [ inl lt ↦ absurd (lb a lt pa) | inr (inl gt) ↦ absurd (la b gt pb) | inr (inr e) ↦ e ]

one_first : (g : Grammar) (P : ℕ → Type 0) (s t : ℕ) → IsFirstStart g P s → IsFirstStart g P t → s ≡ t
one_first g P s t (i, es, ps, fs) (j, et, pt, ft) = elim (side i j) [
  | inl lt ↦ absurd (ft i s lt es ps)
  | inr (inl gt) ↦ absurd (fs j t gt et pt)
  | inr (inr e) ↦ same_Some s t (sym es ∙ (ap (slice_get g.starts) e ∙ et))
]

same : (g : Grammar) (a b : Refusal) → kind_of a ≡ kind_of b → IsFault g a → IsFault g b → a ≡ b
same g NoRules NoRules e fa fb = refl
same g NoStart NoStart e fa fb = refl
same g (StartNotLhs s) (StartNotLhs t) e fa fb = ap StartNotLhs (one_first g _ s t fa fb)
same g (SequenceLhs s) (SequenceLhs t) e fa fb = ap SequenceLhs (one_least _ s t fa fb)
same g (Duplicate s) (Duplicate t) e fa fb = ap Duplicate (one_least _ s t fa.1 fb.1)
same g (CountedNullable s) (CountedNullable t) e fa fb = ap CountedNullable (one_least _ s t fa.1 fb.1)
same g (UnproductiveStart s) (UnproductiveStart t) e fa fb = ap UnproductiveStart (one_first g _ s t fa fb)
same g (Cyclic s) (Cyclic t) e fa fb = ap Cyclic (one_cycle g s t fa fb)
same g a b e fa fb = absurd (omega (arith, e))

pub one_refusal : RefusalIsOne
one_refusal g a b ra rb = elim (side (kind_of a) (kind_of b)) [
  | inl lt ↦ absurd (rb.first a lt ra.fault)
  | inr (inl gt) ↦ absurd (ra.first b gt rb.fault)
  | inr (inr e) ↦ same g a b e ra.fault rb.fault
]

pub not_refused : CheckedIsNotRefused
not_refused g (Cyclic cycle) c r = c.acyclic (cycle, r.fault.cycle)
not_refused g other c r = clear g 8 (omega arith) (λ _. c.some_rule) (λ _. c.some_start) (λ _. c.starts_left) (λ _. c.sequences_alone) (λ _. c.rules_differ) (λ _. c.items_span) (λ _. c.starts_productive) other (omega arith) r.fault

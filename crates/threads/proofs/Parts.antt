-- Lists of parts that grow, and what stays so of later ones.
use Rattle.std.proofs.Common.{◌≡◌, ◌↔◌, ◌⊎◌, inl, inr, ℕ, zero, suc, ◌+◌, ◌<◌, ◌≤◌, ◌++◌, List, [], ◌∷◌, length, take, get_or, slice_get, Some, Contains, refl, sym, ap, ◌∙◌, subst, arith, length-append, append_assoc, append-nil}
use Rattle.std.proofs.lemmas.Bool.{cases_lt}
use Rattle.std.proofs.lemmas.List.{get_or_append_left, get_or-append-add}
use Rattle.finite_sets.proofs.Lists.{Contains-none}
use Rattle.recognizer_model.specs.declared.thread.Label.{Label}
use Rattle.recognizer_model.specs.declared.thread.Thread.{Thread}
use Rattle.recognizer_model.specs.Flat.{FlatGrammar, lhs_of}
use Rattle.recognizer_model.specs.Invariant.{IsFlat}
use Rattle.recognizer_model.specs.Threads.{Row, next, begun, step, IsClosed, IsScanned, IsTopRule, IsChosen, Waiting, IsPlace, PartAt}
use Rattle.recognizer_model.proofs.Threads.{closed_grown}
use Rattle.threads.specs.Lists.{list_at, IsGrown, IsThread, AreThreads, AreParts}
use Rattle.threads.specs.Steps.{IsPartIn, LeavesIn, HasLefts, AreSeeds, IsReadBy, IsClosedIn, Keeps, IsNext, IsBegin}
use Rattle.threads.proofs.Listing.{contains_next, contains_pushed}
use Rattle.threads.proofs.Closing.{stepped}

pub grown_same : (parts : List (List Thread)) → IsGrown parts parts
grown_same parts = ([], sym (append-nil parts))

pub grown_on : (a b c : List (List Thread)) → IsGrown a b → IsGrown b c → IsGrown a c
grown_on a b c (x, e) (y, f) = (x ++ y, f ∙ ap (λ l. l ++ y) e ∙ append_assoc a x y)

pub grown_long : (a b : List (List Thread)) → IsGrown a b → length a ≤ length b
grown_long a b (x, e) = let l : length b ≡ length a + length x = ap length e ∙ length-append a x in omega arith

pub grown_at : (a b : List (List Thread)) → IsGrown a b → (s : ℕ) → s < length a → list_at b s ≡ list_at a s
grown_at a b (x, e) s lt = ap (λ l. get_or l s []) e ∙ get_or_append_left a x [] s lt

pub grown_added : (old new : List (List Thread)) (list : List Thread) → (new ≡ old) ⊎ (new ≡ old ++ list ∷ []) → IsGrown old new
grown_added old new list (inl e) = ([], e ∙ sym (append-nil old))
grown_added old new list (inr e) = (list ∷ [], e)

pub threads_later : (g : FlatGrammar) (n m : ℕ) (threads : List Thread) → n ≤ m → AreThreads g n threads → AreThreads g m threads
threads_later g n m threads le are th h = let is = are th h in record { is_rule = is.is_rule; within = is.within; known = λ l e. (let k = is.known l e in omega arith) }

-- a list more
pub parts_more : (g : FlatGrammar) (old new : List (List Thread)) (list : List Thread) → AreParts g old → AreThreads g (length old) list → (new ≡ old) ⊎ (new ≡ old ++ list ∷ []) → AreParts g new
parts_more g old new list are is (inl e) = subst (AreParts g) (sym e) are
parts_more g old new list are is (inr e) = λ s. elim (cases_lt s (length old)) [
  | inl lt ↦ subst (AreThreads g (length new)) (sym (grown_at old new (list ∷ [], e) s lt)) (threads_later g (length old) (length new) (list_at old s) longer (are s))
  | inr ge ↦ elim (cases_lt (length old) s) [
    | inl beyond ↦ λ th h. absurd (Contains-none th (subst (λ l. Contains l th) (past new s (let l = long in omega arith)) h))
    | inr le ↦
        let same : length old + 0 ≡ s = omega arith in
        let at : list_at new (length old + 0) ≡ list = ap (λ l. get_or l (length old + 0) []) e ∙ get_or-append-add old (list ∷ []) 0 [] in
        subst (λ z. AreThreads g (length new) (list_at new z)) same (subst (AreThreads g (length new)) (sym at) (threads_later g (length old) (length new) list longer is))
  ]
]
  where
    long : length new ≡ length old + 1
    long = ap length e ∙ length-append old (list ∷ [])

    longer : length old ≤ length new
    longer = let l = long in omega arith

    past : (xs : List (List Thread)) (k : ℕ) → length xs ≤ k → list_at xs k ≡ []
    past [] k le = refl
    past (x ∷ xs) zero le = absurd (omega arith)
    past (x ∷ xs) (suc k) le = past xs k (omega arith)

-- the threads that wait for the goals are a part
pub is_part : (g : FlatGrammar) (row part : List Thread) (goals : List ℕ) (x : ℕ) → Contains goals x → HasLefts g row goals →
    ((th : Thread) → Contains part th ↔ (Contains [] th ⊎ (Contains row th × ((y : ℕ) × (next g th ≡ Some y) × Contains goals y)))) →
    (parts : List (List Thread)) (s : ℕ) → s < length parts → list_at parts s ≡ part → (later : List (List Thread)) → IsGrown parts later → IsPartIn g later (Waiting g row) s x
is_part g row part goals x there lefts exact parts s lt at later grown =
    let is : list_at later s ≡ part = grown_at parts later grown s lt ∙ at in
    record {
      known = let l = grown_long parts later grown in omega arith;
      inside = λ th w. elim ((exact th).0 (subst (λ l. Contains l th) is w.0)) [ inl none ↦ absurd (Contains-none th none) | inr (c, a) ↦ (c, w.1) ];
      waits = λ th w e. (subst (λ l. Contains l th) (sym is) ((exact th).1 (inr (w.0, (x, e, there)))), w.1);
      around = λ low th w none r e. elim ((exact low).0 (subst (λ l. Contains l low) is w.0)) [
        | inl n ↦ absurd (Contains-none low n)
        | inr (c, (y, waits, goal)) ↦ (subst (λ l. Contains l th) (sym is) ((exact th).1 (inr (r.0, (lhs_of g low.rule, e, lefts low y c waits goal none)))), r.1)
      ];
    }

-- a part is a part of itself
pub own_part : (g : FlatGrammar) (parts : List (List Thread)) (s x : ℕ) → s < length parts → IsPartIn g parts (PartAt g parts s) s x
own_part g parts s x lt = record { known = lt; inside = λ th w. w; waits = λ th w e. w; around = λ low th w none r e. r }

-- ---- what some threads of a row lead to

module _ (g : FlatGrammar) (parts : List (List Thread)) (Reads : ℕ → Type 0) (row : List Thread) where
  pub seeds_none : AreSeeds g parts Reads row [] []
  seeds_none = record { sound = λ th h. absurd (Contains-none th h); whole = λ th x h. absurd (Contains-none th h) }

  module _ (i : ℕ) (d : Thread) (lt : i < length row) (mid : List Thread) (h : AreSeeds g parts Reads row (take i row) mid) where
    pub seeds_more : (x : ℕ) (l : Label) → Contains row (get_or row i d) → next g (get_or row i d) ≡ Some x → Reads x → LeavesIn g parts (Waiting g row) (get_or row i d) l →
        (new : List Thread) → new ≡ mid ++ record { rule = (get_or row i d).rule; dot = suc (get_or row i d).dot; label = Some l } ∷ [] → AreSeeds g parts Reads row (take (i + 1) row) new
    seeds_more x l inside e reads leaves new is =
        let seed : Thread = record { rule = (get_or row i d).rule; dot = suc (get_or row i d).dot; label = Some l } in
        record {
          sound = λ other c. elim ((contains_pushed mid new seed other is).0 c) [
            | inl o ↦ h.sound other o
            | inr s ↦ (get_or row i d, x, l, (inside, (x, e)), e, reads, leaves, sym s)
          ];
          whole = λ th y c w r. elim ((contains_next row i d th lt).0 c) [
            | inl o ↦ (let (k, a, b) = h.whole th y o w r in (k, a, (contains_pushed mid new seed (record { rule = th.rule; dot = suc th.dot; label = Some k }) is).1 (inl b)))
            | inr s ↦ (l, subst (λ z. LeavesIn g parts (Waiting g row) z l) s leaves, (contains_pushed mid new seed (record { rule = th.rule; dot = suc th.dot; label = Some l }) is).1 (inr (ap (λ (z : Thread). record { rule = z.rule; dot = suc z.dot; label = Some l }) s)))
          ];
        }

    pub seeds_skip : ((x : ℕ) → next g (get_or row i d) ≡ Some x → Reads x → ⊥) → AreSeeds g parts Reads row (take (i + 1) row) mid
    seeds_skip none = record {
      sound = h.sound;
      whole = λ th y c w r. elim ((contains_next row i d th lt).0 c) [
        | inl o ↦ h.whole th y o w r
        | inr s ↦ absurd (none y (subst (λ z. next g z ≡ Some y) (sym s) w) r)
      ];
    }

-- what the first threads of a row were scanned for, with the parts that were made
pub record ScannedTo (g : FlatGrammar) (old : List (List Thread)) (terminals : List ℕ) (row some : List Thread) (made : List (List Thread)) (listed : List Thread) : Type 0 where
  pub grown : IsGrown old made
  pub parts : AreParts g made
  pub threads : AreThreads g (length made) listed
  pub seeds : (later : List (List Thread)) → IsGrown made later → AreSeeds g later (IsReadBy g terminals) row some listed

module _ (g : FlatGrammar) (old : List (List Thread)) (terminals : List ℕ) (row : List Thread) where
  pub scanned_none : AreParts g old → (seeds : List Thread) → seeds ≡ [] → ScannedTo g old terminals row [] old seeds
  scanned_none are seeds e = record {
    grown = grown_same old;
    parts = are;
    threads = subst (AreThreads g (length old)) (sym e) (λ th h. absurd (Contains-none th h));
    seeds = λ later gr. subst (AreSeeds g later (IsReadBy g terminals) row []) (sym e) (seeds_none g later (IsReadBy g terminals) row);
  }

  module _ (i : ℕ) (d : Thread) (lt : i < length row) (parts : List (List Thread)) (mid : List Thread) (h : ScannedTo g old terminals row (take i row) parts mid) where
    pub scanned_more : IsThread g (length old) (get_or row i d) → Contains row (get_or row i d) → ((x : ℕ) × (next g (get_or row i d) ≡ Some x) × IsReadBy g terminals x) →
        (more : List (List Thread)) (l : Label) → IsGrown parts more → AreParts g more → l.part < length more → ((later : List (List Thread)) → IsGrown more later → LeavesIn g later (Waiting g row) (get_or row i d) l) →
        (new : List Thread) → new ≡ mid ++ step (get_or row i d) (Some l) ∷ [] → ScannedTo g old terminals row (take (i + 1) row) more new
    scanned_more is inside (x, e, reads) more l grown are known leaves new pushed = record {
      grown = grown_on old parts more h.grown grown;
      parts = are;
      threads = λ th c. elim ((contains_pushed mid new (step (get_or row i d) (Some l)) th pushed).0 c) [
        | inl o ↦ threads_later g (length parts) (length more) mid (grown_long parts more grown) h.threads th o
        | inr s ↦ subst (IsThread g (length more)) s (stepped g (length old) (length more) (get_or row i d) x l is e known)
      ];
      seeds = λ later gr. seeds_more g later (IsReadBy g terminals) row i d lt mid (h.seeds later (grown_on parts more later grown gr)) x l inside e reads (leaves later gr) new pushed;
    }

    pub scanned_skip : (((x : ℕ) × (next g (get_or row i d) ≡ Some x) × IsReadBy g terminals x) → ⊥) → ScannedTo g old terminals row (take (i + 1) row) parts mid
    scanned_skip none = record {
      grown = h.grown;
      parts = h.parts;
      threads = h.threads;
      seeds = λ later gr. seeds_skip g later (IsReadBy g terminals) row i d lt mid (h.seeds later gr) (λ x e r. none (x, e, r));
    }

-- ---- the rules of starts, at their begin

module _ (g : FlatGrammar) (starts : List ℕ) where
  abbrev pub StartsTo : List ℕ → List Thread → Type 0
  StartsTo some seeds = (th : Thread) → Contains seeds th ↔ ((r : ℕ) × IsChosen g some r × (th ≡ begun r))

  pub starts_none : (seeds : List Thread) → seeds ≡ [] → StartsTo [] seeds
  starts_none seeds e th = (λ h. absurd (Contains-none th (subst (λ l. Contains l th) e h)), λ (r, (k, c, at), s). absurd (Contains-none k c))

  pub starts_more : (i : ℕ) → i < length starts → (mid new : List Thread) (r : ℕ) → slice_get g.tops (get_or starts i 0) ≡ Some r → new ≡ mid ++ begun r ∷ [] → StartsTo (take i starts) mid → StartsTo (take (i + 1) starts) new
  starts_more i lt mid new r top e h th = (
    λ c. elim ((contains_pushed mid new (begun r) th e).0 c) [
      | inl o ↦ (let (q, (k, looked, at), s) = (h th).0 o in (q, (k, (contains_next starts i 0 k lt).1 (inl looked), at), s))
      | inr s ↦ (r, (get_or starts i 0, (contains_next starts i 0 (get_or starts i 0) lt).1 (inr refl), top), sym s)
    ],
    λ (q, (k, looked, at), s). (contains_pushed mid new (begun r) th e).1 (elim ((contains_next starts i 0 k lt).0 looked) [
      | inl o ↦ inl ((h th).1 (q, (k, o, at), s))
      | inr same ↦ let is : r ≡ q = cc in inr (ap begun is ∙ sym s)
    ]),
  )

pub begun_threads : (g : FlatGrammar) (flat : IsFlat g) (n : ℕ) (starts : List ℕ) (seeds : List Thread) → StartsTo g starts starts seeds → AreThreads g n seeds
begun_threads g flat n starts seeds h th c =
    let (r, (k, looked, at), s) = (h th).0 c in
    subst (IsThread g n) (sym s) (record { is_rule = (flat.tops k r at).is_top.is_rule; within = omega arith; known = λ l e. absurd (cc) })

-- ---- sets are closed over later parts too

module _ (g : FlatGrammar) (parts later : List (List Thread)) (are : AreParts g parts) (grown : IsGrown parts later) where
  same_part : (s : ℕ) → IsPlace parts s → (th : Thread) → PartAt g parts s th ↔ PartAt g later s th
  same_part s lt th = let e = grown_at parts later grown s lt in ((λ w. (subst (λ l. Contains l th) (sym e) w.0, w.1)), (λ w. (subst (λ l. Contains l th) e w.0, w.1)))

  kept_place : (s : ℕ) → IsPlace parts s → IsPlace later s
  kept_place s lt = let l = grown_long parts later grown in omega arith

  closed_later : (seeds set new : List Thread) (Next : Row) → AreThreads g (length parts) seeds → ((th : Thread) → Contains seeds th → Next th) → IsClosedIn g parts seeds set → Keeps g set new →
      IsClosed g (IsTopRule g) (IsPlace later) (PartAt g later) Next (Contains set) (Waiting g new)
  closed_later seeds set new Next is next_seeds closed keeps =
      let c = closed_grown g (IsTopRule g) (IsPlace parts) (IsPlace later) (PartAt g parts) (PartAt g later) kept_place same_part (λ s lt th l w e. (are s th w.0).known l e)
      (Contains seeds) Next (λ th l h e. (is th h).known l e) next_seeds (Contains set) (Waiting g set) closed in
      record {
        reached = c.reached;
        predicts = c.predicts;
        skips = c.skips;
        completes = c.completes;
        row = λ th. ((λ w. (((keeps th).0 w.0).0, w.1)), (λ w. ((keeps th).1 (w.0, inl w.1), w.1)));
      }

pub next_is : (g : FlatGrammar) (parts : List (List Thread)) (Reads : ℕ → Type 0) (row seeds set new : List Thread) → AreParts g parts → AreThreads g (length parts) seeds →
    ((later : List (List Thread)) → IsGrown parts later → AreSeeds g later Reads row row seeds) → IsClosedIn g parts seeds set → ((th : Thread) → Contains seeds th → Contains set th) → Keeps g set new → IsNext g parts Reads row set new
next_is g parts Reads row seeds set new are is seeded closed begins keeps = record {
  keeps = keeps;
  steps = λ later grown. record {
    scans = λ th x w e reads. (let (l, leaves, there) = (seeded later grown).whole th x w.0 e reads in (l, leaves, begins _ there));
    closed = closed_later g parts later are grown seeds set new (IsScanned g (IsTopRule g) (IsPlace later) (PartAt g later) Reads (Waiting g row)) is (λ th h. (seeded later grown).sound th h) closed keeps;
  };
}

pub begin_is : (g : FlatGrammar) (parts : List (List Thread)) (starts : List ℕ) (seeds set new : List Thread) → AreParts g parts → AreThreads g (length parts) seeds →
    ((th : Thread) → Contains seeds th ↔ ((r : ℕ) × IsChosen g starts r × (th ≡ begun r))) → IsClosedIn g parts seeds set → ((th : Thread) → Contains seeds th → Contains set th) → Keeps g set new → IsBegin g parts starts set new
begin_is g parts starts seeds set new are is seeded closed begins keeps = record {
  keeps = keeps;
  begins = λ later grown. record {
    starts = λ r chosen. begins (begun r) ((seeded (begun r)).1 (r, chosen, refl));
    closed = closed_later g parts later are grown seeds set new (λ th. (r : ℕ) × IsChosen g starts r × (th ≡ begun r)) is (λ th h. (seeded th).0 h) closed keeps;
  };
}

-- ---- what a row keeps, and the rules of starts

module _ (g : FlatGrammar) (set : List Thread) where
  abbrev pub IsKept : Thread → Type 0
  IsKept th = ((x : ℕ) × (next g th ≡ Some x)) ⊎ IsTopRule g th.rule

  pub keeps_none : Keeps g [] []
  keeps_none th = ((λ h. absurd (Contains-none th h)), (λ (h, k). h))

  module _ (i : ℕ) (d : Thread) (lt : i < length set) (mid : List Thread) (h : Keeps g (take i set) mid) where
    pub keeps_more : IsKept (get_or set i d) → (new : List Thread) → new ≡ mid ++ get_or set i d ∷ [] → Keeps g (take (i + 1) set) new
    keeps_more k new e th = (
      λ c. elim ((contains_pushed mid new (get_or set i d) th e).0 c) [
        | inl m ↦ (let (o, a) = (h th).0 m in ((contains_next set i d th lt).1 (inl o), a))
        | inr s ↦ ((contains_next set i d th lt).1 (inr s), subst IsKept s k)
      ],
      λ (c, a). (contains_pushed mid new (get_or set i d) th e).1 (elim ((contains_next set i d th lt).0 c) [ inl o ↦ inl ((h th).1 (o, a)) | inr s ↦ inr s ]),
    )

    pub keeps_skip : (IsKept (get_or set i d) → ⊥) → Keeps g (take (i + 1) set) mid
    keeps_skip none th = (
      λ c. (let (o, a) = (h th).0 c in ((contains_next set i d th lt).1 (inl o), a)),
      λ (c, a). elim ((contains_next set i d th lt).0 c) [ inl o ↦ (h th).1 (o, a) | inr s ↦ absurd (none (subst IsKept (sym s) a)) ],
    )

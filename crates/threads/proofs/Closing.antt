-- What is added to a set, until it is closed.
use Rattle.std.proofs.Common.{◌≡◌, ◌↔◌, ◌⊎◌, inl, inr, ℕ, zero, suc, ◌+◌, ◌<◌, ◌≤◌, ◌++◌, List, [], ◌∷◌, length, take, get_or, slice_get, Some, None, Contains, refl, sym, ap, ◌∙◌, subst, arith, length-append, append_assoc, append-nil}
use Rattle.std.proofs.lemmas.Bool.{cases_lt}
use Rattle.std.proofs.lemmas.List.{get_or_append_left}
use Rattle.std.proofs.lemmas.Option.{slice_get_within}
use Rattle.finite_sets.proofs.Lists.{Contains-none, got_item, get_end, none_at_end, got_at}
use Rattle.recognizer_model.specs.declared.thread.Label.{Label}
use Rattle.recognizer_model.specs.declared.thread.Thread.{Thread}
use Rattle.recognizer_model.specs.Flat.{FlatGrammar, IsRule, lhs_of, rhs_of, IsNullable}
use Rattle.recognizer_model.specs.Threads.{Row, next, begun, step, Reached, Begin, Predict, Skip, Complete, IsTopRule, IsPlace, PartAt}
use Rattle.threads.specs.Lists.{list_at, IsThread, AreThreads}
use Rattle.threads.specs.Steps.{LeavesIn, LeadsTo, Predicts, Skips, Completes, HasNext, IsClosedIn}
use Rattle.threads.specs.Closing.{Adds, Grows, IsBegun, AreCompleted, IsFollowed, IsClosedTo}
use Rattle.threads.proofs.Listing.{contains_next, contains_pushed}

-- ---- threads that are added

Adds-begins : (old new : List Thread) (th : Thread) → Adds old new th → (more : List Thread) × (new ≡ old ++ more)
Adds-begins old new th (inl (e, there)) = ([], e ∙ sym (append-nil old))
Adds-begins old new th (inr (e, not_there)) = (th ∷ [], e)

Adds-has : (old new : List Thread) (th k : Thread) → Adds old new th → Contains new k ↔ (Contains old k ⊎ (th ≡ k))
Adds-has old new th k (inl (e, there)) = (λ h. inl (subst (λ l. Contains l k) e h), λ h. elim h [ inl a ↦ subst (λ l. Contains l k) (sym e) a | inr b ↦ subst (λ l. Contains l k) (sym e) (subst (Contains old) b there) ])
Adds-has old new th k (inr (e, not_there)) = contains_pushed old new th k e

pub grows_more : (old mid new threads : List Thread) (i : ℕ) (d : Thread) → i < length threads → Grows old mid (take i threads) → Adds mid new (get_or threads i d) → Grows old new (take (i + 1) threads)
grows_more old mid new threads i d lt g a =
    let th = get_or threads i d in
    let (more, e) = g.begins in
    let (more', e') = Adds-begins mid new th a in
    record {
      begins = (more ++ more', e' ∙ ap (λ l. l ++ more') e ∙ append_assoc old more more');
      has = λ k. (
        λ h. elim ((Adds-has mid new th k a).0 h) [
          | inl b ↦ elim ((g.has k).0 b) [ inl o ↦ inl o | inr o ↦ inr ((contains_next threads i d k lt).1 (inl o)) ]
          | inr same ↦ inr ((contains_next threads i d k lt).1 (inr same))
        ],
        λ h. (Adds-has mid new th k a).1 (elim h [
          | inl o ↦ inl ((g.has k).1 (inl o))
          | inr o ↦ elim ((contains_next threads i d k lt).0 o) [ inl o' ↦ inl ((g.has k).1 (inr o')) | inr same ↦ inr same ]
        ]),
      );
    }

pub grows_none : (old : List Thread) → Grows old old []
grows_none old = record { begins = ([], sym (append-nil old)); has = λ k. (λ h. inl h, λ h. elim h [ inl a ↦ a | inr n ↦ absurd (Contains-none k n) ]) }

-- ---- rules at their begin

module _ (old : List Thread) (first : ℕ) where
  abbrev pub Listed : List Thread → ℕ → Type 0
  Listed new end = (other : Thread) → Contains new other ↔ (Contains old other ⊎ ((r : ℕ) × (first ≤ r) × (r < end) × (other ≡ begun r)))

  pub rules_none : Listed old first
  rules_none other = (λ o. inl o, λ h. elim h [ inl o ↦ o | inr (r, lo, hi, e) ↦ absurd (omega arith) ])

  pub rules_all : (new : List Thread) (k end : ℕ) → Listed new k → (first ≤ k) → (k ≡ end) ⊎ ((end ≤ k) × (k ≡ first)) → Listed new end
  rules_all new k end h lo (inl e) other = subst (λ z. Contains new other ↔ (Contains old other ⊎ ((r : ℕ) × (first ≤ r) × (r < z) × (other ≡ begun r)))) e (h other)
  rules_all new k end h lo (inr (le, e)) other = (
    λ n. elim ((h other).0 n) [ inl o ↦ inl o | inr (r, lo', hi, s) ↦ absurd (omega arith) ],
    λ n. elim n [ inl o ↦ (h other).1 (inl o) | inr (r, lo', hi, s) ↦ absurd (omega arith) ],
  )

  pub rules_more : (mid new : List Thread) (k : ℕ) → Listed mid k → first ≤ k → new ≡ mid ++ begun k ∷ [] → Listed new (k + 1)
  rules_more mid new k h le e other = (there, back)
    where
      there : Contains new other → Contains old other ⊎ ((r : ℕ) × (first ≤ r) × (r < k + 1) × (other ≡ begun r))
      there c = elim ((contains_pushed mid new (begun k) other e).0 c) [
        | inl m ↦ elim ((h other).0 m) [ inl o ↦ inl o | inr (r, lo, hi, s) ↦ inr (r, lo, omega arith, s) ]
        | inr s ↦ inr (k, le, omega arith, sym s)
      ]

      back : Contains old other ⊎ ((r : ℕ) × (first ≤ r) × (r < k + 1) × (other ≡ begun r)) → Contains new other
      back (inl o) = (contains_pushed mid new (begun k) other e).1 (inl ((h other).1 (inl o)))
      back (inr (r, lo, hi, s)) = elim (cases_lt r k) [
        | inl lt ↦ (contains_pushed mid new (begun k) other e).1 (inl ((h other).1 (inr (r, lo, lt, s))))
        | inr ge ↦ let same : k ≡ r = omega arith in (contains_pushed mid new (begun k) other e).1 (inr (ap (λ z. begun z) same ∙ sym s))
      ]

pub predicted : (g : FlatGrammar) (x from to : ℕ) (old new : List Thread) → ((r : ℕ) → ((from ≤ r) × (r < to)) ↔ (IsRule g r × (lhs_of g r ≡ x))) →
    ((other : Thread) → Contains new other ↔ (Contains old other ⊎ ((r : ℕ) × (from ≤ r) × (r < to) × (other ≡ begun r)))) →
    (other : Thread) → Contains new other ↔ (Contains old other ⊎ IsBegun g x other)
predicted g x from to old new rules has other = (
  λ h. elim ((has other).0 h) [ inl o ↦ inl o | inr (r, lo, hi, e) ↦ let (rule, l) = (rules r).0 (lo, hi) in inr (r, rule, l, e) ],
  λ h. (has other).1 (elim h [ inl o ↦ inl o | inr (r, rule, l, e) ↦ let (lo, hi) = (rules r).1 (rule, l) in inr (r, lo, hi, e) ]),
)

module _ (g : FlatGrammar) (x : ℕ) (th : Thread) (old mid : List Thread) (has : (other : Thread) → Contains mid other ↔ (Contains old other ⊎ IsBegun g x other)) where
  pub begun_skips : (new : List Thread) → new ≡ mid ++ step th th.label ∷ [] → IsNullable g x → (other : Thread) → Contains new other ↔ ((Contains old other ⊎ IsBegun g x other) ⊎ (IsNullable g x × (other ≡ step th th.label)))
  begun_skips new e n other = (
    λ h. elim ((contains_pushed mid new (step th th.label) other e).0 h) [ inl m ↦ inl ((has other).0 m) | inr s ↦ inr (n, sym s) ],
    λ h. (contains_pushed mid new (step th th.label) other e).1 (elim h [ inl m ↦ inl ((has other).1 m) | inr (n', s) ↦ inr (sym s) ]),
  )

  pub begun_stays : (IsNullable g x → ⊥) → (other : Thread) → Contains mid other ↔ ((Contains old other ⊎ IsBegun g x other) ⊎ (IsNullable g x × (other ≡ step th th.label)))
  begun_stays none other = (λ h. inl ((has other).0 h), λ h. elim h [ inl m ↦ (has other).1 m | inr (n, s) ↦ absurd (none n) ])

-- ---- what follows from a thread

-- advanced, with a label that is known
pub stepped : (g : FlatGrammar) (n m : ℕ) (th : Thread) (x : ℕ) (l : Label) → IsThread g n th → next g th ≡ Some x → l.part < m → IsThread g m (step th (Some l))
stepped g n m th x l is e known = record { is_rule = is.is_rule; within = slice_get_within (rhs_of g th.rule) th.dot x e; known = λ k s. (let same : l ≡ k = cc in subst (λ (z : Label). z.part < m) same known) }

module _ (g : FlatGrammar) (parts : List (List Thread)) (th : Thread) (is : IsThread g (length parts) th) where
  pub begun_followed : (x : ℕ) → next g th ≡ Some x → (new : List Thread) → ((other : Thread) → Contains new other ↔ ((Contains [] other ⊎ IsBegun g x other) ⊎ (IsNullable g x × (other ≡ step th th.label)))) → IsFollowed g parts th new
  begun_followed x e new has = record {
    sound = λ other h. elim ((has other).0 h) [
      | inl p ↦ elim p [ inl none ↦ absurd (Contains-none other none) | inr (r, rule, l, s) ↦ subst (LeadsTo g parts th) (sym s) (Predicts e rule l) ]
      | inr (n, s) ↦ subst (LeadsTo g parts th) (sym s) (Skips e n)
    ];
    are = λ other h. elim ((has other).0 h) [
      | inl p ↦ elim p [
        | inl none ↦ absurd (Contains-none other none)
        | inr (r, rule, l, s) ↦ subst (IsThread g (length parts)) (sym s) (record { is_rule = rule; within = omega arith; known = λ k a. absurd (cc) })
      ]
      | inr (n, s) ↦ subst (IsThread g (length parts)) (sym s) (record { is_rule = is.is_rule; within = slice_get_within (rhs_of g th.rule) th.dot x e; known = is.known })
    ];
    whole = record {
      predicts = λ y r e' rule l. (let s : y ≡ x = cc in (has (begun r)).1 (inl (inr (r, rule, l ∙ s, refl))));
      skips = λ y e' n. (let s : y ≡ x = cc in (has (step th th.label)).1 (inr (subst (IsNullable g) s n, refl)));
      completes = λ w l done. (let n = none_at_end (rhs_of g th.rule) th.dot done in absurd (cc));
    };
  }

  pub nothing_followed : next g th ≡ None → th.label ≡ None → (new : List Thread) → new ≡ [] → IsFollowed g parts th new
  nothing_followed e none new empty = record {
    sound = λ other h. absurd (Contains-none other (subst (λ l. Contains l other) empty h));
    are = λ other h. absurd (Contains-none other (subst (λ l. Contains l other) empty h));
    whole = record {
      predicts = λ y r e' rule l. absurd (cc);
      skips = λ y e' n. absurd (cc);
      completes = λ w l done s. absurd (cc);
    };
  }

  pub completed_followed : next g th ≡ None → (l : Label) → th.label ≡ Some l → (new : List Thread) → AreCompleted g parts l [] new → IsFollowed g parts th new
  completed_followed e l at new c =
      let done = get_end (rhs_of g th.rule) th.dot is.within e in
      record {
        sound = λ other h. elim (c.sound other h) [
          | inl none ↦ absurd (Contains-none other none)
          | inr (w, l', inside, waits, leaves, s, is') ↦ subst (LeadsTo g parts th) (sym s) (Completes done at inside waits leaves)
        ];
        are = λ other h. elim (c.sound other h) [
          | inl none ↦ absurd (Contains-none other none)
          | inr (w, l', inside, waits, leaves, s, is') ↦ is'
        ];
        whole = record {
          predicts = λ y r e' rule k. absurd (cc);
          skips = λ y e' n. absurd (cc);
          completes = λ w k d at' inside waits. (
              let same : l ≡ k = cc in
              subst (λ (z : Label). PartAt g parts z.part w → next g w ≡ Some z.goal → (l' : Label) × LeavesIn g parts (PartAt g parts z.part) w l' × Contains new (step w (Some l'))) same (c.whole w) inside waits);
        };
      }

-- ---- a label's goal is completed

module _ (g : FlatGrammar) (parts : List (List Thread)) (l : Label) (old : List Thread) where
  abbrev pub CompletedTo : List Thread → List Thread → Type 0
  CompletedTo done new =
      ((other : Thread) → Contains old other → Contains new other)
      × ((other : Thread) → Contains new other →
      Contains old other ⊎ ((waiting : Thread) × (l' : Label) × PartAt g parts l.part waiting × (next g waiting ≡ Some l.goal) × LeavesIn g parts (PartAt g parts l.part) waiting l' × (other ≡ step waiting (Some l')) × (IsThread g (length parts) other)))
      × ((waiting : Thread) → Contains done waiting → next g waiting ≡ Some l.goal → (l' : Label) × LeavesIn g parts (PartAt g parts l.part) waiting l' × Contains new (step waiting (Some l')))

  pub completed_none : CompletedTo [] old
  completed_none = (λ other h. h, λ other h. inl h, λ w c. absurd (Contains-none w c))

  module _ (part : List Thread) (is : part ≡ list_at parts l.part) (i : ℕ) (d : Thread) (lt : i < length part) (mid : List Thread) (so_far : CompletedTo (take i part) mid) where
    pub completed_more : (new : List Thread) (l' : Label) → next g (get_or part i d) ≡ Some l.goal → LeavesIn g parts (PartAt g parts l.part) (get_or part i d) l' → IsThread g (length parts) (get_or part i d) → l'.part < length parts →
        new ≡ mid ++ step (get_or part i d) (Some l') ∷ [] → CompletedTo (take (i + 1) part) new
    completed_more new l' waits leaves is_thread known e = (
      λ other h. (contains_pushed mid new (step (get_or part i d) (Some l')) other e).1 (inl (so_far.0 other h)),
      λ other h. elim ((contains_pushed mid new (step (get_or part i d) (Some l')) other e).0 h) [
        | inl m ↦ so_far.1 other m
        | inr s ↦ inr (get_or part i d, l', (subst (λ p. Contains p (get_or part i d)) is (i, lt, refl_at), (l.goal, waits)), waits, leaves, sym s, subst (IsThread g (length parts)) s (stepped g (length parts) (length parts) (get_or part i d) l.goal l' is_thread waits known))
      ],
      λ w c wants. elim ((contains_next part i d w lt).0 c) [
        | inl o ↦ (let (k, a, b) = so_far.2 w o wants in (k, a, (contains_pushed mid new (step (get_or part i d) (Some l')) (step w (Some k)) e).1 (inl b)))
        | inr s ↦ (l', subst (λ z. LeavesIn g parts (PartAt g parts l.part) z l') s leaves, (contains_pushed mid new (step (get_or part i d) (Some l')) (step w (Some l')) e).1 (inr (ap (λ z. step z (Some l')) s)))
      ],
    )
      where
        refl_at : get_or part i (get_or part i d) ≡ get_or part i d
        refl_at = same part i lt
          where
            same : (xs : List Thread) (k : ℕ) → k < length xs → get_or xs k (get_or xs k d) ≡ get_or xs k d
            same [] k lt = absurd (omega arith)
            same (x ∷ xs) zero lt = refl
            same (x ∷ xs) (suc k) lt = same xs k (omega arith)

    pub completed_skip : (next g (get_or part i d) ≡ Some l.goal → ⊥) → CompletedTo (take (i + 1) part) mid
    completed_skip none = (
      so_far.0,
      so_far.1,
      λ w c wants. elim ((contains_next part i d w lt).0 c) [
        | inl o ↦ so_far.2 w o wants
        | inr s ↦ absurd (none (subst (λ z. next g z ≡ Some l.goal) (sym s) wants))
      ],
    )

  pub completed_done : (part new : List Thread) → part ≡ list_at parts l.part → CompletedTo part new → AreCompleted g parts l old new
  completed_done part new is c = record {
    kept = c.0;
    sound = c.1;
    whole = λ w inside waits. c.2 w (subst (λ p. Contains p w) (sym is) inside.0) waits;
  }

-- ---- the set is closed

module _ (g : FlatGrammar) (parts : List (List Thread)) where
  abbrev SetReached : List Thread → Thread → Type 0
  SetReached seeds th = Reached g (IsTopRule g) (IsPlace parts) (PartAt g parts) (Contains seeds) th

  reached_next : (seeds : List Thread) (th other : Thread) → SetReached seeds th → LeadsTo g parts th other → SetReached seeds other
  reached_next seeds th other r (Predicts e rule l) = Predict r e rule l
  reached_next seeds th other r (Skips e n) = Skip r e n
  reached_next seeds th other r (Completes done at inside waits leaves) = Complete r done at inside waits leaves

  next_kept : (th : Thread) (K M : Row) → ((o : Thread) → K o → M o) → HasNext g parts th K → HasNext g parts th M
  next_kept th K M sub h = record {
    predicts = λ x r e rule l. sub (begun r) (h.predicts x r e rule l);
    skips = λ x e n. sub (step th th.label) (h.skips x e n);
    completes = λ w l done at inside waits. (let (l', leaves, k) = h.completes w l done at inside waits in (l', leaves, sub (step w (Some l')) k));
  }

  pub closed_init : (keys : List Thread) → AreThreads g (length parts) keys → IsClosedTo g parts keys keys 0
  closed_init keys are = record { begins = λ th h. h; reached = λ th h. Begin h; followed = λ i d lt. absurd (omega arith); within = omega arith; threads = are }

  module _ (seeds keys : List Thread) (k : ℕ) (inv : IsClosedTo g parts seeds keys k) where
    has_next : length keys ≤ k → (th : Thread) → Contains keys th → HasNext g parts th (Contains keys)
    has_next le th (i, lt, e) = subst (λ z. HasNext g parts z (Contains keys)) e (inv.followed i th (omega arith))

    pub closed_done : length keys ≤ k → IsClosedIn g parts seeds keys
    closed_done le = record {
      reached = inv.reached;
      predicts = λ th x r h e rule l. (has_next le th h).predicts x r e rule l;
      skips = λ th x h e n. (has_next le th h).skips x e n;
      completes = λ th w l h done at inside waits. (has_next le th h).completes w l done at inside waits;
      row = λ th. (λ h. h, λ h. h);
    }

    pub closed_more : (th : Thread) (next new : List Thread) → Some th ≡ slice_get keys k → IsFollowed g parts th next → Grows keys new next → IsClosedTo g parts seeds new (k + 1)
    closed_more th next new at f grows =
        let there = got_item keys k th at in
        let (lt, same) = got_at keys k th th at in
        let (more, e) = grows.begins in
        let kept : (other : Thread) → Contains keys other → Contains new other = λ other h. (grows.has other).1 (inl h) in
        record {
          begins = λ other h. kept other (inv.begins other h);
          reached = λ other h. elim ((grows.has other).0 h) [
            | inl old ↦ inv.reached other old
            | inr n ↦ reached_next seeds th other (inv.reached th there) (f.sound other n)
          ];
          followed = λ i d below. elim (cases_lt i k) [
            | inl before ↦
                let old : get_or new i d ≡ get_or keys i d = ap (λ l. get_or l i d) e ∙ get_or_append_left keys more d i (let w = inv.within in omega arith) in
                subst (λ z. HasNext g parts z (Contains new)) (sym old) (next_kept (get_or keys i d) (Contains keys) (Contains new) kept (inv.followed i d before))
            | inr now ↦
                let here : i ≡ k = omega arith in
                let it : get_or new i d ≡ th = ap (λ n. get_or new n d) here ∙ (ap (λ l. get_or l k d) e ∙ (get_or_append_left keys more d k lt ∙ (got_at keys k th d at).1)) in
                subst (λ z. HasNext g parts z (Contains new)) (sym it) (next_kept th (Contains next) (Contains new) (λ o h. (grows.has o).1 (inr h)) f.whole)
          ];
          within = let l : length new ≡ length keys + length more = ap length e ∙ length-append keys more in omega arith;
          threads = λ other h. elim ((grows.has other).0 h) [ inl old ↦ inv.threads other old | inr n ↦ f.are other n ];
        }

  -- the same from other seeds
  pub closed_from : (seeds others set : List Thread) → ((th : Thread) → Contains seeds th → Contains others th) → IsClosedIn g parts seeds set → IsClosedIn g parts others set
  closed_from seeds others set sub c = record { reached = λ th h. again (c.reached th h); predicts = c.predicts; skips = c.skips; completes = c.completes; row = c.row }
    where
      again : {th : Thread} → SetReached seeds th → SetReached others th
      again (Begin s) = Begin (sub _ s)
      again (Predict h e rule l) = Predict (again h) e rule l
      again (Skip h e n) = Skip (again h) e n
      again (Complete h done at inside waits leaves) = Complete (again h) done at inside waits leaves

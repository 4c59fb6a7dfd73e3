-- The symbols that a part is for.
use Rattle.std.proofs.Common.{◌≡◌, ◌↔◌, ◌⊎◌, inl, inr, ℕ, ◌+◌, ◌<◌, ◌≤◌, ◌++◌, List, [], ◌∷◌, length, take, get_or, slice_get, Option, Some, None, Bool, false, not, true≢false, Contains, sym, ap, ◌∙◌, subst, arith, length-append, append_assoc, append-nil}
use Rattle.std.specs.Option.{is_some}
use Rattle.std.proofs.lemmas.Bool.{cases_lt}
use Rattle.std.proofs.lemmas.List.{get_or_append_left}
use Rattle.std.proofs.lemmas.List.Elements.{Contains-append_left}
use Rattle.finite_sets.proofs.Lists.{Contains-none, got_at}
use Rattle.recognizer_model.specs.declared.thread.Thread.{Thread}
use Rattle.recognizer_model.specs.Flat.{FlatGrammar, lhs_of}
use Rattle.recognizer_model.specs.Threads.{next}
use Rattle.threads.specs.Goals.{HasAdded, HasAddedLefts}
use Rattle.threads.specs.Steps.{HasLefts}
use Rattle.threads.proofs.Listing.{contains_next, contains_pushed}

pub not_none : {X : Type 0} (o : Option X) (b : Bool) → is_some o ≡ not b → b ≡ false → o ≡ None → ⊥
not_none None b e f n = true≢false (sym (e ∙ ap not f))
not_none (Some x) b e f n = cc

pub kept_of : (old new : List ℕ) → ((more : List ℕ) × (new ≡ old ++ more)) → (x : ℕ) → Contains old x → Contains new x
kept_of old new (more, e) x h = subst (λ l. Contains l x) (sym e) (Contains-append_left old more x h)

joined : (old mid new : List ℕ) → ((more : List ℕ) × (mid ≡ old ++ more)) → ((more : List ℕ) × (new ≡ mid ++ more)) → (more : List ℕ) × (new ≡ old ++ more)
joined old mid new (a, e) (b, f) = (a ++ b, f ∙ ap (λ l. l ++ b) e ∙ append_assoc old a b)

module _ (g : FlatGrammar) (row : List Thread) (goal : ℕ) (old : List ℕ) where
  pub lefts_none : HasAddedLefts g [] goal old old
  lefts_none = record { more = ([], sym (append-nil old)); lefts = λ low h. absurd (Contains-none low h) }

  module _ (i : ℕ) (d : Thread) (lt : i < length row) (mid : List ℕ) (h : HasAddedLefts g (take i row) goal old mid) where
    pub lefts_more : (new : List ℕ) → HasAdded mid new (lhs_of g (get_or row i d).rule) → HasAddedLefts g (take (i + 1) row) goal old new
    lefts_more new a = record {
      more = joined old mid new h.more a.more;
      lefts = λ low c e none. elim ((contains_next row i d low lt).0 c) [
        | inl o ↦ kept_of mid new a.more (lhs_of g low.rule) (h.lefts low o e none)
        | inr s ↦ subst (λ (z : Thread). Contains new (lhs_of g z.rule)) s a.there
      ];
    }

    pub lefts_skip : (next g (get_or row i d) ≡ Some goal → (get_or row i d).label ≡ None → ⊥) → HasAddedLefts g (take (i + 1) row) goal old mid
    lefts_skip never = record {
      more = h.more;
      lefts = λ low c e none. elim ((contains_next row i d low lt).0 c) [
        | inl o ↦ h.lefts low o e none
        | inr s ↦ absurd (never (subst (λ z. next g z ≡ Some goal) (sym s) e) (subst (λ (z : Thread). z.label ≡ None) (sym s) none))
      ];
    }

-- the left sides of the first k goals are there
pub record LeftsTo (g : FlatGrammar) (row : List Thread) (old goals : List ℕ) (k : ℕ) : Type 0 where
  pub kept : (x : ℕ) → Contains old x → Contains goals x
  pub followed : (i d : ℕ) → i < k → (low : Thread) → Contains row low → next g low ≡ Some (get_or goals i d) → low.label ≡ None → Contains goals (lhs_of g low.rule)
  pub within : k ≤ length goals

module _ (g : FlatGrammar) (row : List Thread) (old : List ℕ) where
  pub lefts_init : LeftsTo g row old old 0
  lefts_init = record { kept = λ x h. h; followed = λ i d lt. absurd (omega arith); within = omega arith }

  module _ (goals : List ℕ) (k : ℕ) (inv : LeftsTo g row old goals k) where
    pub lefts_done : length goals ≤ k → HasLefts g row goals
    lefts_done le low x c e (i, lt, at) none = inv.followed i x (omega arith) low c (e ∙ ap Some (sym at)) none

    pub lefts_next : (goal : ℕ) (new : List ℕ) → Some goal ≡ slice_get goals k → HasAddedLefts g row goal goals new → LeftsTo g row old new (k + 1)
    lefts_next goal new at added =
        let (more, e) = added.more in
        let (lt, same) = got_at goals k goal goal at in
        record {
          kept = λ x h. kept_of goals new added.more x (inv.kept x h);
          followed = λ i d below low c w none. elim (cases_lt i k) [
            | inl before ↦
                let old : get_or new i d ≡ get_or goals i d = ap (λ l. get_or l i d) e ∙ get_or_append_left goals more d i (let z = inv.within in omega arith) in
                kept_of goals new added.more (lhs_of g low.rule) (inv.followed i d before low c (w ∙ ap Some old) none)
            | inr now ↦
                let here : i ≡ k = omega arith in
                let it : get_or new i d ≡ goal = ap (λ n. get_or new n d) here ∙ (ap (λ l. get_or l k d) e ∙ (get_or_append_left goals more d k lt ∙ (got_at goals k goal d at).1)) in
                added.lefts low c (w ∙ ap Some it) none
          ];
          within = let l : length new ≡ length goals + length more = ap length e ∙ length-append goals more in omega arith;
        }

-- ---- the threads that wait for one of them

module _ (g : FlatGrammar) (row : List Thread) (goals : List ℕ) (old : List Thread) where
  abbrev pub Awaits : Thread → Type 0
  Awaits th = (x : ℕ) × (next g th ≡ Some x) × Contains goals x

  abbrev pub ListedTo : List Thread → List Thread → Type 0
  ListedTo some new = (th : Thread) → Contains new th ↔ (Contains old th ⊎ (Contains some th × Awaits th))

  pub listed_none : ListedTo [] old
  listed_none th = (λ h. inl h, λ h. elim h [ inl o ↦ o | inr (n, w) ↦ absurd (Contains-none th n) ])

  module _ (i : ℕ) (d : Thread) (lt : i < length row) (mid : List Thread) (h : ListedTo (take i row) mid) where
    pub listed_more : Awaits (get_or row i d) → (new : List Thread) → new ≡ mid ++ get_or row i d ∷ [] → ListedTo (take (i + 1) row) new
    listed_more w new e th = (
      λ c. elim ((contains_pushed mid new (get_or row i d) th e).0 c) [
        | inl m ↦ elim ((h th).0 m) [ inl o ↦ inl o | inr (o, a) ↦ inr ((contains_next row i d th lt).1 (inl o), a) ]
        | inr s ↦ inr ((contains_next row i d th lt).1 (inr s), subst Awaits s w)
      ],
      λ c. (contains_pushed mid new (get_or row i d) th e).1 (elim c [
        | inl o ↦ inl ((h th).1 (inl o))
        | inr (o, a) ↦ elim ((contains_next row i d th lt).0 o) [ inl b ↦ inl ((h th).1 (inr (b, a))) | inr s ↦ inr s ]
      ]),
    )

    pub listed_skip : (Awaits (get_or row i d) → ⊥) → ListedTo (take (i + 1) row) mid
    listed_skip none th = (
      λ c. elim ((h th).0 c) [ inl o ↦ inl o | inr (o, a) ↦ inr ((contains_next row i d th lt).1 (inl o), a) ],
      λ c. elim c [
        | inl o ↦ (h th).1 (inl o)
        | inr (o, a) ↦ elim ((contains_next row i d th lt).0 o) [ inl b ↦ (h th).1 (inr (b, a)) | inr s ↦ absurd (none (subst Awaits (sym s) a)) ]
      ],
    )

-- The starts that are done in a row.
use Rattle.std.proofs.Common.{◌≡◌, ◌↔◌, ◌⊎◌, inl, inr, ℕ, ◌+◌, ◌<◌, ◌++◌, List, [], ◌∷◌, length, take, get_or, Some, Contains, slice_get, refl, sym, ap, ◌∙◌, subst, zero, suc, arith}
use Rattle.std.specs.List.Sorted.{IsStrictlySortedBy}
use Rattle.std.specs.Ordering.{nat_cmp}
use Rattle.std.proofs.lemmas.List.{take_more}
use Rattle.finite_sets.proofs.Lists.{Contains-none}
use Rattle.recognizer_model.specs.declared.thread.Thread.{Thread}
use Rattle.recognizer_model.specs.Flat.{FlatGrammar, IsRule}
use Rattle.recognizer_model.specs.Threads.{IsTopRule}
use Rattle.threads.proofs.Listing.{contains_next, contains_pushed}
use Rattle.lexer.specs.Machines.{IsMatch}
use Rattle.lexer.specs.Reading.{IsDoneIn}
use Rattle.lexer.proofs.Sorted.{sorted_prefix, sorted_last, sorted_push, sorted_none}

module _ (g : FlatGrammar) (old : List ℕ) where
  abbrev pub DoneTo : List Thread → List ℕ → Type 0
  DoneTo some done = (r : ℕ) → Contains done r ↔ (Contains old r ⊎ ((th : Thread) × Contains some th × IsMatch g th × (th.rule ≡ r)))

  pub done_none : DoneTo [] old
  done_none r = (λ h. inl h, λ h. elim h [ inl o ↦ o | inr (th, n, m, e) ↦ absurd (Contains-none th n) ])

  module _ (row : List Thread) (i : ℕ) (d : Thread) (lt : i < length row) (mid : List ℕ) (h : DoneTo (take i row) mid) where
    pub done_more : IsMatch g (get_or row i d) → (new : List ℕ) → new ≡ mid ++ (get_or row i d).rule ∷ [] → DoneTo (take (i + 1) row) new
    done_more m new e r = (
      λ c. elim ((contains_pushed mid new (get_or row i d).rule r e).0 c) [
        | inl o ↦ elim ((h r).0 o) [ inl a ↦ inl a | inr (th, b, n, s) ↦ inr (th, (contains_next row i d th lt).1 (inl b), n, s) ]
        | inr s ↦ inr (get_or row i d, (contains_next row i d (get_or row i d) lt).1 (inr refl), m, s)
      ],
      λ c. (contains_pushed mid new (get_or row i d).rule r e).1 (elim c [
        | inl a ↦ inl ((h r).1 (inl a))
        | inr (th, b, n, s) ↦ elim ((contains_next row i d th lt).0 b) [
          | inl o ↦ inl ((h r).1 (inr (th, o, n, s)))
          | inr same ↦ inr (ap (λ (z : Thread). z.rule) same ∙ s)
        ]
      ]),
    )

    pub done_skip : (IsMatch g (get_or row i d) → ⊥) → DoneTo (take (i + 1) row) mid
    done_skip none r = (
      λ c. elim ((h r).0 c) [ inl a ↦ inl a | inr (th, b, n, s) ↦ inr (th, (contains_next row i d th lt).1 (inl b), n, s) ],
      λ c. elim c [
        | inl a ↦ (h r).1 (inl a)
        | inr (th, b, n, s) ↦ elim ((contains_next row i d th lt).0 b) [ inl o ↦ (h r).1 (inr (th, o, n, s)) | inr same ↦ absurd (none (subst (IsMatch g) (sym same) n)) ]
      ],
    )

module _ (g : FlatGrammar) (done : List ℕ) where
  abbrev pub IsDoneBy : ℕ → Type 0
  IsDoneBy k = (r : ℕ) × (slice_get g.tops k ≡ Some r) × Contains done r

  -- those of some candidates that are done, in their order
  pub record MatchedTo (some matched : List ℕ) : Type 0 where
    pub exact : (k : ℕ) → Contains matched k ↔ (Contains some k × IsDoneBy k)
    pub order : IsStrictlySortedBy nat_cmp some → IsStrictlySortedBy nat_cmp matched

  pub matched_none : (matched : List ℕ) → matched ≡ [] → MatchedTo [] matched
  matched_none matched e = record {
    exact = λ k. ((λ h. absurd (Contains-none k (subst (λ l. Contains l k) e h))), (λ (h, d). absurd (Contains-none k h)));
    order = λ s. subst (IsStrictlySortedBy nat_cmp) (sym e) sorted_none;
  }

  module _ (candidates : List ℕ) (i : ℕ) (lt : i < length candidates) (mid : List ℕ) (h : MatchedTo (take i candidates) mid) where
    prefix : IsStrictlySortedBy nat_cmp (take (i + 1) candidates) → IsStrictlySortedBy nat_cmp (take i candidates)
    prefix s = sorted_prefix (take i candidates) (get_or candidates i 0) (subst (IsStrictlySortedBy nat_cmp) (take_more candidates i 0 lt) s)

    pub matched_more : IsDoneBy (get_or candidates i 0) → (new : List ℕ) → new ≡ mid ++ get_or candidates i 0 ∷ [] → MatchedTo (take (i + 1) candidates) new
    matched_more d new e = record {
      exact = λ k. (
        λ c. elim ((contains_pushed mid new (get_or candidates i 0) k e).0 c) [
          | inl o ↦ (let (a, b) = (h.exact k).0 o in ((contains_next candidates i 0 k lt).1 (inl a), b))
          | inr s ↦ ((contains_next candidates i 0 k lt).1 (inr s), subst IsDoneBy s d)
        ],
        λ (c, b). (contains_pushed mid new (get_or candidates i 0) k e).1 (elim ((contains_next candidates i 0 k lt).0 c) [ inl o ↦ inl ((h.exact k).1 (o, b)) | inr s ↦ inr s ]),
      );
      order = λ s. subst (IsStrictlySortedBy nat_cmp) (sym e) (sorted_push mid (get_or candidates i 0) (h.order (prefix s))
          (λ x c. sorted_last (take i candidates) (get_or candidates i 0) x (subst (IsStrictlySortedBy nat_cmp) (take_more candidates i 0 lt) s) ((h.exact x).0 c).0));
    }

    pub matched_skip : (IsDoneBy (get_or candidates i 0) → ⊥) → MatchedTo (take (i + 1) candidates) mid
    matched_skip none = record {
      exact = λ k. (
        λ c. (let (a, b) = (h.exact k).0 c in ((contains_next candidates i 0 k lt).1 (inl a), b)),
        λ (c, b). elim ((contains_next candidates i 0 k lt).0 c) [ inl o ↦ (h.exact k).1 (o, b) | inr s ↦ absurd (none (subst IsDoneBy (sym s) b)) ],
      );
      order = λ s. h.order (prefix s);
    }

-- rules that are done in a row are those of starts that are
pub done_in : (g : FlatGrammar) (row : List Thread) (done : List ℕ) → DoneTo g [] row done → (k : ℕ) → IsDoneBy g done k ↔ IsDoneIn g row k
done_in g row done h k = (
  λ (r, top, c). elim ((h r).0 c) [ inl n ↦ absurd (Contains-none r n) | inr (th, i, m, e) ↦ (th, i, m, top ∙ ap Some (sym e)) ],
  λ (th, i, m, top). (th.rule, top, (h th.rule).1 (inr (th, i, m, refl))),
)

-- they are top rules
pub done_rules : (g : FlatGrammar) (row : List Thread) (done : List ℕ) → DoneTo g [] row done → ((th : Thread) → Contains row th → IsRule g th.rule) → (r : ℕ) → Contains done r → IsRule g r × IsTopRule g r
done_rules g row done h rules r c = elim ((h r).0 c) [
  | inl n ↦ absurd (Contains-none r n)
  | inr (th, i, (dot, label, top), e) ↦ (subst (IsRule g) e (rules th i), subst (IsTopRule g) e top)
]

one_done : (g : FlatGrammar) (rule k s : ℕ) → slice_get g.tops k ≡ Some s → Contains (rule ∷ []) s → slice_get g.tops k ≡ Some rule
one_done g rule k s top (zero, lt, e) = top ∙ ap Some (sym e)
one_done g rule k s top (suc i, lt, e) = absurd (omega arith)

-- one rule alone is done
pub done_alone : (g : FlatGrammar) (done : List ℕ) (d k : ℕ) → length done ≡ 1 → IsDoneBy g done k ↔ (slice_get g.tops k ≡ Some (get_or done 0 d))
done_alone g [] d k e = absurd (omega arith)
done_alone g (rule ∷ []) d k e = ((λ (s, top, c). one_done g rule k s top c), (λ top. (rule, top, (0, omega arith, refl))))
done_alone g (rule ∷ other ∷ more) d k e = absurd (omega arith)

-- the start of a top rule, among some candidates
module _ (g : FlatGrammar) (rule : ℕ) (candidates : List ℕ) where
  abbrev pub AreStartOf : List ℕ → Type 0
  AreStartOf matched = (k : ℕ) → Contains matched k ↔ (Contains candidates k × (slice_get g.tops k ≡ Some rule))

  pub no_start : (matched : List ℕ) → matched ≡ [] → ((k : ℕ) → Contains candidates k → slice_get g.tops k ≡ Some rule → ⊥) → AreStartOf matched
  no_start matched e none k = ((λ h. absurd (Contains-none k (subst (λ l. Contains l k) e h))), (λ (h, top). absurd (none k h top)))

  pub one_start : (matched : List ℕ) (start : ℕ) → matched ≡ start ∷ [] → Contains candidates start → ((k : ℕ) → (slice_get g.tops k ≡ Some rule) ↔ (Some start ≡ Some k)) → AreStartOf matched
  one_start matched start e there tops k = (
    λ h. elim ((contains_pushed [] matched start k e).0 h) [
      | inl n ↦ absurd (Contains-none k n)
      | inr same ↦ (subst (Contains candidates) same there, (tops k).1 (ap Some same))
    ],
    λ (h, top). (contains_pushed [] matched start k e).1 (inr (let same = (tops k).0 top in cc)),
  )

-- one rule alone is done: its start is what is done
pub start_done : (g : FlatGrammar) (done candidates matched : List ℕ) → length done ≡ 1 → AreStartOf g (get_or done 0 0) candidates matched → (k : ℕ) → Contains matched k ↔ (Contains candidates k × IsDoneBy g done k)
start_done g done candidates matched e are k = (
  λ h. (let (a, top) = (are k).0 h in (a, (done_alone g done 0 k e).1 top)),
  λ (a, d). (are k).1 (a, (done_alone g done 0 k e).0 d),
)

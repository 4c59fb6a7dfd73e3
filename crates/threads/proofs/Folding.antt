-- The only thread that waits for a symbol, and rules of starts.
use Rattle.std.proofs.Common.{◌≡◌, inl, inr, ℕ, ◌+◌, ◌<◌, List, [], length, take, get_or, slice_get, Option, Some, None, false, true≢false, Contains, refl, sym, ap, ◌∙◌, subst}
use Rattle.std.specs.Option.{IfSome, is_some}
use Rattle.std.proofs.lemmas.List.Elements.{Contains-get_or}
use Rattle.std.proofs.lemmas.Option.{slice_get-get_or}
use Rattle.finite_sets.proofs.Lists.{Contains-none}
use Rattle.recognizer_model.specs.declared.thread.Thread.{Thread}
use Rattle.recognizer_model.specs.declared.flat.FlatSymbol.{FlatSymbol}
use Rattle.recognizer_model.specs.declared.flat.FlatSymbol.TheVariants.{Terminal, Slot, Sequence, Top}
use Rattle.recognizer_model.specs.declared.flat.FlatSource.TheVariants.{Top as OfStart}
use Rattle.recognizer_model.specs.Flat.{FlatGrammar, IsRule, lhs_of, source_of}
use Rattle.recognizer_model.specs.Invariant.{IsFlat, HasSource}
use Rattle.recognizer_model.specs.Threads.{next, IsTopRule}
use Rattle.threads.specs.Folding.{IsOnly}
use Rattle.threads.proofs.Listing.{contains_next}

module _ (g : FlatGrammar) (row : List Thread) (x : ℕ) where
  -- what was found among some of the row's threads
  abbrev pub OnlyIn : Option Thread → List Thread → Type 0
  OnlyIn None some = (th : Thread) → Contains some th → next g th ≡ Some x → ⊥
  OnlyIn (Some f) some = Contains row f × (next g f ≡ Some x) × ((other : Thread) → Contains some other → next g other ≡ Some x → other ≡ f)

  pub only_none : OnlyIn None []
  only_none th h = absurd (Contains-none th h)

  pub only_skip : (found : Option Thread) (i : ℕ) (d : Thread) → i < length row → OnlyIn found (take i row) → (next g (get_or row i d) ≡ Some x → ⊥) → OnlyIn found (take (i + 1) row)
  only_skip None i d lt h none = λ th c e. elim ((contains_next row i d th lt).0 c) [ inl o ↦ h th o e | inr s ↦ none (subst (λ z. next g z ≡ Some x) (sym s) e) ]
  only_skip (Some f) i d lt h none = (
    h.0,
    h.1,
    λ th c e. elim ((contains_next row i d th lt).0 c) [ inl o ↦ h.2 th o e | inr s ↦ absurd (none (subst (λ z. next g z ≡ Some x) (sym s) e)) ],
  )

  pub only_first : (found : Option Thread) (i : ℕ) (d : Thread) → i < length row → OnlyIn found (take i row) → found ≡ None → next g (get_or row i d) ≡ Some x → OnlyIn (Some (get_or row i d)) (take (i + 1) row)
  only_first (Some f) i d lt h empty e = absurd (cc)
  only_first None i d lt h empty e = (
    Contains-get_or row i d lt,
    e,
    λ th c w. elim ((contains_next row i d th lt).0 c) [ inl o ↦ absurd (h th o w) | inr s ↦ sym s ],
  )

  pub only_done : (found : Option Thread) → OnlyIn found row → IfSome found (IsOnly g row x)
  only_done None h = tt
  only_done (Some f) h = record { inside = h.0; waits = h.1; only = h.2 }

pub none_of : (o : Option Thread) → is_some o ≡ false → o ≡ None
none_of None e = refl
none_of (Some x) e = absurd (true≢false e)

module _ (g : FlatGrammar) (flat : IsFlat g) (r : ℕ) where
  pub top_of_source : (k : ℕ) → IsRule g r → source_of g r ≡ OfStart k → IsTopRule g r
  top_of_source k rule e = go (get_or g.symbols (lhs_of g r) (Top 0)) (slice_get-get_or g.symbols (lhs_of g r) (Top 0) (flat.in_range.left r rule))
    where
      go : (s : FlatSymbol) → slice_get g.symbols (lhs_of g r) ≡ Some s → IsTopRule g r
      go (Terminal t) at = absurd (subst (HasSource (Terminal t)) e (flat.sources r (Terminal t) rule at))
      go (Slot s level) at = absurd (subst (HasSource (Slot s level)) e (flat.sources r (Slot s level) rule at))
      go (Sequence i) at = absurd (subst (HasSource (Sequence i)) e (flat.sources r (Sequence i) rule at))
      go (Top j) at =
          let top = slice_get-get_or g.tops j 0 (flat.all_tops (lhs_of g r) j at) in
          let is = flat.tops j (get_or g.tops j 0) top in
          let same = is.is_top.alone r rule (flat.differ (lhs_of g r) (lhs_of g (get_or g.tops j 0)) (Top j) at is.symbol) in
          (j, top ∙ ap Some (sym same))

  pub source_of_top : IsTopRule g r → (k : ℕ) × (source_of g r ≡ OfStart k)
  source_of_top (k, e) = (k, (flat.tops k r e).source)

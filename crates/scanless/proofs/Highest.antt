-- Lexemes that fit, with one start more, and one of the highest priority.
use Rattle.std.proofs.Common.{◌≡◌, ◌⊎◌, inl, inr, ℕ, ◌≤ℤ◌, List, [], ◌∷◌, ◌++◌, Contains, Option, Some, None, sym, subst}
use Rattle.std.proofs.lemmas.List.Elements.{Contains-append_left, Contains-push, Contains-push_cases}
use Rattle.finite_sets.proofs.Deciding.{most_itself, most_through}
use Rattle.finite_sets.proofs.Lists.{Contains-none}
use Rattle.dsl_build.specs.declared.built.LexemeRow.{LexemeRow as HeldRow}
use Rattle.earley_sets.specs.Recognizer.{Recognizer, IsExpected}
use Rattle.scanless.specs.Pieces.{IsRowAt, IsHighestOf, IsFit}

module _ (recce : Recognizer) (rows : List HeldRow) where
  pub highest_none : IsHighestOf (IsFit recce []) rows None
  highest_none r m (c, x) = Contains-none r.start c

  module _ (starts : List ℕ) (start : ℕ) where
    pub fit_still : (r : HeldRow) → IsFit recce starts r → IsFit recce (starts ++ start ∷ []) r
    fit_still r (c, x) = (Contains-append_left starts (start ∷ []) r.start c, x)

    -- no lexeme of the start fits
    module _ (none : (r : HeldRow) → Contains rows r → r.start ≡ start → IsExpected recce r.symbol → ⊥) where
      pub fit_same : (r : HeldRow) → Contains rows r → IsFit recce (starts ++ start ∷ []) r → IsFit recce starts r
      fit_same r m (c, x) = elim (Contains-push_cases starts start r.start c) [ inl o ↦ (o, x) | inr e ↦ absurd (none r m (sym e) x) ]

      pub highest_same : (o : Option HeldRow) → IsHighestOf (IsFit recce starts) rows o → IsHighestOf (IsFit recce (starts ++ start ∷ [])) rows o
      highest_same None h = λ r m f. h r m (fit_same r m f)
      highest_same (Some h) (m, f, most) = (m, fit_still h f, λ r k g. most r k (fit_same r k g))

    -- one does
    module _ (row : HeldRow) (at : IsRowAt rows start row) (expected : IsExpected recce row.symbol) where
      pub fit_row : IsFit recce (starts ++ start ∷ []) row
      fit_row = (subst (Contains (starts ++ start ∷ [])) (sym at.1) (Contains-push starts start), expected)

      pub fit_more : (r : HeldRow) → Contains rows r → IsFit recce (starts ++ start ∷ []) r → IsFit recce starts r ⊎ (r ≡ row)
      fit_more r m (c, x) = elim (Contains-push_cases starts start r.start c) [ inl o ↦ inl (o, x) | inr e ↦ inr (at.2 r m (sym e)) ]

      pub highest_with : (h m : HeldRow) → (h.priority ≤ℤ m.priority) × (row.priority ≤ℤ m.priority) → (m ≡ h) ⊎ (m ≡ row) → IsHighestOf (IsFit recce starts) rows (Some h) → IsHighestOf (IsFit recce (starts ++ start ∷ [])) rows (Some m)
      highest_with h m (a, b) one (c, f, most) = (
        elim one [ inl same ↦ subst (Contains rows) (sym same) c | inr same ↦ subst (Contains rows) (sym same) at.0 ],
        elim one [ inl same ↦ subst (IsFit recce (starts ++ start ∷ [])) (sym same) (fit_still h f) | inr same ↦ subst (IsFit recce (starts ++ start ∷ [])) (sym same) fit_row ],
        λ r k g. elim (fit_more r k g) [ inl o ↦ most_through r.priority h.priority m.priority (most r k o) a | inr s ↦ subst (λ (z : HeldRow). z.priority ≤ℤ m.priority) (sym s) b ],
      )

      pub highest_first : IsHighestOf (IsFit recce starts) rows None → IsHighestOf (IsFit recce (starts ++ start ∷ [])) rows (Some row)
      highest_first none = (at.0, fit_row, λ r k g. elim (fit_more r k g) [ inl o ↦ absurd (none r k o) | inr s ↦ subst (λ (z : HeldRow). z.priority ≤ℤ row.priority) (sym s) (most_itself row.priority) ])

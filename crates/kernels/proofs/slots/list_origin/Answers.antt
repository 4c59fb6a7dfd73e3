use Rattle.std.proofs.Common.{inl, inr, ◌++◌, ◌∷◌, [], sym, subst, List, ℕ, Contains}
use Rattle.std.proofs.lemmas.List.Elements.{Contains-append_left, Contains-push}
use Rattle.kernels.proofs.slots.list_origin.Goals as goal

pub returns-then-is_among_few : goal.returns-then-is_among_few
returns-then-is_among_few c o s = elim s [
  | inl h ↦ h
  | inr same ↦ subst (Contains c.args.origins.now.items) same (subst (λ (l : List ℕ). Contains l c.args.origin) c.deref.ensures.value (c.is_among_few.ensures c.if-is_among_few.true))
]

pub returns : goal.returns
returns c o s = subst (λ (l : List ℕ). Contains l o) (sym c.in_ok-push.ensures.items) (elim s [
  | inl h ↦ Contains-append_left c.args.origins.now.items (c.args.origin ∷ []) o h
  | inr same ↦ subst (Contains (c.args.origins.now.items ++ c.args.origin ∷ [])) same (Contains-push c.args.origins.now.items c.args.origin)
])

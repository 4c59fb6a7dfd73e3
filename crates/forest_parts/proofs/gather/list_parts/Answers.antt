use Rattle.std.proofs.Common.{◌≡◌, ◌↔◌, inl, inr, List, Contains, sym, subst}
use Rattle.finite_sets.proofs.Lists.{Contains-none}
use Rattle.grammar_model.specs.declared.Edge.{Edge}
use Rattle.forest_parts.specs.declared.parts.Part.{Part}
use Rattle.forest_parts.proofs.gather.list_parts.Goals as goal

pub put_edges-requires : goal.put_edges-requires
put_edges-requires c e h =
    c.requires.is.forward e (subst (λ (l : List Edge). Contains l e) c.edges.ensures ((c.in_ok-list_to.ensures.exact e).0 (subst (λ (l : List Edge). Contains l e) c.deref.ensures.value h)).0)

pub returns-clause-exact : goal.returns-clause-exact
returns-clause-exact c =
    let listed : (e : Edge) → Contains c.deref.result.now e ↔ (Contains c.args.recce.now.edges e × (e.to ≡ c.args.end)) = λ e. (
      λ h. (let (a, b) = (c.in_ok-list_to.ensures.exact e).0 (subst (λ (l : List Edge). Contains l e) c.deref.ensures.value h) in (subst (λ (l : List Edge). Contains l e) c.edges.ensures a, b)),
      λ (a, b). subst (λ (l : List Edge). Contains l e) (sym c.deref.ensures.value) ((c.in_ok-list_to.ensures.exact e).1 (subst (λ (l : List Edge). Contains l e) (sym c.edges.ensures) a, b)),
    ) in
    λ p. (
    let same = c.sort.ensures.same in (
      λ h. elim ((c.in_ok-put_wholes.ensures p).0 ((same p).0 h)) [
        | inl o ↦ elim ((c.in_ok-put_edges.ensures p).0 o) [ inl n ↦ absurd (Contains-none p (subst (λ (l : List Part). Contains l p) c.clear.ensures.items n)) | inr (e, a, q) ↦ inl (e, (listed e).0 a, q) ]
        | inr q ↦ inr q
      ],
      λ h. (same p).1 (elim h [
        | inl (e, a, q) ↦ (c.in_ok-put_wholes.ensures p).1 (inl ((c.in_ok-put_edges.ensures p).1 (inr (e, (listed e).1 a, q))))
        | inr q ↦ (c.in_ok-put_wholes.ensures p).1 (inr q)
      ]),
    ))

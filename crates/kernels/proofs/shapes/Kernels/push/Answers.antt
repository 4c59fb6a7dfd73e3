use Rattle.std.proofs.Common.{◌∙◌, ◌++◌, ◌∷◌, [], ℕ, List, sym, ap, subst}
use Rattle.finite_sets.proofs.Clauses.{on_err}
use Rattle.kernels.specs.Shapes.{kernels_of, AreShaped}
use Rattle.kernels.proofs.Shaping.{shaped_still, kernels_still}
use Rattle.kernels.proofs.Guessing.{shaped_of_shape, kernels_of_shape}
use Rattle.kernels.proofs.shapes.Kernels.push.Goals as goal

pub invariant_of-self : goal.invariant_of-self
invariant_of-self c = shaped_still c.self.inside.shapes.keys c.kind_of.new.shapes.keys c.kind_of.ensures.kept c.self.inside.kinds.items c.self.inside.origins c.self.invariant

pub returns-in_err-kind-clause-err : goal.returns-in_err-kind-clause-err
returns-in_err-kind-clause-err c =
    on_err c.from_residual.result
    (kernels_still c.self.inside.shapes.keys c.kind_of.new.shapes.keys c.kind_of.ensures.kept c.self.inside.kinds.items c.self.inside.origins c.self.invariant ∙ c.self.view_is)

pub invariant_of-self-in_err-reserve : goal.invariant_of-self-in_err-reserve
invariant_of-self-in_err-reserve c =
    subst (λ (l : List ℕ). AreShaped c.kind_of.new.shapes.keys l c.self.inside.origins) (sym c.reserve.ensures.items)
    (shaped_still c.self.inside.shapes.keys c.kind_of.new.shapes.keys c.kind_of.ensures.kept c.self.inside.kinds.items c.self.inside.origins c.self.invariant)

pub returns-in_err-reserve-clause-err : goal.returns-in_err-reserve-clause-err
returns-in_err-reserve-clause-err c =
    on_err c.from_residual-in_err-reserve.result
    (ap (λ (l : List ℕ). kernels_of c.kind_of.new.shapes.keys l c.self.inside.origins) c.reserve.ensures.items
    ∙ (kernels_still c.self.inside.shapes.keys c.kind_of.new.shapes.keys c.kind_of.ensures.kept c.self.inside.kinds.items c.self.inside.origins c.self.invariant ∙ c.self.view_is))

pub invariant_of-self-in_err-push : goal.invariant_of-self-in_err-push
invariant_of-self-in_err-push c =
    subst (λ (o : List (List ℕ)). AreShaped c.kind_of.new.shapes.keys c.reserve.new.self.items o) (sym c.in_err-push.ensures.err)
    (subst (λ (l : List ℕ). AreShaped c.kind_of.new.shapes.keys l c.self.inside.origins) (sym c.reserve.ensures.items)
    (shaped_still c.self.inside.shapes.keys c.kind_of.new.shapes.keys c.kind_of.ensures.kept c.self.inside.kinds.items c.self.inside.origins c.self.invariant))

pub returns-in_err-push-clause-err : goal.returns-in_err-push-clause-err
returns-in_err-push-clause-err c =
    on_err c.from_residual-in_err-push.result
    ((λ i. kernels_of c.kind_of.new.shapes.keys (c.reserve.ensures.items i) (c.in_err-push.ensures.err i))
    ∙ (kernels_still c.self.inside.shapes.keys c.kind_of.new.shapes.keys c.kind_of.ensures.kept c.self.inside.kinds.items c.self.inside.origins c.self.invariant ∙ c.self.view_is))

pub invariant_of-self-2 : goal.invariant_of-self-2
invariant_of-self-2 c =
    subst (λ (o : List (List ℕ)). AreShaped c.kind_of.new.shapes.keys c.push_reserved.new.self.items o) (sym (c.in_ok-push.ensures.ok ∙ ap (λ (l : List ℕ). c.self.inside.origins ++ l ∷ []) c.deref-2.ensures.value))
    (subst (λ (l : List ℕ). AreShaped c.kind_of.new.shapes.keys l (c.self.inside.origins ++ c.kind_of.new.origins.items ∷ [])) (sym (c.push_reserved.ensures.items ∙ ap (λ (l : List ℕ). l ++ c.in_ok-kind.kind ∷ []) c.reserve.ensures.items))
    (shaped_of_shape c.kind_of.new.shapes.keys c.in_ok-kind.kind c.args.begun c.args.packed.now c.kind_of.new.origins.items c.in_ok-kind.ensures.shape c.self.inside.kinds.items c.self.inside.origins
    (shaped_still c.self.inside.shapes.keys c.kind_of.new.shapes.keys c.kind_of.ensures.kept c.self.inside.kinds.items c.self.inside.origins c.self.invariant)))

pub returns-clause-ok : goal.returns-clause-ok
returns-clause-ok c = (
  c.in_ok-kind.kind,
  (λ i. kernels_of c.kind_of.new.shapes.keys ((c.push_reserved.ensures.items ∙ ap (λ (l : List ℕ). l ++ c.in_ok-kind.kind ∷ []) c.reserve.ensures.items) i) ((c.in_ok-push.ensures.ok ∙ ap (λ (l : List ℕ). c.self.inside.origins ++ l ∷ []) c.deref-2.ensures.value) i))
      ∙ (kernels_of_shape c.kind_of.new.shapes.keys c.in_ok-kind.kind c.args.begun c.args.packed.now c.kind_of.new.origins.items c.in_ok-kind.ensures.shape c.self.inside.kinds.items c.self.inside.origins
      (shaped_still c.self.inside.shapes.keys c.kind_of.new.shapes.keys c.kind_of.ensures.kept c.self.inside.kinds.items c.self.inside.origins c.self.invariant)
      ∙ ap (λ l. l ++ (record { begun = c.args.begun; packed = c.args.packed.now; kind = c.in_ok-kind.kind }) ∷ [])
      (kernels_still c.self.inside.shapes.keys c.kind_of.new.shapes.keys c.kind_of.ensures.kept c.self.inside.kinds.items c.self.inside.origins c.self.invariant ∙ c.self.view_is)),
)

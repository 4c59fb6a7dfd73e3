use Rattle.std.proofs.Common.{◌<◌, ◌∙◌, ℕ, List, length, sym, ap, subst}
use Rattle.std.specs.Prelude.{slice_index_or}
use Rattle.std.proofs.lemmas.Bool.{eqb-true, eq-eqb}
use Rattle.kernels.proofs.Shaping.{in_kinds, kind_here, same_begun, same_dotted}
use Rattle.kernels.proofs.shapes.Kernels.is_alike.Goals as goal

pub kind_at-requires : goal.kind_at-requires
kind_at-requires c = subst (λ (l : List ℕ). c.args.i < length l) (sym c.deref.ensures.value) (in_kinds c.self.inside.shapes.keys c.self.inside.kinds.items c.self.inside.origins c.args.self.now c.self.invariant c.self.view_is c.args.i c.requires.first)

pub kind_at-requires-2 : goal.kind_at-requires-2
kind_at-requires-2 c = subst (λ (l : List ℕ). c.args.j < length l) (sym c.deref-2.ensures.value) (in_kinds c.self.inside.shapes.keys c.self.inside.kinds.items c.self.inside.origins c.args.self.now c.self.invariant c.self.view_is c.args.j c.requires.second)

pub returns-clause-exact : goal.returns-clause-exact
returns-clause-exact c =
    let a = c.kind_at.ensures ∙ (ap (λ (l : List ℕ). slice_index_or l c.args.i 0) c.deref.ensures.value ∙ kind_here c.self.inside.shapes.keys c.self.inside.kinds.items c.self.inside.origins c.args.self.now c.self.invariant c.self.view_is c.args.i c.requires.first) in
    let b = c.kind_at-2.ensures ∙ (ap (λ (l : List ℕ). slice_index_or l c.args.j 0) c.deref-2.ensures.value ∙ kind_here c.self.inside.shapes.keys c.self.inside.kinds.items c.self.inside.origins c.args.self.now c.self.invariant c.self.view_is c.args.j c.requires.second) in
    (λ t. sym a ∙ (eqb-true _ _ t ∙ b), λ e. eq-eqb _ _ (a ∙ (e ∙ sym b)))

pub returns-clause-begun : goal.returns-clause-begun
returns-clause-begun c t =
    let a = c.kind_at.ensures ∙ (ap (λ (l : List ℕ). slice_index_or l c.args.i 0) c.deref.ensures.value ∙ kind_here c.self.inside.shapes.keys c.self.inside.kinds.items c.self.inside.origins c.args.self.now c.self.invariant c.self.view_is c.args.i c.requires.first) in
    let b = c.kind_at-2.ensures ∙ (ap (λ (l : List ℕ). slice_index_or l c.args.j 0) c.deref-2.ensures.value ∙ kind_here c.self.inside.shapes.keys c.self.inside.kinds.items c.self.inside.origins c.args.self.now c.self.invariant c.self.view_is c.args.j c.requires.second) in
    same_begun c.self.inside.shapes.keys c.self.inside.kinds.items c.self.inside.origins c.args.self.now c.self.invariant c.self.view_is c.args.i c.args.j c.requires.first c.requires.second (sym a ∙ (eqb-true _ _ t ∙ b))

pub returns-clause-dotted : goal.returns-clause-dotted
returns-clause-dotted c t =
    let a = c.kind_at.ensures ∙ (ap (λ (l : List ℕ). slice_index_or l c.args.i 0) c.deref.ensures.value ∙ kind_here c.self.inside.shapes.keys c.self.inside.kinds.items c.self.inside.origins c.args.self.now c.self.invariant c.self.view_is c.args.i c.requires.first) in
    let b = c.kind_at-2.ensures ∙ (ap (λ (l : List ℕ). slice_index_or l c.args.j 0) c.deref-2.ensures.value ∙ kind_here c.self.inside.shapes.keys c.self.inside.kinds.items c.self.inside.origins c.args.self.now c.self.invariant c.self.view_is c.args.j c.requires.second) in
    same_dotted c.self.inside.shapes.keys c.self.inside.kinds.items c.self.inside.origins c.args.self.now c.self.invariant c.self.view_is c.args.i c.args.j c.requires.first c.requires.second (sym a ∙ (eqb-true _ _ t ∙ b))

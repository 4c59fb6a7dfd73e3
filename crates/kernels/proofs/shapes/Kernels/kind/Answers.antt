use Rattle.std.proofs.Common.{◌<◌, ◌∙◌, ℕ, List, length, sym, ap, subst}
use Rattle.std.specs.Prelude.{slice_index_or}
use Rattle.kernels.proofs.Shaping.{in_kinds, kind_here}
use Rattle.kernels.proofs.shapes.Kernels.kind.Goals as goal

pub kind_at-requires : goal.kind_at-requires
kind_at-requires c = subst (λ (l : List ℕ). c.args.j < length l) (sym c.deref.ensures.value) (in_kinds c.self.inside.shapes.keys c.self.inside.kinds.items c.self.inside.origins c.args.self.now c.self.invariant c.self.view_is c.args.j c.requires)

pub returns : goal.returns
returns c = c.kind_at.ensures ∙ (ap (λ (l : List ℕ). slice_index_or l c.args.j 0) c.deref.ensures.value ∙ kind_here c.self.inside.shapes.keys c.self.inside.kinds.items c.self.inside.origins c.args.self.now c.self.invariant c.self.view_is c.args.j c.requires)

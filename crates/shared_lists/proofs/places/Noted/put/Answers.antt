use Rattle.std.proofs.Common.{inl, inr, ◌∙◌, ap, subst, List, arith, length, length-append, [], ◌∷◌}
use Rattle.std.specs.declared.vec.Vec.{Vec}
use Rattle.std.specs.declared.alloc.Global.{Global}
use Rattle.shared_lists.specs.declared.places.Places.{Places}
use Rattle.shared_lists.specs.Placed.{HasPlaces}
use Rattle.shared_lists.proofs.Placing.{none_more, put_block}
use Rattle.shared_lists.proofs.places.Noted.put.Goals as goal

pub returns-in_err-push : goal.returns-in_err-push
returns-in_err-push c k x p h = inl (c.loop.invariant.1 k x p (subst (λ (l : List (Vec Places Global)). HasPlaces l k x p) c.in_err-push.ensures.items h))

pub loop-preserved : goal.loop-preserved
loop-preserved c = (
  (let grown = ap length c.in_ok-push.ensures.items ∙ length-append c.loop.self.blocks.items (c.new.result ∷ []) in let i = c.loop.invariant.0 in omega arith),
  λ k x p h. c.loop.invariant.1 k x p (none_more c.loop.self.blocks.items c.push.new.self.items c.new.result c.in_ok-push.ensures.items c.new.ensures.items k x p h),
)

pub returns : goal.returns
returns c k x p h = elim (put_block c.loop.self.blocks.items c.args.kind c.args.block k x p h) [
  | inl o ↦ inl (c.loop.invariant.1 k x p o)
  | inr new ↦ inr new
]

use Rattle.std.proofs.Common.{◌≡◌, ℕ, List, Option, Some, slice_get, subst}
use Rattle.lexer.proofs.ClassLists.{none_pushed}
use Rattle.lexer.proofs.classes.no_classes.Goals as goal

pub loop-preserved : goal.loop-preserved
loop-preserved c i k e = none_pushed c.loop.ascii.items c.loop.invariant i k (subst (λ (l : List (Option ℕ)). slice_get l i ≡ Some (Some k)) c.in_ok-push.ensures.items e)

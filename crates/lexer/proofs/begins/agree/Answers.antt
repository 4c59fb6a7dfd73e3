use Rattle.std.proofs.Common.{◌≡◌, arith, refl, ap, subst, length, slice_index_or, ℕ, List}
use Rattle.lexer.proofs.Agreeing.{Agree, agree_more, agree_all}
use Rattle.lexer.proofs.begins.agree.Goals as goal

pub loop-k-init : goal.loop-k-init
loop-k-init c = (λ h. λ j lt. absurd (omega (arith, lt)), λ h. refl)

pub loop-k-preserved : goal.loop-k-preserved
loop-k-preserved c = agree_more c.args.list.now c.args.starts.now c.loop-k.k c.loop-k.same c.loop-k.invariant

pub returns : goal.returns
returns c =
    let end : c.loop-k.k ≡ length c.args.list.now = omega (arith, c.loop-k-test.false, c.loop-k.auto.k-end) in (
      λ h. agree_all c.args.list.now c.args.starts.now c.requires (subst (Agree c.args.list.now c.args.starts.now) end (c.loop-k.invariant.0 h)),
      λ same. c.loop-k.invariant.1 (λ j lt. ap (λ (l : List ℕ). slice_index_or l j 0) same),
    )

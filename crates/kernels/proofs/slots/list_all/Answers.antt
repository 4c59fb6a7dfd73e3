use Rattle.std.proofs.Common.{◌%◌, inl, inr, ℕ, List, Contains, refl, sym, subst, arith}
use Rattle.std.specs.Prelude.{slice_index_or}
use Rattle.std.proofs.lemmas.List.{take_all}
use Rattle.kernels.proofs.Slotting.{more_listed}
use Rattle.kernels.proofs.slots.list_all.Goals as goal

pub loop-n-init : goal.loop-n-init
loop-n-init c n (k, lt, e) = absurd (omega arith)

pub loop-n-preserved : goal.loop-n-preserved
loop-n-preserved c =
    more_listed c.args.packed.now c.loop-n.origins.items c.list_origin.new.origins.items c.loop-n.n-index c.loop-n.invariant c.loop-n-test.true (λ o h. c.in_ok-list_origin.ensures o (inl h))
    (c.in_ok-list_origin.ensures (slice_index_or c.args.packed.now c.loop-n.n-index 0 % 4294967296) (inr refl))

pub returns : goal.returns
returns c n h = c.loop-n.invariant n (subst (λ (l : List ℕ). Contains l n) (sym (take_all c.loop-n.n-index c.args.packed.now c.loop-n-test.false)) h)

use Rattle.std.proofs.Common.{arith, ◌≡◌, ℕ, suc, ◌<◌, ◌≤◌, ◌+◌, ◌-◌, subst, sym, ap, slice_index, length, get_or}
use Rattle.grammar_check.specs.Links.{IsLeastPath}
use Rattle.grammar_check.proofs.Choosing.{Partway, partway_some, partway_more, partway_end}
use Rattle.grammar_check.proofs.shortest.path_of.Goals as goal

pub loop-k-init : goal.loop-k-init
loop-k-init c = record {
  sized = ap length c.in_ok-path.ensures.items;
  first = ap (λ l. get_or l 0 0) c.in_ok-path.ensures.items;
  now = ap (λ l. get_or l 0 0) c.in_ok-path.ensures.items;
  here = subst (λ n. (j : ℕ) × (slice_index c.args.starts.now n ≤ j) × (j < slice_index c.args.starts.now (suc n)) × (slice_index c.args.found.now j ≡ c.args.to)) (let z : c.args.layer ≡ c.args.layer - 0 = omega arith in z) c.requires.here;
  steps = λ i lt. absurd (omega (arith, lt));
  least = λ i t lt. absurd (omega (arith, lt));
}

pub least_next-x-requires-clause-some : goal.least_next-x-requires-clause-some
least_next-x-requires-clause-some c = partway_some c.args.rows.now c.args.floors.now c.args.to c.args.found.now c.args.starts.now c.requires.layers c.args.layer c.requires.layer c.loop-k.k c.loop-k.path.items c.loop-k.x c.loop-k.invariant c.loop-k-test.true

pub loop-k-preserved : goal.loop-k-preserved
loop-k-preserved c = subst (λ l. Partway c.args.rows.now c.args.floors.now c.args.to c.args.found.now c.args.starts.now c.args.layer (c.loop-k.k + 1) l c.least_next-x.result) (sym c.in_ok-push.ensures.items)
    (partway_more c.args.rows.now c.args.floors.now c.args.to c.args.found.now c.args.starts.now c.requires.layers c.args.layer c.requires.layer c.loop-k.k c.loop-k.path.items c.loop-k.x c.loop-k.invariant c.least_next-x.result c.loop-k-test.true c.least_next-x.ensures)

pub returns : goal.returns
returns c =
    let e : c.loop-k.k ≡ c.args.layer = omega (arith, c.loop-k-test.false, c.loop-k.auto.k-end) in
    subst (λ l. IsLeastPath c.args.rows.now c.args.floors.now c.args.to (suc c.args.layer) l) (sym c.in_ok-push-2.ensures.items)
    (partway_end c.args.rows.now c.args.floors.now c.args.to c.args.found.now c.args.starts.now c.requires.layers c.args.layer c.requires.layer c.loop-k.k c.loop-k.path.items c.loop-k.x c.loop-k.invariant e c.requires.here)

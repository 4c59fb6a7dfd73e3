use Rattle.std.proofs.Common.{arith, ◌≡◌, ◌+◌, sym, ap, ◌∙◌, slice_index, length, refl, suc}
use Rattle.grammar_check.proofs.Linking.{filled_more}
use Rattle.grammar_check.proofs.table.homes_of.Goals as goal

pub loop-s-preserved : goal.loop-s-preserved
loop-s-preserved c =
    let lt = c.loop-s-test.true in
    let next = ap (slice_index c.args.bases.now) (let z : suc c.loop-s.s ≡ c.loop-s.s + 1 = omega arith in z) in
    let size : length c.loop-s.homes.items ≡ slice_index c.args.bases.now c.loop-s.s = c.loop-s.invariant.sized in
    let size' : length c.resize.new.self.items ≡ slice_index c.args.bases.now (c.loop-s.s + 1) = omega (arith, c.in_ok-resize.ensures.len) in
    record {
      sized = size';
      home = filled_more (λ n. n) c.args.w.now c.args.bases.now c.loop-s.homes.items c.resize.new.self.items c.loop-s.s c.requires (omega (arith, lt, c.symbol_count-s-end.ensures.count)) size (size' ∙ sym next)
          (λ k d a b. c.in_ok-resize.ensures.by_index.0 k d (omega (arith, a, next)) (omega (arith, b))) (λ k d a b. c.in_ok-resize.ensures.by_index.1 k d refl (omega (arith, a)) (omega (arith, b, next))) c.loop-s.invariant.home;
    }

pub returns : goal.returns
returns c =
    let same : c.loop-s.s ≡ length c.args.w.now.names = (let done = c.loop-s-test.false in let count = c.symbol_count-s-end.ensures.count in omega arith) in
    record {
      sized = c.loop-s.invariant.sized ∙ ap (slice_index c.args.bases.now) same;
      home = λ s x lt a b. c.loop-s.invariant.home s x (omega (arith, lt, same)) a b;
    }

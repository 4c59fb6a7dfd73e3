use Rattle.std.proofs.Common.{arith, ◌≡◌, ℕ, ◌+◌, List, [], ◌∷◌, ◌++◌, subst, sym, ap, ◌∙◌, slice_index, length, length-append}
use Rattle.grammar_check.specs.Links.{Step, StepsInto, Gains, AreLayers}
use Rattle.grammar_check.proofs.Layering.{layers_first, turn_order, turn_closed, turn_more, all_known, step_known}
use Rattle.grammar_check.proofs.layers.add_layers.Goals as goal

pub loop-n-init : goal.loop-n-init
loop-n-init c =
    let g = subst (λ old. Gains old c.spread.new.found (λ x. Step c.args.rows.now c.args.floors.now x c.args.to)) c.requires.none c.in_ok-spread.ensures.gains in
    record {
      sized = ap length c.requires.first;
      layers = subst (λ (s : List ℕ). AreLayers c.args.rows.now c.args.floors.now c.args.to c.spread.new.found (s ++ length c.spread.new.found ∷ [])) (sym c.requires.first)
          (layers_first c.args.rows.now c.args.floors.now c.args.to c.spread.new.found g);
      known = all_known [] c.spread.new.found (λ x. Step c.args.rows.now c.args.floors.now x c.args.to) (length c.args.rows.now) g
          (λ x s. let k = step_known c.args.rows.now c.args.floors.now x c.args.to c.requires.rows s in omega (arith, k, c.requires.sized)) (λ k d lt. absurd (omega (arith, lt)));
      down = c.in_ok-spread.ensures.down;
    }

pub returns-then-from-end-clause-all : goal.returns-then-from-end-clause-all
returns-then-from-end-clause-all c = turn_closed c.args.rows.now c.args.floors.now c.args.to c.loop-n.found c.loop-n.starts.items c.loop-n.n c.index-from.result.now c.loop-n.invariant.layers c.loop-n.invariant.sized c.index-from.ensures
    (c.if-from-end.true ∙ c.len-end.ensures)

pub grow-requires-clause-order : goal.grow-requires-clause-order
grow-requires-clause-order c =
    let h = turn_order c.args.rows.now c.args.floors.now c.args.to c.loop-n.found c.loop-n.starts.items c.loop-n.n c.index-from.result.now c.loop-n.invariant.layers c.loop-n.invariant.sized c.index-from.ensures in
    let e : c.len-end.result ≡ length c.loop-n.found = c.len-end.ensures in
    omega (arith, h, e)

pub loop-n-preserved : goal.loop-n-preserved
loop-n-preserved c =
    let keys = c.loop-n.found in
    let e : c.len-end.result ≡ length c.loop-n.found = c.len-end.ensures in
    let pushed : c.push.new.self.items ≡ c.loop-n.starts.items ++ length c.loop-n.found ∷ [] = c.in_ok-push.ensures.items ∙ ap (λ m. c.loop-n.starts.items ++ m ∷ []) e in
    let g = subst (λ m. Gains c.loop-n.found c.grow.new.found (StepsInto c.args.rows.now c.args.floors.now c.loop-n.found c.index-from.result.now m)) e c.in_ok-grow.ensures.gains in
    record {
      sized = ap length pushed ∙ (length-append c.loop-n.starts.items (length c.loop-n.found ∷ []) ∙ (let z : length c.loop-n.starts.items + 1 ≡ c.loop-n.n + 1 + 1 = omega (arith, c.loop-n.invariant.sized) in z));
      layers = subst (λ (s : List ℕ). AreLayers c.args.rows.now c.args.floors.now c.args.to c.grow.new.found (s ++ length c.grow.new.found ∷ [])) (sym pushed)
          (turn_more c.args.rows.now c.args.floors.now c.args.to c.loop-n.found c.loop-n.starts.items c.loop-n.n c.index-from.result.now c.loop-n.invariant.layers c.loop-n.invariant.sized c.index-from.ensures c.grow.new.found g);
      known = all_known c.loop-n.found c.grow.new.found (StepsInto c.args.rows.now c.args.floors.now c.loop-n.found c.index-from.result.now (length c.loop-n.found)) (length c.args.rows.now) g
          (λ x (j, a, b, s). let k = step_known c.args.rows.now c.args.floors.now x (slice_index c.loop-n.found j) c.requires.rows s in omega (arith, k, c.requires.sized)) c.loop-n.invariant.known;
      down = c.in_ok-grow.ensures.down;
    }

use Rattle.std.proofs.Common.{◌≡◌, ℕ}
use Rattle.std.specs.Prelude.{Result, Ok, Err, IfOk}
use Rattle.std.specs.declared.alloc.AllocError.{AllocError}
use Rattle.kernels.specs.Shapes.{IsShapeAt}
use Rattle.kernels.proofs.Shaping.{found_shape, stored_shape, shapes_kept}
use Rattle.kernels.proofs.shapes.number_of.Goals as goal

pub returns-in-Some-clause-number : goal.returns-in-Some-clause-number
returns-in-Some-clause-number c = go c.number.result c.number.ensures.ok
  where
    go : (r : Result ℕ AllocError) → IfOk r (λ n. n ≡ c.in-Some.at) → IfOk r (λ n. IsShapeAt c.args.shapes.now.keys c.args.shape.now n)
    go (Ok n) e = found_shape c.args.shapes.now.keys c.args.shape.now n c.in-Some.at c.in-Some.ensures.index e
    go (Err f) e = tt

pub returns-clause-number : goal.returns-clause-number
returns-clause-number c = go c.number-2.result c.number-2.ensures.ok
  where
    go : (r : Result ℕ AllocError) → IfOk r (λ n. n ≡ c.in_ok-at.at) → IfOk r (λ n. IsShapeAt c.insert_full.new.self.keys c.args.shape.now n)
    go (Ok n) e = stored_shape c.insert_full.new.self.keys c.in_ok-copy.copy c.args.shape.now n c.in_ok-at.at c.in_ok-at.ensures.stored c.in_ok-copy.ensures.begun c.in_ok-copy.ensures.slotted e
    go (Err f) e = tt

pub returns-clause-kept : goal.returns-clause-kept
returns-clause-kept c = shapes_kept c.args.shapes.now.keys c.insert_full.new.self.keys c.in_ok-copy.copy c.in_ok-at.ensures.keys

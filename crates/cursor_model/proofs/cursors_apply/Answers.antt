use Rattle.std.proofs.Common.{refl, arith}
use Rattle.cursor_model.proofs.cursors_apply.Goals as goal

pub returns : goal.returns
returns c = record {
  within = omega arith;
  end = 1;
  laid = (refl, refl, omega arith, (1, (0, refl, (refl, refl, refl)), (refl, refl)));
  small = (omega arith, (omega arith, ((omega arith, omega arith), tt)));
  is = refl;
}

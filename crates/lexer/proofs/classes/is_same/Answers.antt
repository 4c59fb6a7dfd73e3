use Rattle.std.proofs.lemmas.Bool.Decides.{Decides-eqb}
use Rattle.std.proofs.lemmas.Slice.Eq.{slice_eq-Decides}
use Rattle.lexer.proofs.classes.is_same.Goals as goal

pub returns : goal.returns
returns c = slice_eq-Decides Decides-eqb c.args.row.now c.args.terminals.now c.eq.result c.eq.ensures

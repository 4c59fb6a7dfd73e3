use Rattle.lexer.proofs.Matching.{matches_are_the_grammars}
use Rattle.lexer.proofs.matches_are_the_grammars.Goals as goal

pub returns : goal.returns
returns c = matches_are_the_grammars c.flat_grammars_are_flat_forms.ensures

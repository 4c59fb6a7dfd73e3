use Rattle.std.proofs.Common.{subst, sym}
use Rattle.lexer.specs.Lexical.{LexicalForm}
use Rattle.lexer.specs.Terminals.{IsClassOf}
use Rattle.lexer.proofs.machine.bind.Goals as goal

pub bind-requires : goal.bind-requires
bind-requires c = λ code k noted. subst (λ (l : LexicalForm). IsClassOf l.sets c.args.machine.classes.rows code k) (sym c.l0.view_is) (c.requires.classes code k noted)

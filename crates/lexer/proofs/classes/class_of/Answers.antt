use Rattle.std.proofs.Common.{sym, subst, ◌∙◌}
use Rattle.lexer.specs.Terminals.{AreTerminalsOf}
use Rattle.lexer.proofs.ClassLists.{rows_added}
use Rattle.lexer.proofs.classes.class_of.Goals as goal

pub returns-in_err-class-clause-grown : goal.returns-in_err-class-clause-grown
returns-in_err-class-clause-grown c = rows_added c.args.rows.now c.place_of.new.rows c.deref.result.now c.in_err-class.ensures.added

pub returns-clause-grown : goal.returns-clause-grown
returns-clause-grown c = rows_added c.args.rows.now c.place_of.new.rows c.deref.result.now c.in_ok-class.ensures.added

pub returns-clause-class : goal.returns-clause-class
returns-clause-class c = record {
  there = c.in_ok-class.ensures.there;
  exact = subst (AreTerminalsOf c.args.sets.now c.args.c) (sym (c.in_ok-class.ensures.row ∙ c.deref.ensures.value)) c.in_ok-list_terminals.ensures;
}

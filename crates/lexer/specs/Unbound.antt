-- A lexer without the lexical grammar that it lends from.
use Rattle.std.specs.Prelude.{◌≡◌, ℕ, Some, List, slice_get}
use Rattle.language_model.specs.Classes.{Class}
use Rattle.lexer.specs.Lexical.{LexicalForm}
use Rattle.lexer.specs.Machines.{AreStates}
use Rattle.lexer.specs.Terminals.{IsClassOf}
use Rattle.lexer.specs.declared.classes.UnboundClasses.{UnboundClasses}
use Rattle.lexer.specs.declared.lexer.UnboundLexer.{UnboundLexer}
use Rattle.lexer.specs.declared.machine.UnboundMachine.{UnboundMachine}

-- the classes that are noted are those of these sets
abbrev pub AreClassesOf : List (ℕ × Class) → UnboundClasses → Type 0
AreClassesOf sets t = (c k : ℕ) → slice_get t.ascii.items c ≡ Some (Some k) → IsClassOf sets t.rows c k

-- what is noted is so of the lexical grammar
pub record IsMachineOf (l : LexicalForm) (m : UnboundMachine) : Type 0 where
  pub classes : AreClassesOf l.sets m.classes
  pub states : AreStates l.flat m.classes.rows m.parts m.rows m.kinds.items m.next.items m.begins

abbrev pub IsLexerOver : LexicalForm → UnboundLexer → Type 0
IsLexerOver l u = IsMachineOf l u.machine

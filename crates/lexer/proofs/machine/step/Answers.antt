use Rattle.std.proofs.Common.{ℕ, List, sym, subst}
use Rattle.lexer.specs.Terminals.{ClassRows, AreTerminalsOf}
use Rattle.jagged.specs.Rows.{row_at}
use Rattle.lexer.specs.Machines.{IsNoted}
use Rattle.lexer.proofs.Machines.{with_classes, made_classes}
use Rattle.lexer.proofs.ReadOn.{goes_on}
use Rattle.lexer.proofs.machine.step.Goals as goal

pub returns-in_err-class-clause-goes : goal.returns-in_err-class-clause-goes
returns-in_err-class-clause-goes c = made_classes c.args.machine.now c.requires.is c.class.new.self c.in_err-class.ensures.sets c.in_err-class.ensures.grown

pub returns-in-Some-clause-goes : goal.returns-in-Some-clause-goes
returns-in-Some-clause-goes c = made_classes c.args.machine.now c.requires.is c.class.new.self c.in_ok-class.ensures.sets c.in_ok-class.ensures.grown

pub returns-in-Some-clause-there : goal.returns-in-Some-clause-there
returns-in-Some-clause-there c =
    (c.requires.is.next c.args.state c.in_ok-class.class c.in-Some.to c.in-Some.ensures.class (subst (λ (l : List ℕ). IsNoted l c.args.state c.in_ok-class.class c.in-Some.to) c.deref.ensures.value c.in-Some.ensures.noted)).to

pub returns-in-Some-clause-steps : goal.returns-in-Some-clause-steps
returns-in-Some-clause-steps c = (
  row_at c.class.new.self.rows c.in_ok-class.class,
  c.in_ok-class.ensures.class.exact,
  ((with_classes c.args.machine.now c.requires.is c.class.new.self c.in_ok-class.ensures.sets c.in_ok-class.ensures.grown).next c.args.state c.in_ok-class.class c.in-Some.to c.in-Some.ensures.class
      (subst (λ (l : List ℕ). IsNoted l c.args.state c.in_ok-class.class c.in-Some.to) c.deref.ensures.value c.in-Some.ensures.noted)).steps,
)

pub make-requires-clause-is : goal.make-requires-clause-is
make-requires-clause-is c = with_classes c.args.machine.now c.requires.is c.class.new.self c.in_ok-class.ensures.sets c.in_ok-class.ensures.grown

pub returns-in_err-made-in-None-clause-goes : goal.returns-in_err-made-in-None-clause-goes
returns-in_err-made-in-None-clause-goes c =
    goes_on c.args.machine.now _ c.make.new.machine (made_classes c.args.machine.now c.requires.is c.class.new.self c.in_ok-class.ensures.sets c.in_ok-class.ensures.grown) c.in_err-made-in-None.ensures.goes

pub returns-in_ok-made-in-None-clause-goes : goal.returns-in_ok-made-in-None-clause-goes
returns-in_ok-made-in-None-clause-goes c =
    goes_on c.args.machine.now _ c.make.new.machine (made_classes c.args.machine.now c.requires.is c.class.new.self c.in_ok-class.ensures.sets c.in_ok-class.ensures.grown) c.in_ok-made-in-None.ensures.goes

pub returns-in_ok-made-in-None-clause-steps : goal.returns-in_ok-made-in-None-clause-steps
returns-in_ok-made-in-None-clause-steps c = (
  row_at c.make.new.machine.classes.rows c.in_ok-class.class,
  subst (λ (k : ClassRows). AreTerminalsOf k.sets c.args.c (row_at k.rows c.in_ok-class.class)) (sym c.in_ok-made-in-None.ensures.classes) c.in_ok-class.ensures.class.exact,
  c.in_ok-made-in-None.ensures.steps,
)

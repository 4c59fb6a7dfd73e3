use Rattle.std.proofs.Common.{◌≡◌, ℕ, List, Option, Some, slice_get, refl, subst}
use Rattle.lexer.specs.Terminals.{ClassRows, IsClassOf}
use Rattle.lexer.proofs.ClassLists.{classes_kept, classes_more}
use Rattle.lexer.proofs.classes.Classes.class.Goals as goal

pub invariant_of-self : goal.invariant_of-self
invariant_of-self c = classes_kept c.self.inside.sets.now c.self.inside.ascii.items c.self.inside.rows c.class_of.new.rows c.in_err-class.ensures.grown c.self.invariant

pub invariant_of-self-2 : goal.invariant_of-self-2
invariant_of-self-2 c =
    classes_more c.self.inside.sets.now c.self.inside.ascii.items c.note_class.new.ascii.items c.class_of.new.rows c.args.c c.in_ok-class.class c.note_class.ensures
    (classes_kept c.self.inside.sets.now c.self.inside.ascii.items c.self.inside.rows c.class_of.new.rows c.in_ok-class.ensures.grown c.self.invariant) c.in_ok-class.ensures.class

pub returns-in-Some-clause-class : goal.returns-in-Some-clause-class
returns-in-Some-clause-class c =
    subst (λ (v : ClassRows). IsClassOf v.sets v.rows c.args.c c.in-Some.class) c.self.view_is
    (c.self.invariant c.args.c c.in-Some.class (subst (λ (l : List (Option ℕ)). slice_get l c.args.c ≡ Some (Some c.in-Some.class)) c.deref.ensures.value (c.in-Some.ensures c.in-Some.class refl)))

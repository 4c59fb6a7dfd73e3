use Rattle.std.proofs.Common.{sym, subst, List}
use Rattle.glades.specs.declared.heads.Head.{Head}
use Rattle.glades.specs.Heads.{PutsHead, IsNoteOf, IsTold}
use Rattle.glades.proofs.Heading.{puts_none, puts_one}
use Rattle.glades.proofs.heads.put_head.Goals as goal

pub head_of-requires-clause-note : goal.head_of-requires-clause-note
head_of-requires-clause-note c = subst (IsNoteOf c.args.forest.now c.args.node) c.in-Some.is c.requires.note

pub returns-in_default-clause-puts : goal.returns-in_default-clause-puts
returns-in_default-clause-puts c = puts_none c.args.forest.now c.args.node c.args.heads.now.items (subst (IsNoteOf c.args.forest.now c.args.node) c.in_default.is c.requires.note)

pub returns-in_ok-push-clause-puts : goal.returns-in_ok-push-clause-puts
returns-in_ok-push-clause-puts c =
    let (is, same) = subst (IsTold c.args.forest.now c.args.node) c.in-Some-head_of.is c.head_of.ensures.head in
    subst (λ (l : List Head). PutsHead c.args.forest.now c.args.node c.args.heads.now.items l) (sym c.in_ok-push.ensures.items) (puts_one c.args.forest.now c.args.node c.args.heads.now.items c.in-Some-head_of.head is same)

pub returns-in_default-head_of-clause-puts : goal.returns-in_default-head_of-clause-puts
returns-in_default-head_of-clause-puts c = puts_none c.args.forest.now c.args.node c.args.heads.now.items (subst (IsTold c.args.forest.now c.args.node) c.in_default-head_of.is c.head_of.ensures.head)

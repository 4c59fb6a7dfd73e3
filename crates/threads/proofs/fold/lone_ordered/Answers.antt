use Rattle.std.proofs.Common.{Option, Some, None}
use Rattle.std.specs.Option.{IfSome}
use Rattle.threads.proofs.Ordered.{lone_of_part}
use Rattle.threads.proofs.fold.lone_ordered.Goals as goal

some_weaker : {X : Type 0} {P Q : X → Type 0} (o : Option X) → ((x : X) → P x → Q x) → IfSome o P → IfSome o Q
some_weaker None f h = h
some_weaker (Some x) f h = f x h

pub lone-requires : goal.lone-requires
lone-requires c th h = c.requires.rules th ((c.requires.order.same th).0 ((c.waiting.ensures th).0 h).0)

pub returns-clause-lone : goal.returns-clause-lone
returns-clause-lone c =
    some_weaker c.lone.result (λ th lone parts. lone_of_part c.args.flat.now c.args.row.now c.args.ordered.now c.waiting.result.now c.args.symbol c.requires.order c.waiting.ensures parts th (lone parts)) c.lone.ensures.lone

pub returns-clause-there : goal.returns-clause-there
returns-clause-there c = some_weaker c.lone.result (λ th h. (c.requires.order.same th).0 ((c.waiting.ensures th).0 h).0) c.lone.ensures.there

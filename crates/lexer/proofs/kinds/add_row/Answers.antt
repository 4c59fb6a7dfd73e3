use Rattle.std.proofs.Common.{◌∙◌, List, length, take, Contains, ap, subst}
use Rattle.recognizer_model.specs.declared.thread.Thread.{Thread}
use Rattle.lexer.specs.declared.kinds.Kind.{Kind}
use Rattle.lexer.specs.Machines.{IsKindOf}
use Rattle.lexer.proofs.RowKinds.{kinds_more}
use Rattle.lexer.proofs.kinds.add_row.Goals as goal

pub kind_of-kind-requires : goal.kind_of-kind-requires
kind_of-kind-requires c = λ th h. c.requires.row th (subst (λ (l : List Thread). Contains l th) c.deref.ensures.value h)

pub returns-clause-kinds : goal.returns-clause-kinds
returns-clause-kinds c =
    kinds_more c.args.flat.now c.args.rows.now c.number-number.new.self c.args.row.items c.args.kinds.now.items c.truncate.new.self.items c.kind_of-kind.result c.requires.kinds
    (subst (λ (l : List Thread). IsKindOf c.args.flat.now l c.kind_of-kind.result) c.deref.ensures.value c.kind_of-kind.ensures) c.number-number.ensures.added
    (c.truncate.ensures.items ∙ (ap (λ n. take n c.push.new.self.items) c.count.ensures ∙ ap (λ (l : List Kind). take (length c.number-number.new.self) l) c.in_ok-push.ensures.items))

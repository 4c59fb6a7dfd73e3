use Rattle.std.proofs.Common.{inl, inr, refl}
use Rattle.lexer.proofs.Noting.{noted_set}
use Rattle.lexer.proofs.next.note.Goals as goal

pub returns-in_err-lengthen : goal.returns-in_err-lengthen
returns-in_err-lengthen c = λ s k t lt n. inl (c.lengthen.ensures.same s k t n)

pub returns : goal.returns
returns c = λ s k t lt n.
    elim (noted_set c.lengthen.new.next.items _ c.args.state c.args.class c.args.to c.if-class-ge-CLASSES.false refl s k t lt n) [
      | inl o ↦ inl (c.lengthen.ensures.same s k t o)
      | inr e ↦ inr e
    ]

use Rattle.std.proofs.Common.{inl, subst}
use Rattle.begun_lists.specs.Begun.{IsNoted}
use Rattle.begun_lists.proofs.Noting.{Entries, noted_before}
use Rattle.begun_lists.proofs.lists.note.Goals as goal

pub returns-in_err-insert : goal.returns-in_err-insert
returns-in_err-insert c = λ list n h. inl (subst (λ (es : Entries). IsNoted es list n) c.in_err-insert.ensures.err h)

pub returns : goal.returns
returns c = λ list n h. noted_before c.args.numbers.now.entries c.args.symbols c.args.number list n (subst (λ (es : Entries). IsNoted es list n) c.in_ok-insert.ensures.entries h)

use Rattle.std.proofs.Common.{refl, ap, ◌∙◌, rules, arith}
use Rattle.c_handles.proofs.Gathering.{ended, one_kept}
use Rattle.c_handles.proofs.derivations.gather.Goals as goal

pub kept-preserved : goal.kept-preserved
kept-preserved c = record {
  kept = λ given are.
      one_kept c.args.reading.now c.next.new.self.read (c.in_ok-next.ensures.read ∙ c.kept.invariant.read) c.args.shown given c.kept.derivations.iteration c.next.new.self c.kept.counter _ _ _ _
      (c.kept.invariant.kept given are) c.in_ok-next.field-0 c.if-not-branch.false c.in_ok-next.ensures.answer c.in_ok-keep.ensures.steps c.in_ok-keep.ensures.lines;
  none = c.in_ok-keep.ensures.more ∙ c.kept.invariant.none;
  read = search rules;
  forest = search rules;
}

pub returns : goal.returns
returns c = λ given are.
    ended c.args.reading.now c.args.derivations.now.iteration.forest.ranking c.args.shown c.next-2.new.self (c.in_ok-more.ensures.read ∙ c.kept.invariant.read) (ap (λ f. f.ranking) (c.in_ok-more.ensures.forest ∙ c.kept.invariant.forest))
    given c.args.most _ c.kept.derivations.iteration c.kept.counter (c.kept.invariant.kept given are) (omega (arith, c.kept-test.false, c.kept.auto.counter-end)) c.in_ok-more.more refl c.in_ok-more.ensures.answer c.known.ensures

use Rattle.std.proofs.Common.{◌∙◌, sym, ap, subst, arith}
use Rattle.earley_sets.specs.Recognizer.{Recognizer, earleme_of, IsExpected}
use Rattle.earley_sets.proofs.Recognizing.{edge_kept}
use Rattle.earley_sets.proofs.recce.Recce.alternative.Goals as goal

pub push-requires-clause-order : goal.push-requires-clause-order
push-requires-clause-order c e h =
    let b = c.self.invariant.0.is.begun e h in
    let p = c.place-earleme.ensures.place in
    let v = ap (λ (r : Recognizer). earleme_of r) c.self.view_is in
    omega arith

pub invariant_of-self : goal.invariant_of-self
invariant_of-self c = (
  edge_kept c.self.inside.flat.now c.self.inside.start c.self.inside.edges c.self.inside.rows.sets c.self.inside.top c.self.inside.memo c.self.invariant.0 c.args.t c.place-earleme.result c.args.length
      (c.place-earleme.ensures.place ∙ sym (ap (λ (r : Recognizer). earleme_of r) c.self.view_is))
      (subst (λ (r : Recognizer). IsExpected r c.args.t) (sym c.self.view_is) (c.is_expected.ensures.0 c.if-not-is_expected.false))
      c.push.result c.push.new.self c.push.ensures.ok c.push.ensures.err c.push.ensures.duplicate c.push.ensures.bad_length,
  c.self.invariant.1,
  c.self.invariant.2,
  c.self.invariant.3,
  c.self.invariant.4,
  c.self.invariant.5,
)

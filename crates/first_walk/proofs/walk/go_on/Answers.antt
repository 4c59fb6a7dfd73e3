use Rattle.std.proofs.Common.{List, sym, ◌∙◌, subst, arith}
use Rattle.recognizer_model.specs.declared.NodeKey.{NodeKey}
use Rattle.first_walk.specs.Going.{IsWalking, AreAhead}
use Rattle.first_walk.proofs.Counts.{all_given}
use Rattle.first_walk.proofs.Backwards.{gives_up}
use Rattle.first_walk.proofs.walk.go_on.Goals as goal

pub go_from-requires-clause-walking : goal.go_from-requires-clause-walking
go_from-requires-clause-walking g c =
    subst (λ (l : List NodeKey). IsWalking c.args.w.now c.args.ranking c.args.recce.now l c.loop-count.walk) c.in-Some.ensures.items c.loop-count.invariant.walking

pub go_from-requires-clause-ahead : goal.go_from-requires-clause-ahead
go_from-requires-clause-ahead g c =
    subst (λ (l : List NodeKey). AreAhead c.args.w.now c.args.ranking c.args.recce.now c.loop-count.place.first l) c.in-Some.ensures.items c.loop-count.invariant.ahead

pub returns-then-is_over-clause-over : goal.returns-then-is_over-clause-over
returns-then-is_over-clause-over g c false =
    let (only, other) = gives_up c.args.only c.loop-count.walk.alone (sym c.is_over.ensures ∙ c.if-is_over.true) in
    (only, c.loop-count.invariant.walking.other other)

pub returns-then-is_over-clause-within : goal.returns-then-is_over-clause-within
returns-then-is_over-clause-within g c start h =
    all_given c.args.w.now c.args.ranking c.args.recce.now c.loop-count.place.first start c.loop-count.steps (c.loop-count.invariant.counted start h)

pub returns-in_default-clause-within : goal.returns-in_default-clause-within
returns-in_default-clause-within g c start h =
    all_given c.args.w.now c.args.ranking c.args.recce.now c.loop-count.place.first start c.loop-count.steps (c.loop-count.invariant.counted start h)

pub returns-in_err-go_from-clause-within : goal.returns-in_err-go_from-clause-within
returns-in_err-go_from-clause-within g c start h = c.in_err-go_from.ensures.within start (c.loop-count.invariant.counted start h)

pub loop-count-preserved : goal.loop-count-preserved
loop-count-preserved g c = record {
  walking = c.in_ok-go_from.ensures.walking;
  ahead = c.in_ok-go_from.ensures.ahead;
  listed = c.in_ok-go_from.ensures.listed;
  joined = c.in_ok-go_from.ensures.joined;
  given = c.in_ok-go_from.ensures.given;
  to = c.in_ok-go_from.ensures.to;
  all = (let a = c.in_ok-go_from.ensures.all in let b = c.loop-count.invariant.all in omega arith);
  len = (let l = c.in_ok-go_from.ensures.len in let i = c.loop-count.invariant.len in omega arith);
  counted = λ start h. c.in_ok-go_from.ensures.counted start (c.loop-count.invariant.counted start h);
}

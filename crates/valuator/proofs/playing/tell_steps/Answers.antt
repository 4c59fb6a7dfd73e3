use Rattle.std.proofs.Common.{arith}
use Rattle.value_text.specs.Meaning.{meaning_of}
use Rattle.valuator.specs.Play.{tokens_of}
use Rattle.valuator.proofs.Following.{advanced_none, advanced_more_at, can_next_at, can_rest_at}
use Rattle.std.proofs.lemmas.Result.{IfOk-from_err}
use Rattle.valuator.proofs.playing.tell_steps.Goals as goal

pub loop-step-init : goal.loop-step-init
loop-step-init g c = record {
  told = advanced_none c.args.p.now.w.now (meaning_of c.args.p.now.meaning.now) (tokens_of c.args.p.now.chars.now c.args.p.now.spans.now) _;
  can = c.requires.steps;
}

pub tell_all-requires-clause-step : goal.tell_all-requires-clause-step
tell_all-requires-clause-step g c =
    can_next_at c.args.p.now.w.now (meaning_of c.args.p.now.meaning.now) (tokens_of c.args.p.now.chars.now c.args.p.now.spans.now) _ _ c.args.list.now c.loop-step.step-index c.step-item.result (omega arith) c.step-item.is c.loop-step.invariant.can

pub loop-step-preserved : goal.loop-step-preserved
loop-step-preserved g c = record {
  told = advanced_more_at c.args.p.now.w.now (meaning_of c.args.p.now.meaning.now) (tokens_of c.args.p.now.chars.now c.args.p.now.spans.now) _ _ _ c.args.list.now c.loop-step.step-index c.step-item.result (omega arith) c.step-item.is c.loop-step.invariant.told c.in_ok-tell_all.ensures.ok;
  can = can_rest_at c.args.p.now.w.now (meaning_of c.args.p.now.meaning.now) (tokens_of c.args.p.now.chars.now c.args.p.now.spans.now) _ _ _ c.args.list.now c.loop-step.step-index c.step-item.result (omega arith) c.step-item.is c.loop-step.invariant.can c.in_ok-tell_all.ensures.ok;
}

pub tell_all-requires-clause-meaning : goal.tell_all-requires-clause-meaning
tell_all-requires-clause-meaning g c = c.requires.meaning

pub tell_all-requires-clause-spans : goal.tell_all-requires-clause-spans
tell_all-requires-clause-spans g c = c.requires.spans

pub tell_all-requires-clause-nulling : goal.tell_all-requires-clause-nulling
tell_all-requires-clause-nulling g c = c.requires.nulling

pub returns-in_err-tell_all : goal.returns-in_err-tell_all
returns-in_err-tell_all g c = record { ok = IfOk-from_err _ _ c.from_residual.ensures.0 }

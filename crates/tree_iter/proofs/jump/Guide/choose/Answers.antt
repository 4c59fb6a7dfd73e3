use Rattle.std.proofs.Common.{◌≡◌, ◌∙◌, ℕ, ◌+◌, ◌++◌, map, Option, Some, None, refl, sym, ap, arith}
use Rattle.std.specs.Prelude.{option_to_list, IsSome}
use Rattle.grammar_core.specs.Steps.{step_of}
use Rattle.tree_iter.specs.Leads.{over}
use Rattle.tree_iter.proofs.LedWalk.{chose_leads, has_aim, led_some}
use Rattle.std.proofs.lemmas.Result.{IfOk-from_err}
use Rattle.tree_iter.specs.Goals.{fork_of, look}
use Rattle.tree_iter.proofs.Choosing.{skips_to}
use Rattle.tree_iter.proofs.Walks.{fork_goal}
use Rattle.tree_iter.proofs.Passing.{passes_skip}
use Rattle.tree_iter.proofs.jump.Guide.choose.Goals as goal

pub option_for-requires : goal.option_for-requires
option_for-requires g c = fork_goal c.reserve.new.self c.args.fork c.args.behind (c.reserve.ensures.stays.about (fork_of c.args.fork) c.args.behind c.requires)

pub choose_opened-requires-clause-about : goal.choose_opened-requires-clause-about
choose_opened-requires-clause-about g c = c.reserve.ensures.stays.about (fork_of c.args.fork) c.args.behind c.requires

pub returns-clause-goes : goal.returns-clause-goes
returns-clause-goes g c = λ led rest h.
    passes_skip c.choose_opened.new.self rest c.in-Some-option_for.led.at
    (skips_to c.reserve.new.self c.choose_opened.new.self rest (fork_of c.args.fork) c.in-Some-option_for.led.at c.args.behind (c.reserve.ensures.stays.about (fork_of c.args.fork) c.args.behind c.requires) c.choose_opened.ensures.forest (c.reserve.ensures.stays.goes rest h) c.choose_opened.ensures.chooses)

pub returns-clause-further : goal.returns-clause-further
returns-clause-further g c = λ led m h. c.choose_opened.ensures.further m (c.reserve.ensures.stays.come m h)

pub returns-clause-forest : goal.returns-clause-forest
returns-clause-forest g c = c.choose_opened.ensures.forest ∙ c.reserve.ensures.stays.forest

pub returns-in_err-reserve-clause-goes : goal.returns-in_err-reserve-clause-goes
returns-in_err-reserve-clause-goes g c = IfOk-from_err _ _ c.from_residual.ensures.0

pub returns-in_err-reserve-clause-further : goal.returns-in_err-reserve-clause-further
returns-in_err-reserve-clause-further g c = IfOk-from_err _ _ c.from_residual.ensures.0

pub returns-in_err-put_aims-clause-goes : goal.returns-in_err-put_aims-clause-goes
returns-in_err-put_aims-clause-goes g c = IfOk-from_err _ _ c.from_residual-in_err-put_aims.ensures.0

pub returns-in_err-put_aims-clause-further : goal.returns-in_err-put_aims-clause-further
returns-in_err-put_aims-clause-further g c = IfOk-from_err _ _ c.from_residual-in_err-put_aims.ensures.0

pub returns-clause-kept : goal.returns-clause-kept
returns-clause-kept g c = λ h. (
  refl,
  chose_leads c.args.walk.now c.reserve.new.self c.choose_opened.new.self c.args.self.now (record c.args.self.now { aims = c.pop.new.self }) c.put_aims.new.self c.args.fork c.args.behind c.in-Some.aim c.option_for.result c.in-Some-option_for.led c.requires
      c.reserve.ensures.stays c.choose_opened.ensures.forest c.choose_opened.ensures.steps_kept.0 c.choose_opened.ensures.chooses c.choose_opened.ensures.steps
      (c.pop.ensures.items ∙ ap (λ o. c.pop.new.self.items ++ option_to_list o) c.in-Some.is) c.option_for.ensures.leads c.in-Some-option_for.is
      (c.put_aims.ensures.rows ∙ c.option_for.ensures.rows) (c.put_aims.ensures.to ∙ c.option_for.ensures.to) (c.in-Some-option_for.ensures.taken refl ∙ ap (λ k. k + look (fork_of c.args.fork)) (sym c.put_aims.ensures.looks))
      (c.in_ok-put_aims.ensures.aims ∙ ap (λ (a : _). over a.items c.in-Some-option_for.led.aim c.in-Some-option_for.led.upper) c.option_for.ensures.aims) h,
)

pub returns-in_err-reserve-clause-kept : goal.returns-in_err-reserve-clause-kept
returns-in_err-reserve-clause-kept g c = IfOk-from_err _ _ c.from_residual.ensures.0

pub returns-in_err-put_aims-clause-kept : goal.returns-in_err-put_aims-clause-kept
returns-in_err-put_aims-clause-kept g c = IfOk-from_err _ _ c.from_residual-in_err-put_aims.ensures.0

not_some : (o : Option ℕ) → o ≡ None → IsSome o → ⊥
not_some None e i = cc
not_some (Some x) e i = cc

pub returns-in_default-clause-kept : goal.returns-in_default-clause-kept
returns-in_default-clause-kept g c = λ h.
    let some = has_aim c.args.walk.now (fork_of c.args.fork) c.args.behind c.args.self.now.aims.items (map step_of c.args.self.now.to.now) c.requires h.led in
    let size = c.args.self.now.aims.ok.0 in
    absurd (not_some c.pop.result c.in_default.is (c.pop.ensures.variant.1 (omega arith)))

pub returns-in_default-option_for-clause-kept : goal.returns-in_default-option_for-clause-kept
returns-in_default-option_for-clause-kept g c = λ h. absurd
    (led_some c.args.walk.now c.reserve.new.self c.args.self.now c.pop.new.self.items c.args.fork c.args.behind c.in-Some.aim c.option_for.result c.requires c.reserve.ensures.stays
    (c.pop.ensures.items ∙ ap (λ o. c.pop.new.self.items ++ option_to_list o) c.in-Some.is) c.option_for.ensures.leads h c.in_default-option_for.is)

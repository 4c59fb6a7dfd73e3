use Rattle.std.proofs.Common.{◌≡◌, Bool, true, false, not, ◌+◌, ◌<◌, length, refl, sym, subst, arith}
use Rattle.lexer.specs.declared.lexer.Best.{Best}
use Rattle.lexer.specs.Machines.{form_of}
use Rattle.lexer.proofs.ReadOn.{IsReading, reading_begins, reading_matches, reading_goes, stuck_best, end_best}
use Rattle.lexer.proofs.lexer.read.Goals.{then-kind_at, else-kind_at}
use Rattle.lexer.proofs.lexer.read.Goals as goal

not_true : (b : Bool) → not b ≡ true → b ≡ false
not_true true e = sym e
not_true false e = refl

pub loop-place-init : goal.loop-place-init
loop-place-init c = reading_begins (form_of c.args.machine.now) c.args.chars.now c.args.at c.args.candidates.now c.args.machine.now refl c.known.ensures.flat c.requires.starts c.requires.is c.args.first c.requires.state c.requires.begins

pub returns-then-not-kind_at-clause-best : goal.returns-then-not-kind_at-clause-best
returns-then-not-kind_at-clause-best c = stuck_best (form_of c.args.machine.now) c.args.chars.now c.args.at c.args.candidates.now c.args.machine.now refl c.known.ensures.flat c.requires.starts c.loop-place.machine c.loop-place.state c.loop-place.place c.loop-place.best.state c.loop-place.best.length c.loop-place.invariant c.kind_at.result c.kind_at.ensures (not_true c.kind_at.result.goes c.if-not-kind_at.true)

pub loop-place-preserved : goal.loop-place-preserved
loop-place-preserved c =
    let inside : c.args.at + c.loop-place.place < length c.args.chars.now = (let t = c.loop-place-test.true in let l = c.len.ensures in omega arith) in
    elim c.if-kind_at.branch [
      | then-kind_at w ↦
          subst (λ (b : Best). IsReading (form_of c.args.machine.now) c.args.chars.now c.args.at c.args.candidates.now c.args.machine.now c.step.new.machine c.in_ok-state.state (c.loop-place.place + 1) b.state b.length) (sym w.best-is)
          (reading_matches (form_of c.args.machine.now) c.args.chars.now c.args.at c.args.candidates.now c.args.machine.now refl c.known.ensures.flat c.requires.starts c.loop-place.machine c.loop-place.state c.loop-place.place c.loop-place.best.state c.loop-place.best.length c.loop-place.invariant
          c.step.new.machine c.in_ok-state.state c.at.result c.in_ok-state.ensures.goes c.in_ok-state.ensures.there c.in_ok-state.ensures.steps c.at.ensures inside c.kind_at-in-loop-place.result c.kind_at-in-loop-place.ensures w.if-kind_at.true)
      | else-kind_at w ↦
          subst (λ (b : Best). IsReading (form_of c.args.machine.now) c.args.chars.now c.args.at c.args.candidates.now c.args.machine.now c.step.new.machine c.in_ok-state.state (c.loop-place.place + 1) b.state b.length) (sym w.best-is)
          (reading_goes (form_of c.args.machine.now) c.args.chars.now c.args.at c.args.candidates.now c.args.machine.now refl c.known.ensures.flat c.requires.starts c.loop-place.machine c.loop-place.state c.loop-place.place c.loop-place.best.state c.loop-place.best.length c.loop-place.invariant
          c.step.new.machine c.in_ok-state.state c.at.result c.in_ok-state.ensures.goes c.in_ok-state.ensures.there c.in_ok-state.ensures.steps c.at.ensures inside c.kind_at-in-loop-place.result c.kind_at-in-loop-place.ensures w.if-kind_at.false)
    ]

pub returns-clause-best : goal.returns-clause-best
returns-clause-best c =
    end_best (form_of c.args.machine.now) c.args.chars.now c.args.at c.args.candidates.now c.args.machine.now refl c.known.ensures.flat c.requires.starts c.loop-place.machine c.loop-place.state c.loop-place.place c.loop-place.best.state c.loop-place.best.length c.loop-place.invariant
    (let t = c.loop-place-test.false in let l = c.len.ensures in let a = c.requires.at in omega arith)

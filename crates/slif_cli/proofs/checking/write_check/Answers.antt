use Rattle.std.proofs.Common.{ℕ, List, Vec, Global, map, sym, refl, subst}
use Rattle.std.proofs.lemmas.Result.{on_ok_weaker, MatchResult-weaker}
use Rattle.run_model.specs.Outside.{stream}
use Rattle.run_model.specs.Checking.{AreCheckLines}
use Rattle.run_model.specs.Outcome.{IsCheckOutcome, done}
use Rattle.tellings.proofs.Stopping.{lines_done, lines_stop}
use Rattle.slif_cli.proofs.checking.write_check.Goals as goal

pub returns-clause-done : goal.returns-clause-done
returns-clause-done g c =
    let items : Vec ℕ Global → List ℕ = λ v. v.items in
    let lines : List (List ℕ) = map items c.deref.result.now in
    let are : AreCheckLines c.args.prepared.now lines = subst (λ (vs : List (Vec ℕ Global)). AreCheckLines c.args.prepared.now (map items vs)) (sym c.deref.ensures.value) c.in_ok-lines.ensures in
    let told : IsCheckOutcome c.args.prepared.now (done lines) = record { lines = lines; are = are; is = refl } in
    on_ok_weaker c.write_lines.result (lines_done (IsCheckOutcome c.args.prepared.now) lines told _ _) c.write_lines.ensures.written

pub returns-clause-stops : goal.returns-clause-stops
returns-clause-stops g c =
    let items : Vec ℕ Global → List ℕ = λ v. v.items in
    let lines : List (List ℕ) = map items c.deref.result.now in
    let are : AreCheckLines c.args.prepared.now lines = subst (λ (vs : List (Vec ℕ Global)). AreCheckLines c.args.prepared.now (map items vs)) (sym c.deref.ensures.value) c.in_ok-lines.ensures in
    let told : IsCheckOutcome c.args.prepared.now (done lines) = record { lines = lines; are = are; is = refl } in
    MatchResult-weaker c.write_lines.result c.write_lines.ensures.stops (λ _ x. x)
    (λ stop. lines_stop (IsCheckOutcome c.args.prepared.now) lines told
    (stream g.O.Sink.contents g.O.Sink.fault_count c.args.out.now) (stream g.O.Sink.contents g.O.Sink.fault_count c.write_lines.new.out) stop)

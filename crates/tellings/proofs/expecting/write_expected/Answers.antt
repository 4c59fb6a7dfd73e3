use Rattle.std.proofs.Common.{ℕ, List, Vec, Global, map, sym, subst}
use Rattle.std.proofs.lemmas.Result.{on_ok_weaker, MatchResult-weaker}
use Rattle.run_model.specs.Outside.{stream}
use Rattle.words_model.specs.Words.Telling.{Expected}
use Rattle.run_model.specs.Telling.{done}
use Rattle.tellings.specs.Telling.{TellsReading}
use Rattle.tellings.proofs.Stopping.{lines_done, lines_stop}
use Rattle.tellings.proofs.expecting.write_expected.Goals as goal

pub returns-clause-done : goal.returns-clause-done
returns-clause-done g c given is_read =
    let P = TellsReading Expected c.args.prepared.now given c.args.chars.now in
    let items : Vec ℕ Global → List ℕ = λ v. v.items in
    let is : P (done (map items c.deref.result.now)) = subst (λ (vs : List (Vec ℕ Global)). P (done (map items vs))) (sym c.deref.ensures.value) (c.in_ok-lines.ensures given is_read) in
    on_ok_weaker c.write_lines.result (lines_done P (map items c.deref.result.now) is _ _) c.write_lines.ensures.written

pub returns-clause-stops : goal.returns-clause-stops
returns-clause-stops g c given is_read =
    let P = TellsReading Expected c.args.prepared.now given c.args.chars.now in
    let items : Vec ℕ Global → List ℕ = λ v. v.items in
    let is : P (done (map items c.deref.result.now)) = subst (λ (vs : List (Vec ℕ Global)). P (done (map items vs))) (sym c.deref.ensures.value) (c.in_ok-lines.ensures given is_read) in
    MatchResult-weaker c.write_lines.result c.write_lines.ensures.stops (λ _ x. x)
    (lines_stop P (map items c.deref.result.now) is
    (stream g.O.Sink.contents g.O.Sink.fault_count c.args.out.now) (stream g.O.Sink.contents g.O.Sink.fault_count c.write_lines.new.out))

use Rattle.std.proofs.Common.{sym, subst}
use Rattle.earley_sets.specs.Recognizer.{IsExpected, WaitsAt}
use Rattle.scanless.specs.Noted.{AreSought}
use Rattle.scanless.proofs.Noting.{sought_as, noted_same}
use Rattle.scanless.proofs.candidates.look.Goals as goal

pub longest_sought-answer-requires-clause-starts : goal.longest_sought-answer-requires-clause-starts
longest_sought-answer-requires-clause-starts c =
    sought_as c.args.p.now (WaitsAt c.args.recce.now c.alike-alike.result.place) c.in-Some.starts.now (c.requires.notes.are c.alike-alike.result.place c.in-Some.starts.now c.in-Some.ensures)
    (IsExpected c.args.recce.now) c.alike-alike.ensures.alike

pub longest_sought-requires-clause-starts : goal.longest_sought-requires-clause-starts
longest_sought-requires-clause-starts c = subst (AreSought c.args.p.now (IsExpected c.args.recce.now)) (sym c.as_slice-starts.ensures.value) c.in_ok-list_anew.ensures.sought

pub returns-in-Some-clause-notes : goal.returns-in-Some-clause-notes
returns-in-Some-clause-notes c = noted_same c.args.p.now c.args.recce.now c.args.work.now.notes c.put_hint.new.self c.put_hint.ensures.lists c.requires.notes

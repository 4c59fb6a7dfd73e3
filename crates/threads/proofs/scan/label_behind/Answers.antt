use Rattle.std.proofs.Common.{subst}
use Rattle.recognizer_model.specs.Threads.{Labelled, Here, Waiting}
use Rattle.threads.specs.Steps.{FoldsIn}
use Rattle.threads.proofs.Parts.{grown_same}
use Rattle.threads.proofs.scan.label_behind.Goals as goal

pub lhs-requires : goal.lhs-requires
lhs-requires c = c.requires.thread.is_rule

pub returns-in-Some : goal.returns-in-Some
returns-in-Some c = record {
  grown = grown_same c.args.parts.now;
  parts = c.requires.parts;
  there = c.requires.thread.known c.in-Some.label c.in-Some.is;
  leaves = λ later gr. Labelled c.in-Some.is;
}

pub returns-in_ok-label-in-None-clause-leaves : goal.returns-in_ok-label-in-None-clause-leaves
returns-in_ok-label-in-None-clause-leaves c = λ later gr.
    Here c.in-None.is (subst (λ x. FoldsIn c.args.flat.now later (Waiting c.args.flat.now c.args.row.now) x c.in_ok-label-in-None.label) c.lhs.ensures (c.in_ok-label-in-None.ensures.folds later gr))

pub label_for-requires-clause-order : goal.label_for-requires-clause-order
label_for-requires-clause-order c = c.requires.order c.in-None.is

use Rattle.std.proofs.Common.{subst}
use Rattle.recognizer_model.specs.Threads.{Labelled, Here, PartAt}
use Rattle.threads.specs.Steps.{FoldsIn}
use Rattle.threads.proofs.close.label_in_part.Goals as goal

pub lhs-requires : goal.lhs-requires
lhs-requires c = c.requires.thread.is_rule

pub returns-in-Some : goal.returns-in-Some
returns-in-Some c = record { there = c.requires.thread.known c.in-Some.label c.in-Some.is; leaves = Labelled c.in-Some.is }

pub returns-in-None-clause-leaves : goal.returns-in-None-clause-leaves
returns-in-None-clause-leaves c = Here c.in-None.is (subst (λ x. FoldsIn c.args.flat.now c.args.parts.now (PartAt c.args.flat.now c.args.parts.now c.args.part) x c.fold_in_part.result) c.lhs.ensures c.fold_in_part.ensures.folds)

use Rattle.std.proofs.Common.{Contains, List, subst}
use Rattle.recognizer_model.specs.declared.thread.Thread.{Thread}
use Rattle.recognizer_model.specs.Threads.{Stay, Waiting}
use Rattle.threads.specs.Steps.{FoldsIn}
use Rattle.threads.proofs.Parts.{own_part}
use Rattle.threads.proofs.close.fold_in_part.Goals as goal

pub fold-requires : goal.fold-requires
fold-requires c = λ th h. (c.requires.parts c.args.part th (subst (λ (l : List Thread). Contains l th) c.list.ensures h)).is_rule

pub returns-in-Up : goal.returns-in-Up
returns-in-Up c = record {
  there = let (th, h, e) = c.in-Up.ensures.there in (c.requires.parts c.args.part th (subst (λ (l : List Thread). Contains l th) c.list.ensures h)).known c.in-Up.label e;
  folds = subst (λ (l : List Thread). FoldsIn c.args.flat.now c.args.parts.now (Waiting c.args.flat.now l) c.args.symbol c.in-Up.label) c.list.ensures (c.in-Up.ensures.folded c.args.parts.now);
}

pub returns-in-Stays-clause-folds : goal.returns-in-Stays-clause-folds
returns-in-Stays-clause-folds c =
    subst (λ (l : List Thread). FoldsIn c.args.flat.now c.args.parts.now (Waiting c.args.flat.now l) c.in-Stays.goal (record { part = c.args.part; goal = c.in-Stays.goal }) → FoldsIn c.args.flat.now c.args.parts.now (Waiting c.args.flat.now l) c.args.symbol (record { part = c.args.part; goal = c.in-Stays.goal })) c.list.ensures
    (c.in-Stays.ensures.folded c.args.parts.now (record { part = c.args.part; goal = c.in-Stays.goal })) (Stay (own_part c.args.flat.now c.args.parts.now c.args.part c.in-Stays.goal c.requires.part))

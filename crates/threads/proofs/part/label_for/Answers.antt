use Rattle.recognizer_model.specs.Threads.{Stay}
use Rattle.threads.proofs.Parts.{grown_same}
use Rattle.threads.proofs.part.label_for.Goals as goal

pub fold_ordered-requires-clause-rules : goal.fold_ordered-requires-clause-rules
fold_ordered-requires-clause-rules c = λ th h. (c.requires.row th h).is_rule

pub returns-in-Up : goal.returns-in-Up
returns-in-Up c = record {
  grown = grown_same c.args.parts.now;
  parts = c.requires.parts;
  there = let (th, h, e) = c.in-Up.ensures.there in (c.requires.row th h).known c.in-Up.label e;
  folds = λ later grown. c.in-Up.ensures.folded later;
}

pub returns-in_ok-part-in-Stays-clause-folds : goal.returns-in_ok-part-in-Stays-clause-folds
returns-in_ok-part-in-Stays-clause-folds c = λ later grown. c.in-Stays.ensures.folded later _ (Stay (c.in_ok-part-in-Stays.ensures.part later grown))

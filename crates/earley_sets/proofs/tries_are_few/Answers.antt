use Rattle.recognizer_model.specs.Links.{IsLink}
use Rattle.earley_sets.specs.Recognizer.{edges_of, top_of}
use Rattle.begun_lists.proofs.Rising.{different_are_few}
use Rattle.earley_sets.proofs.tries_are_few.Goals as goal

pub returns : goal.returns
returns c = λ r earleme links tried once are count. different_are_few (IsLink r.flat (edges_of r) (top_of r) earleme) tried links once are count

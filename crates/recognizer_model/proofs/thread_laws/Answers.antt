use Rattle.recognizer_model.specs.FlatForm.{FlatEdges}
use Rattle.grammar_model.specs.Derives.{Held}
use Rattle.recognizer_model.proofs.Threads.{rows_tell}
use Rattle.recognizer_model.proofs.thread_laws.Goals as goal

pub returns : goal.returns
returns c = λ g edges parts starts sets rows n flat by_one run. rows_tell g flat (FlatEdges g (Held edges)) (λ x p q e. (e.0, e.1)) (λ x p q e. by_one e.0 p q e.2) parts starts sets rows n run

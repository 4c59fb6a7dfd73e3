use Rattle.script_tests.proofs.building.is_answered.Goals as goal

pub build_grammar-built-requires-clause-blank : goal.build_grammar-built-requires-clause-blank
build_grammar-built-requires-clause-blank c = λ i. record { names = c.new-w.ensures.names i; rules = c.new-w.ensures.rules i; starts = c.new-w.ensures.starts i }

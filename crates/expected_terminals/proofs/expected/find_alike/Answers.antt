use Rattle.expected_terminals.proofs.expected.find_alike.Goals as goal

pub returns-then-is_alike-clause-alike : goal.returns-then-is_alike-clause-alike
returns-then-is_alike-clause-alike c = c.is_alike.ensures.alike c.if-is_alike.true

use Rattle.valuator.proofs.playing.tell.Goals as goal

pub tell_token-requires-clause-spans : goal.tell_token-requires-clause-spans
tell_token-requires-clause-spans g c = c.requires.spans

pub returns-in-Token-clause-kind : goal.returns-in-Token-clause-kind
returns-in-Token-clause-kind g c = c.tell_token.ensures.kind

pub tell_nulled-requires-clause-meaning : goal.tell_nulled-requires-clause-meaning
tell_nulled-requires-clause-meaning g c = c.requires.meaning

pub tell_nulled-requires-clause-spans : goal.tell_nulled-requires-clause-spans
tell_nulled-requires-clause-spans g c = c.requires.spans

pub returns-in-Nulled-clause-kind : goal.returns-in-Nulled-clause-kind
returns-in-Nulled-clause-kind g c = c.tell_nulled.ensures.kind

pub tell_rule-requires-clause-meaning : goal.tell_rule-requires-clause-meaning
tell_rule-requires-clause-meaning g c = c.requires.meaning

pub tell_rule-requires-clause-spans : goal.tell_rule-requires-clause-spans
tell_rule-requires-clause-spans g c = c.requires.spans

pub returns-in-Rule-clause-kind : goal.returns-in-Rule-clause-kind
returns-in-Rule-clause-kind g c = c.tell_rule.ensures.kind

pub tell_nulled-requires-clause-nulling : goal.tell_nulled-requires-clause-nulling
tell_nulled-requires-clause-nulling g c = c.requires.nulling

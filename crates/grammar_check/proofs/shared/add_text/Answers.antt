use Rattle.grammar_check.proofs.Sharing.{added_text, fresh_text}
use Rattle.grammar_check.proofs.shared.add_text.Goals as goal

pub returns-clause-was : goal.returns-clause-was
returns-clause-was c = fresh_text c.args.texts.now.keys c.args.text c.in_ok-new.new c.in_ok-new.ensures.added

pub returns-clause-added : goal.returns-clause-added
returns-clause-added c = added_text c.args.texts.now.keys c.insert.new.self.keys c.args.text c.in_ok-new.ensures.keys

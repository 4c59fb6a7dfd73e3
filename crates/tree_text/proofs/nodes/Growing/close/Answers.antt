use Rattle.tree_text.proofs.Nested.{closed_to}
use Rattle.tree_text.proofs.nodes.Growing.close.Goals as goal

pub returns : goal.returns
returns c = closed_to c.args.self.now.nodes.items c.count_tokens.new.nodes.items c.args.self.now.open.items c.pop.new.self.items _ c.requires c.count_tokens.ensures c.in-Some.ensures.rest

use Rattle.std.proofs.Common.{sym}
use Rattle.progress.proofs.lines.line_of.Goals as goal
use Rattle.recognizer_model.proofs.Sources.{source_within}

pub written_rule-requires : goal.written_rule-requires
written_rule-requires c = source_within c.args.flat.now c.args.w.now c.args.item.rule c.in-Written.rule c.requires.flat c.requires.rule (sym c.in-Written.ensures)

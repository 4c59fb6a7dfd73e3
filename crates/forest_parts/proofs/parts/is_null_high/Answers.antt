use Rattle.std.proofs.Common.{sym}
use Rattle.forest_parts.proofs.parts.is_null_high.Goals as goal
use Rattle.recognizer_model.proofs.Sources.{source_within}

pub written_rule-requires : goal.written_rule-requires
written_rule-requires c = source_within c.args.flat.now c.args.w.now c.args.rule c.in-Written.source c.requires.flat c.requires.rule (sym c.in-Written.ensures)

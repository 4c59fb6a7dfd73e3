use Rattle.std.proofs.lemmas.Str.Pattern.{contains_text}
use Rattle.lint_hints.proofs.Pieces.{piece_is}
use Rattle.lint_hints.proofs.spellings.has_piece.Goals as goal

pub returns : goal.returns
returns c = piece_is c.contains.result c.args.piece.now c.args.text.now (contains_text c.contains.result c.args.piece.now c.args.text.now c.contains.ensures.cases)

use Rattle.std.proofs.Common.{◌≡◌, ◌++◌, take}
use Rattle.slif_parser.specs.Rules.{parts_text}
use Rattle.slif_parser.proofs.rules.append_parts.Given as goal

abbrev pub invariant-loop-symbol : goal.invariant-loop-symbol
invariant-loop-symbol l = l.line.items ≡ l.fn.line.items ++ parts_text l.w (take l.symbol-index l.symbols)

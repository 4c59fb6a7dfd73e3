use Rattle.std.proofs.Common.{◌≡◌, length}
use Rattle.item_rows.specs.Heads.{AreRules, AreSymbols}
use Rattle.item_rows.proofs.heads.list_heads.Given as goal

abbrev pub invariant-loop-number : goal.invariant-loop-number
invariant-loop-number l = AreRules l.flat l.rules.items × AreSymbols l.flat l.symbols.items × (length l.rules.items ≡ l.number) × (length l.symbols.items ≡ l.number)

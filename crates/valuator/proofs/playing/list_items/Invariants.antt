use Rattle.std.proofs.Common.{◌≡◌, if◌then◌else◌, Some, None}
use Rattle.grammar_model.specs.Grammar.{is_item}
use Rattle.grammar_model.specs.Values.{items_shown}
use Rattle.valuator.proofs.playing.list_items.Given as goal

abbrev pub invariant-loop-k : goal.invariant-loop-k
invariant-loop-k l = record {
  shown : l.shown.items ≡ items_shown (if l.separated then Some 0 else None) l._k;
  next : l.is_item ≡ is_item (if l.separated then Some 0 else None) l._k;
}

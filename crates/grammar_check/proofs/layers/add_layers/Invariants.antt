use Rattle.std.proofs.Common.{◌≡◌, ◌+◌, ◌<◌, [], ◌∷◌, ◌++◌, length, All}
use Rattle.grammar_check.specs.Links.{IsDown, AreLayers}
use Rattle.grammar_check.proofs.layers.add_layers.Given as goal

abbrev pub invariant-loop-n : goal.invariant-loop-n
invariant-loop-n l = record {
  sized : length l.starts.items ≡ l.n + 1;
  layers : AreLayers l.rows l.floors l.to l.found (l.starts.items ++ length l.found ∷ []);
  known : All (λ x. x < length l.rows) l.found;
  down : IsDown l.floors l.found;
}

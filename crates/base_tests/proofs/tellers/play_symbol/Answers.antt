use Rattle.std.proofs.Common.{◌≡◌, ℕ, ◌<◌, [], ◌∷◌, length, refl, ap, arith}
use Rattle.grammar_model.specs.Grammar.{Grammar, slot_of}
use Rattle.grammar_model.specs.Trees.{Leaf}
use Rattle.grammar_model.specs.Steps.{TokenStep}
use Rattle.valuator.specs.Play.{AreSteps}
use Rattle.base_tests.proofs.tellers.play_symbol.Goals as goal

one_token : (g : Grammar) (symbol : ℕ) → symbol < length g.names → length g.rules ≡ 0 → AreSteps g 1 (TokenStep symbol 0 1 ∷ [])
one_token g symbol known none = record {
  tree = Leaf symbol 0 1;
  slot = slot_of symbol;
  from = 0;
  to = 1;
  known = known;
  derived = record {
    symbol_is = refl;
    from_is = refl;
    to_is = refl;
    terminal = λ i b. absurd (omega (arith, none, b));
    held = refl;
  };
  inside = omega arith;
  are = refl;
}

pub play-requires-clause-list : goal.play-requires-clause-list
play-requires-clause-list g c = one_token c.args.w.now c.args.symbol c.requires.known (ap length c.requires.bare)

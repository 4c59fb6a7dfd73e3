use Rattle.std.proofs.lemmas.Option.{slice_get_within}
use Rattle.base_tests.proofs.tellers.play_token.Goals as goal

pub play_symbol-requires-clause-known : goal.play_symbol-requires-clause-known
play_symbol-requires-clause-known g c = slice_get_within c.symbol_new.new.self.names c.in_ok-symbol.symbol _ c.in_ok-symbol.ensures.named

use Rattle.std.proofs.Common.{arith, take, Contains, refl, sym, subst}
use Rattle.std.proofs.lemmas.List.Elements.{Contains-get_or}
use Rattle.earley_sets.specs.Recognizer.{earleme_of}
use Rattle.scanless.specs.Taking.{token_edges}
use Rattle.scanless.proofs.Edges.{same_place, expected_more, fresh, edges_more, no_edges, keeps_through}
use Rattle.scanless.proofs.taking.take_lexemes.Goals as goal

pub take_lexeme-requires-clause-place : goal.take_lexeme-requires-clause-place
take_lexeme-requires-clause-place c = let p = same_place c.args.recce.now c.loop-symbol.recce c.loop-symbol.invariant.0 in omega (arith, p, c.requires.place)

pub take_lexeme-requires-clause-expected : goal.take_lexeme-requires-clause-expected
take_lexeme-requires-clause-expected c =
    expected_more c.args.recce.now c.loop-symbol.recce c.loop-symbol.invariant.0 (token_edges (earleme_of c.args.recce.now) (take c.loop-symbol.symbol-index c.args.symbols.now)) c.loop-symbol.invariant.1
    c.symbol-item.result
    (c.requires.expected c.symbol-item.result (subst (Contains c.args.symbols.now) (sym c.symbol-item.is) (Contains-get_or c.args.symbols.now c.loop-symbol.symbol-index c.symbol-item.result (omega arith))))

pub take_lexeme-requires-clause-fresh : goal.take_lexeme-requires-clause-fresh
take_lexeme-requires-clause-fresh c =
    fresh c.args.recce.now c.loop-symbol.recce c.loop-symbol.invariant.0 c.args.symbols.now c.requires.order c.loop-symbol.symbol-index c.symbol-item.result (omega arith) c.symbol-item.is c.loop-symbol.invariant.1 c.requires.begun

pub loop-symbol-init : goal.loop-symbol-init
loop-symbol-init c = (record { flat = refl; start = refl; sets = refl; noted = refl }, no_edges c.args.recce.now)

pub loop-symbol-preserved : goal.loop-symbol-preserved
loop-symbol-preserved c = (
  keeps_through c.args.recce.now c.loop-symbol.recce c.take_lexeme.new.recce c.loop-symbol.invariant.0 c.take_lexeme.ensures.same,
  edges_more c.args.recce.now c.loop-symbol.recce c.loop-symbol.invariant.0 c.args.symbols.now c.requires.order c.loop-symbol.symbol-index c.symbol-item.result (omega arith) c.symbol-item.is c.loop-symbol.invariant.1
      c.take_lexeme.new.recce c.in_ok-take_lexeme.ensures.ok,
)

use Rattle.std.proofs.Common.{arith, ℕ, ◌<◌, ◌+◌, Contains, subst}
use Rattle.std.specs.Prelude.{IsNone, IfSome}
use Rattle.std.proofs.lemmas.Result.{IfOk-weaker}
use Rattle.reading_model.specs.Matches.{Matches}
use Rattle.lexer.specs.Lexical.{IsLongestMatch, IsUnmatched}
use Rattle.scanless.specs.Pieces.{IsLexerOf, AreMatched}
use Rattle.scanless.proofs.Matched.{matched, unmatched}
use Rattle.scanless.proofs.Results.{if_some}
use Rattle.scanless.proofs.candidates.longest.Goals as goal

pub find_by_hint-requires-clause-starts : goal.find_by_hint-requires-clause-starts
find_by_hint-requires-clause-starts c = λ k held.
    let is = subst (IsLexerOf c.args.p.now) c.in-Some.is c.requires.lexer in
    let within = c.requires.starts k held in
    let tops = is.2.tops_all in
    omega (arith, within, tops)

pub returns-in-None-clause-none : goal.returns-in-None-clause-none
returns-in-None-clause-none c = λ f k m held some h.
    let within = c.requires.starts k held in
    let is = subst (IsLexerOf c.args.p.now) c.in-None.is c.requires.lexer in
    is (omega (arith, within))

pub returns-in-Some-clause-none : goal.returns-in-Some-clause-none
returns-in-Some-clause-none c =
    let is = subst (IsLexerOf c.args.p.now) c.in-Some.is c.requires.lexer in
    IfOk-weaker c.find_by_hint.result (λ answer. IsNone answer → IsUnmatched c.in-Some.lexer c.args.chars.now c.args.at c.args.starts.now) (λ answer. IsNone answer → (k m : ℕ) → Contains c.args.starts.now k → 0 < m → Matches c.args.p.now c.args.chars.now k c.args.at (c.args.at + m) → ⊥)
    (λ answer none f. unmatched c.matches_are_the_grammars.ensures c.args.p.now (c.known.ensures.accepted.checked.lexical is.0) c.in-Some.lexer is c.args.chars.now c.args.at c.args.starts.now c.requires.starts (none f)) c.find_by_hint.ensures.none

pub returns-in-Some-clause-some : goal.returns-in-Some-clause-some
returns-in-Some-clause-some c =
    let is = subst (IsLexerOf c.args.p.now) c.in-Some.is c.requires.lexer in
    IfOk-weaker c.find_by_hint.result (λ answer. IfSome answer (λ n. IsLongestMatch c.in-Some.lexer c.args.chars.now c.args.at c.args.starts.now n c.find_by_hint.new.matched.items)) (λ answer. IfSome answer (λ n. AreMatched c.args.p.now c.args.chars.now c.args.at c.args.starts.now n c.find_by_hint.new.matched.items))
    (λ answer some. if_some answer (λ n. IsLongestMatch c.in-Some.lexer c.args.chars.now c.args.at c.args.starts.now n c.find_by_hint.new.matched.items) (λ n. AreMatched c.args.p.now c.args.chars.now c.args.at c.args.starts.now n c.find_by_hint.new.matched.items)
    (λ n m. matched c.matches_are_the_grammars.ensures c.args.p.now (c.known.ensures.accepted.checked.lexical is.0) c.in-Some.lexer is c.args.chars.now c.args.at c.args.starts.now c.requires.starts n c.find_by_hint.new.matched.items m) some)
    c.find_by_hint.ensures.some

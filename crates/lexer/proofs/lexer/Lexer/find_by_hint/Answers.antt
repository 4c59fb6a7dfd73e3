use Rattle.std.proofs.Common.{◌<◌, ℕ, sym, subst, length, IfOk, Contains}
use Rattle.std.specs.Prelude.{IsNone, IfSome}
use Rattle.lexer.specs.Lexical.{LexicalForm, IsLongestMatch, IsUnmatched}
use Rattle.lexer.proofs.lexer.Lexer.find_by_hint.Goals as goal

pub longest_by-requires-clause-starts : goal.longest_by-requires-clause-starts
longest_by-requires-clause-starts c = subst (λ (l : LexicalForm). (k : ℕ) → Contains c.args.candidates.now k → k < length l.flat.tops) (sym c.self.view_is) c.requires.starts

pub returns-clause-none : goal.returns-clause-none
returns-clause-none c = subst (λ (l : LexicalForm). IfOk c.longest_by.result (λ longest. IsNone longest → IsUnmatched l c.args.chars.now c.args.at c.args.candidates.now)) c.self.view_is c.longest_by.ensures.none

pub returns-clause-some : goal.returns-clause-some
returns-clause-some c =
    subst (λ (l : LexicalForm). IfOk c.longest_by.result (λ longest. IfSome longest (λ n. IsLongestMatch l c.args.chars.now c.args.at c.args.candidates.now n c.longest_by.new.matched.items))) c.self.view_is c.longest_by.ensures.some

-- What a lexer for the lexical grammar matches is what the grammar does.
use Rattle.std.proofs.Common.{◌↔◌, ℕ, ◌+◌, ◌<◌, List, length, Contains, Some, sym, subst}
use Rattle.grammar_model.specs.Checked.{IsChecked}
use Rattle.language_model.specs.Building.{Built}
use Rattle.language_model.specs.Classes.{Class}
use Rattle.reading_model.specs.Matches.{Matches}
use Rattle.lexer.specs.Lexical.{LexicalForm, HasMatch, IsLongestMatch, IsUnmatched}
use Rattle.lexer.specs.Laws.{MatchesAreTheGrammars}
use Rattle.scanless.specs.Pieces.{IsLexerOf, AreMatched}

module _ (law : MatchesAreTheGrammars) (b : Built) (checked : IsChecked b.l0) (l : LexicalForm) (is : IsLexerOf b (Some l)) (text : List ℕ) (at : ℕ) (starts : List ℕ) (known : (k : ℕ) → Contains starts k → k < length b.l0.starts) where
  match_is : (k to : ℕ) → Contains starts k → HasMatch l text k at to ↔ Matches b text k at to
  match_is k to c =
      subst (λ (sets : List (ℕ × Class)). HasMatch (record { flat = l.flat; sets = sets }) text k at to ↔ Matches b text k at to) (sym is.3)
      (law b l.flat text k at to checked is.1 is.2 (known k c))

  pub unmatched : IsUnmatched l text at starts → (k m : ℕ) → Contains starts k → 0 < m → Matches b text k at (at + m) → ⊥
  unmatched none k m c some h = none k m c some ((match_is k (at + m) c).1 h)

  pub matched : (n : ℕ) (ks : List ℕ) → IsLongestMatch l text at starts n ks → AreMatched b text at starts n ks
  matched n ks m = record {
    some = m.some;
    found = m.found;
    exact = λ k. (
      (λ c. (let (s, h) = (m.exact k).0 c in (s, (match_is k (at + n) s).0 h))),
      (λ (s, h). (m.exact k).1 (s, (match_is k (at + n) s).1 h)),
    );
    longest = λ k j c h. m.longest k j c ((match_is k (at + j) c).1 h);
  }

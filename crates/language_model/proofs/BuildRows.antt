-- Worked rows of building, each by computing.
use Rattle.std.specs.Prelude.{◌≡◌, ℕ, pos, Bool, true, false, List, [], ◌∷◌, codes, decimal, refl, Err}
use Rattle.std.specs.Str.{chars}
use Rattle.language_model.specs.declared.token.TokenKind.TheVariants.{Word, Quote, Bracket, Mark}
use Rattle.grammar_model.specs.declared.Assoc.TheVariants.{Left}
use Rattle.grammar_model.specs.Grammar.{Plain}
use Rattle.language_model.specs.Tokens.{Spelled}
use Rattle.language_model.specs.Description.{Element, Bare, Adverb, Pair, Statement, Start, Lexeme, Rules, cut, pieces_of, tokens_of, Describes}
use Rattle.language_model.specs.Building.{build, grammar_g1, grammar_l0, BadAdverb, RepeatedAdverb, LexemeNotDefined, InBoth, NotALexeme, BadClass, TwoStarts, NumberRange}
use Rattle.language_model.specs.Classes.{class_of, posix_len, hex_piece, escape_piece, piece_at, pieces_behind, items_of}

abbrev word_at : ℕ → List ℕ → Spelled
word_at at content = record { kind = Word; content = content; at = at }

abbrev quote_at : ℕ → List ℕ → Spelled
quote_at at content = record { kind = Quote; content = content; at = at }

abbrev mark_at : ℕ → List ℕ → Spelled
mark_at at content = record { kind = Mark; content = content; at = at }

abbrev bracket_at : ℕ → List ℕ → Spelled
bracket_at at content = record { kind = Bracket; content = content; at = at }

-- one alternative of these parts
abbrev rule : Spelled → Bool → List Spelled → List Adverb → Statement
rule left lexical parts adverbs = Rules left lexical ((record { elements = bares parts; adverbs = adverbs } ∷ []) ∷ [])
  where
    bares : List Spelled → List Element
    bares [] = []
    bares (t ∷ ts) = Bare t ∷ bares ts

bad_adverb : build (rule (word_at 0 (codes "S")) false (quote_at 6 (codes "'a'") ∷ []) (Pair (word_at 10 (codes "bless")) (word_at 19 (codes "x")) ∷ []) ∷ []) ≡ Err (BadAdverb (record { at = 10; name = codes "bless" }))
unfolding build
bad_adverb = refl

repeated_adverb : build (rule (word_at 0 (codes "S")) false (quote_at 6 (codes "'a'") ∷ []) (Pair (word_at 10 (codes "rank")) (word_at 18 (codes "1")) ∷ Pair (word_at 20 (codes "rank")) (word_at 28 (codes "2")) ∷ []) ∷ []) ≡ Err (RepeatedAdverb (record { at = 20; name = codes "rank" }))
unfolding build
repeated_adverb = refl

not_defined : build (rule (word_at 0 (codes "S")) false (word_at 6 (codes "T") ∷ []) [] ∷ []) ≡ Err (LexemeNotDefined (record { at = 6; name = codes "T" }))
unfolding build
not_defined = refl

both : build (rule (word_at 0 (codes "S")) false (quote_at 6 (codes "'a'") ∷ []) [] ∷ rule (word_at 10 (codes "S")) true (quote_at 14 (codes "'b'") ∷ []) [] ∷ []) ≡ Err (InBoth (record { at = 10; name = codes "S" }))
unfolding build
both = refl

no_lexeme : build (rule (word_at 0 (codes "S")) false (quote_at 6 (codes "'a'") ∷ []) [] ∷ Lexeme 10 (word_at 20 (codes "S")) (Pair (word_at 22 (codes "priority")) (word_at 34 (codes "1")) ∷ []) ∷ []) ≡ Err (NotALexeme (record { at = 20; name = codes "S" }))
unfolding build
no_lexeme = refl

class : build (rule (word_at 0 (codes "S")) false (bracket_at 6 (codes "[z-a]") ∷ []) [] ∷ []) ≡ Err (BadClass (record { at = 6; name = codes "[z-a]" }))
unfolding build chars class_of posix_len hex_piece escape_piece piece_at pieces_behind items_of
class = refl

starts : build (Start 0 (word_at 11 (codes "S")) ∷ Start 13 (word_at 24 (codes "S")) ∷ rule (word_at 26 (codes "S")) false (quote_at 32 (codes "'a'") ∷ []) [] ∷ []) ≡ Err (TwoStarts (record { at = 13; name = codes ":start" }))
unfolding build
starts = refl

range : build (rule (word_at 0 (codes "S")) false (quote_at 6 (codes "'a'") ∷ []) (Pair (word_at 10 (codes "rank")) (word_at 18 (codes "1000001")) ∷ []) ∷ []) ≡ Err (NumberRange (record { at = 18; name = codes "1000001" }))
unfolding build
range = refl

-- `E ::= E '+' E | N` and `N ~ [\d]`: two rules of E; the lexical symbols are '+', N, [\d], and the two sets
g1_of_sums : grammar_g1 (Rules (word_at 0 (codes "E")) false ((record { elements = Bare (word_at 6 (codes "E")) ∷ Bare (quote_at 8 (codes "'+'")) ∷ Bare (word_at 12 (codes "E")) ∷ []; adverbs = [] } ∷ record { elements = Bare (word_at 16 (codes "N")) ∷ []; adverbs = [] } ∷ []) ∷ []) ∷ rule (word_at 18 (codes "N")) true (bracket_at 22 (codes "[\\d]") ∷ []) [] ∷ [])
    ≡ record { names = codes "E" ∷ codes "'+'" ∷ codes "N" ∷ []; rules = Plain (record { lhs = 0; rhs = 0 ∷ 1 ∷ 0 ∷ []; level = 0; groups = 1; assoc = Left; rank = pos 0; null_high = false }) ∷ Plain (record { lhs = 0; rhs = 2 ∷ []; level = 0; groups = 1; assoc = Left; rank = pos 0; null_high = false }) ∷ []; starts = 0 ∷ [] }
g1_of_sums = refl

l0_of_sums : grammar_l0 (Rules (word_at 0 (codes "E")) false ((record { elements = Bare (word_at 6 (codes "E")) ∷ Bare (quote_at 8 (codes "'+'")) ∷ Bare (word_at 12 (codes "E")) ∷ []; adverbs = [] } ∷ record { elements = Bare (word_at 16 (codes "N")) ∷ []; adverbs = [] } ∷ []) ∷ []) ∷ rule (word_at 18 (codes "N")) true (bracket_at 22 (codes "[\\d]") ∷ []) [] ∷ [])
    ≡ record { names = codes "'+'" ∷ codes "N" ∷ codes "[\\d]" ∷ (58 ∷ decimal 0) ∷ (58 ∷ decimal 1) ∷ []; rules = Plain (record { lhs = 1; rhs = 2 ∷ []; level = 0; groups = 1; assoc = Left; rank = pos 0; null_high = false }) ∷ Plain (record { lhs = 0; rhs = 3 ∷ []; level = 0; groups = 1; assoc = Left; rank = pos 0; null_high = false }) ∷ Plain (record { lhs = 2; rhs = 4 ∷ []; level = 0; groups = 1; assoc = Left; rank = pos 0; null_high = false }) ∷ []; starts = 0 ∷ 1 ∷ [] }
unfolding chars class_of posix_len hex_piece escape_piece piece_at pieces_behind items_of
l0_of_sums = refl

-- `S ::= 'a' ; 'b'` has two pieces, the second of which begins at the thirteenth character
two_pieces : pieces_of (word_at 0 (codes "S") ∷ mark_at 2 (codes "::=") ∷ quote_at 6 (codes "'a'") ∷ mark_at 10 (codes ";") ∷ quote_at 12 (codes "'b'") ∷ []) ≡ (word_at 0 (codes "S") ∷ mark_at 2 (codes "::=") ∷ quote_at 6 (codes "'a'") ∷ []) ∷ (quote_at 12 (codes "'b'") ∷ []) ∷ []
unfolding cut
two_pieces = refl

-- `lexeme default = latm => 1`, `S ::= lexeme`, `default ~ x` are three pieces
three_pieces : pieces_of (word_at 0 (codes "lexeme") ∷ word_at 7 (codes "default") ∷ mark_at 15 (codes "=") ∷ word_at 17 (codes "latm") ∷ mark_at 22 (codes "=>") ∷ word_at 25 (codes "1") ∷ word_at 27 (codes "S") ∷ mark_at 29 (codes "::=") ∷ word_at 33 (codes "lexeme") ∷ word_at 40 (codes "default") ∷ mark_at 48 (codes "~") ∷ word_at 50 (codes "x") ∷ [])
    ≡ (word_at 0 (codes "lexeme") ∷ word_at 7 (codes "default") ∷ mark_at 15 (codes "=") ∷ word_at 17 (codes "latm") ∷ mark_at 22 (codes "=>") ∷ word_at 25 (codes "1") ∷ []) ∷ (word_at 27 (codes "S") ∷ mark_at 29 (codes "::=") ∷ word_at 33 (codes "lexeme") ∷ []) ∷ (word_at 40 (codes "default") ∷ mark_at 48 (codes "~") ∷ word_at 50 (codes "x") ∷ []) ∷ []
unfolding cut
three_pieces = refl

-- the description of `S ::= 'a' rank => 1 | T`
described : Describes (Rules (word_at 0 (codes "S")) false ((record { elements = Bare (quote_at 6 (codes "'a'")) ∷ []; adverbs = Pair (word_at 10 (codes "rank")) (word_at 18 (codes "1")) ∷ [] } ∷ record { elements = Bare (word_at 22 (codes "T")) ∷ []; adverbs = [] } ∷ []) ∷ []) ∷ [])
    (word_at 0 (codes "S") ∷ mark_at 2 (codes "::=") ∷ quote_at 6 (codes "'a'") ∷ word_at 10 (codes "rank") ∷ mark_at 15 (codes "=>") ∷ word_at 18 (codes "1") ∷ mark_at 20 (codes "|") ∷ word_at 22 (codes "T") ∷ [])
unfolding cut tokens_of
described = ((refl, ((refl, refl, refl), ((refl, refl, tt), ((refl, refl, refl), ((refl, refl, refl), ((refl, refl, tt), ((refl, refl, refl), ((refl, refl, tt), ((refl, refl, refl), tt))))))))), tt)

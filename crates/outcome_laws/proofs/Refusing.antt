-- Grammars that are refused: by their tokens, their statements, what these describe, and the check of what is built of them.
use Rattle.std.proofs.Common.{◌≡◌, ◌∙◌, ◌==◌, ℕ, ◌<◌, true, false, List, [], ◌∷◌, ◌++◌, length, ap, codes, map, Some, None, IsAscii, refl, sym, subst, arith, lit<, lit≤}
use Rattle.std.specs.Fmt.{digits}
use Rattle.std.specs.Str.{chars}
use Rattle.std.proofs.lemmas.Str.{chars-IsAscii, IsUtf8-from_ascii}
use Rattle.unicode.specs.Binary.{is_white_space}
use Rattle.ucd_perl.specs.Perl.{is_word_byte}
use Rattle.ucd_perl.proofs.PerlLemmas.{is_word_char-ascii}
use Rattle.ucd_props.specs.Ranges.{white_space_ranges}
use Rattle.ucd_table.specs.Rows.{in_ranges}
use Rattle.grammar_model.specs.Checked.{Refusal, NoRules, NoStart, StartNotLhs, SequenceLhs, Duplicate, CountedNullable, UnproductiveStart, Cyclic, IsFault, kind_of}
use Rattle.language_model.specs.declared.token.TokenKind.TheVariants.{Word, Mark}
use Rattle.language_model.specs.declared.token.Token.{Token}
use Rattle.language_model.specs.Tokens.{AreTokens, IsBadPlace, spelled_at, is_word}
use Rattle.language_model.specs.Layout.{layout_len}
use Rattle.language_model.specs.Description.{Statement, Start, Default, LexemeDefault, Lexeme, Discard, Empty, Quantified, Rules, Bare, Describes, Spells, IsBadStatement, cut, tokens_of}
use Rattle.language_model.specs.Building.{LexemeNotDefined, faults_of, built_of}
use Rattle.language_model.specs.Texts.{HasDescription}
use Rattle.reading_model.specs.Accepted.{Structural}
use Rattle.dsl_tokens.specs.Scanning.{token_at, word_at, mark_at}
use Rattle.dsl_tokens.proofs.LongestLemmas.{IsLongest-found, none_found, not_word}
use Rattle.run_model.specs.Texts.{place_text}
use Rattle.run_model.specs.Texts.TextFault.{BadToken, BadStatement}
use Rattle.run_model.specs.Refused.{IsRefused, build_text}
use Rattle.run_model.specs.Refused.IsRefused.{ByText, ByDescription, ByGrammars}
use Rattle.run_model.specs.Given.IsRefusedFor.{ForGrammar}
use Rattle.run_model.specs.Outcome.IsOutcome.{OfJob}
use Rattle.run_model.specs.Outcome.IsGrammarOutcome.{GrammarRefused}
use Rattle.work_laws.proofs.Text.{ascii_of}
use Rattle.outcome_laws.specs.Laws.{Refuses}
use Rattle.outcome_laws.proofs.Telling.{job}

of_refusal : (grammar text : List ℕ) → IsRefused grammar text → Refuses grammar text
of_refusal grammar text is input = OfJob job refl (GrammarRefused text (ForGrammar is) refl)

-- ---- no token

dollar_none : token_at (36 ∷ []) ≡ None
unfolding token_at mark_at
dollar_none = rw (not_word 36 (lit< tt) refl) refl

dollar_ascii : IsAscii (codes "$")
dollar_ascii = ascii_of (codes "$") refl

bad_place : IsBadPlace (codes "$") 0
unfolding layout_len is_white_space in_ranges white_space_ranges
bad_place = record { before = []; lead = refl; within = lit< tt; none = none_found (codes "$") 0 (lit< tt) dollar_none }

token_told : codes "grammar: bad token at line 1 column 1" ≡ codes "grammar: bad token at " ++ place_text (codes "$") 0
unfolding digits
token_told = refl

pub bad_token : Refuses (codes "$") (codes "grammar: bad token at line 1 column 1")
bad_token = of_refusal (codes "$") (codes "grammar: bad token at line 1 column 1")
    (ByText (BadToken 0)
    (record { text = record { within = lit≤ tt; utf8 = IsUtf8-from_ascii (codes "$") dollar_ascii }; bad = subst (λ text. IsBadPlace text 0) (sym (chars-IsAscii (codes "$") dollar_ascii)) bad_place })
    (token_told ∙ ap (λ cs. codes "grammar: bad token at " ++ place_text cs 0) (sym (chars-IsAscii (codes "$") dollar_ascii))))

-- ---- no statement

a_word : (c : ℕ) → c < 128 → is_word_byte c ≡ true → is_word c ≡ true
a_word c below byte = is_word_char-ascii c below ∙ byte

letter_alone : (c : ℕ) → is_word c ≡ true → (110 == c) ≡ false → token_at (c ∷ []) ≡ Some (Word, 1)
unfolding token_at word_at
letter_alone c is no_mark = rw (is, no_mark) refl

a_ascii : IsAscii (codes "a")
a_ascii = ascii_of (codes "a") refl

a_tokens : AreTokens (codes "a") (record { kind = Word; from = 0; to = 1 } ∷ [])
unfolding layout_len is_white_space in_ranges white_space_ranges
a_tokens = (refl, IsLongest-found (codes "a") 0 Word 1 (lit< tt) (letter_alone 97 (a_word 97 (lit< tt) refl) refl), refl)

-- each statement has more tokens than a word
too_few : (s : Statement) → Spells s (record { kind = Word; content = codes "a"; at = 0 } ∷ []) → ⊥
unfolding tokens_of
too_few (Start at name) (is, (first, more)) = more
too_few (Default at adverbs) (is, (first, more)) = more
too_few (LexemeDefault at adverbs) (is, (first, more)) = more
too_few (Lexeme at name adverbs) (is, (first, more)) = more
too_few (Discard at item adverbs) (is, (first, more)) = more
too_few (Empty left lexical adverbs) (is, (first, more)) = more
too_few (Quantified left lexical item plus adverbs) (is, (first, more)) = more
too_few (Rules left lexical groups) (is, (first, more)) = more

a_bad : IsBadStatement (map (spelled_at (codes "a")) (record { kind = Word; from = 0; to = 1 } ∷ [])) 0
unfolding cut lib.Utf8.encode
a_bad = record { good = []; bad = record { kind = Word; content = codes "a"; at = 0 }; behind = []; rest = []; pieces = refl; statements = []; described = tt; none = too_few; place = refl }

statement_told : codes "grammar: bad statement at line 1 column 1" ≡ codes "grammar: bad statement at " ++ place_text (codes "a") 0
unfolding digits
statement_told = refl

pub bad_statement : Refuses (codes "a") (codes "grammar: bad statement at line 1 column 1")
bad_statement = of_refusal (codes "a") (codes "grammar: bad statement at line 1 column 1")
    (ByText (BadStatement 0)
    (record {
      tokens = record { kind = Word; from = 0; to = 1 } ∷ [];
      has = record { text = record { within = lit≤ tt; utf8 = IsUtf8-from_ascii (codes "a") a_ascii }; are = subst (λ text. AreTokens text (record { kind = Word; from = 0; to = 1 } ∷ [])) (sym (chars-IsAscii (codes "a") a_ascii)) a_tokens };
      bad = subst (λ text. IsBadStatement (map (spelled_at text) (record { kind = Word; from = 0; to = 1 } ∷ [])) 0) (sym (chars-IsAscii (codes "a") a_ascii)) a_bad;
    })
    (statement_told ∙ ap (λ cs. codes "grammar: bad statement at " ++ place_text cs 0) (sym (chars-IsAscii (codes "a") a_ascii))))

-- ---- a description with a fault

lexical_ascii : IsAscii (codes "a ~ b")
lexical_ascii = ascii_of (codes "a ~ b") refl

abbrev lexical_tokens : List Token
lexical_tokens = record { kind = Word; from = 0; to = 1 } ∷ record { kind = Mark; from = 2; to = 3 } ∷ record { kind = Word; from = 4; to = 5 } ∷ []

letter_before : (c d : ℕ) (rest : List ℕ) → is_word c ≡ true → is_word d ≡ false → (110 == c) ≡ false → token_at (c ∷ d ∷ rest) ≡ Some (Word, 1)
unfolding token_at word_at
letter_before c d rest is other no_mark = rw (is, other, no_mark) refl

tilde : token_at (126 ∷ 32 ∷ 98 ∷ []) ≡ Some (Mark, 1)
unfolding token_at mark_at
tilde = rw (not_word 126 (lit< tt) refl) refl

lexical_are : AreTokens (codes "a ~ b") lexical_tokens
unfolding layout_len is_white_space in_ranges white_space_ranges
lexical_are = (
  refl,
  IsLongest-found (codes "a ~ b") 0 Word 1 (lit< tt) (letter_before 97 32 (codes "~ b") (a_word 97 (lit< tt) refl) (not_word 32 (lit< tt) refl) refl),
  (
    refl,
    IsLongest-found (codes "a ~ b") 2 Mark 1 (lit< tt) tilde,
    (
      refl,
      IsLongest-found (codes "a ~ b") 4 Word 1 (lit< tt) (letter_alone 98 (a_word 98 (lit< tt) refl) refl),
      refl,
    ),
  ),
)

abbrev lexical_statement : Statement
lexical_statement = Rules (record { kind = Word; content = codes "a"; at = 0 }) true ((record { elements = Bare (record { kind = Word; content = codes "b"; at = 4 }) ∷ []; adverbs = [] } ∷ []) ∷ [])

lexical_describes : Describes (lexical_statement ∷ []) (map (spelled_at (codes "a ~ b")) lexical_tokens)
unfolding cut tokens_of lib.Utf8.encode
lexical_describes = ((refl, ((refl, refl, refl), ((refl, refl, tt), ((refl, refl, refl), tt)))), tt)

lexical_description : HasDescription (codes "a ~ b") (lexical_statement ∷ [])
lexical_description = record {
  tokens = lexical_tokens;
  has = record { text = record { within = lit≤ tt; utf8 = IsUtf8-from_ascii (codes "a ~ b") lexical_ascii }; are = subst (λ text. AreTokens text lexical_tokens) (sym (chars-IsAscii (codes "a ~ b") lexical_ascii)) lexical_are };
  described = subst (λ text. Describes (lexical_statement ∷ []) (map (spelled_at text) lexical_tokens)) (sym (chars-IsAscii (codes "a ~ b") lexical_ascii)) lexical_describes;
}

first_fault : faults_of (lexical_statement ∷ []) ≡ LexemeNotDefined (record { name = codes "b"; at = 4 }) ∷ []
unfolding chars
first_fault = refl

description_told : codes "grammar: no rule for b at line 1 column 5" ≡ codes "grammar: " ++ build_text (codes "a ~ b") (LexemeNotDefined (record { name = codes "b"; at = 4 }))
unfolding digits
description_told = refl

pub bad_description : Refuses (codes "a ~ b") (codes "grammar: no rule for b at line 1 column 5")
bad_description = of_refusal (codes "a ~ b") (codes "grammar: no rule for b at line 1 column 5")
    (ByDescription (lexical_statement ∷ []) lexical_description (LexemeNotDefined (record { name = codes "b"; at = 4 })) [] first_fault
    (description_told ∙ ap (λ cs. codes "grammar: " ++ build_text cs (LexemeNotDefined (record { name = codes "b"; at = 4 }))) (sym (chars-IsAscii (codes "a ~ b") lexical_ascii))))

-- ---- grammars that are not accepted

nothing_ascii : IsAscii []
nothing_ascii = ascii_of [] refl

nothing_tokens : AreTokens [] []
unfolding layout_len
nothing_tokens = refl

nothing_described : HasDescription [] []
unfolding cut
nothing_described = record {
  tokens = [];
  has = record { text = record { within = lit≤ tt; utf8 = IsUtf8-from_ascii [] nothing_ascii }; are = subst (λ text. AreTokens text []) (sym (chars-IsAscii [] nothing_ascii)) nothing_tokens };
  described = tt;
}

nothing_faultless : faults_of [] ≡ []
unfolding chars
nothing_faultless = refl

no_rules : length (built_of []).g1.rules ≡ 0
unfolding chars
no_rules = refl

pub bad_grammar : Refuses [] (codes "grammar: no rules")
bad_grammar = of_refusal [] (codes "grammar: no rules")
    (ByGrammars [] nothing_described (built_of []) (record { described = ([], nothing_described); faultless = nothing_faultless; is = refl }) (Structural NoRules)
    (record { fault = no_rules; first = none_before }) refl)
  where
    none_before : (other : Refusal) → kind_of other < 1 → IsFault (built_of []).g1 other → ⊥
    none_before NoRules lt f = omega (arith, lt)
    none_before NoStart lt f = omega (arith, lt)
    none_before (StartNotLhs s) lt f = omega (arith, lt)
    none_before (SequenceLhs s) lt f = omega (arith, lt)
    none_before (Duplicate r) lt f = omega (arith, lt)
    none_before (CountedNullable r) lt f = omega (arith, lt)
    none_before (UnproductiveStart s) lt f = omega (arith, lt)
    none_before (Cyclic c) lt f = omega (arith, lt)

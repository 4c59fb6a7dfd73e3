-- The tokens and the statements of the job's own grammar.
use Rattle.std.proofs.Common.{◌≡◌, ◌∙◌, ◌==◌, ℕ, ◌+◌, ◌<◌, true, false, List, [], ◌∷◌, drop, codes, chars, map, nat_lt, Some, IsAscii, refl, sym, subst, lit<, lit≤}
use Rattle.std.specs.List.{list_all}
use Rattle.std.proofs.lemmas.Bool.{and_parts, ltb-true}
use Rattle.std.proofs.lemmas.Str.{chars-IsAscii, IsUtf8-from_ascii}
use Rattle.std.proofs.lemmas.Str.Ascii.{IsAscii-nil, IsAscii-cons}
use Rattle.unicode.specs.Binary.{is_white_space}
use Rattle.ucd_perl.specs.Perl.{is_word_byte}
use Rattle.ucd_perl.proofs.PerlLemmas.{is_word_char-ascii}
use Rattle.ucd_props.specs.Ranges.{white_space_ranges}
use Rattle.ucd_table.specs.Rows.{in_ranges}
use Rattle.language_model.specs.declared.token.TokenKind.{TokenKind}
use Rattle.language_model.specs.declared.token.TokenKind.TheVariants.{Word, Quote, Mark}
use Rattle.language_model.specs.declared.token.Token.{Token}
use Rattle.language_model.specs.Tokens.{Spelled, IsLongest, AreTokens, spelled_at, is_word}
use Rattle.language_model.specs.Layout.{layout_len}
use Rattle.language_model.specs.Description.{Statement, Rules, Bare, Alternative, Element, Describes, cut, tokens_of}
use Rattle.language_model.specs.Texts.{IsText, HasDescription}
use Rattle.dsl_tokens.specs.Scanning.{token_at, word_at, quote_at, colon_at, mark_at, modifier_at}
use Rattle.dsl_tokens.proofs.LongestLemmas.{IsLongest-found, not_word}
use Rattle.run_model.specs.Jobs.{work_grammar}

-- ---- the characters

pub ascii_of : (bs : List ℕ) → list_all (λ b. nat_lt b 128) bs ≡ true → IsAscii bs
ascii_of [] h = IsAscii-nil
ascii_of (b ∷ bs) h = let (low, rest) = and_parts (nat_lt b 128) (list_all (λ b. nat_lt b 128) bs) h in IsAscii-cons b bs (ltb-true b 128 low) (ascii_of bs rest)

grammar_ascii : IsAscii work_grammar
grammar_ascii = ascii_of work_grammar refl

grammar_chars : chars work_grammar ≡ work_grammar
grammar_chars = chars-IsAscii work_grammar grammar_ascii

is_text : IsText work_grammar
is_text = record { within = lit≤ tt; utf8 = IsUtf8-from_ascii work_grammar grammar_ascii }

-- ---- the tokens

abbrev token : TokenKind → ℕ → ℕ → Token
token kind from to = record { kind = kind; from = from; to = to }

abbrev pub work_tokens : List Token
work_tokens =
    token Word 0 1 ∷ token Mark 2 5 ∷ token Word 6 7 ∷ token Word 8 9 ∷ token Mark 10 11 ∷ token Word 12 13
    ∷ token Word 14 15 ∷ token Mark 16 19 ∷ token Quote 20 23 ∷ token Mark 24 25 ∷ token Quote 26 29 ∷ token Word 30 31 ∷ token Quote 32 35 ∷ []

a_word : (c : ℕ) → c < 128 → is_word_byte c ≡ true → is_word c ≡ true
a_word c below byte = is_word_char-ascii c below ∙ byte

-- a letter that is a word by itself
letter : (c d : ℕ) (rest : List ℕ) → is_word c ≡ true → is_word d ≡ false → (110 == c) ≡ false → token_at (c ∷ d ∷ rest) ≡ Some (Word, 1)
unfolding token_at word_at
letter c d rest is other no_mark = rw (is, other, no_mark) refl

letter_l : (rest : List ℕ) → token_at (76 ∷ 32 ∷ rest) ≡ Some (Word, 1)
letter_l rest = letter 76 32 rest (a_word 76 (lit< tt) refl) (not_word 32 (lit< tt) refl) refl

letter_i : (rest : List ℕ) → token_at (73 ∷ 32 ∷ rest) ≡ Some (Word, 1)
letter_i rest = letter 73 32 rest (a_word 73 (lit< tt) refl) (not_word 32 (lit< tt) refl) refl

letter_end : (rest : List ℕ) → token_at (73 ∷ 10 ∷ rest) ≡ Some (Word, 1)
letter_end rest = letter 73 10 rest (a_word 73 (lit< tt) refl) (not_word 10 (lit< tt) refl) refl

-- `::=`
becomes : (rest : List ℕ) → token_at (58 ∷ 58 ∷ 61 ∷ rest) ≡ Some (Mark, 3)
unfolding token_at colon_at
becomes rest = rw (not_word 58 (lit< tt) refl) refl

-- `|`
or_else : (rest : List ℕ) → token_at (124 ∷ 32 ∷ rest) ≡ Some (Mark, 1)
unfolding token_at mark_at
or_else rest = rw (not_word 124 (lit< tt) refl) refl

-- a character in quotes
quote_a : (rest : List ℕ) → token_at (39 ∷ 97 ∷ 39 ∷ 32 ∷ rest) ≡ Some (Quote, 3)
unfolding token_at quote_at modifier_at
quote_a rest = rw (not_word 39 (lit< tt) refl) refl

quote_open : (rest : List ℕ) → token_at (39 ∷ 40 ∷ 39 ∷ 32 ∷ rest) ≡ Some (Quote, 3)
unfolding token_at quote_at modifier_at
quote_open rest = rw (not_word 39 (lit< tt) refl) refl

quote_close : (rest : List ℕ) → token_at (39 ∷ 41 ∷ 39 ∷ 10 ∷ rest) ≡ Some (Quote, 3)
unfolding token_at quote_at modifier_at
quote_close rest = rw (not_word 39 (lit< tt) refl) refl

longest : (at : ℕ) (kind : TokenKind) (len : ℕ) → at < 36 → token_at (drop at work_grammar) ≡ Some (kind, len) → IsLongest work_grammar (token kind at (at + len))
longest at kind len lt e = IsLongest-found work_grammar at kind len lt e

-- layout is single spaces and the ends of lines
are_tokens : AreTokens work_grammar work_tokens
unfolding layout_len is_white_space in_ranges white_space_ranges
are_tokens = (
  refl,
  longest 0 Word 1 (lit< tt) (letter_l (drop 2 work_grammar)),
  (
    refl,
    longest 2 Mark 3 (lit< tt) (becomes (drop 5 work_grammar)),
    (
      refl,
      longest 6 Word 1 (lit< tt) (letter_i (drop 8 work_grammar)),
      (
        refl,
        longest 8 Word 1 (lit< tt) (letter_l (drop 10 work_grammar)),
        (
          refl,
          longest 10 Mark 1 (lit< tt) (or_else (drop 12 work_grammar)),
          (
            refl,
            longest 12 Word 1 (lit< tt) (letter_end (drop 14 work_grammar)),
            (
              refl,
              longest 14 Word 1 (lit< tt) (letter_i (drop 16 work_grammar)),
              (
                refl,
                longest 16 Mark 3 (lit< tt) (becomes (drop 19 work_grammar)),
                (
                  refl,
                  longest 20 Quote 3 (lit< tt) (quote_a (drop 24 work_grammar)),
                  (
                    refl,
                    longest 24 Mark 1 (lit< tt) (or_else (drop 26 work_grammar)),
                    (
                      refl,
                      longest 26 Quote 3 (lit< tt) (quote_open (drop 30 work_grammar)),
                      (
                        refl,
                        longest 30 Word 1 (lit< tt) (letter_l (drop 32 work_grammar)),
                        (
                          refl,
                          longest 32 Quote 3 (lit< tt) (quote_close (drop 36 work_grammar)),
                          refl,
                        ),
                      ),
                    ),
                  ),
                ),
              ),
            ),
          ),
        ),
      ),
    ),
  ),
)

-- ---- the statements

abbrev said : TokenKind → List ℕ → ℕ → Spelled
said kind content at = record { kind = kind; content = content; at = at }

abbrev part : TokenKind → List ℕ → ℕ → Element
part kind content at = Bare (said kind content at)

abbrev alternative : List Element → Alternative
alternative elements = record { elements = elements; adverbs = [] }

-- L ::= I L | I
abbrev pub first_statement : Statement
first_statement = Rules (said Word (codes "L") 0) false
    ((alternative (part Word (codes "I") 6 ∷ part Word (codes "L") 8 ∷ []) ∷ alternative (part Word (codes "I") 12 ∷ []) ∷ []) ∷ [])

-- I ::= 'a' | '(' L ')'
abbrev pub second_statement : Statement
second_statement = Rules (said Word (codes "I") 14) false
    ((alternative (part Quote (codes "'a'") 20 ∷ []) ∷ alternative (part Quote (codes "'('") 26 ∷ part Word (codes "L") 30 ∷ part Quote (codes "')'") 32 ∷ []) ∷ []) ∷ [])

abbrev pub work_description : List Statement
work_description = first_statement ∷ second_statement ∷ []

describes : Describes work_description (map (spelled_at work_grammar) work_tokens)
unfolding cut tokens_of lib.Utf8.encode
describes = (
  (refl, ((refl, refl, refl), ((refl, refl, tt), ((refl, refl, refl), ((refl, refl, refl), ((refl, refl, tt), ((refl, refl, refl), tt))))))),
  (
    (refl, ((refl, refl, refl), ((refl, refl, tt), ((refl, refl, refl), ((refl, refl, tt), ((refl, refl, refl), ((refl, refl, refl), ((refl, refl, refl), tt)))))))),
    tt,
  ),
)

pub has_description : HasDescription work_grammar work_description
has_description = record {
  tokens = work_tokens;
  has = record { text = is_text; are = subst (λ text. AreTokens text work_tokens) (sym grammar_chars) are_tokens };
  described = subst (λ text. Describes work_description (map (spelled_at text) work_tokens)) (sym grammar_chars) describes;
}

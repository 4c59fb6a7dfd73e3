-- The tokens and the statement of the grammar of right recursion, and what is built of it.
use Rattle.std.proofs.Common.{◌≡◌, ℕ, ◌+◌, ◌<◌, false, List, [], ◌∷◌, drop, codes, map, Some, IsAscii, refl, sym, subst, lit<, lit≤}
use Rattle.std.specs.Fmt.{digits}
use Rattle.std.specs.Str.{chars}
use Rattle.std.proofs.lemmas.Str.{chars-IsAscii, IsUtf8-from_ascii}
use Rattle.unicode.specs.Binary.{is_white_space}
use Rattle.ucd_perl.proofs.PerlLemmas.{is_word_char-ascii}
use Rattle.ucd_props.specs.Ranges.{white_space_ranges}
use Rattle.ucd_table.specs.Rows.{in_ranges}
use Rattle.language_model.specs.declared.token.TokenKind.{TokenKind}
use Rattle.language_model.specs.declared.token.TokenKind.TheVariants.{Word, Quote, Mark}
use Rattle.language_model.specs.declared.token.Token.{Token}
use Rattle.language_model.specs.Tokens.{IsLongest, AreTokens, spelled_at}
use Rattle.language_model.specs.Layout.{layout_len}
use Rattle.language_model.specs.Description.{Statement, Rules, Bare, Alternative, Element, Describes, cut, tokens_of}
use Rattle.language_model.specs.Building.{faults_of, built_of}
use Rattle.language_model.specs.Texts.{IsText, HasDescription, IsBuiltOf}
use Rattle.dsl_tokens.specs.Scanning.{token_at, word_at, quote_at, colon_at, mark_at, modifier_at}
use Rattle.dsl_tokens.proofs.LongestLemmas.{IsLongest-found, not_word}
use Rattle.work_laws.proofs.Text.{ascii_of}
use Rattle.outcome_laws.specs.Figures.{right_grammar, right_built}

-- ---- the characters

grammar_ascii : IsAscii right_grammar
grammar_ascii = ascii_of right_grammar refl

grammar_chars : chars right_grammar ≡ right_grammar
grammar_chars = chars-IsAscii right_grammar grammar_ascii

is_text : IsText right_grammar
is_text = record { within = lit≤ tt; utf8 = IsUtf8-from_ascii right_grammar grammar_ascii }

-- ---- the tokens

abbrev token : TokenKind → ℕ → ℕ → Token
token kind from to = record { kind = kind; from = from; to = to }

abbrev right_tokens : List Token
right_tokens = token Word 0 1 ∷ token Mark 2 5 ∷ token Quote 6 9 ∷ token Word 10 11 ∷ token Mark 12 13 ∷ token Quote 14 17 ∷ []

letter : (rest : List ℕ) → token_at (83 ∷ 32 ∷ rest) ≡ Some (Word, 1)
unfolding token_at word_at
letter rest = rw (is_word_char-ascii 83 (lit< tt), not_word 32 (lit< tt) refl) refl

becomes : (rest : List ℕ) → token_at (58 ∷ 58 ∷ 61 ∷ rest) ≡ Some (Mark, 3)
unfolding token_at colon_at
becomes rest = rw (not_word 58 (lit< tt) refl) refl

or_else : (rest : List ℕ) → token_at (124 ∷ 32 ∷ rest) ≡ Some (Mark, 1)
unfolding token_at mark_at
or_else rest = rw (not_word 124 (lit< tt) refl) refl

quote : (rest : List ℕ) → token_at (39 ∷ 97 ∷ 39 ∷ 32 ∷ rest) ≡ Some (Quote, 3)
unfolding token_at quote_at modifier_at
quote rest = rw (not_word 39 (lit< tt) refl) refl

quote_end : (rest : List ℕ) → token_at (39 ∷ 97 ∷ 39 ∷ 10 ∷ rest) ≡ Some (Quote, 3)
unfolding token_at quote_at modifier_at
quote_end rest = rw (not_word 39 (lit< tt) refl) refl

longest : (at : ℕ) (kind : TokenKind) (len : ℕ) → at < 18 → token_at (drop at right_grammar) ≡ Some (kind, len) → IsLongest right_grammar (token kind at (at + len))
longest at kind len lt e = IsLongest-found right_grammar at kind len lt e

-- layout is single spaces and the end of the line
are_tokens : AreTokens right_grammar right_tokens
unfolding layout_len is_white_space in_ranges white_space_ranges
are_tokens = (
  refl,
  longest 0 Word 1 (lit< tt) (letter (drop 2 right_grammar)),
  (
    refl,
    longest 2 Mark 3 (lit< tt) (becomes (drop 5 right_grammar)),
    (
      refl,
      longest 6 Quote 3 (lit< tt) (quote (drop 10 right_grammar)),
      (
        refl,
        longest 10 Word 1 (lit< tt) (letter (drop 12 right_grammar)),
        (
          refl,
          longest 12 Mark 1 (lit< tt) (or_else (drop 14 right_grammar)),
          (refl, longest 14 Quote 3 (lit< tt) (quote_end (drop 18 right_grammar)), refl),
        ),
      ),
    ),
  ),
)

-- ---- the statement

abbrev part : TokenKind → List ℕ → ℕ → Element
part kind content at = Bare (record { kind = kind; content = content; at = at })

abbrev alternative : List Element → Alternative
alternative elements = record { elements = elements; adverbs = [] }

abbrev pub description : List Statement
description = Rules (record { kind = Word; content = codes "S"; at = 0 }) false
    ((alternative (part Quote (codes "'a'") 6 ∷ part Word (codes "S") 10 ∷ []) ∷ alternative (part Quote (codes "'a'") 14 ∷ []) ∷ []) ∷ []) ∷ []

describes : Describes description (map (spelled_at right_grammar) right_tokens)
unfolding cut tokens_of lib.Utf8.encode
describes = ((refl, ((refl, refl, refl), ((refl, refl, tt), ((refl, refl, refl), ((refl, refl, refl), ((refl, refl, tt), ((refl, refl, refl), tt))))))), tt)

pub has_description : HasDescription right_grammar description
has_description = record {
  tokens = right_tokens;
  has = record { text = is_text; are = subst (λ text. AreTokens text right_tokens) (sym grammar_chars) are_tokens };
  described = subst (λ text. Describes description (map (spelled_at text) right_tokens)) (sym grammar_chars) describes;
}

-- ---- what is built of it

faultless : faults_of description ≡ []
unfolding chars
faultless = refl

built : right_built ≡ built_of description
unfolding chars digits
built = refl

pub is_built_of : IsBuiltOf description right_built
is_built_of = record { described = (right_grammar, has_description); faultless = faultless; is = built }

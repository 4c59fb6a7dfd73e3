-- The first tokens of a piece.
use Rattle.std.specs.Prelude.{◌≡◌, ℕ, ◌+◌, ◌≤◌, Bool, true, false, not, ◌&&◌, List, [], ◌∷◌, length, map, if◌then◌else◌, bytes_eq, Option, Some, None}
use Rattle.language_model.specs.declared.token.TokenKind.{TokenKind}
use Rattle.language_model.specs.declared.token.TokenKind.TheVariants.{Angle, Pseudo}
use Rattle.language_model.specs.declared.token.Token.{Token}
use Rattle.language_model.specs.Tokens.{Spelled, spelled_at}
use Rattle.language_model.specs.Description.{is_kind_of_part, is_kind_of_single, is_kind_of_value, is_mark}

-- the token is within the text, and an angle has its two ends
pub record IsPlaced (text : List ℕ) (t : Token) : Type 0 where
  pub order : t.from ≤ t.to
  pub within : t.to ≤ length text
  pub ends : t.kind ≡ Angle → t.from + 2 ≤ t.to

unfoldable pub spelled_tokens : List ℕ → List Token → List Spelled
spelled_tokens text tokens = map (spelled_at text) tokens

abbrev pub first_is : (Spelled → Bool) → List Spelled → Bool
first_is p [] = false
first_is p (t ∷ ts) = p t

abbrev pub first_of : List Spelled → Option Spelled
first_of [] = None
first_of (t ∷ ts) = Some t

abbrev pub first_kind : List Spelled → Option TokenKind
first_kind [] = None
first_kind (t ∷ ts) = Some t.kind

-- the first token, where it passes the test
abbrev pub first_such : (Spelled → Bool) → List Spelled → Option Spelled
first_such p [] = None
first_such p (t ∷ ts) = if p t then Some t else None

abbrev pub first_place : List Spelled → ℕ
first_place [] = 0
first_place (t ∷ ts) = t.at

abbrev pub is_pseudo_of : List ℕ → Spelled → Bool
is_pseudo_of content t = is_kind_pseudo t.kind && bytes_eq t.content content
  where
    is_kind_pseudo : TokenKind → Bool
    is_kind_pseudo Pseudo = true
    is_kind_pseudo _ = false

abbrev pub is_part : Spelled → Bool
is_part t = is_kind_of_part t.kind

abbrev pub is_single : Spelled → Bool
is_single t = is_kind_of_single t.kind

abbrev pub is_value : Spelled → Bool
is_value t = is_kind_of_value t.kind

abbrev pub is_unlike : List ℕ → Spelled → Bool
is_unlike content t = not (is_mark content t)

-- The tokens that name symbols, in order of the text, and what each is used as.
use Rattle.std.specs.Prelude.{◌≡◌, ℕ, Bool, false, true, List, [], ◌∷◌, ◌++◌, map, flat_map, take, option_to_list, not, ◌&&◌, if◌then◌else◌}
use Rattle.language_model.specs.Tokens.{Spelled}
use Rattle.language_model.specs.Description.{Statement, Start, Discard}
use Rattle.language_model.specs.Building.{left_of, right_of}
use Rattle.dsl_statement.specs.declared.statement.Level.{Level}
use Rattle.dsl_statement.specs.Statements.{is_lexical}
use Rattle.dsl_faults.specs.declared.uses.Role.{Role}
use Rattle.dsl_faults.specs.declared.uses.Role.TheVariants as role
use Rattle.dsl_faults.specs.declared.uses.Use.{Use}
use Rattle.dsl_faults.specs.declared.uses.Which.{Which}
use Rattle.dsl_faults.specs.declared.uses.Which.TheVariants as which

pub record Used : Type 0 where
  pub role : Role
  pub lexical : Bool
  pub token : Spelled

abbrev pub used_of : Use → Used
used_of u = record { role = u.role; lexical = is_lexical u.level; token = u.token.now }

abbrev pub used : Role → Bool → Spelled → Used
used r lexical token = record { role = r; lexical = lexical; token = token }

-- parts of a right side, by the level of its rule
abbrev pub on_right : Level → List Spelled → List Used
on_right level parts = map (used role.Right (is_lexical level)) parts

-- these uses stand after the others
abbrev pub AddsUses : (old new : List Use) → List Used → Type 0
AddsUses old new more = map used_of new ≡ map used_of old ++ more

abbrev pub start_tokens : Statement → List Spelled
start_tokens (Start at name) = name ∷ []
start_tokens _ = []

abbrev pub right_role : Statement → Role
right_role (Discard at item adverbs) = role.Discard
right_role _ = role.Right

-- the name of a `:start`, the left side of a rule, and the symbols on its right side or in a `:discard`
abbrev pub uses_of : Statement → List Used
uses_of s = map (used role.Start false) (start_tokens s) ++ map (λ l. used role.Left l.0 l.1) (option_to_list (left_of s)) ++ map (λ r. used (right_role s) r.0 r.1) (right_of s)

-- which uses are asked for
abbrev pub is_right : Used → Bool
is_right u = is_right_role u.role
  where
    is_right_role : Role → Bool
    is_right_role role.Right = true
    is_right_role role.Discard = true
    is_right_role _ = false

abbrev pub is_left : Used → Bool
is_left u = is_left_role u.role
  where
    is_left_role : Role → Bool
    is_left_role role.Left = true
    is_left_role _ = false

abbrev pub is_discard : Used → Bool
is_discard u = is_discard_role u.role
  where
    is_discard_role : Role → Bool
    is_discard_role role.Discard = true
    is_discard_role _ = false

abbrev pub is_named_start : Used → Bool
is_named_start u = is_start_role u.role
  where
    is_start_role : Role → Bool
    is_start_role role.Start = true
    is_start_role _ = false

abbrev pub is_asked : Which → Used → Bool
is_asked which.StructuralLeft u = is_left u && not u.lexical
is_asked which.LexicalLeft u = is_left u && u.lexical
is_asked which.Structural u = not u.lexical
is_asked which.Discarded u = is_discard u
is_asked which.Started u = is_named_start u

abbrev pub texts_asked : Which → Used → List (List ℕ)
texts_asked w u = if is_asked w u then u.token.content ∷ [] else []

-- the name of a `:start`, else the first structural left side
abbrev pub starts_asked : List Used → List (List ℕ)
starts_asked us = take 1 (flat_map (texts_asked which.Started) us ++ flat_map (texts_asked which.StructuralLeft) us)

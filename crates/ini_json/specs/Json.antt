-- Settings as JSON: an object of groups, each an object of names and texts. All as bytes.
use Rattle.std.specs.Prelude.{ℕ, ◌/◌, ◌%◌, ◌==◌, nat_lt, Bool, true, false, if◌then◌else◌, List, [], ◌∷◌, ◌++◌, codes}
use Rattle.std.specs.Str.{chars}
use Rattle.std.specs.Char.{encode_utf8}
use Rattle.std.specs.List.{flat_map}
use Rattle.grammar_model.specs.Text.{hex_digit}
use Rattle.ini_json.specs.Settings.{Setting, Group}

-- TEXTS

-- a character before the space, which JSON has only escaped
abbrev pub is_escaped : ℕ → Bool
is_escaped c = nat_lt c 32

abbrev pub plain_json : ℕ → List ℕ
plain_json c = if is_escaped c then codes "\\u00" ++ (encode_utf8 (hex_digit (c / 16)) ++ encode_utf8 (hex_digit (c % 16))) else encode_utf8 c

-- a quotation mark and a backslash have a backslash before them
abbrev pub character_json : ℕ → List ℕ
character_json c =
    if c == 34 then codes "\\\"" else
    (if c == 92 then codes "\\\\" else plain_json c)

abbrev pub text_json : List ℕ → List ℕ
text_json text = codes "\"" ++ (flat_map character_json (chars text) ++ codes "\"")

-- OBJECTS

abbrev pub comma : (follows : Bool) → List ℕ
comma true = codes ","
comma false = []

abbrev pub setting_json : Setting → List ℕ
setting_json s = text_json s.name ++ (codes ":" ++ text_json s.text)

abbrev pub settings_json : (follows : Bool) → List Setting → List ℕ
settings_json follows [] = []
settings_json follows (s ∷ settings) = comma follows ++ (setting_json s ++ settings_json true settings)

abbrev pub group_json : Group → List ℕ
group_json g = text_json g.name ++ (codes ":{" ++ (settings_json false g.settings ++ codes "}"))

abbrev pub groups_json : (follows : Bool) → List Group → List ℕ
groups_json follows [] = []
groups_json follows (g ∷ groups) = comma follows ++ (group_json g ++ groups_json true groups)

abbrev pub file_json : List Group → List ℕ
file_json groups = codes "{" ++ (groups_json false groups ++ codes "}")

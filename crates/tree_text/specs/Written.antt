-- What is written of labels, of values as JSON, and of trees as lines and as graphs: all as bytes.
use Rattle.std.specs.Prelude.{ℕ, ◌/◌, ◌%◌, ◌+◌, ◌-◌, ◌==◌, ◌||◌, nat_lt, Bool, true, false, if◌then◌else◌, List, [], ◌∷◌, ◌++◌, take, decimal, codes, Option, Some, None}
use Rattle.std.specs.Str.{chars}
use Rattle.std.specs.Char.{encode_utf8}
use Rattle.std.specs.List.{flat_map}
use Rattle.grammar_model.specs.Text.{hex_digit, is_control}
use Rattle.grammar_model.specs.Values.{Value, Values, Undefined, Number, Text, ListOf, NoValue, MoreValues}
use Rattle.tree_text.specs.declared.nodes.Label.{Label}
use Rattle.tree_text.specs.declared.nodes.Label.TheVariants as label
use Rattle.tree_text.specs.declared.nodes.Node.{Node}
use Rattle.tree_text.specs.Parts.{Part, Opens, Closes, Atom}

-- LABELS

-- the code of a control character, by two digits
abbrev pub code_digits : ℕ → List ℕ
code_digits c = encode_utf8 (hex_digit (c / 16)) ++ encode_utf8 (hex_digit (c % 16))

abbrev pub plain : ℕ → List ℕ
plain c = if is_control c then codes "\\x{" ++ (code_digits c ++ codes "}") else encode_utf8 c

-- a character as it takes one line
abbrev pub visible : ℕ → List ℕ
visible c =
    if c == 10 then codes "\\n" else
    (if c == 13 then codes "\\r" else
    (if c == 9 then codes "\\t" else plain c))

abbrev pub name_text : List ℕ → List ℕ
name_text name = flat_map visible (chars name)

-- a character inside quotes
abbrev pub in_quotes : ℕ → List ℕ
in_quotes c = (if (c == 34) || (c == 92) then codes "\\" else []) ++ visible c

abbrev pub quoted_text : List ℕ → List ℕ
quoted_text text = codes "\"" ++ (flat_map in_quotes (chars text) ++ codes "\"")

abbrev pub rule_label : List ℕ → ℕ → List ℕ
rule_label name rule = name_text name ++ (codes " " ++ decimal rule)

abbrev pub token_label : List ℕ → List ℕ → List ℕ
token_label name text = name_text name ++ (codes " " ++ quoted_text text)

abbrev pub label_text : Label → List ℕ
label_text (label.Rule name rule) = rule_label name.now rule
label_text (label.Token name text) = token_label name.now text.now
label_text (label.Nulled name) = name_text name.now
label_text label.List = codes "[]"
label_text label.Undefined = codes "undef"
label_text (label.Number n) = decimal n
label_text (label.Text text) = quoted_text text.now

-- JSON

abbrev pub json_plain : ℕ → List ℕ
json_plain c = if is_control c then codes "\\u00" ++ code_digits c else encode_utf8 c

abbrev pub json_character : ℕ → List ℕ
json_character c =
    if c == 34 then codes "\\\"" else
    (if c == 92 then codes "\\\\" else
    (if c == 10 then codes "\\n" else
    (if c == 13 then codes "\\r" else
    (if c == 9 then codes "\\t" else json_plain c))))

abbrev pub json_string : List ℕ → List ℕ
json_string text = codes "\"" ++ (flat_map json_character (chars text) ++ codes "\"")

-- a value as JSON: a list as an array, and undef as null
abbrev mutual
  pub json_of : Value → List ℕ
  json_of Undefined = codes "null"
  json_of (Number n) = decimal n
  json_of (Text text) = json_string text
  json_of (ListOf items) = codes "[" ++ (items_json items ++ codes "]")

  pub items_json : Values → List ℕ
  items_json NoValue = []
  items_json (MoreValues first rest) = json_of first ++ json_behind rest

  -- the items after the first, each after a comma
  pub json_behind : Values → List ℕ
  json_behind NoValue = []
  json_behind (MoreValues first rest) = codes "," ++ (json_of first ++ json_behind rest)

-- the same by the parts of a value
abbrev pub part_json : Part → List ℕ
part_json Opens = codes "["
part_json Closes = codes "]"
part_json (Atom value) = json_of value

-- a comma in front of a part, where something stands before it
abbrev pub comma_before : (follows : Bool) → Part → List ℕ
comma_before true Opens = codes ","
comma_before true Closes = []
comma_before true (Atom value) = codes ","
comma_before false part = []

abbrev pub is_followed : Part → Bool
is_followed Opens = false
is_followed Closes = true
is_followed (Atom value) = true

abbrev pub parts_json : (follows : Bool) → List Part → List ℕ
parts_json follows [] = []
parts_json follows (part ∷ parts) = comma_before follows part ++ (part_json part ++ parts_json (is_followed part) parts)

-- LINES, of which the strokes and the three dots stand in UTF-8

-- the line from a node above to what comes after it, which stands only where that is not the last one
abbrev pub rail : Bool → List ℕ
rail true = codes "  "
rail false = 226 ∷ 148 ∷ 130 ∷ 32 ∷ []

abbrev pub branch : Bool → List ℕ
branch true = 226 ∷ 148 ∷ 148 ∷ 32 ∷ []
branch false = 226 ∷ 148 ∷ 156 ∷ 32 ∷ []

abbrev pub depth_text : ℕ → List ℕ
depth_text depth = 226 ∷ 128 ∷ 166 ∷ 32 ∷ (decimal depth ++ codes " ")

-- the lines from the nodes above, or their number where they are many
abbrev pub rails : (depth : ℕ) → List Bool → List ℕ
rails depth ended = if nat_lt depth 60 then flat_map rail ended else depth_text depth

-- what stands in front of a node; of each node above it but the first it is told whether it is the last one
abbrev pub branches : Node → List Bool → List ℕ
branches node ended = if node.depth == 0 then [] else rails node.depth (take (node.depth - 1) ended) ++ branch node.last

abbrev pub ended_with : Node → List Bool → List Bool
ended_with node ended = if node.depth == 0 then ended else take (node.depth - 1) ended ++ node.last ∷ []

abbrev pub lines_from : List Bool → List Node → List ℕ
lines_from ended [] = []
lines_from ended (node ∷ nodes) = branches node ended ++ (label_text node.label ++ (codes "\n" ++ lines_from (ended_with node ended) nodes))

abbrev pub lines_of : List Node → List ℕ
lines_of nodes = lines_from [] nodes

-- GRAPHS

abbrev pub box : ℕ → List ℕ → List ℕ
box i text = codes "  n" ++ (decimal i ++ (codes " [label=" ++ (quoted_text text ++ codes "];\n")))

abbrev pub edge : Option ℕ → ℕ → List ℕ
edge None i = []
edge (Some above) i = codes "  n" ++ (decimal above ++ (codes " -> n" ++ (decimal i ++ codes ";\n")))

abbrev pub boxes_from : ℕ → List Node → List ℕ
boxes_from i [] = []
boxes_from i (node ∷ nodes) = box i (label_text node.label) ++ (edge node.above i ++ boxes_from (i + 1) nodes)

abbrev pub graph_head : List ℕ
graph_head = codes "digraph tree {\n  ordering=out;\n  node [shape=box, fontname=\"monospace\"];\n  edge [arrowhead=none];\n"

abbrev pub graph_of : List Node → List ℕ
graph_of nodes = graph_head ++ (boxes_from 0 nodes ++ codes "}\n")

-- What is told of the node in which two trees differ: over which tokens it stands, and into which parts each tree cuts them.
use Rattle.std.specs.Prelude.{ℕ, ◌+◌, ◌-◌, ◌==◌, ◌||◌, not, nat_lt, Bool, true, false, if◌then◌else◌, List, [], ◌∷◌, ◌++◌, drop, slice_get, decimal, codes, Option, Some, None}
use Rattle.std.specs.List.{take_while}
use Rattle.tree_text.specs.declared.nodes.Label.{Label}
use Rattle.tree_text.specs.declared.nodes.Label.TheVariants as label
use Rattle.tree_text.specs.declared.nodes.Node.{Node}
use Rattle.tree_text.specs.declared.telling.Part.{Part}
use Rattle.tree_text.specs.Looks.{name_in, text_in}
use Rattle.tree_text.specs.Written.{name_text}

abbrev pub is_place : Option ℕ → ℕ → Bool
is_place None at = false
is_place (Some above) at = above == at

abbrev pub is_right_below : ℕ → Node → Bool
is_right_below at node = is_place node.above at

abbrev pub text_if : Bool → List ℕ → List ℕ
text_if true text = text
text_if false text = []

-- how many tokens are in each node right below the one at a place, with + between
abbrev pub counts : (follows : Bool) → ℕ → List Node → List ℕ
counts follows at [] = []
counts follows at (node ∷ nodes) =
    if is_right_below at node then text_if follows (codes "+") ++ (decimal node.tokens ++ counts true at nodes) else counts follows at nodes

abbrev pub rule_text : Label → List ℕ
rule_text (label.Rule name rule) = codes "rule " ++ decimal rule
rule_text (label.Token name text) = codes "no rule"
rule_text (label.Nulled name) = codes "no rule"
rule_text label.List = codes "no rule"
rule_text label.Undefined = codes "no rule"
rule_text (label.Number n) = codes "no rule"
rule_text (label.Text text) = codes "no rule"

-- the rule of a node at a place, and how many tokens are in each of its parts
abbrev pub node_cut : Node → List Node → ℕ → List ℕ
node_cut node nodes at = rule_text node.label ++ (codes " (" ++ (counts false at nodes ++ codes ")"))

abbrev pub cut_of : Option Node → List Node → ℕ → List ℕ
cut_of None nodes at = []
cut_of (Some node) nodes at = node_cut node nodes at

abbrev pub cut_text : List Node → ℕ → List ℕ
cut_text nodes at = cut_of (slice_get nodes at) nodes at

-- a token of a part with so many, by how many of them are before it: where they are many, the first and the last are told
abbrev pub token_text : Option (List ℕ) → (place tokens : ℕ) → List ℕ
token_text None place tokens = []
token_text (Some text) place tokens =
    if nat_lt place 10 || nat_lt (tokens - place) 11 then (if place == 0 then [] else codes " ") ++ name_text text
    else text_if (place == 10) (codes " ..")

abbrev pub part_begin : (first : Bool) → ℕ → List ℕ
part_begin first tokens = text_if (not first) (codes " | ") ++ text_if (tokens == 0) (codes "()")

-- the part that a node stands in, below the node at a place
abbrev pub part_at : ℕ → Node → Part → Part
part_at at node part = if is_right_below at node then record { first = false; before = node.before; tokens = node.tokens } else part

abbrev pub part_text : ℕ → Node → Part → List ℕ
part_text at node part = text_if (is_right_below at node) (part_begin part.first node.tokens)

-- the texts of the tokens of each part, with a bar between parts
abbrev pub texts_from : ℕ → Part → List Node → List ℕ
texts_from at part [] = []
texts_from at part (node ∷ nodes) =
    part_text at node part
    ++ (token_text (text_in node.label) (node.before - (part_at at node part).before) (part_at at node part).tokens ++ texts_from at (part_at at node part) nodes)

abbrev pub is_deeper : ℕ → Node → Bool
is_deeper depth node = nat_lt depth node.depth

-- the nodes below one of this depth at a place
abbrev pub nodes_below : ℕ → List Node → ℕ → List Node
nodes_below depth nodes at = take_while (is_deeper depth) (drop (at + 1) nodes)

abbrev pub texts_below : ℕ → List Node → ℕ → List ℕ
texts_below depth nodes at = texts_from at (record { first = true; before = 0; tokens = 0 }) (nodes_below depth nodes at)

abbrev pub rule_reading : ℕ → List ℕ → List ℕ
rule_reading rule texts = codes "  rule " ++ (decimal rule ++ (codes ": " ++ (texts ++ codes "\n")))

abbrev pub label_reading : Label → List ℕ → List ℕ
label_reading (label.Rule name rule) texts = rule_reading rule texts
label_reading (label.Token name text) texts = []
label_reading (label.Nulled name) texts = []
label_reading label.List texts = []
label_reading label.Undefined texts = []
label_reading (label.Number n) texts = []
label_reading (label.Text text) texts = []

abbrev pub reading_of : Option Node → List Node → ℕ → List ℕ
reading_of None nodes at = []
reading_of (Some node) nodes at = label_reading node.label (texts_below node.depth nodes at)

-- a line with the rule of the node at a place and the texts of its parts, where it has a rule
abbrev pub reading_text : List Node → ℕ → List ℕ
reading_text nodes at = reading_of (slice_get nodes at) nodes at

abbrev pub called : Option (List ℕ) → List ℕ
called None = codes "a list"
called (Some name) = name_text name

abbrev pub span_text : Node → List ℕ
span_text node = called (name_in node.label) ++ (codes " from " ++ (decimal node.before ++ (codes " to " ++ (decimal (node.before + node.tokens) ++ codes ": "))))

abbrev pub readings : List Node → List Node → ℕ → List ℕ
readings one other at = reading_text one at ++ reading_text other at

abbrev pub cuts : List Node → List Node → ℕ → List ℕ
cuts one other at = cut_text one at ++ (codes ", " ++ (cut_text other at ++ codes "\n"))

abbrev pub difference_of : Option Node → List Node → List Node → ℕ → List ℕ
difference_of None one other at = []
difference_of (Some node) one other at = span_text node ++ (cuts one other at ++ readings one other at)

-- what two trees make of the node at a place, the first of which has it
abbrev pub difference_text : List Node → List Node → ℕ → List ℕ
difference_text one other at = difference_of (slice_get one at) one other at

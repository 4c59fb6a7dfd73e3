-- The rules of a grammar, by the nodes of its text in the language of grammars: a line for each, with its number, its left side and its right side.
use Rattle.std.specs.Prelude.{ℕ, ◌+◌, ◌||◌, ◌&&◌, not, nat_lt, Bool, true, false, if◌then◌else◌, List, [], ◌∷◌, ◌++◌, decimal, codes, bytes_eq, Option, Some, None, unwrap_or}
use Rattle.std.specs.List.{flat_map, take_while}
use Rattle.tree_text.specs.declared.nodes.Label.{Label}
use Rattle.tree_text.specs.declared.nodes.Label.TheVariants as label
use Rattle.tree_text.specs.declared.nodes.Node.{Node}
use Rattle.tree_text.specs.Telling.{text_if, is_deeper}
use Rattle.tree_text.specs.Written.{name_text}
use Rattle.tree_pictures.specs.declared.rules.Form.{Form}
use Rattle.tree_pictures.specs.declared.rules.Form.TheVariants.{Alternative, Sequence, Empty}

-- NODES

-- the node of a rule whose symbol has this name
abbrev pub is_rule_of : List ℕ → Label → Bool
is_rule_of wanted (label.Rule name rule) = bytes_eq name.now wanted
is_rule_of wanted (label.Token name text) = false
is_rule_of wanted (label.Nulled name) = false
is_rule_of wanted label.List = false
is_rule_of wanted label.Undefined = false
is_rule_of wanted (label.Number n) = false
is_rule_of wanted (label.Text text) = false

abbrev pub is_rule : List ℕ → Node → Bool
is_rule wanted node = is_rule_of wanted node.label

-- a token with this text
abbrev pub has_text : List ℕ → Label → Bool
has_text wanted (label.Rule name rule) = false
has_text wanted (label.Token name text) = bytes_eq text.now wanted
has_text wanted (label.Nulled name) = false
has_text wanted label.List = false
has_text wanted label.Undefined = false
has_text wanted (label.Number n) = false
has_text wanted (label.Text text) = false

abbrev pub is_part_name : List ℕ → Bool
is_part_name name = bytes_eq name (codes "word") || (bytes_eq name (codes "angle") || (bytes_eq name (codes "quote") || bytes_eq name (codes "class")))

abbrev pub is_sign_name : List ℕ → Bool
is_sign_name name = bytes_eq name (codes "'*'") || bytes_eq name (codes "'+'")

abbrev pub text_where : Bool → List ℕ → Option (List ℕ)
text_where true text = Some text
text_where false text = None

-- the text of a token whose name passes
abbrev pub text_in : (List ℕ → Bool) → Label → Option (List ℕ)
text_in passes (label.Rule name rule) = None
text_in passes (label.Token name text) = text_where (passes name.now) text.now
text_in passes (label.Nulled name) = None
text_in passes label.List = None
text_in passes label.Undefined = None
text_in passes (label.Number n) = None
text_in passes (label.Text text) = None

-- the text of a name, a quoted text or a class of the grammar
abbrev pub part_text : Node → Option (List ℕ)
part_text node = text_in is_part_name node.label

-- STATEMENTS, by the nodes from their first one on

-- the left side: the first name
abbrev pub left_of : List Node → List ℕ
left_of [] = []
left_of (node ∷ nodes) = unwrap_or (part_text node) (left_of nodes)

-- ::= stands before ~
abbrev pub is_structural : List Node → Bool
is_structural [] = false
is_structural (node ∷ nodes) = if has_text (codes "::=") node.label then true else (if has_text (codes "~") node.label then false else is_structural nodes)

-- how the rule is written whose node is the first one, if that is a structural rule's
abbrev pub form_of : Node → List Node → Option Form
form_of node nodes =
    if is_rule (codes "alternative") node then Some Alternative else
    (if is_rule (codes "sequence") node then Some Sequence else
    (if is_rule (codes "empty") node && is_structural nodes then Some Empty else None))

abbrev pub is_statement : Option Form → Bool
is_statement None = false
is_statement (Some Alternative) = false
is_statement (Some Sequence) = true
is_statement (Some Empty) = true

-- a statement that alternatives stand in, a sequence or an empty rule has a left side of its own
abbrev pub left_from : List ℕ → Node → List Node → List ℕ
left_from left node nodes = if is_rule (codes "rules") node || is_statement (form_of node (node ∷ nodes)) then left_of (node ∷ nodes) else left

-- RIGHT SIDES, by the nodes after the rule's

abbrev pub after_space : Option (List ℕ) → List ℕ
after_space None = []
after_space (Some text) = codes " " ++ name_text text

abbrev pub part_piece : Node → List ℕ
part_piece node = after_space (part_text node)

abbrev pub is_in_parts : ℕ → Node → Bool
is_in_parts depth node = nat_lt depth node.depth && not (is_rule (codes "rule_adverbs") node)

-- the nodes below a rule's, of this depth, in front of its adverbs
abbrev pub parts_of : ℕ → List Node → List Node
parts_of depth nodes = take_while (is_in_parts depth) nodes

abbrev pub below_of : ℕ → List Node → List Node
below_of depth nodes = take_while (is_deeper depth) nodes

abbrev pub alternative_text : ℕ → List Node → List ℕ
alternative_text depth nodes = flat_map part_piece (parts_of depth nodes)

abbrev pub sign_text : Option (List ℕ) → List ℕ
sign_text None = []
sign_text (Some text) = name_text text

-- the item, the sign or the separator of a sequence
abbrev pub piece_of : Option (List ℕ) → (separates : Bool) → Node → List ℕ
piece_of (Some text) separates node = (if separates then codes " separator => " else codes " ") ++ name_text text
piece_of None separates node = sign_text (text_in is_sign_name node.label)

abbrev pub is_some : Option (List ℕ) → Bool
is_some None = false
is_some (Some text) = true

abbrev pub separates_from : Bool → Node → Bool
separates_from separates node = separates || is_rule (codes "separator") node

-- what stands after the left side, which is the first name
abbrev pub sequence_from : (separates named : Bool) → List Node → List ℕ
sequence_from separates named [] = []
sequence_from separates named (node ∷ nodes) =
    text_if named (piece_of (part_text node) (separates_from separates node) node)
    ++ sequence_from (separates_from separates node) (named || is_some (part_text node)) nodes

abbrev pub right_text : Form → ℕ → List Node → List ℕ
right_text Alternative depth nodes = alternative_text depth nodes
right_text Sequence depth nodes = sequence_from false false (below_of depth nodes)
right_text Empty depth nodes = []

-- LINES

abbrev pub rule_line : ℕ → List ℕ → Form → Node → List Node → List ℕ
rule_line number left form node nodes = decimal number ++ (codes " " ++ (name_text left ++ (codes " ::=" ++ (right_text form node.depth nodes ++ codes "\n"))))

abbrev pub line_of : ℕ → List ℕ → Option Form → Node → List Node → List ℕ
line_of number left None node nodes = []
line_of number left (Some form) node nodes = rule_line number left form node nodes

abbrev pub number_from : ℕ → Option Form → ℕ
number_from number None = number
number_from number (Some form) = number + 1

-- the lines of the rules from a node on, of which the first has this number
abbrev pub lines_from : ℕ → List ℕ → List Node → List ℕ
lines_from number left [] = []
lines_from number left (node ∷ nodes) =
    line_of number (left_from left node nodes) (form_of node (node ∷ nodes)) node nodes
    ++ lines_from (number_from number (form_of node (node ∷ nodes))) (left_from left node nodes) nodes

abbrev pub is_grammar : List Node → Bool
is_grammar [] = false
is_grammar (node ∷ nodes) = is_rule (codes "grammar") node

abbrev pub rules_text : List Node → List ℕ
rules_text nodes = if is_grammar nodes then lines_from 0 [] nodes else []

-- What an INI file sets, by a derivation of its text: names and their texts, in the order of the file, below the names of their sections.
use Rattle.std.specs.Prelude.{ℕ, ◌==◌, if◌then◌else◌, List, [], ◌∷◌, ◌++◌, flat_map}
use Rattle.grammar_model.specs.Trees.{Tree, Children, Leaf, Nulled, Node, NoChild, Child}
use Rattle.grammar_model.specs.Values.{Token, token_at}

-- a name and its text
pub record Setting : Type 0 where
  pub name : List ℕ
  pub text : List ℕ

-- what stands below a name in brackets
pub record Group : Type 0 where
  pub name : List ℕ
  pub settings : List Setting

-- what a part of the file is
pub data Part : Type 0 where
  Blank : Part
  Word : (text : List ℕ) → Part
  OneSetting : Setting → Part
  Settings : List Setting → Part
  OneGroup : Group → Part
  Groups : List Group → Part

-- WHAT IS IN A PART

abbrev pub word_of : Part → List ℕ
word_of (Word text) = text
word_of part = []

abbrev pub settings_of : Part → List Setting
settings_of (Settings settings) = settings
settings_of part = []

abbrev pub groups_of : Part → List Group
groups_of (Groups groups) = groups
groups_of part = []

abbrev pub setting_in : Part → List Setting
setting_in (OneSetting setting) = setting ∷ []
setting_in part = []

abbrev pub group_in : Part → List Group
group_in (OneGroup group) = group ∷ []
group_in part = []

-- RULES OF THE PROGRAM'S GRAMMAR: their numbers, from 0 in the order of its text

abbrev pub file_rule : ℕ
file_rule = 1

abbrev pub sections_rule : ℕ
sections_rule = 2

abbrev pub section_rule : ℕ
section_rule = 3

abbrev pub entries_rule : ℕ
entries_rule = 4

abbrev pub entry_rule : ℕ
entry_rule = 5

abbrev pub text_rule : ℕ
text_rule = 6

-- WHAT RULES MAKE OF THEIR PARTS

-- of empty lines, groups and empty lines
abbrev pub file_part : List Part → Part
file_part (before ∷ groups ∷ after ∷ []) = Groups (groups_of groups)
file_part parts = Blank

-- of a bracket, a name, a bracket and settings
abbrev pub section_part : List Part → Part
section_part (opening ∷ name ∷ closing ∷ settings ∷ []) = OneGroup (record { name = word_of name; settings = settings_of settings })
section_part parts = Blank

-- of line ends, a name, a sign and a text
abbrev pub entry_part : List Part → Part
entry_part (ends ∷ name ∷ sign ∷ text ∷ []) = OneSetting (record { name = word_of name; text = word_of text })
entry_part parts = Blank

-- of one part, which it is
abbrev pub only_part : List Part → Part
only_part (part ∷ []) = part
only_part parts = Blank

abbrev pub settings_among : List Part → List Setting
settings_among parts = flat_map setting_in parts

abbrev pub groups_among : List Part → List Group
groups_among parts = flat_map group_in parts

abbrev pub part_by : (rule : ℕ) → List Part → Part
part_by rule parts =
    if rule == file_rule then file_part parts else
    (if rule == sections_rule then Groups (groups_among parts) else
    (if rule == section_rule then section_part parts else
    (if rule == entries_rule then Settings (settings_among parts) else
    (if rule == entry_rule then entry_part parts else
    (if rule == text_rule then only_part parts else Blank)))))

-- OF A TREE: a token is a word, and a symbol that spans nothing is left out

module _ (tokens : List Token) where
  abbrev mutual
    pub part_at : Tree → Part
    part_at (Leaf symbol from to) = Word (token_at tokens from).text
    part_at (Nulled symbol at) = Blank
    part_at (Node rule children from to) = part_by rule (parts_at children)

    pub parts_at : Children → List Part
    parts_at NoChild = []
    parts_at (Child prefix last) = parts_at prefix ++ part_at last ∷ []

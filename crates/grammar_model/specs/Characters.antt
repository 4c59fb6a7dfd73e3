-- Inputs whose tokens are single characters: the byte at a place is a token of the symbol that is named by the character in
-- quotes. A derivation of such an input is told by one line.
-- Source: the Marpa SLIF DSL manual (quoted strings as implicit lexemes).
use Rattle.std.specs.Prelude.{◌≡◌, ℕ, suc, List, [], ◌∷◌, ◌++◌, length, slice_get, Option, Some, None, Bool, false, ◌&&◌, ◌==◌}
use Rattle.std.specs.Str.{bytes_eq}
use Rattle.grammar_model.specs.declared.Show.TheVariants.{Tree as ShowTree}
use Rattle.grammar_model.specs.declared.Ranking.TheVariants.{Rule as RuleRanks}
use Rattle.grammar_model.specs.Grammar.{Grammar, slot_of}
use Rattle.grammar_model.specs.Trees.{Tree}
use Rattle.grammar_model.specs.Derives.{Edges}
use Rattle.grammar_model.specs.Order.{rank_order}
use Rattle.grammar_model.specs.All.{IsAll}
use Rattle.grammar_model.specs.Simple.{IsSimple}
use Rattle.grammar_model.specs.Values.{Meaning, Token, value_of}
use Rattle.grammar_model.specs.Text.{text_of}

-- the name of a quoted character
abbrev pub quoted_name : ℕ → List ℕ
quoted_name c = 39 ∷ c ∷ 39 ∷ []

-- the byte at each place is an edge of its quoted character
pub record IsQuoted (g : Grammar) (input : List ℕ) (symbol from to : ℕ) : Type 0 where
  pub character : ℕ
  pub at_place : slice_get input from ≡ Some character
  pub named : slice_get g.names symbol ≡ Some (quoted_name character)
  pub one_long : to ≡ suc from

abbrev pub Quoted : Grammar → List ℕ → Edges
Quoted g input symbol from to = IsQuoted g input symbol from to

-- the same as a test
abbrev pub is_named : Option ℕ → Option (List ℕ) → Bool
is_named (Some c) (Some name) = bytes_eq name (quoted_name c)
is_named (Some c) None = false
is_named None name = false

abbrev pub is_quoted : Grammar → List ℕ → ℕ → ℕ → ℕ → Bool
is_quoted g input symbol from to = is_named (slice_get input from) (slice_get g.names symbol) && (to == suc from)

-- the list of all derivations of the input from the grammar's first start
abbrev pub IsAllOfCharacters : Grammar → List ℕ → List Tree → Type 0
IsAllOfCharacters g input trees =
    (start : ℕ) × (slice_get g.starts 0 ≡ Some start) × IsAll g (Quoted g input) (rank_order g RuleRanks) (slot_of start) 0 (length input) trees

-- over a simple grammar that has a start there is one such list for each input, and only one
abbrev pub CharactersHaveOneList : Type 0
CharactersHaveOneList = (g : Grammar) (input : List ℕ) (start : ℕ) → IsSimple g → slice_get g.starts 0 ≡ Some start →
    (trees : List Tree) × IsAllOfCharacters g input trees × ((others : List Tree) → IsAllOfCharacters g input others → others ≡ trees)

-- each character is a token
abbrev pub character_tokens : ℕ → List ℕ → List Token
character_tokens place [] = []
character_tokens place (c ∷ cs) = record { start = place; length = 1; text = c ∷ [] } ∷ character_tokens (suc place) cs

-- where a derivation is shown as a tree its rules' meanings play no part
abbrev pub no_meaning : Meaning
no_meaning = record { rules = []; lexeme = None }

-- the line of a derivation
abbrev pub tree_line : Grammar → List ℕ → Tree → List ℕ
tree_line g input t = text_of (value_of ShowTree g no_meaning (character_tokens 0 input) t) ++ 10 ∷ []

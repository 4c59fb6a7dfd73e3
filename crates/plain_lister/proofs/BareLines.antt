-- The line of a tree tells names, left sides and the input alone.
use Rattle.std.proofs.Common.{◌≡◌, ℕ, zero, suc, List, [], ◌∷◌, ◌++◌, map, refl, ap, ◌∙◌}
use Rattle.std.specs.Prelude.{slice_index_or}
use Rattle.grammar_model.specs.declared.Show.TheVariants.{Tree as ShowTree}
use Rattle.grammar_model.specs.Grammar.{Grammar, WrittenRule, lhs_of, no_rule}
use Rattle.grammar_model.specs.Trees.{Tree, Children, Leaf, Nulled, Node, NoChild, Child}
use Rattle.grammar_model.specs.Values.{Token, name_of, value_of, values_of_all, Text, Number, list_of}
use Rattle.grammar_model.specs.Text.{text_of}
use Rattle.grammar_model.specs.Characters.{no_meaning, tree_line, character_tokens}
use Rattle.plain_lister.specs.Listing.{bare_rule}

-- the left side at a place, also past the end
bare_left : (rules : List WrittenRule) (i : ℕ) → lhs_of (slice_index_or (map bare_rule (map lhs_of rules)) i no_rule) ≡ lhs_of (slice_index_or rules i no_rule)
bare_left [] i = refl
bare_left (rule ∷ rules) zero = refl
bare_left (rule ∷ rules) (suc i) = bare_left rules i

abbrev bare : Grammar → Grammar
bare g = record { names = g.names; rules = map bare_rule (map lhs_of g.rules); starts = [] }

module _ (g : Grammar) (tokens : List Token) where
  mutual
    same_value : (t : Tree) → value_of ShowTree (bare g) no_meaning tokens t ≡ value_of ShowTree g no_meaning tokens t
    same_value (Leaf symbol from to) = refl
    same_value (Nulled symbol at) = refl
    same_value (Node i children from to) = λ z. list_of (Text (name_of g (bare_left g.rules i z)) ∷ Number i ∷ same_values children z)

    same_values : (cs : Children) → values_of_all ShowTree (bare g) no_meaning tokens cs ≡ values_of_all ShowTree g no_meaning tokens cs
    same_values NoChild = refl
    same_values (Child prefix last) = λ z. same_values prefix z ++ same_value last z ∷ []

pub same_line : (g : Grammar) (input : List ℕ) (names : List (List ℕ)) (lefts copy : List ℕ) (t : Tree) → names ≡ g.names → lefts ≡ map lhs_of g.rules → copy ≡ input →
    tree_line (record { names = names; rules = map bare_rule lefts; starts = [] }) copy t ≡ tree_line g input t
same_line g input names lefts copy t e f h =
    (λ z. tree_line (record { names = e z; rules = map bare_rule (f z); starts = [] }) (h z) t)
    ∙ ap (λ v. text_of v ++ 10 ∷ []) (same_value g (character_tokens 0 input) t)

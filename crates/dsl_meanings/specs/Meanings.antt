-- The meanings of the rules of one statement.
use Rattle.std.specs.Prelude.{List, [], ◌∷◌, map, flat_map, unwrap_or, if◌then◌else◌}
use Rattle.grammar_model.specs.Values.{Action, RuleMeaning}
use Rattle.language_model.specs.Description.{Alternative, Statement, Default, Empty, Quantified, Rules}
use Rattle.language_model.specs.Building.{action_in, alternatives_of, meaning_of_plain, meaning_of_quantified, shown_of_element}

abbrev pub meaning_of_alternative : Action → Alternative → RuleMeaning
meaning_of_alternative default a = meaning_of_plain default (flat_map shown_of_element a.elements) a.adverbs

abbrev pub meanings_of : Action → Statement → List RuleMeaning
meanings_of default (Empty left lexical adverbs) = if lexical then [] else meaning_of_plain default [] adverbs ∷ []
meanings_of default (Quantified left lexical item plus adverbs) = if lexical then [] else meaning_of_quantified default adverbs ∷ []
meanings_of default (Rules left lexical groups) = if lexical then [] else map (meaning_of_alternative default) (alternatives_of groups)
meanings_of default _ = []

-- the default after a statement
abbrev pub next_default : Action → Statement → Action
next_default default (Default at adverbs) = unwrap_or (action_in adverbs) default
next_default default _ = default

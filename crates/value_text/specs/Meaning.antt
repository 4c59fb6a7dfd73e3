-- What a program's actions and meanings mean.
use Rattle.std.specs.Prelude.{map, option_map}
use Rattle.value_text.specs.declared.meaning.Action.{Action as ActionCode}
use Rattle.value_text.specs.declared.meaning.Action.TheVariants.{Array, First, Undef, Items}
use Rattle.value_text.specs.declared.meaning.RuleMeaning.{RuleMeaning as RuleMeaningCode}
use Rattle.value_text.specs.declared.meaning.Meaning.{Meaning as MeaningCode}
use Rattle.grammar_model.specs.Values.{Action, MakeArray, MakeFirst, MakeUndefined, MakeItems, RuleMeaning, Meaning}

abbrev pub action_of : ActionCode → Action
action_of Array = MakeArray
action_of First = MakeFirst
action_of Undef = MakeUndefined
action_of (Items items) = MakeItems items

abbrev pub rule_meaning_of : RuleMeaningCode → RuleMeaning
rule_meaning_of m = record { action = action_of m.action; shown = m.shown; sequence = m.sequence; separated = m.separated }

abbrev pub meaning_of : MeaningCode → Meaning
meaning_of m = record { rules = map rule_meaning_of m.rules; lexeme = option_map action_of m.lexeme }

use Rattle.grammar_model.proofs.Characters.{listed_from, characters_listed, characters_unique}
use Rattle.grammar_model.proofs.characters_have_one_list.Goals as goal

pub returns : goal.returns
returns c = λ g input start simple first.
    let all = characters_listed g input simple start first in
    (listed_from g input start, all, λ others b. characters_unique g input (listed_from g input start) others all b)

use Rattle.std.specs.Prelude.{map}
use Rattle.grammar_model.specs.Derives.{Held}
use Rattle.recognizer_model.specs.FlatForm.{tree_of}
use Rattle.recognizer_model.proofs.FlatChosen.{written_chosen}
use Rattle.recognizer_model.proofs.ChosenListed.{chosen_list}
use Rattle.recognizer_model.proofs.chosen_lists_exist.Goals as goal

pub returns : goal.returns
returns c = λ f w edges ranking r x slot p q lt st.
    let (trees, sorted, each) = chosen_list f w r.flat edges r.forward ranking x p q in
    (map (tree_of w f) trees, written_chosen f w r.flat r.made r.checked (Held edges) r.forward ranking x p q slot trees lt st sorted each)

use Rattle.std.specs.Prelude.{map}
use Rattle.grammar_model.specs.Grammar.{slot_of}
use Rattle.grammar_model.specs.Derives.{Held}
use Rattle.recognizer_model.specs.FlatForm.{tree_of}
use Rattle.recognizer_model.proofs.FlatFormLaw.{flat_form}
use Rattle.recognizer_model.proofs.FlatListed.{flat_list, written_all}
use Rattle.recognizer_model.proofs.lists_exist.Goals as goal

pub returns : goal.returns
returns c = λ f w edges ranking flat made checked forward x slot p q lt st.
    let l = flat_list f w flat ranking edges forward (slot_of x) p q in
    (map (tree_of w f) l.0, written_all f w flat ranking edges forward (flat_form f w flat made checked (Held edges) forward ranking) x p q slot l.0 lt st l.1)
